-- The documents' tags and code are what the theorem over the protocol asks for: an order of tags, and a code of which any k elements
-- of a board give that board back, its length too.
use Prim.Native.Nat.{ℕ, ◌+◌, ◌≤◌}
use mathlib.Core.Path.{◌≡◌, refl, sym, ap, ap₂, ◌∙◌}
use mathlib.Core.Bool.{true}
use mathlib.Core.List.{List, [], ◌∷◌, map, Memᴰ}
use native.Mathlib.Omega.{arith}
use borrow.Author.Tests.{leb-true, lt-ltb, le-leb}
use lib.ListN.{length, length-map}
use Rattle.config.specs.declared.Config.{Config}
use Rattle.config.specs.Config.{Valid, board_length}
use Rattle.tag.proofs.Order.{above_key, key_one, number_above}
use Rattle.code.specs.Decoded.{decoded_pairs, rising_above}
use Rattle.code.specs.Element.{element}
use Rattle.code.proofs.Decoding.{decode_pairs}
use Rattle.record.specs.Element.{Element}
use Rattle.protocol.specs.Boards.{Board, Filled, IsBoard, board_of, bytes_sent, decode, encode, fits_in, lowest_length, order, BoardRig, BoardCall, BoardEvent, BoardExecution, BoardHosted, BoardMessage, BoardParties, BoardAtomic, fresh_rig, run}
use Rattle.protocol.specs.Endings.{EndsOne}
use Rattle.protocol.specs.Laws.{TagOrder, Coding, Rising, ElementsOf}
use Rattle.protocol.proofs.Cut.{filled_is}
use Rattle.protocol.proofs.Theorem as theorem

-- the documents' order of tags
pub tag_order : (cfg : Config) → Valid cfg → TagOrder cfg (order cfg)
tag_order cfg v =
    record {
      injective = λ t u a b e. key_one cfg v t u (omega (arith, a, v.c_high)) (omega (arith, b, v.c_high)) e;
      next = λ t c a l h. above_key cfg v (record { number = t.number + 1; client = c }) t (omega (arith, h, v.c_high)) (omega (arith, a, v.c_high)) (number_above cfg _ t (omega arith));
    }

abbrev numbers : {A : Type 0} → List (ℕ × A) → List ℕ
numbers xs = map (λ x. x.0) xs

pub rises : {A : Type 0} (n low : ℕ) (xs : List (ℕ × A)) → Rising low n xs → rising_above n low (numbers xs) ≡ true
unfolding Rising rising_above
rises n low [] h = refl
rises n low (x ∷ xs) h = rw (lt-ltb low x.0 h.0, le-leb x.0 n h.1) (rises n x.0 xs h.2)

module _ (cfg : Config) (v : Board) where
  abbrev paired : ℕ → ℕ × List ℕ
  paired s = (s, element cfg v.bytes s)

  pairs : (xs : List (ℕ × Element)) → ElementsOf (encode cfg) v xs → map paired (numbers xs) ≡ map bytes_sent xs
  unfolding ElementsOf
  pairs [] h = refl
  pairs (x ∷ xs) h = ap₂ ◌∷◌ (ap (λ (e : Element). (x.0, e.bytes)) (sym h.0)) (pairs xs h.1)

  -- the lowest of them has the board's length
  lowest : (xs : List (ℕ × Element)) → 1 ≤ length xs → ElementsOf (encode cfg) v xs → lowest_length xs ≡ v.length
  unfolding ElementsOf
  lowest [] some h = absurd (omega arith)
  lowest (x ∷ xs) some h = ap (λ (e : Element). e.length) h.0

-- any k elements of a board give that board back
pub coding : (cfg : Config) → Valid cfg → Coding cfg (IsBoard cfg) (encode cfg) (decode cfg)
coding cfg valid =
    record {
      back = λ v b xs size up es.
          ap₂ board_of (lowest cfg v xs (omega (arith, size, valid.k_low)) es)
          (sym (ap (decoded_pairs cfg) (pairs cfg v xs es))
          ∙ decode_pairs cfg valid (numbers xs) (rises cfg.n 0 xs up) (many xs size) v.bytes b.whole b.filled.bytes)
          ∙ filled_is v b.filled;
    }
  where
    many : (xs : List (ℕ × Element)) → length xs ≡ cfg.k → cfg.k ≤ length (numbers xs)
    many xs size = omega (arith, size, length-map xs (λ (x : ℕ × Element). x.0))

-- Demand 3 over the model, with the documents' tags and code: for every valid configuration, every starting board and every list of calls, refused
-- ones included, the history has an order that fits. `atomic` is of every execution, in which any event may have been refused for any
-- reason; `atomic_calls` of every list of calls, with M the most that may be in flight, and writes of V bytes with zeros past the length: a
-- length above V is refused.
module _ (cfg : Config) (valid : Valid cfg) (start : Board) (is_board : IsBoard cfg start) where
  pub atomic : {r : BoardRig} {events : List BoardEvent} → BoardExecution cfg start r events → BoardAtomic cfg start events
  atomic =
      theorem.atomic cfg (order cfg) (tag_order cfg valid) (IsBoard cfg) (encode cfg) (decode cfg) (coding cfg valid) valid.k_low start is_board

  pub atomic_calls : (most : ℕ) (calls : List BoardCall)
      → ((a : BoardCall) → Memᴰ a calls → a.code ≡ 1 → (length a.board.bytes ≡ board_length cfg) × Filled a.board)
      → BoardAtomic cfg start (run cfg most (fresh_rig cfg start) calls)
  atomic_calls most calls boards =
      theorem.atomic_calls cfg (order cfg) (tag_order cfg valid) (IsBoard cfg) (encode cfg) (decode cfg) (coding cfg valid) valid.k_low start is_board
      (fits_in cfg) most calls
      (λ a i one fits. record {
        whole = (boards a i one).0;
        fits = leb-true a.board.length (board_length cfg) fits;
        filled = (boards a i one).1;
      })

  -- each answer that names a client ends exactly one operation of that client, begun before: written a write, read a read, spent either
  pub ends_one : {r : BoardRig} {events : List BoardEvent} → BoardExecution cfg start r events → EndsOne events
  ends_one =
      theorem.ends_one cfg (order cfg) (tag_order cfg valid) (IsBoard cfg) (encode cfg) (decode cfg) (coding cfg valid) valid.k_low start is_board

  -- The same of every run of hosts, of the list of the clients' calls.
  pub hosted_atomic : {p : BoardParties} {sent : List BoardMessage} {events : List BoardEvent} → BoardHosted cfg start p sent events
      → BoardAtomic cfg start events
  hosted_atomic =
      theorem.hosted_atomic cfg (order cfg) (tag_order cfg valid) (IsBoard cfg) (encode cfg) (decode cfg) (coding cfg valid) valid.k_low start is_board

  pub hosted_ends_one : {p : BoardParties} {sent : List BoardMessage} {events : List BoardEvent} → BoardHosted cfg start p sent events → EndsOne events
  hosted_ends_one =
      theorem.hosted_ends_one cfg (order cfg) (tag_order cfg valid) (IsBoard cfg) (encode cfg) (decode cfg) (coding cfg valid) valid.k_low start is_board
