-- The board that a read shows, of every state and all buffers: its length is the one sent with the element of the lowest server that sent
-- one, and at most V; the lent buffer is a board's and has zeros past that length. Assumes nothing.
use mathlib.Core.Path.{◌≡◌, refl, sym, ap, subst, ◌∙◌}
use mathlib.Core.Bool.{Bool, true, false, cond}
use mathlib.Core.List.{List, [], ◌∷◌, ◌++◌}
use mathlib.Core.Option.{Option, none, some, some-injective}
use Prim.Native.Nat.{ℕ, zero, suc, ◌+◌, ◌-◌, ◌≤◌}
use native.Mathlib.Omega.{arith}
use borrow.Author.Tests.{leb-true}
use lib.Dec.{eqb, leb}
use lib.ListN.{length, get_or, take}
use Rattle.laws.proofs.Below.{below_at}
use Rattle.config.specs.declared.Config.{Config}
use Rattle.config.specs.Config.{board_length}
use Rattle.config.specs.Questions.{first_no}
use Rattle.tag.specs.declared.Tag.{Tag}
use Rattle.record.specs.Element.{Element, element_with}
use Rattle.record.specs.Record.{element_in, length_at, length_fits, message_of, present_at, server_at}
use Rattle.record.proofs.Clauses.{its_fit}
use Rattle.protocol.specs.Boards as boards
use Rattle.protocol.specs.Boards.{Board, BoardMessage, decode, lowest_length}
use Rattle.protocol.specs.Number.{pair_of, present, upd}
use Rattle.protocol.proofs.Decoded.{decode_whole, decode_zeros}
use Rattle.client.specs.declared.Ended.TheVariants.{Read}
use Rattle.client.specs.declared.Moved.{Moved}
use Rattle.client.specs.declared.Phase.{Phase}
use Rattle.client.specs.declared.Phase.TheVariants.{FinalisingRead}
use Rattle.client.specs.declared.State.{State}
use Rattle.client.specs.Calls.{StepPost}
use Rattle.client.specs.Questions.{step_questions}
use Rattle.client.specs.Servers.{member, sent_by}
use Rattle.client.specs.State.{Lent, lengths_within, received, seen, slot_at, slots, to_write}
use Rattle.client.specs.inner.Questions.{Received}
use Rattle.client.proofs.Phases.{lengths-in}
use Rattle.client.proofs.Receiving.{all_yes}
use Rattle.client.proofs.Seen.{reads_is}
use Rattle.client.proofs.Stepping.{sizes_of}
use Rattle.client.proofs.Theorems.{ends_taken, fits}

-- ---- the lowest of lengths that are at most v

module _ (v : ℕ) where
  low_take : (k : ℕ) (xs : List (ℕ × Element)) → lowest_length xs ≤ v → lowest_length (take k xs) ≤ v
  low_take zero xs h = omega arith
  low_take (suc k) [] h = h
  low_take (suc k) (x ∷ xs) h = h

  low_present : (n : ℕ) (f : ℕ → Option Element) → ((s : ℕ) (e : Element) → 1 ≤ s → s ≤ n → f s ≡ some e → e.length ≤ v) → lowest_length (present n f) ≤ v
  unfolding present pair_of
  low_present zero f h = omega arith
  low_present (suc n) f h = go (present n f) (low_present n f (λ s e low high i. h s e low (omega (arith, high)) i)) (f (suc n)) refl
    where
      go : (xs : List (ℕ × Element)) → lowest_length xs ≤ v → (o : Option Element) → f (suc n) ≡ o → lowest_length (xs ++ pair_of (suc n) o) ≤ v
      go [] i none e = i
      go [] i (some a) e = h (suc n) a (omega arith) (omega arith) e
      go (x ∷ xs) i o e = i

-- ---- what was sent

-- the elements of the k lowest servers that sent one, with that of a record's answer if it has one
abbrev pub lowest_sent : Config → State → List ℕ → Lent → ℕ → List (ℕ × Element)
lowest_sent cfg x message l sent =
    take cfg.k (present cfg.n (upd (received cfg (slots x l.elements) sent) (server_at message) (message_of cfg message).element))

module _ (cfg : Config) (x : State) (message : List ℕ) (l l' : Lent) (r : Moved) (post : StepPost cfg x message l l' r) (t : Tag) (n : ℕ) (is : r.ended ≡ Read t n) where
  abbrev m : BoardMessage
  m = message_of cfg message

  abbrev shows : Board
  shows = record { length = n; bytes = l'.board }

  -- the read was finalising, and it shows the board that those elements decode to
  decodes : (counted sent : ℕ) × (x.phase ≡ FinalisingRead t counted sent) × (shows ≡ decode cfg (lowest_sent cfg x message l sent))
  unfolding message_of
  decodes =
      let w = fits cfg x message l l' r post (Read t n) is in
      let p = reads_is cfg (to_write x l.kept) (slots x l.elements) x.phase t w.0 w.1 w.2 in (
        p.0,
        p.1,
        p.2,
        w.5 ∙ ap (λ (got : ℕ → Option Element). decode cfg (take cfg.k (present cfg.n (upd got (server_at message) m.element)))) (sym p.4),
      )

  -- "A read returns the length sent with its lowest server's element"
  pub read_lowest : (counted sent : ℕ) × (x.phase ≡ FinalisingRead t counted sent) × (n ≡ lowest_length (lowest_sent cfg x message l sent))
  read_lowest = let d = decodes in (d.0, d.1, d.2, ap (λ (v : Board). v.length) d.3)

  -- "and that many bytes, zeros after": past the length the lent buffer is zero
  pub read_zeros : (i : ℕ) → n ≤ i → get_or l'.board i 0 ≡ 0
  read_zeros i past =
      let d = decodes in
      let xs = lowest_sent cfg x message l d.1 in
      let long : n ≡ lowest_length xs = ap (λ (v : Board). v.length) d.3 in
      ap (λ (v : Board). get_or v.bytes i 0) d.3 ∙ decode_zeros cfg xs i (omega (arith, long, past))

  -- it is a board's buffer
  board_long : length l'.board ≡ board_length cfg
  board_long = let d = decodes in ap (λ (v : Board). length v.bytes) d.3 ∙ decode_whole cfg (lowest_sent cfg x message l d.1)

  -- the record was taken
  taken : first_no (step_questions cfg x message l) ≡ 0
  taken = ends_taken cfg x message l l' r post (λ none. let z : ◌≡◌ {A = ℕ} 0 1 = cc in omega arith)

  passed : Received cfg x message (sizes_of l)
  passed = (all_yes cfg x message (sizes_of l) (boards.awaited cfg (seen cfg x l) m) taken).0

  -- an element that was received, or that the record has, is of a length of at most V
  length-fits : (counted sent : ℕ) → x.phase ≡ FinalisingRead t counted sent → (s : ℕ) (e : Element) → 1 ≤ s → s ≤ cfg.n
      → upd (received cfg (slots x l.elements) sent) (server_at message) m.element s ≡ some e → e.length ≤ board_length cfg
  unfolding upd received sent_by message_of lengths_within
  length-fits counted sent phase s e low high = go (eqb s (server_at message))
    where
      its : (b : Bool) → length_fits cfg b (length_at message) ≡ true → cond b (some (element_with (length_at message) (element_in cfg message))) none ≡ some e
          → e.length ≤ board_length cfg
      its true fit i =
          let same = some-injective (element_with (length_at message) (element_in cfg message)) e i in
          subst (λ (u : Element). u.length ≤ board_length cfg) same (leb-true (length_at message) (board_length cfg) fit)
      its false fit i = let z : ◌≡◌ {A = ℕ} 0 1 = cc in absurd (omega arith)

      all : lengths_within cfg (FinalisingRead t counted sent) x.length x.lengths ≡ true
      all = subst (λ (p : Phase). lengths_within cfg p x.length x.lengths ≡ true) phase (lengths-in cfg x passed.within)

      at : cond (member sent s) (leb (get_or x.lengths (s - 1) 0) (board_length cfg)) true ≡ true
      at =
          let here : s - 1 + 1 ≡ s = omega (arith, low) in
          subst (λ (j : ℕ). cond (member sent j) (leb (get_or x.lengths (s - 1) 0) (board_length cfg)) true ≡ true) here
          (below_at cfg.n (λ (i : ℕ). cond (member sent (i + 1)) (leb (get_or x.lengths i 0) (board_length cfg)) true) all (s - 1) (omega (arith, low, high)))

      held : (b : Bool) → cond b (leb (get_or x.lengths (s - 1) 0) (board_length cfg)) true ≡ true → cond b (some (slot_at cfg (slots x l.elements) s)) none ≡ some e
          → e.length ≤ board_length cfg
      held true fit i =
          let same = some-injective (slot_at cfg (slots x l.elements) s) e i in
          subst (λ (u : Element). u.length ≤ board_length cfg) same (leb-true (get_or x.lengths (s - 1) 0) (board_length cfg) fit)
      held false fit i = let z : ◌≡◌ {A = ℕ} 0 1 = cc in absurd (omega arith)

      go : (b : Bool) → cond b m.element (cond (member sent s) (some (slot_at cfg (slots x l.elements) s)) none) ≡ some e → e.length ≤ board_length cfg
      go true i = its (present_at message) (its_fit cfg message passed.well-formed) i
      go false i = held (member sent s) at i

  -- the length is at most V, and the buffer has V bytes: so many may be taken from it
  pub read_fits : (n ≤ board_length cfg) × (length l'.board ≡ board_length cfg)
  read_fits =
      let d = decodes in
      let got = upd (received cfg (slots x l.elements) d.1) (server_at message) m.element in
      let long : n ≡ lowest_length (lowest_sent cfg x message l d.1) = ap (λ (v : Board). v.length) d.3 in (
        subst (λ (i : ℕ). i ≤ board_length cfg) (sym long)
            (low_take (board_length cfg) cfg.k (present cfg.n got) (low_present (board_length cfg) cfg.n got (length-fits d.0 d.1 d.2))),
        board_long,
      )
