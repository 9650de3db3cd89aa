-- A call's answer: refused, or moved; a client that asks; and a beginning. Assumes nothing.
use mathlib.Core.Path.{◌≡◌, refl, sym, ap, ap₂, ◌∙◌}
use mathlib.Core.Bool.{Bool, true, false, cond}
use mathlib.Core.Option.{Option, none, some}
use mathlib.Core.List.{List, []}
use Prim.Native.Nat.{ℕ, ◌+◌, ◌*◌, ◌<◌}
use native.Mathlib.Omega.{arith}
use borrow.Author.Tests.{eq-eqb, ne_eqb, ltb-true}
use lib.Dec.{eqb, leb}
use lib.ListN.{length}
use Rattle.config.specs.declared.Config.{Config}
use Rattle.config.specs.declared.Refusal.{Refusal}
use Rattle.config.specs.Config.{Valid, board_length}
use Rattle.config.specs.Number.{client_number}
use Rattle.config.specs.Questions.{Question, first_no}
use Rattle.config.specs.Refusal.{refusal_number, verdict_number}
use Rattle.config.proofs.Questions.{yes_next}
use Rattle.config.proofs.Refusals.{refusal_some}
use Rattle.tag.specs.Tag.{start}
use Rattle.protocol.specs.Boards as boards
use Rattle.protocol.specs.Boards.{Board, BoardClient, BoardMoved, board_of}
use Rattle.protocol.specs.Client as protocol
use Rattle.client.specs.declared.Moved.{Moved}
use Rattle.client.specs.declared.State.{State}
use Rattle.client.specs.Calls.{Answered, BeginPost, keeping, keeping_length}
use Rattle.client.specs.Questions.{call_questions}
use Rattle.client.specs.Send.{records_of}
use Rattle.client.specs.State.{bare, lengths_within, phase_of, phase_within, state_within, view}
use Rattle.client.specs.inner.Outcome.{RefusedPost, begun_of}
use Rattle.client.specs.inner.Send.{AnnouncePost, AnnouncePre, opening_of}
use Rattle.client.specs.inner.Settle.{Moves}
use Rattle.client.proofs.Asked.{call_passed}
use Rattle.client.proofs.Phases.{all_in, self_in, tag-within}
use Rattle.client.proofs.Seen.{nothing_is}
use Rattle.client.proofs.Sets.{member_zero}
use Rattle.client.proofs.Settling.{announced, nobody_within, opens}

-- ---- refused, moved

module _ (cfg : Config) (x : State) (before after : BoardClient) (move : BoardMoved) (sends : List ℕ) (qs : List Question) where
  pub refused : (why : Refusal) {r : Moved} → refusal_number why ≡ first_no qs → RefusedPost x (refusal_number why) r → after ≡ before
      → Answered cfg (first_no qs) x before after move sends sends r
  unfolding protocol.stays records_of
  refused why e h same =
      let out : eqb (first_no qs) 0 ≡ false = ne_eqb (first_no qs) 0 (refusal_some why e).1 in
      record {
        number = h.verdict ∙ e;
        held = λ _. h.state;
        self = ap (λ (y : State). y.me) h.state;
        client = same ∙ rw out;
        count = h.sent ∙ rw out;
        out = rw out;
        within = λ ok. rw h.state ok;
      }

  pub moved : first_no qs ≡ 0 → (kept es : List ℕ) {y : State} {sends' board board' : List ℕ} {r : Moved} → y.me ≡ x.me → Moves cfg y move kept es sends sends' board board' r
      → view cfg r.state kept es ≡ after → Answered cfg (first_no qs) x before after move sends sends' r
  moved pass kept es mine s same =
      let is : eqb (first_no qs) 0 ≡ true = eq-eqb (first_no qs) 0 pass in
      record {
        number = ap verdict_number s.verdict ∙ sym pass;
        held = λ stop. absurd (stop pass);
        self = s.self ∙ mine;
        client = sym same ∙ s.client ∙ rw is;
        count = s.count ∙ rw is;
        out = s.out ∙ rw is;
        within = λ ok. s.within;
      }

-- ---- asking

-- a client within its limits that asks, in its next operation number, to write a board of a length that fits, or to read
module _ (cfg : Config) (x : State) (ok : state_within cfg x ≡ true) (writes : Bool) (n : ℕ) (fits : cond writes (leb n (board_length cfg)) true ≡ true) where
  begun-within : state_within cfg (begun_of x writes n) ≡ true
  unfolding phase_within lengths_within
  begun-within = all_in cfg (begun_of x writes n) (self_in cfg x ok) (tag-within cfg start 0 refl (nobody_within cfg.n)) fits

  pub announces : Valid cfg → (board sends : List ℕ) → length sends ≡ 80 * cfg.n → AnnouncePre cfg (begun_of x writes n) board sends
  announces v board sends room = record { valid = v; within = begun-within; operation = omega arith; own = tt; opens = tt; room = room }

  -- it sends the protocol's queries, and keeps the board to write, where there is one
  pub asks : (board : Option Board) (kept any es sends lent : List ℕ) {sends' : List ℕ} {r : Moved} → cond writes (some (board_of n kept)) none ≡ board
      → AnnouncePost cfg (begun_of x writes n) any sends sends' r
      → Moves cfg (begun_of x writes n) (protocol.send_queries cfg (client_number x.me) (x.operation + 1) board) kept es sends sends' lent lent r
  unfolding protocol.send_each opening_of view phase_of
  asks board kept any es sends lent is post =
      let queries : boards.BoardMoved = protocol.send_queries cfg (client_number x.me) (x.operation + 1) board in
      let begins : queries ≡ opens cfg (begun_of x writes n) kept es =
      ap₂ (λ (b : Option Board) (f : ℕ → Bool). record {
        client = record { operation = x.operation + 1; phase = protocol.asking b start f };
        sends = queries.sends;
        ended = protocol.nothing;
      }) (sym is) (sym member_zero) in
      rw begins (announced cfg (begun_of x writes n) kept es sends lent begun-within (record { move = post.move; out = post.out }))

-- ---- begin

-- the questions of a beginning: those of a call, and others, 9 to 11 among them
module _ (cfg : Config) (sized : Bool) (x : State) (others : List Question) where
  abbrev pub beginning : List Question
  beginning = call_questions cfg sized x others

  module _ (pass : first_no (call_questions cfg sized x others) ≡ 0) where
    pub passes : Valid cfg × (sized ≡ true) × (state_within cfg x ≡ true) × (first_no others ≡ 0)
    passes = call_passed cfg x sized others pass

    -- the queries are sent, and the board to write, where there is one, is kept
    pub begun : (board : Option Board) (kept kept' es sends : List ℕ) {y : State} {sends' lent : List ℕ} {r : Moved} → y.me ≡ x.me
        → y.length ≡ keeping_length board x.length → y.lengths ≡ x.lengths → kept' ≡ keeping board kept
        → Moves cfg y (protocol.send_queries cfg (client_number x.me) (x.operation + 1) board) kept' es sends sends' lent lent r
        → BeginPost cfg (first_no (call_questions cfg sized x others)) x board kept kept' es sends sends' r
    unfolding protocol.begin_client view
    begun board kept kept' es sends {r = r} mine long same keeps s =
        let is : eqb (first_no beginning) 0 ≡ true = eq-eqb (first_no beginning) 0 pass in
        record {
          answered =
              moved cfg x (view cfg x kept es) _ (boards.begin_client cfg (client_number x.me) (view cfg x kept es) board) sends beginning pass kept' es mine s refl;
          nothing = nothing_is r.ended _ s.ended;
          keeps = keeps ∙ rw is;
          length = s.same_length ∙ long ∙ rw is;
          lengths = s.same_lengths ∙ same;
        }

  pub begin-refused : (board : Option Board) (kept es sends : List ℕ) (why : Refusal) {r : Moved}
      → refusal_number why ≡ first_no (call_questions cfg sized x others) → RefusedPost x (refusal_number why) r
      → BeginPost cfg (first_no (call_questions cfg sized x others)) x board kept kept es sends sends r
  begin-refused board kept es sends why e h =
      record {
        answered =
            refused cfg x (view cfg x kept es) _ (boards.begin_client cfg (client_number x.me) (view cfg x kept es) board) sends beginning
            why e h (ap (λ (y : State). view cfg y kept es) h.state);
        nothing = h.ended;
        keeps = rw (ne_eqb (first_no beginning) 0 (refusal_some why e).1);
        length = ap (λ (y : State). y.length) h.state ∙ rw (ne_eqb (first_no beginning) 0 (refusal_some why e).1);
        lengths = ap (λ (y : State). y.lengths) h.state;
      }

-- 9 to 11 are answered yes: the operation number is below the last
pub operation-below : (cfg : Config) (x : State) → first_no (protocol.begin_questions (bare cfg x)) ≡ 0 → x.operation < protocol.highest_number
unfolding protocol.begin_questions view
operation-below cfg x pass =
    ltb-true x.operation protocol.highest_number
    (yes_next 11 _ [] (omega arith) (yes_next 10 _ _ (omega arith) (yes_next 9 _ _ (omega arith) pass).1).1).0
