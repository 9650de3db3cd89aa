-- Events run: whether one more can be, none, and one more. Assumes nothing.
use Rattle.std.proofs.Common.{◌≡◌, ℕ, ◌+◌, ◌-◌, ◌*◌, ◌%◌, ◌^◌, ◌<◌, ◌≤◌, Bool, true, false, cond, ◌&&◌, eqb, ltb, leb, ◌⊎◌, List, [], ◌∷◌, ◌++◌, length, drop, sym, refl, ap, ◌∙◌, subst, ap₂, inl, inr, append_assoc, append-nil, add-zero, add-mul, zero-add, zero-mul, arith, length-append, length-drop, length-take-le, ltb-false, ltb-true, eq-eqb, eqb-true, leb-false, leb-true}
use mathlib.Core.List.{map-append}
use native.Mathlib.Decide.{ℕ_discrete}
use Rattle.laws.specs.Bytes.{Bytes, tabulate}
use Rattle.laws.proofs.Bools.{and_left, and_right}
use Rattle.laws.proofs.Bytes.{bytes_part, tabulate_append}
use Rattle.config.specs.declared.Config.{Config}
use Rattle.config.specs.declared.Lengths.{Lengths}
use Rattle.config.specs.Config.{board_length, questions, rig_questions}
use Rattle.config.specs.Lengths.{lengths_of}
use Rattle.config.specs.Questions.{first_no}
use Rattle.config.proofs.Sizes.{board_small, lengths_none, lengths_valid}
use Rattle.config.proofs.Valid.{rig_valid, valid}
use Rattle.protocol.specs.Boards.{BoardCall, BoardEvent}
use Rattle.parties.specs.Acts.{answer_of}
use Rattle.events.specs.declared.Call.{Call}
use Rattle.events.specs.declared.Change.{Change}
use Rattle.events.specs.declared.Rig.{Rig}
use Rattle.events.specs.View.{Lent}
use Rattle.events.specs.Calls.{called}
use Rattle.rig.specs.InPlace.{Turned, event_by, next, none}
use Rattle.rig.specs.Runs.{calls_of}
use Rattle.lines.specs.declared.Ran.{Ran}
use Rattle.lines.specs.Block.{RanPost, count_after, lines_of, line_room}
use Rattle.lines.specs.Event.{bytes_at, call_at, calls_in, event_length}
use Rattle.lines.specs.Line.{line_of}
use Rattle.lines.specs.Text.{Appended}
use Rattle.lines.proofs.Texts.{joined, recast}

-- ---- whether an event can be run

-- the bytes of a board
pub board_few : (cfg : Config) (m : ℕ) → (lengths_of cfg m).board ≤ 1024
board_few cfg m = elim (ℕ_discrete (first_no (questions cfg)) 0) as (λ _. (lengths_of cfg m).board ≤ 1024) [
  | yes z ↦ omega (arith, ap (λ (x : Lengths). x.board) (lengths_valid cfg (valid cfg z) m), board_small cfg (valid cfg z))
  | no n ↦ omega (arith, ap (λ (x : Lengths). x.board) (lengths_none cfg m n))
]

board-is : (cfg : Config) (m : ℕ) → first_no (rig_questions cfg m) ≡ 0 → (lengths_of cfg m).board ≡ board_length cfg
board-is cfg m z = ap (λ (x : Lengths). x.board) (lengths_valid cfg (rig_valid cfg m refl z) m)

-- the configuration is accepted, a whole record is left, and there is room for its line
pub record Goes (cfg : Config) (m v size long most taken used : ℕ) : Type 0 where
  pub yes : first_no (rig_questions cfg m) ≡ 0
  pub board : v ≡ board_length cfg
  pub whole : taken + event_length (board_length cfg) ≤ long
  pub takes : taken + size ≡ taken + event_length (board_length cfg)
  pub room : used + line_room v ≤ most

-- or not: it is refused, or fewer bytes than a record are left, or less room than for a line
pub record Ends (cfg : Config) (m long most taken used : ℕ) : Type 0 where
  pub all : first_no (rig_questions cfg m) ≡ 0 → (long < taken + event_length (board_length cfg)) ⊎ (most < used + line_room (board_length cfg))

module _ {cfg : Config} {m v size starts long most taken used : ℕ} {goes : Bool}
    (boards : v ≡ (lengths_of cfg m).board) (sizes : size ≡ event_length v)
    (rooms : starts ≡ cond (eqb (first_no (rig_questions cfg m)) 0) (most + 1 - line_room v) 0) (left : taken ≤ long)
    (told : goes ≡ (leb size (long - taken) && ltb used starts))
  where
    pub can_go : goes ≡ true → Goes cfg m v size long most taken used
    can_go e = by (eqb (first_no (rig_questions cfg m)) 0) refl
      where
        both : (leb size (long - taken) && ltb used starts) ≡ true
        both = sym told ∙ e

        fits : size ≤ long - taken
        fits = leb-true size (long - taken) (and_left (leb size (long - taken)) (ltb used starts) both)

        begins : used < starts
        begins = ltb-true used starts (and_right (leb size (long - taken)) (ltb used starts) both)

        by : (b : Bool) → eqb (first_no (rig_questions cfg m)) 0 ≡ b → Goes cfg m v size long most taken used
        by false n = absurd (omega (arith, begins, rooms ∙ ap (λ (b : Bool). cond b (most + 1 - line_room v) 0) n))
        by true y =
            let asked : first_no (rig_questions cfg m) ≡ 0 = eqb-true (first_no (rig_questions cfg m)) 0 y in
            let board : v ≡ board_length cfg = boards ∙ board-is cfg m asked in
            record {
              yes = asked;
              board = board;
              whole = omega (arith, fits, left, sizes, board);
              takes = omega (arith, sizes, board);
              room = omega (arith, begins, rooms ∙ ap (λ (b : Bool). cond b (most + 1 - line_room v) 0) y);
            }

    pub cannot_go : goes ≡ false → Ends cfg m long most taken used
    cannot_go e = record { all = λ asked. by (leb size (long - taken)) refl asked }
      where
        by : (b : Bool) → leb size (long - taken) ≡ b → first_no (rig_questions cfg m) ≡ 0
            → (long < taken + event_length (board_length cfg)) ⊎ (most < used + line_room (board_length cfg))
        by false n asked = inl (omega (arith, leb-false size (long - taken) n, sizes, boards, board-is cfg m asked))
        by true y asked =
            inr (omega (
              arith,
              boards,
              board-is cfg m asked,
              ltb-false used starts (sym (ap (λ (b : Bool). b && ltb used starts) y) ∙ sym told ∙ e),
              rooms ∙ ap (λ (b : Bool). cond b (most + 1 - line_room v) 0) (eq-eqb (first_no (rig_questions cfg m)) 0 asked),
            ))

-- ---- events that were run

count_more : (first n : ℕ) → (count_after first n + 1) % 2 ^ 64 ≡ count_after first (n + 1)
count_more first n = omega arith

-- the lines of one more event
lines_more : (first : ℕ) → first < 2 ^ 64 → (events : List BoardEvent) (e : BoardEvent)
    → lines_of first (events ++ (e ∷ [])) ≡ lines_of first events ++ line_of (count_after first (length events)) e.answer
unfolding lines_of
lines_more first h [] e = append-nil (line_of first e.answer) ∙ ap (λ (n : ℕ). line_of n e.answer) (omega (arith, h))
lines_more first h (x ∷ xs) e =
    ap (λ (l : List ℕ). line_of first x.answer ++ l) (lines_more (count_after first 1) (omega arith) xs e)
    ∙ sym (append_assoc (line_of first x.answer) (lines_of (count_after first 1) xs) (line_of (count_after (count_after first 1) (length xs)) e.answer))
    ∙ ap (λ (n : ℕ). (line_of first x.answer ++ lines_of (count_after first 1) xs) ++ line_of n e.answer) (omega arith)

-- the call of the record at a place, from its head and its board
pub called_there : {a : Call} {board : List ℕ} (input : List ℕ) {v w : ℕ} (at : ℕ) → v ≡ w → board ≡ bytes_at v at input
    → called a (bytes_at v at input) ≡ call_at v at input → called a board ≡ call_at w at input
called_there {a} {board} input {v} at same its head =
    ap (called a) its ∙ head ∙ ap (λ (u : ℕ). call_at u at input) same

-- its bytes
pub bytes_there : {board : List ℕ} (input : List ℕ) {v w : ℕ} (at : ℕ) → v ≡ w → board ≡ bytes_at v at input → board ≡ bytes_at w at input
bytes_there input at same its = its ∙ ap (λ (u : ℕ). bytes_at u at input) same

-- What one turn does: the record's call, the change of the rig, its line and the next count.
pub record Step (cfg : Config) (m : ℕ) (input out : List ℕ) (r : Ran) (l : Lent) (r' : Ran) (l' : Lent) (out' : List ℕ) : Type 0 where
  pub call : Call
  pub board : List ℕ
  pub read : List ℕ
  pub read' : List ℕ
  pub change : Change
  pub yes : first_no (rig_questions cfg m) ≡ 0
  pub whole : r.taken + event_length (board_length cfg) ≤ length input
  pub takes : r'.taken ≡ r.taken + event_length (board_length cfg)
  pub calls : called call board ≡ call_at (board_length cfg) r.taken input
  pub handed : board ≡ bytes_at (board_length cfg) r.taken input
  pub reads : length read ≡ board_length cfg
  pub turned : Turned cfg m r.rig l call board read change read' l' r'.rig
  pub says : Appended out r.used (line_of r.count (answer_of change.answer read')) out' r'.used
  pub counts : r'.count ≡ count_after r.count 1

module _ (cfg : Config) (m : ℕ) (rig : Rig) (l : Lent) (first : ℕ) (few : first < 2 ^ 64) (input out : List ℕ) where
  -- no event
  pub none_ran : RanPost cfg m rig l first input out (record { rig = rig; count = first; taken = 0; used = 0 }) l out
  unfolding lines_of tabulate
  none_ran =
      record {
        events = [];
        calls = refl;
        taken = sym (zero-mul (event_length (board_length cfg)));
        whole = omega arith;
        steps = none;
        refused = λ _. refl;
        held = λ _. (refl, refl);
        count = omega (arith, few);
        used = refl;
        room = omega arith;
        lines = refl;
      }

  -- one more
  module _ (bytes : Bytes input) {r : Ran} {now : Lent} {out₁ : List ℕ} (p : RanPost cfg m rig l first input out r now out₁) {r' : Ran} {then : Lent} {out₂ : List ℕ}
      (s : Step cfg m input out₁ r now r' then out₂)
    where
      abbrev n : ℕ
      n = length p.events

      abbrev e : BoardEvent
      e = event_by s.call s.board s.change s.read'

      long : length (p.events ++ (e ∷ [])) ≡ n + 1
      long = length-append p.events (e ∷ [])

      -- the lines before it
      before : Appended out 0 (lines_of first p.events) out₁ r.used
      before =
          record {
            place = omega (arith, p.used);
            room = p.room;
            whole = p.lines ∙ ap (λ (k : ℕ). lines_of first p.events ++ drop k out) (p.used ∙ sym (zero-add (length (lines_of first p.events))));
          }

      its : line_of (count_after first n) e.answer ≡ line_of r.count e.answer
      its = ap (λ (k : ℕ). line_of k e.answer) (sym p.count)

      all : lines_of first p.events ++ line_of r.count e.answer ≡ lines_of first (p.events ++ (e ∷ []))
      all = sym (lines_more first few p.events e ∙ ap (λ (x : List ℕ). lines_of first p.events ++ x) its)

      after : Appended out 0 (lines_of first (p.events ++ (e ∷ []))) out₂ r'.used
      after = recast all refl (joined before s.says)

      abbrev size : ℕ
      size = event_length (board_length cfg)

      -- it takes the record behind those before it
      behind : r'.taken ≡ length (p.events ++ (e ∷ [])) * size
      behind = omega (arith, s.takes, p.taken, add-mul n 1 size, ap (λ (k : ℕ). k * size) long)

      abbrev call_of : ℕ → BoardCall
      call_of i = call_at (board_length cfg) (i * size) input

      its_call : e.call ≡ call_of (n + 0)
      its_call = s.calls ∙ ap (λ (k : ℕ). call_at (board_length cfg) k input) (p.taken ∙ ap (λ (k : ℕ). k * size) (sym (add-zero n)))

      its_calls : calls_of (p.events ++ (e ∷ [])) ≡ calls_in (board_length cfg) (length (p.events ++ (e ∷ []))) input
      unfolding tabulate
      its_calls =
          map-append (λ (x : BoardEvent). x.call) p.events (e ∷ [])
          ∙ ap₂ (λ (xs : List BoardCall) (x : BoardCall). xs ++ (x ∷ [])) p.calls its_call
          ∙ tabulate_append n 1 call_of
          ∙ ap (λ (k : ℕ). tabulate k call_of) (sym long)

      its_bytes : Bytes s.board
      its_bytes = subst Bytes (sym s.handed) (bytes_part (board_length cfg) (r.taken + 4) input bytes)

      its_long : length s.board ≡ board_length cfg
      its_long =
          ap length s.handed
          ∙ length-take-le (board_length cfg) (drop (r.taken + 4) input)
          (omega (arith, s.whole, length-drop (r.taken + 4) input))

      counted : r'.count ≡ count_after first (length (p.events ++ (e ∷ [])))
      counted = omega (arith, s.counts, p.count, long)

      pub one_more : RanPost cfg m rig l first input out r' then out₂
      one_more =
          record {
            events = p.events ++ (e ∷ []);
            calls = its_calls;
            taken = behind;
            whole = omega (arith, s.whole, s.takes);
            steps = next p.steps its_bytes its_long s.reads s.turned;
            refused = λ no. absurd (no s.yes);
            held = λ e. absurd (omega (arith, long, ap length e));
            count = counted;
            used = omega (arith, after.place);
            room = after.room;
            lines = after.whole ∙ ap (λ (k : ℕ). lines_of first (p.events ++ (e ∷ [])) ++ drop k out) (sym after.place);
          }
