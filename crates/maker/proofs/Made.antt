-- The records that steps make from a rig that a list of events came to are those of the definition. Assumes nothing.
use Prim.Native.Nat.{ℕ, zero, suc, ◌+◌, ◌≤◌, ◌<◌}
use mathlib.Core.Path.{◌≡◌, sym, ap, subst, ◌∙◌}
use mathlib.Core.Bool.{Bool, true, false, cond}
use mathlib.Core.List.{List, [], ◌∷◌, ◌++◌, append_assoc, append-nil}
use native.Mathlib.Nat.{mod-lt}
use native.Mathlib.Omega.{arith}
use native.Mathlib.Decide.{ℕ_discrete}
use borrow.Author.Tests.{eq-eqb, ne_eqb}
use lib.Dec.{eqb}
use lib.ListN.{length}
use Rattle.laws.specs.Bytes.{Bytes, joined}
use Rattle.protocol.specs.Boards.{BoardEvent, event}
use Rattle.protocol.proofs.Cut.{length_cut}
use Rattle.parties.specs.Acts.{answer_of}
use Rattle.events.specs.declared.Rig.{Rig}
use Rattle.events.specs.View.{Lent, view}
use Rattle.events.proofs.Numbers.{many}
use Rattle.events.proofs.RigWithin.{count_most}
use Rattle.rig.specs.Calls as rig
use Rattle.rig.specs.Runs.{Runs, made}
use Rattle.rig.proofs.Always.{always_within}
use Rattle.rig.proofs.Going.{event_on}
use Rattle.rig.proofs.Model.{as_event}
use Rattle.lines.specs.Program.{program, program_messages, program_start}
use Rattle.draws.specs.declared.Generator.{Generator}
use Rattle.draws.specs.Draws.{draw}
use Rattle.maker.specs.declared.Load.{Load}
use Rattle.maker.specs.declared.Loaded.{Loaded}
use Rattle.maker.specs.Calls.{BeginPost}
use Rattle.maker.specs.Load as load
use Rattle.maker.specs.Load.{Drawn, call_of, code_by, drawn, drawn_from, made_from, message_by, position_by, read_by, write_by}
use Rattle.maker.specs.Steps.{Along, MadeSo, Step, Steps, drawn_of, next, none}

-- ---- what is drawn goes into its record

-- a position and a length have two bytes, and a board byte one
pub record Small (d : Drawn) : Type 0 where
  pub position : d.call.position < 65536
  pub byte : d.byte < 256
  pub length : d.call.length < 65536

position_small : (n x : ℕ) → n ≤ 65536 → position_by n x < 65536
position_small n x h = elim (ℕ_discrete n 0) as (λ _. position_by n x < 65536) [
  | yes e ↦ rw (eq-eqb n 0 e) (omega arith)
  | no ne ↦
      let pos : 0 < n = omega (arith, ne) in
      rw (ne_eqb n 0 ne) (omega (arith, h, mod-lt x pos))
]

pub small : (g n : ℕ) → n ≤ 65536 → Small (drawn g n)
unfolding drawn
small g n h = by (eqb (code_by (draw g)) 1) (eqb (code_by (draw g)) 2)
  where
    x : ℕ
    x = draw (draw g)

    by : (a b : Bool) → Small (cond a (write_by x) (cond b (read_by x) (message_by (code_by (draw g)) n x)))
    by true b = record { position = omega arith; byte = omega arith; length = omega arith }
    by false true = record { position = omega arith; byte = omega arith; length = omega arith }
    by false false = record { position = position_small n x h; byte = omega arith; length = omega arith }

-- ---- from a rig that a list of events came to

-- how many are in flight
few : {r : Rig} {l : Lent} → Along r l → length (view program r l).in_flight ≤ 65536
few {r} {l} along =
    omega (arith, many program r l, count_most program program_messages r (always_within program program_messages program_start along.runs))

-- a byte as a list
one_byte : (b : ℕ) → b < 256 → Bytes (b ∷ [])
one_byte b h zero = h
one_byte b h (suc i) = omega arith

-- the list goes on by a step, and the rig left is the model's
record Goes (x : Load) (l : Lent) (x' : Load) (l' : Lent) : Type 0 where
  along : Along x'.rig l'
  seen : view program x'.rig l' ≡ (event program program_messages (view program x.rig l) (call_of (drawn_of x l))).rig

step_on : {x : Load} {l : Lent} → Along x.rig l → {bytes : List ℕ} {x' : Load} {l' : Lent} → Step x l bytes x' l' → Goes x l x' l'
step_on {x} {l} along {x' = x'} {l' = l'} s =
    let d = drawn_of x l in
    let events : List BoardEvent = along.events ++ (record { call = call_of d; answer = answer_of s.turn.answer s.read' } ∷ []) in
    let runs : Runs program program_messages program_start s.turn.rig l' events =
    event_on along.runs d.call (d.byte ∷ []) (one_byte d.byte (small x.generator.0 (length (view program x.rig l).in_flight) (few along)).byte) s.event in
    record {
      along = record { events = events; runs = subst (λ (r : Rig). Runs program program_messages program_start r l' events) (sym s.left) runs };
      seen =
          ap (λ (r : Rig). view program r l') s.left
          ∙ s.event.seen
          ∙ ap (λ t. t.rig) (as_event program program_messages program_start along.runs (call_of d) s.read (length_cut d.call.length (d.byte ∷ [])) s.lent);
    }

-- what has been made, and what is made from here, is all that is made
pub made_so : {x : Load} {l : Lent} → Along x.rig l → {n : ℕ} {bytes : List ℕ} {x' : Load} {l' : Lent} → Steps x l n bytes x' l' → MadeSo x l n bytes x' l'
unfolding drawn_from joined
made_so {x} {l} along none =
    record {
      along = along;
      all = λ more.
          let e : 0 + more ≡ more = omega arith in
          ap (λ m. made_from m x.generator.0 (view program x.rig l)) e;
    }
made_so {x} {l} along (next {n} {bytes} {more} {y} {z} {k} {j} steps s) =
    let before = made_so along steps in
    let on = step_on before.along s in
    record {
      along = on.along;
      all = λ later.
          let shift : suc n + later ≡ n + suc later = omega arith in
          ap (λ m. made_from m x.generator.0 (view program x.rig l)) shift
          ∙ before.all (suc later)
          ∙ ap (λ (bs : List ℕ). bytes ++ bs) (λ i. sym s.record_is i ++ made_from later (sym s.last i) (sym on.seen i))
          ∙ sym (append_assoc bytes more (made_from later z.generator.0 (view program z.rig j)));
    }

-- those of two, one behind the other
pub made_then : {x : Load} {l : Lent} {n : ℕ} {bytes : List ℕ} {y : Load} {k : Lent} {m : ℕ} {more : List ℕ} {z : Load} {j : Lent}
    → MadeSo x l n bytes y k → MadeSo y k m more z j → MadeSo x l (n + m) (bytes ++ more) z j
made_then {x} {l} {n} {bytes} {m = m} {more = more} {z = z} {j = j} first second =
    record {
      along = second.along;
      all = λ later.
          let shift : n + m + later ≡ n + (m + later) = omega arith in
          ap (λ c. made_from c x.generator.0 (view program x.rig l)) shift
          ∙ first.all (m + later)
          ∙ ap (λ (bs : List ℕ). bytes ++ bs) (second.all later)
          ∙ sym (append_assoc bytes more (made_from later z.generator.0 (view program z.rig j)));
    }

-- the records of steps from the program's fresh rig
module _ {g : Generator} {l : Lent} {r : Loaded} {begun : Lent} (post : BeginPost g l r begun) (no : rig.make_no program program_messages program_start l ≡ 0) where
  -- it begins with the list that has no event
  pub begins : Along r.load.rig begun
  begins = record { events = []; runs = made (one_byte 0 (omega arith)) post.rig (post.rig.number ∙ no) }

  pub all_made : {count : ℕ} {bytes : List ℕ} {x : Load} {l' : Lent} → Steps r.load begun count bytes x l' → bytes ≡ load.made count g.0
  unfolding drawn_from joined
  all_made {count} {bytes} steps =
      let whole : count + 0 ≡ count = omega arith in
      sym (append-nil bytes)
      ∙ sym ((made_so begins steps).all 0)
      ∙ (λ i. made_from (whole i) (post.generator i).0 (post.rig.seen no i))
