-- A run goes on by the events of a block, from a making that is not refused. Assumes nothing.
use Rattle.std.proofs.Common.{Result, Ok, Err}
use Rattle.std.proofs.Common.{◌≡◌, ℕ, List, [], ◌++◌, refl, ap, ◌∙◌, arith, length-append}
use Rattle.laws.specs.Bytes.{Bytes}
use Rattle.config.specs.declared.Config.{Config}
use Rattle.config.specs.declared.Refusal.{Refusal}
use Rattle.config.specs.Refusal.{Verdict}
use Rattle.config.specs.Refusal.{verdict_number}
use Rattle.config.proofs.Refusals.{refusal_low}
use Rattle.rig.specs.declared.Made.{Made}
use Rattle.events.specs.declared.Rig.{Rig}
use Rattle.rig.specs.Calls.{MakePost, make_no}
use Rattle.events.specs.View.{Lent}
use Rattle.rig.specs.InPlace.{none}
use Rattle.rig.specs.Runs.{Whole, made}
use Rattle.rig.proofs.Going.{joined, whole_on}
use Rattle.lines.specs.declared.Ran.{Ran}
use Rattle.lines.specs.Block.{RanPost}
use Rattle.stream.specs.inner.Went.{RunTo, Went, WentOn}

-- no event
pub none_went : (cfg : Config) (m : ℕ) (rig : Rig) (l : Lent) → Went cfg m rig l 1 rig l
none_went cfg m rig l =
    record {
      events = [];
      steps = none;
      counts = refl;
    }

-- those of one more block
pub went_on : {cfg : Config} {m : ℕ} {rig : Rig} {l : Lent} {first : ℕ} {left : Rig} {now : Lent} {input out : List ℕ} {r : Ran} {then : Lent} {out' : List ℕ}
    → Went cfg m rig l first left now → RanPost cfg m left now first input out r then out' → Went cfg m rig l r.count r.rig then
went_on {cfg} {m} {rig} {l} {first} {left} {now} {input} {out} {r} {then} w p =
    record {
      events = w.events ++ p.events;
      steps = joined w.steps p.steps;
      counts = omega (arith, w.counts, p.count, length-append w.events p.events);
    }

module _ {cfg : Config} {m : ℕ} {start : List ℕ} {l : Lent} {r : Made} {made_in : Lent} (post : MakePost cfg m start l r made_in) where
  -- a making that gives a refusal got a number
  pub was_refused : {why : Refusal} → r.verdict ≡ Err why → make_no cfg m start l ≡ 0 → ⊥
  was_refused {why} e z = omega (arith, post.number, ap verdict_number e, refusal_low why, z)

  -- all events of one that got none
  pub run_to : {next : ℕ} {l' : Lent} → Bytes start → WentOn cfg m r.rig made_in next l' → make_no cfg m start l ≡ 0 → RunTo cfg m start l'
  unfolding Whole
  run_to bytes w z =
      record { left = w.left; events = w.went.events; runs = whole_on w.went.steps (made bytes post (post.number ∙ z), tt {0}) }
