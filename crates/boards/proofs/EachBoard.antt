-- A crash or a restart on one board after another: the boards below a place have had theirs, the others are as they were. Assumes nothing.
use Prim.Native.Nat.{ℕ, ◌+◌, ◌≤◌, ◌<◌}
use mathlib.Core.Path.{◌≡◌, refl, ap, subst, ◌∙◌}
use native.Mathlib.Omega.{arith}
use native.Mathlib.Decide.{dec_lt}
use lib.ListN.{length, get_elem?, length-set}
use Rattle.laws.proofs.Lists.{at_set, at_set_other}
use Rattle.config.specs.declared.Config.{Config}
use Rattle.config.specs.declared.Room.{Room}
use Rattle.events.specs.declared.Rig.{Rig as OneRig}
use Rattle.events.specs.declared.Turn.{Turn as OneTurn}
use Rattle.events.specs.declared.Call.{Call as OneCall}
use Rattle.events.specs.declared.CrashOrRestart.{CrashOrRestart}
use Rattle.events.specs.Calls as one
use Rattle.events.specs.Calls.{code_in}
use Rattle.rig.specs.Calls.{AlonePost}
use Rattle.boards.specs.declared.Call.{Call}
use Rattle.boards.specs.declared.Rig.{Rig}
use Rattle.boards.specs.View.{board_by, rig_at}
use Rattle.boards.specs.inner.CrashOrRestart.{TurnedAt, AllPost, as_one}
use Rattle.boards.specs.inner.Outcome.{put_at}

-- the event of a code is called by it
pub by_code : {cfg : Config} {m : ℕ} {x : OneRig} {t : OneTurn} (k : CrashOrRestart) (a : Call) → code_in k ≡ a.code → AlonePost cfg m x (one.call_of k a.party) t
    → AlonePost cfg m x (as_one a) t
by_code {cfg} {m} {x} {t} k a e = subst (λ (z : OneCall). AlonePost cfg m x z t) (ap (λ code. record { code = code; party = a.party; position = 0; length = 0 }) e)

-- the rig r₀, where the boards below place i have had the event
pub record Turning (cfg : Config) (room : Room) (a : OneCall) (r₀ r : Rig) (i : ℕ) : Type 0 where
  pub high : i ≤ room.boards
  pub done : (j : ℕ) → j < i → TurnedAt cfg room.m r₀ a r.boards j
  pub rest : (j : ℕ) → i ≤ j → get_elem? r.boards j ≡ get_elem? r₀.boards j
  pub long : length r.boards ≡ length r₀.boards
  pub count : r.count ≡ r₀.count

module _ (cfg : Config) (room : Room) (a : OneCall) (r₀ : Rig) where
  -- at first none is
  pub turn_none : Turning cfg room a r₀ r₀ 0
  turn_none = record { high = omega arith; done = λ j h. absurd (omega (arith, h)); rest = λ j h. refl; long = refl; count = refl }

  -- and then the one in place i
  module _ (r : Rig) (i : ℕ) (now : Turning cfg room a r₀ r i) where
    pub turn_next : i < room.boards → i < length r₀.boards → {x : OneRig} → x ≡ rig_at r₀ i → {t : OneTurn} → AlonePost cfg room.m x a t
        → {r' : Rig} → r' ≡ put_at r i t.rig r₀.count → Turning cfg room a r₀ r' (i + 1)
    turn_next below there {x} own {t} post {r'} put =
        record {
          high = omega (arith, below);
          done = λ j h. elim (dec_lt j i) as (λ _. TurnedAt cfg room.m r₀ a r'.boards j) [
            | yes low ↦
                let x = now.done j low in
                record { turn = x.turn; turned = x.turned; is = other j (λ e. omega (arith, low, e)) ∙ x.is }
            | no low ↦
                let here : i ≡ j = omega (arith, h, low) in
                subst (TurnedAt cfg room.m r₀ a r'.boards) here
                (record {
                  turn = t;
                  turned = subst (λ (z : OneRig). AlonePost cfg room.m z a t) own post;
                  is = ap (λ (z : Rig). get_elem? z.boards i) put ∙ at_set r.boards i (board_by t.rig) (omega (arith, there, now.long));
                })
          ];
          rest = λ j h. other j (λ e. omega (arith, h, e)) ∙ now.rest j (omega (arith, h));
          long = ap (λ (z : Rig). length z.boards) put ∙ length-set r.boards i (board_by t.rig) ∙ now.long;
          count = ap (λ (z : Rig). z.count) put;
        }
      where
        other : (j : ℕ) → (j ≡ i → ⊥) → get_elem? r'.boards j ≡ get_elem? r.boards j
        other j ne = ap (λ (z : Rig). get_elem? z.boards j) put ∙ at_set_other r.boards i j (board_by t.rig) ne

-- all of them are
pub turn_all : (cfg : Config) (room : Room) (a : Call) (r₀ r : Rig) (i : ℕ) → Turning cfg room (as_one a) r₀ r i → room.boards ≤ i
    → {x : OneRig} → x ≡ rig_at r₀ 0 → {first : OneTurn} → AlonePost cfg room.m x (as_one a) first
    → AllPost cfg room r₀ a (record { answer = first.answer; rig = r })
turn_all cfg room a r₀ r i now past {x} own {first} post =
    record {
      first = first;
      answers = subst (λ (z : OneRig). AlonePost cfg room.m z (as_one a) first) own post;
      answer = refl;
      each = λ j h. now.done j (omega (arith, h, past));
      rest = λ j h. now.rest j (omega (arith, h, now.high));
      long = now.long;
      count = now.count;
    }
