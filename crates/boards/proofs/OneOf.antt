-- One board of a rig of several, and the rig with a board put in its place. Assumes nothing.
use Prim.Native.Nat.{ℕ, ◌<◌}
use mathlib.Core.Path.{◌≡◌, refl, sym, ap}
use mathlib.Core.Option.{Option, none, some}
use mathlib.Core.List.{List}
use lib.ListN.{length, get_or, get_elem?}
use Rattle.laws.proofs.Lists.{at_get_d, at_set, at_set_other}
use Rattle.config.specs.declared.Config.{Config}
use Rattle.events.specs.declared.Rig as one
use Rattle.events.specs.Questions.{parties_within}
use Rattle.events.specs.View.{Lent, client_of, lent, parties_of, server_of, up_of}
use Rattle.boards.specs.declared.OneBoard.{OneBoard}
use Rattle.boards.specs.declared.Rig.{Rig}
use Rattle.boards.specs.View.{board_by, rig_at, rig_with}
use Rattle.boards.specs.inner.Outcome.{put_at}

-- a rig of one board with so many records in flight
abbrev pub counting : one.Rig → ℕ → one.Rig
counting x count = record { servers = x.servers; clients = x.clients; count = count }

module _ (r : Rig) (i : ℕ) (x : one.Rig) (count : ℕ) where
  pub put_there : i < length r.boards → rig_at (put_at r i x count) i ≡ counting x count
  unfolding rig_with
  put_there low = ap (λ o. rig_with o count) (at_set r.boards i (board_by x) low)

  pub put_other : (j : ℕ) → (j ≡ i → ⊥) → rig_at (put_at r i x count) j ≡ rig_with (get_elem? r.boards j) count
  put_other j ne = ap (λ o. rig_with o count) (at_set_other r.boards i j (board_by x) ne)

-- the board read from a place
pub read_at : (r : Rig) (i : ℕ) (d : OneBoard) (count : ℕ) → i < length r.boards → rig_with (some (get_or r.boards i d)) count ≡ rig_with (get_elem? r.boards i) count
read_at r i d count low = ap (λ o. rig_with o count) (sym (at_get_d r.boards i d low))

-- neither the parties nor what is asked of them hang on how many records are in flight
pub any_count : (o : Option OneBoard) (n k : ℕ) → rig_with o n ≡ counting (rig_with o k) n
unfolding rig_with
any_count none n k = refl
any_count (some x) n k = refl

pub same_parties : (cfg : Config) (x : one.Rig) (n : ℕ) (l : Lent) (ms : List ℕ)
    → parties_of cfg (counting x n) (lent ms l.stores l.boards l.elements) ≡ parties_of cfg x l
unfolding parties_of server_of up_of client_of
same_parties cfg x n l ms = refl

pub same_within : (cfg : Config) (x : one.Rig) (n : ℕ) → parties_within cfg (counting x n) ≡ parties_within cfg x
same_within cfg x n = refl
