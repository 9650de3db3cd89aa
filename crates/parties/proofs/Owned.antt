-- What the types of the parties tell: the bytes of a record are bytes, and the numbers of tags have four bytes.
use Prim.Native.Nat.{ℕ, ◌<◌}
use mathlib.Core.Path.{◌≡◌}
use mathlib.Core.List.{List}
use native.Mathlib.Omega.{arith}
use native.Mathlib.Decide.{dec_lt}
use lib.ListN.{length, get_or, get_or-eq_default}
use mir.Syntax.{w8}
use mir.Val.{Val}
use denote.Array.{Array}
use denote.Laws.{Is}
use denote.Plain.{UInt}
use denote.RattleType.{RattleType}
use Rattle.tag.proofs.Owned.{each_at, tag_number}
use Rattle.laws.specs.Bytes.{Bytes}
use Rattle.server.proofs.Owned.{tags_numbers}
use Rattle.client.specs.declared.Phase.{Phase}
use Rattle.client.specs.declared.Phase.TheVariants.{Idle, Asking, PreWriting, FinalisingWrite, FinalisingRead, Down}
use Rattle.client.specs.contracts.Phase as phase
use Rattle.parties.specs.declared.Pair.{Pair}
use Rattle.parties.specs.contracts.Pair as pair
use Rattle.parties.proofs.Formed.{NumberedPhase, NumberedServer}

-- how many values an array has
pub array_length : (R : RattleType) (n : ℕ) (xs : List R.Denot) (vs : List Val) → Is (Array R n) xs vs → length xs ≡ n
array_length R n xs vs p = p.1.0.1

-- a record's bytes
pub bytes_are : (n : ℕ) (bs : List ℕ) (vs : List Val) → Is (Array (UInt w8) n) bs vs → Bytes bs
bytes_are n bs vs p j = elim (dec_lt j (length bs)) as (λ _. get_or bs j 0 < 256) [
  | yes l ↦ omega (arith, (each_at (UInt w8) bs p.0 p.1.1 j l 0).1.1)
  | no l ↦ omega (arith, get_or-eq_default bs 0 {n = j} (omega (arith, l)))
]

-- a phase that the code holds has such a number
phase_numbered : (p : Phase) (vs : List Val) → Is phase.the_row p vs → NumberedPhase p
unfolding NumberedPhase
phase_numbered Idle vs g = tt
phase_numbered (Asking writes best counted) vs g = let h = g.1.1.1.1.1.0 in omega (arith, h)
phase_numbered (PreWriting tag counted) vs g = let h = g.1.1.1.1.0 in omega (arith, h)
phase_numbered (FinalisingWrite tag counted) vs g = let h = g.1.1.1.1.0 in omega (arith, h)
phase_numbered (FinalisingRead tag counted sent) vs g = let h = g.1.1.1.1.0 in omega (arith, h)
phase_numbered Down vs g = tt

-- those of a pair's server and of its client
pub server_numbered : (p : Pair) (vs : List Val) → Is pair.the_row p vs → NumberedServer p.node.state
server_numbered p vs is =
    let q = is.1.1.0.1.1.0 in
    record { highest = tag_number p.node.state.highest _ q.1.1.1.1.0; tags = tags_numbers 8 p.node.state.tags _ q.1.1.1.1.1.1.0 }

pub client_numbered : (p : Pair) (vs : List Val) → Is pair.the_row p vs → NumberedPhase p.client.phase
client_numbered p vs is = phase_numbered p.client.phase _ is.1.1.1.0.1.1.1.1.0
