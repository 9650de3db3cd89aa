use mathlib.Core.Path.{ap}
use Prim.Native.Nat.{◌-◌}
use native.Mathlib.Omega.{arith}
use lib.ListN.{take}
use Rattle.config.proofs.Rooms.{boards_high, shares_high}
use Rattle.boards.proofs.Kept.{kept_most}
use Rattle.boards.proofs.named.limit.Goals as goal

pub kept_free-requires : goal.kept_free-requires
kept_free-requires c =
    let s = c in
    (boards_high s.args.room s.requires.0, omega (arith, shares_high s.args.room s.requires.0, s.requires.1))

pub overflow_sub-result : goal.overflow_sub-result
overflow_sub-result c =
    let s = c in
    omega (arith, c.kept_free.ensures, kept_most s.args.room s.args.b (take s.args.count s.args.owners.now), shares_high s.args.room s.requires.0)

pub returns : goal.returns
returns c = let s = c in ap (λ k. s.args.room.m - k) c.kept_free.ensures
