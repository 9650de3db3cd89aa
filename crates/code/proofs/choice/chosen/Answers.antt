-- `code::choice::chosen` meets its contract.
use Prim.Native.Nat.{◌+◌, ◌*◌, ◌%◌}
use lib.ListN.{get_or}
use borrow.Author.Rules.{rules}
use Rattle.code.specs.inner.Choice.{chosen_lanes}
use Rattle.code.proofs.Made.{made}
use Rattle.code.proofs.choice.chosen.Goals as goal

pub returns : goal.returns
unfolding chosen_lanes
returns c =
    let l = c.args in
    made (λ i. get_or l.a i 0 % 2 + get_or l.b i 0 % 2 * 2 + get_or l.c i 0 % 2 * 4 + get_or l.d i 0 % 2 * 8) c.from_fn.ensures.items (λ i y q k. search rules)
