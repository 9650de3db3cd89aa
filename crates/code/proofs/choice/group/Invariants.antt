-- `code::choice::group` meets its contract: before each digit the lanes have lost those before it, whose choices stand.
use Rattle.code.specs.inner.Choice.{square_of}
use Rattle.code.proofs.ChoiceLaws.{Turned}
use Rattle.code.proofs.choice.group.Given as goal

abbrev pub invariant-loop-digit : goal.invariant-loop-digit
invariant-loop-digit l =
    Turned l.g (square_of l.square) l.initial.choices l.digit l.choices l.a l.b l.c l.d
