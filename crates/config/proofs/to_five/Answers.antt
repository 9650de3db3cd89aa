use mathlib.Core.Path.{◌≡◌, sym, ◌∙◌}
use mathlib.Core.Bool.{Bool}
use borrow.Author.Tests.{lt-leb, le-leb, not-true, not-false}
use Rattle.config.specs.Questions.{first_no}
use Rattle.config.proofs.to_five.Goals as goal

-- what a test said of the result that it looked at
was : {r a b : Bool} → r ≡ a → r ≡ b → a ≡ b
was e f = sym e ∙ f

pub returns-then-not-within : goal.returns-then-not-within
unfolding first_no
returns-then-not-within c = rw (was c.within.ensures (not-true _ c.if-not-within.true-raw))

pub returns-then-not-within-2 : goal.returns-then-not-within-2
unfolding first_no
returns-then-not-within-2 c = rw (was c.within.ensures (not-false _ c.if-not-within.false-raw), was c.within-2.ensures (not-true _ c.if-not-within-2.true-raw))

pub returns-then-cfg-gt-MOST_DEPTH : goal.returns-then-cfg-gt-MOST_DEPTH
unfolding first_no
returns-then-cfg-gt-MOST_DEPTH c = rw (was c.within.ensures (not-false _ c.if-not-within.false-raw), was c.within-2.ensures (not-false _ c.if-not-within-2.false-raw), lt-leb _ _ c.if-cfg-gt-MOST_DEPTH.true)

pub returns-then-not-within-3 : goal.returns-then-not-within-3
unfolding first_no
returns-then-not-within-3 c = rw (was c.within.ensures (not-false _ c.if-not-within.false-raw), was c.within-2.ensures (not-false _ c.if-not-within-2.false-raw), le-leb _ _ c.if-cfg-gt-MOST_DEPTH.false, was c.within-3.ensures (not-true _ c.if-not-within-3.true-raw))

pub returns-then-not-within-4 : goal.returns-then-not-within-4
unfolding first_no
returns-then-not-within-4 c = rw (was c.within.ensures (not-false _ c.if-not-within.false-raw), was c.within-2.ensures (not-false _ c.if-not-within-2.false-raw), le-leb _ _ c.if-cfg-gt-MOST_DEPTH.false, was c.within-3.ensures (not-false _ c.if-not-within-3.false-raw), was c.within-4.ensures (not-true _ c.if-not-within-4.true-raw))

pub returns : goal.returns
unfolding first_no
returns c = rw (was c.within.ensures (not-false _ c.if-not-within.false-raw), was c.within-2.ensures (not-false _ c.if-not-within-2.false-raw), le-leb _ _ c.if-cfg-gt-MOST_DEPTH.false, was c.within-3.ensures (not-false _ c.if-not-within-3.false-raw), was c.within-4.ensures (not-false _ c.if-not-within-4.false-raw))
