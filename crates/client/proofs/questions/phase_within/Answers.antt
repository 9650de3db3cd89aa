use mathlib.Core.Path.{◌≡◌, refl, sym, ◌∙◌}
use mathlib.Core.Bool.{true}
use borrow.Author.Tests.{not-true, not-false}
use Rattle.client.specs.declared.Phase.{Phase}
use Rattle.client.specs.State.{phase_within}
use Rattle.client.proofs.Phases.{at_rest}
use borrow.Author.Rules.{rules}
use Rattle.client.proofs.questions.phase_within.Goals as goal

pub enum_known-phase : goal.enum_known-phase
unfolding phase_within
enum_known-phase c = search rules

pub tag_within-requires : goal.tag_within-requires
unfolding phase_within
tag_within-requires c = search rules

pub enum_known-phase-in-PreWriting-1 : goal.enum_known-phase-in-PreWriting-1
unfolding phase_within
enum_known-phase-in-PreWriting-1 c = search rules

pub tag_within-requires-in-PreWriting : goal.tag_within-requires-in-PreWriting
unfolding phase_within
tag_within-requires-in-PreWriting c = search rules

pub enum_known-phase-in-FinalisingWrite-1 : goal.enum_known-phase-in-FinalisingWrite-1
unfolding phase_within
enum_known-phase-in-FinalisingWrite-1 c = search rules

pub tag_within-requires-in-FinalisingWrite : goal.tag_within-requires-in-FinalisingWrite
unfolding phase_within
tag_within-requires-in-FinalisingWrite c = search rules

pub enum_known-phase-in-FinalisingRead-1 : goal.enum_known-phase-in-FinalisingRead-1
unfolding phase_within
enum_known-phase-in-FinalisingRead-1 c = search rules

pub tag_within-requires-in-FinalisingRead : goal.tag_within-requires-in-FinalisingRead
unfolding phase_within
tag_within-requires-in-FinalisingRead c = search rules

pub returns-then-not-tag_within : goal.returns-then-not-tag_within
unfolding phase_within
returns-then-not-tag_within c = rw (c.in-FinalisingRead.is, sym c.tag_within-in-FinalisingRead.ensures ∙ not-true _ c.if-not-tag_within.true-raw)

pub within-requires : goal.within-requires
unfolding phase_within
within-requires c = search rules

pub returns-in-Asking : goal.returns-in-Asking
unfolding phase_within
returns-in-Asking c = rw c.in-Asking.is c.tag_within.ensures

pub returns-in-PreWriting : goal.returns-in-PreWriting
unfolding phase_within
returns-in-PreWriting c = rw c.in-PreWriting.is c.tag_within-in-PreWriting.ensures

pub returns-in-FinalisingWrite : goal.returns-in-FinalisingWrite
unfolding phase_within
returns-in-FinalisingWrite c = rw c.in-FinalisingWrite.is c.tag_within-in-FinalisingWrite.ensures

pub returns-else-not-tag_within : goal.returns-else-not-tag_within
unfolding phase_within
returns-else-not-tag_within c = rw (c.in-FinalisingRead.is, sym c.tag_within-in-FinalisingRead.ensures ∙ not-false _ c.if-not-tag_within.false-raw) c.within.ensures

pub returns-in_default : goal.returns-in_default
unfolding phase_within
returns-in_default c = at_rest (λ (p : Phase). true ≡ phase_within c.args.cfg p) refl refl c.args.phase c.in_default.in_default-own.keys5
