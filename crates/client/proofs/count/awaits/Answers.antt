use mathlib.Core.Path.{◌≡◌, refl}
use mathlib.Core.Bool.{false}
use Rattle.client.specs.declared.Phase.{Phase}
use Rattle.client.specs.inner.Count.{awaits_of}
use Rattle.client.proofs.Phases.{at_rest}
use borrow.Author.Rules.{rules}
use Rattle.client.proofs.count.awaits.Goals as goal

pub enum_known-phase : goal.enum_known-phase
unfolding awaits_of
enum_known-phase c = search rules

pub first-requires : goal.first-requires
unfolding awaits_of
first-requires c = search rules

pub enum_known-phase-in-PreWriting-1 : goal.enum_known-phase-in-PreWriting-1
unfolding awaits_of
enum_known-phase-in-PreWriting-1 c = search rules

pub first_of_tag-requires : goal.first_of_tag-requires
unfolding awaits_of
first_of_tag-requires c = search rules

pub enum_known-phase-in-FinalisingWrite-1 : goal.enum_known-phase-in-FinalisingWrite-1
unfolding awaits_of
enum_known-phase-in-FinalisingWrite-1 c = search rules

pub first_of_tag-requires-in-FinalisingWrite : goal.first_of_tag-requires-in-FinalisingWrite
unfolding awaits_of
first_of_tag-requires-in-FinalisingWrite c = search rules

pub enum_known-phase-in-FinalisingRead-1 : goal.enum_known-phase-in-FinalisingRead-1
unfolding awaits_of
enum_known-phase-in-FinalisingRead-1 c = search rules

pub first_of_tag-requires-in-FinalisingRead : goal.first_of_tag-requires-in-FinalisingRead
unfolding awaits_of
first_of_tag-requires-in-FinalisingRead c = search rules

pub returns-in-Asking : goal.returns-in-Asking
unfolding awaits_of
returns-in-Asking c = rw c.in-Asking.is c.first.ensures

pub returns-in-PreWriting : goal.returns-in-PreWriting
unfolding awaits_of
returns-in-PreWriting c = rw c.in-PreWriting.is c.first_of_tag.ensures

pub returns-in-FinalisingWrite : goal.returns-in-FinalisingWrite
unfolding awaits_of
returns-in-FinalisingWrite c = rw c.in-FinalisingWrite.is c.first_of_tag-in-FinalisingWrite.ensures

pub returns-in-FinalisingRead : goal.returns-in-FinalisingRead
unfolding awaits_of
returns-in-FinalisingRead c = rw c.in-FinalisingRead.is c.first_of_tag-in-FinalisingRead.ensures

pub returns-in_default : goal.returns-in_default
unfolding awaits_of
returns-in_default c = at_rest (λ (p : Phase). false ≡ awaits_of p c.args.h) refl refl c.args.phase c.in_default.in_default-own.keys5
