use mathlib.Core.Path.{◌≡◌, refl}
use Rattle.client.specs.declared.next.Move.TheVariants.{Waits}
use Rattle.client.specs.declared.Phase.{Phase}
use Rattle.client.specs.inner.Next.{after_of}
use Rattle.client.proofs.Phases.{at_rest}
use borrow.Author.Rules.{rules}
use Rattle.client.proofs.next.after.Goals as goal

pub enum_known-phase : goal.enum_known-phase
unfolding after_of
enum_known-phase c = search rules

pub asked-requires : goal.asked-requires
unfolding after_of
asked-requires c = search rules

pub enum_known-phase-in-PreWriting-1 : goal.enum_known-phase-in-PreWriting-1
unfolding after_of
enum_known-phase-in-PreWriting-1 c = search rules

pub enum_known-phase-in-FinalisingWrite-1 : goal.enum_known-phase-in-FinalisingWrite-1
unfolding after_of
enum_known-phase-in-FinalisingWrite-1 c = search rules

pub enum_known-phase-in-FinalisingRead-1 : goal.enum_known-phase-in-FinalisingRead-1
unfolding after_of
enum_known-phase-in-FinalisingRead-1 c = search rules

pub returns-in-Asking : goal.returns-in-Asking
unfolding after_of
returns-in-Asking c = rw c.in-Asking.is c.asked.ensures

pub returns-in-PreWriting : goal.returns-in-PreWriting
unfolding after_of
returns-in-PreWriting c = rw c.in-PreWriting.is

pub returns-in-FinalisingWrite : goal.returns-in-FinalisingWrite
unfolding after_of
returns-in-FinalisingWrite c = rw c.in-FinalisingWrite.is

pub returns-in-FinalisingRead : goal.returns-in-FinalisingRead
unfolding after_of
returns-in-FinalisingRead c = rw c.in-FinalisingRead.is

pub returns-in_default : goal.returns-in_default
unfolding after_of
returns-in_default c = at_rest (λ (p : Phase). Waits ≡ after_of c.args.me p) refl refl c.args.phase c.in_default.in_default-own.keys5
