use mathlib.Core.Path.{◌≡◌, refl}
use Rattle.client.specs.declared.Phase.{Phase}
use Rattle.client.specs.inner.Count.{counting_of}
use Rattle.client.proofs.Phases.{at_rest}
use borrow.Author.Rules.{rules}
use Rattle.client.proofs.count.counting.Goals as goal

pub number-s-requires : goal.number-s-requires
unfolding counting_of
number-s-requires c = search rules

pub enum_known-phase : goal.enum_known-phase
unfolding counting_of
enum_known-phase c = search rules

pub higher-requires : goal.higher-requires
unfolding counting_of
higher-requires c = search rules

pub put-requires : goal.put-requires
unfolding counting_of
put-requires c = search rules

pub enum_known-phase-in-PreWriting-1 : goal.enum_known-phase-in-PreWriting-1
unfolding counting_of
enum_known-phase-in-PreWriting-1 c = search rules

pub put-requires-in-PreWriting : goal.put-requires-in-PreWriting
unfolding counting_of
put-requires-in-PreWriting c = search rules

pub enum_known-phase-in-FinalisingWrite-1 : goal.enum_known-phase-in-FinalisingWrite-1
unfolding counting_of
enum_known-phase-in-FinalisingWrite-1 c = search rules

pub put-requires-in-FinalisingWrite : goal.put-requires-in-FinalisingWrite
unfolding counting_of
put-requires-in-FinalisingWrite c = search rules

pub enum_known-phase-in-FinalisingRead-1 : goal.enum_known-phase-in-FinalisingRead-1
unfolding counting_of
enum_known-phase-in-FinalisingRead-1 c = search rules

pub put-requires-in-FinalisingRead : goal.put-requires-in-FinalisingRead
unfolding counting_of
put-requires-in-FinalisingRead c = search rules

pub put-requires-in-FinalisingRead-2 : goal.put-requires-in-FinalisingRead-2
unfolding counting_of
put-requires-in-FinalisingRead-2 c = search rules

pub returns-in-Asking : goal.returns-in-Asking
unfolding counting_of
returns-in-Asking c = rw (c.in-Asking.is, c.put.ensures, c.higher.ensures, c.number-s.ensures)

pub returns-in-PreWriting : goal.returns-in-PreWriting
unfolding counting_of
returns-in-PreWriting c = rw (c.in-PreWriting.is, c.put-in-PreWriting.ensures, c.number-s.ensures)

pub returns-in-FinalisingWrite : goal.returns-in-FinalisingWrite
unfolding counting_of
returns-in-FinalisingWrite c = rw (c.in-FinalisingWrite.is, c.put-in-FinalisingWrite.ensures, c.number-s.ensures)

pub returns-in-FinalisingRead : goal.returns-in-FinalisingRead
unfolding counting_of
returns-in-FinalisingRead c = rw (c.in-FinalisingRead.is, c.put-in-FinalisingRead-2.ensures, c.put-in-FinalisingRead.ensures, c.number-s.ensures)

pub returns-in_default : goal.returns-in_default
unfolding counting_of
returns-in_default c = at_rest (λ (p : Phase). p ≡ counting_of c.args.cfg p c.args.h) refl refl _ c.in_default.in_default-own.keys5
