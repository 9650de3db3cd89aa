use mathlib.Core.Path.{◌≡◌, refl, sym, ◌∙◌, ap}
use mathlib.Core.Bool.{false}
use borrow.Author.Tests.{not-true, not-false}
use lib.Dec.{leb}
use Rattle.client.specs.declared.Phase.{Phase}
use Rattle.client.specs.inner.Next.{is_enough}
use Rattle.client.proofs.Phases.{at_rest, sets}
use Rattle.client.proofs.Sets.{size_ones}
use borrow.Author.Rules.{rules}
use Rattle.client.proofs.next.enough.Goals as goal

pub enum_known-phase : goal.enum_known-phase
unfolding is_enough
enum_known-phase c = search rules

pub quorum-requires : goal.quorum-requires
unfolding is_enough
quorum-requires c = sets _ c.in-Asking.is c.requires

pub enum_known-phase-in-PreWriting-1 : goal.enum_known-phase-in-PreWriting-1
unfolding is_enough
enum_known-phase-in-PreWriting-1 c = search rules

pub quorum-requires-in-PreWriting : goal.quorum-requires-in-PreWriting
unfolding is_enough
quorum-requires-in-PreWriting c = sets _ c.in-PreWriting.is c.requires

pub enum_known-phase-in-FinalisingWrite-1 : goal.enum_known-phase-in-FinalisingWrite-1
unfolding is_enough
enum_known-phase-in-FinalisingWrite-1 c = search rules

pub quorum-requires-in-FinalisingWrite : goal.quorum-requires-in-FinalisingWrite
unfolding is_enough
quorum-requires-in-FinalisingWrite c = sets _ c.in-FinalisingWrite.is c.requires

pub enum_known-phase-in-FinalisingRead-1 : goal.enum_known-phase-in-FinalisingRead-1
unfolding is_enough
enum_known-phase-in-FinalisingRead-1 c = search rules

pub quorum-requires-in-FinalisingRead : goal.quorum-requires-in-FinalisingRead
unfolding is_enough
quorum-requires-in-FinalisingRead c = (sets _ c.in-FinalisingRead.is c.requires).0

pub returns-then-not-quorum : goal.returns-then-not-quorum
unfolding is_enough
returns-then-not-quorum c = rw (c.in-FinalisingRead.is, sym c.quorum-in-FinalisingRead.ensures ∙ not-true _ c.if-not-quorum.true-raw)

pub size-requires : goal.size-requires
unfolding is_enough
size-requires c = search rules

pub overflow_cast-result : goal.overflow_cast-result
unfolding is_enough
overflow_cast-result c = search rules

pub returns-in-Asking : goal.returns-in-Asking
unfolding is_enough
returns-in-Asking c = rw c.in-Asking.is c.quorum.ensures

pub returns-in-PreWriting : goal.returns-in-PreWriting
unfolding is_enough
returns-in-PreWriting c = rw c.in-PreWriting.is c.quorum-in-PreWriting.ensures

pub returns-in-FinalisingWrite : goal.returns-in-FinalisingWrite
unfolding is_enough
returns-in-FinalisingWrite c = rw c.in-FinalisingWrite.is c.quorum-in-FinalisingWrite.ensures

pub returns-else-not-quorum : goal.returns-else-not-quorum
unfolding is_enough
returns-else-not-quorum c = let p = c in
    rw (p.in-FinalisingRead.is, sym c.quorum-in-FinalisingRead.ensures ∙ not-false _ c.if-not-quorum.false-raw)
    (ap (leb _) (c.size.ensures ∙ sym (size_ones _ _ (sets _ p.in-FinalisingRead.is p.requires).1)))

pub returns-in_default : goal.returns-in_default
unfolding is_enough
returns-in_default c = at_rest (λ (p : Phase). false ≡ is_enough c.args.cfg p) refl refl c.args.phase c.in_default.in_default-own.keys5
