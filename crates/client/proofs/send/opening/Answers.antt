use mathlib.Core.Path.{◌≡◌, ◌∙◌, refl}
use mathlib.Core.List.{[], ◌∷◌}
use mathlib.Core.Bool.{false}
use denote.Enum.Declared.{tag_of}
use types.Run.{OneOf, miss}
use Rattle.tag.specs.Tag.{start}
use Rattle.record.specs.declared.Kind.TheVariants.{Query}
use Rattle.client.specs.declared.Phase.{Phase}
use Rattle.client.specs.declared.Phase.TheVariants.{Idle, Asking, PreWriting, FinalisingWrite, FinalisingRead, Down}
use Rattle.client.specs.declared.State.{State}
use Rattle.client.specs.inner.Send.{broadcast_of, opening_of}
use borrow.Author.Rules.{rules}
use Rattle.client.specs.contracts.Phase as phase
use Rattle.client.proofs.send.opening.Goals as goal

-- a query
asks : (x : State) (p : Phase) → OneOf (0 ∷ 1 ∷ 5 ∷ []) (tag_of phase.the_type p) → broadcast_of x Query start false 0 ≡ opening_of x p
unfolding opening_of
asks x Idle h = refl
asks x (Asking writes best counted) h = refl
asks x (PreWriting tag counted) h = absurd (miss (0 ∷ 1 ∷ 5 ∷ []) 2 tt h)
asks x (FinalisingWrite tag counted) h = absurd (miss (0 ∷ 1 ∷ 5 ∷ []) 3 tt h)
asks x (FinalisingRead tag counted sent) h = absurd (miss (0 ∷ 1 ∷ 5 ∷ []) 4 tt h)
asks x Down h = refl

pub enum_known-phase : goal.enum_known-phase
unfolding opening_of
enum_known-phase c = search rules

pub message-requires : goal.message-requires
unfolding opening_of
message-requires c = search rules

pub enum_known-phase-in-FinalisingWrite-1 : goal.enum_known-phase-in-FinalisingWrite-1
unfolding opening_of
enum_known-phase-in-FinalisingWrite-1 c = search rules

pub message-requires-in-FinalisingWrite : goal.message-requires-in-FinalisingWrite
unfolding opening_of
message-requires-in-FinalisingWrite c = search rules

pub enum_known-phase-in-FinalisingRead-1 : goal.enum_known-phase-in-FinalisingRead-1
unfolding opening_of
enum_known-phase-in-FinalisingRead-1 c = search rules

pub message-requires-in-FinalisingRead : goal.message-requires-in-FinalisingRead
unfolding opening_of
message-requires-in-FinalisingRead c = search rules

pub message-requires-in_default : goal.message-requires-in_default
unfolding opening_of
message-requires-in_default c = search rules

pub returns-in-PreWriting : goal.returns-in-PreWriting
unfolding opening_of
returns-in-PreWriting c = rw c.in-PreWriting.is c.message.ensures

pub returns-in-FinalisingWrite : goal.returns-in-FinalisingWrite
unfolding opening_of
returns-in-FinalisingWrite c = rw c.in-FinalisingWrite.is c.message-in-FinalisingWrite.ensures

pub returns-in-FinalisingRead : goal.returns-in-FinalisingRead
unfolding opening_of
returns-in-FinalisingRead c = rw c.in-FinalisingRead.is c.message-in-FinalisingRead.ensures

pub returns-in_default : goal.returns-in_default
unfolding opening_of
returns-in_default c = c.message-in_default.ensures ∙ asks c.args.x c.args.x.phase c.in_default.in_default-own.keys4
