-- A crash or a restart alone is the rig's event, whatever the buffers are. Assumes nothing.
use Prim.Native.Nat.{ℕ}
use mathlib.Core.Path.{◌≡◌, refl, sym, ap, ap₂, subst, ◌∙◌}
use mathlib.Core.Bool.{true, ◌&&◌}
use mathlib.Core.List.{[]}
use native.Mathlib.Omega.{arith}
use borrow.Author.Tests.{eq-eqb}
use lib.Dec.{leb}
use Rattle.laws.proofs.Bools.{and_left}
use Rattle.config.specs.declared.Config.{Config}
use Rattle.config.specs.declared.Refusal.{Refusal}
use Rattle.config.specs.Config.{Valid, rig_questions}
use Rattle.config.specs.Questions.{first_no}
use Rattle.config.specs.Refusal.{refusal_number}
use Rattle.config.proofs.Questions.{last_all, last_yes, none_first, rig_questions_numbered}
use Rattle.config.proofs.Refusals.{refusal_some}
use Rattle.config.proofs.Valid.{rig_valid}
use Rattle.protocol.specs.Board.{refused}
use Rattle.parties.specs.Acts.{answer_of}
use Rattle.events.specs.declared.Call.{Call}
use Rattle.events.specs.declared.Change.{Change}
use Rattle.events.specs.declared.Part.{Part}
use Rattle.events.specs.declared.Places.{Places}
use Rattle.events.specs.declared.Rig.{Rig}
use Rattle.events.specs.declared.Turn.{Turn}
use Rattle.events.specs.View.{lent}
use Rattle.events.specs.Questions.{parties_within, places_of, rig_within}
use Rattle.events.specs.Calls.{AloneChangePost, EventPost, called, alone_no, alone_within, turned}
use Rattle.events.proofs.Entry.{pair-within}
use Rattle.rig.specs.Calls.{AlonePost, rig_no}
use Rattle.rig.specs.inner.Turn.{PartAtPost, unturned_by}

pub asked_valid : (cfg : Config) (m : ℕ) (r : Rig) → rig_no cfg m r ≡ 0 → Valid cfg
asked_valid cfg m r z = rig_valid cfg m refl (none_first (rig_questions cfg m) _ z)

module _ (cfg : Config) (m : ℕ) (r : Rig) (a : Call) where
  -- the configuration or the rig is refused
  pub alone_refused : (why : Refusal) → refusal_number why ≡ rig_no cfg m r → {t : Turn} → t ≡ unturned_by why r → AlonePost cfg m r a t
  alone_refused why e {t} is =
      record {
        refuses = λ _ read. (
          ap (λ (z : Turn). answer_of z.answer read) is ∙ ap refused e,
          ap (λ (z : Turn). z.rig) is,
        );
        event = λ z. absurd ((refusal_some why e).1 z);
      }

  -- the part of the places that it names, put back
  module _ (asked : rig_no cfg m r ≡ 0) {x : Places} (e : x ≡ places_of cfg r.count a []) {p : Part} (at : PartAtPost r x p) {y : Change}
      (post : AloneChangePost cfg m p a y)
    where
      both : (first_no (rig_questions cfg m) ≡ 0) × (rig_within cfg m r ≡ true)
      both = last_all (rig_questions cfg m) 6 (rig_within cfg m r) (rig_questions_numbered cfg m) (omega arith) asked

      same : places_of cfg r.count a [] ≡ places_of cfg p.count a []
      same = ap (λ n. places_of cfg n a []) at.part.count

      server_named : p.server ≡ (places_of cfg p.count a []).server
      server_named = at.server ∙ ap (λ (z : Places). z.server) (e ∙ same)

      client_named : p.client ≡ (places_of cfg p.count a []).client
      client_named = at.client ∙ ap (λ (z : Places). z.client) (e ∙ same)

      few : leb p.count m ≡ true
      unfolding rig_within
      few = ap (λ n. leb n m) (sym at.part.count) ∙ and_left (leb r.count m) (parties_within cfg r) both.1

      part_asked : alone_no cfg m p a ≡ 0
      part_asked =
          last_yes (rig_questions cfg m) 6 (alone_within cfg m p a) (rig_questions_numbered cfg m) both.0
          (ap₂ ◌&&◌
          (ap₂ ◌&&◌ few (ap₂ ◌&&◌ (eq-eqb p.server _ server_named) (eq-eqb p.client _ client_named)))
          (pair-within cfg m r a [] [] (lent [] [] [] []) asked at.part (record { server = server_named; client = client_named })))

      pub alone_turned : {t : Turn} → t ≡ turned r y → AlonePost cfg m r a t
      alone_turned {t} put =
          record {
            refuses = λ ne. absurd (ne asked);
            event = λ _ board read l long.
                subst (λ (z : Turn). EventPost cfg m r (called a board) read l z read l) (sym put)
                (post.event part_asked board read l r at.part both.1 long);
          }
