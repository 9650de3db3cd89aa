-- Events 6, 7 and 8 by themselves. Assumes nothing.
use Prim.Native.Nat.{ℕ}
use mathlib.Core.Path.{◌≡◌, sym, ap, ap₂, ◌∙◌}
use mathlib.Core.Bool.{Bool, true, ◌&&◌}
use mathlib.Core.List.{List, []}
use native.Mathlib.Omega.{arith}
use borrow.Author.Tests.{eqb-true, ne_eqb}
use lib.Dec.{eqb, leb}
use Rattle.laws.proofs.Bools.{and_left, and_right}
use Rattle.config.specs.declared.Config.{Config}
use Rattle.config.specs.declared.Refusal.{Refusal}
use Rattle.config.specs.Config.{rig_questions}
use Rattle.config.specs.Questions.{first_no}
use Rattle.config.specs.Refusal.{refusal_number}
use Rattle.config.proofs.Questions.{last_all, last_yes, rig_questions_numbered}
use Rattle.config.proofs.Refusals.{refusal_some}
use Rattle.protocol.specs.Board.{refused}
use Rattle.parties.specs.Acts.{answer_of}
use Rattle.events.specs.declared.Call.{Call}
use Rattle.events.specs.declared.Change.{Change}
use Rattle.events.specs.declared.Part.{Part}
use Rattle.events.specs.declared.Places.{Places}
use Rattle.events.specs.View.{lent}
use Rattle.events.specs.Questions.{all_sized, has_places, part_within, places_of, rig_within}
use Rattle.events.specs.Calls.{AloneChangePost, called, alone_no, alone_within}
use Rattle.events.specs.inner.CrashOrRestart.{BarePost}
use Rattle.events.specs.inner.Part.{Names, refusing}

-- what stands in the messages says only of event 3 which places it names
pub places_any : (cfg : Config) (n k : ℕ) (a : Call) (xs ys : List ℕ) → (a.code ≡ 3 → ⊥) → places_of cfg n a xs ≡ places_of cfg k a ys
places_any cfg n k a xs ys ne = rw (ne_eqb a.code 3 ne)

module _ (cfg : Config) (m : ℕ) (p : Part) (a : Call) where
  -- questions 1 to 6 and 21 are answered yes: it has the places that it names
  module _ (asked : alone_no cfg m p a ≡ 0) where
    abbrev few : Bool
    few = leb p.count m

    abbrev its : Bool
    its = has_places p (places_of cfg p.count a [])

    both : (first_no (rig_questions cfg m) ≡ 0) × (alone_within cfg m p a ≡ true)
    both = last_all (rig_questions cfg m) 6 (alone_within cfg m p a) (rig_questions_numbered cfg m) (omega arith) asked

    own : its ≡ true
    own = and_right few its (and_left (few && its) (part_within cfg p) both.1)

    names_there : (a.code ≡ 3 → ⊥) → (ms : List ℕ) → Names cfg p a ms
    names_there other ms =
        let same = places_any cfg p.count p.count a [] ms other in
        record {
          server = eqb-true p.server _ (and_left (eqb p.server _) (eqb p.client _) own) ∙ ap (λ (z : Places). z.server) same;
          client = eqb-true p.client _ (and_right (eqb p.server _) (eqb p.client _) own) ∙ ap (λ (z : Places). z.client) same;
        }

    -- one of a code, but not of 3
    pub an_event_alone : {x : Change} {code : ℕ} → a.code ≡ code → (code ≡ 3 → ⊥) → BarePost code cfg p a x → AloneChangePost cfg m p a x
    an_event_alone {x} code other post =
        record {
          server = (post 0 [] [] (lent [] [] [] []) code).server;
          client = (post 0 [] [] (lent [] [] [] []) code).client;
          refuses = λ ne. absurd (ne asked);
          event = λ _ board read l r part within long. (post m board read l code).event r (record {
            part = part;
            names = names_there (λ three. other (sym code ∙ three)) l.messages;
            yes = last_yes (rig_questions cfg m) 6 (all_sized cfg m (called a board).board.bytes read l && rig_within cfg m r) (rig_questions_numbered cfg m)
                both.0 (ap₂ ◌&&◌ long within);
          });
        }

  -- one of them is answered no
  pub alone_refused : {x : Change} (why : Refusal) → refusal_number why ≡ alone_no cfg m p a → x ≡ refusing why p
      → AloneChangePost cfg m p a x
  alone_refused {x} why e is =
      record {
        server = ap (λ (z : Change). z.part.server) is;
        client = ap (λ (z : Change). z.part.client) is;
        refuses = λ _ read. (
          ap (λ (z : Change). answer_of z.answer read) is ∙ ap refused e,
          ap (λ (z : Change). z.part) is,
        );
        event = λ z. absurd ((refusal_some why e).1 z);
      }
