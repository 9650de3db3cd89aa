-- The event of the part that an event names is the rig's. Assumes nothing.
use Prim.Native.Nat.{ℕ}
use mathlib.Core.Path.{◌≡◌, sym, ap, subst, ◌∙◌}
use mathlib.Core.List.{List, [], ◌∷◌, ◌++◌}
use Rattle.config.specs.declared.Config.{Config}
use Rattle.config.specs.Config.{rig_questions}
use Rattle.config.specs.Questions.{ask, first_no}
use Rattle.events.specs.declared.Call.{Call}
use Rattle.events.specs.declared.Change.{Change}
use Rattle.events.specs.declared.Part.{Part}
use Rattle.events.specs.declared.Places.{Places}
use Rattle.events.specs.declared.Rig.{Rig}
use Rattle.events.specs.declared.Turn.{Turn}
use Rattle.events.specs.View.{Lent}
use Rattle.events.specs.Questions.{places_of, rig_within}
use Rattle.events.specs.Calls.{ChangePost, EventPost, called, turned}
use Rattle.events.proofs.Entry.{rig_changed}
use Rattle.rig.specs.inner.Turn.{PartAtPost}

module _ (cfg : Config) (m : ℕ) (r : Rig) (a : Call) (board read : List ℕ) (l : Lent) where
  -- the rig passes, and these are the places that it names
  module _ (passed : first_no (rig_questions cfg m ++ ask 6 (rig_within cfg m r) ∷ []) ≡ 0) {x : Places} (e : x ≡ places_of cfg r.count a l.messages) where
    pub rig_turned : {p : Part} → PartAtPost r x p → {y : Change} {read' : List ℕ} {l' : Lent} → ChangePost cfg m p a board read l y read' l'
        → {t : Turn} → t ≡ turned r y → EventPost cfg m r (called a board) read l t read' l'
    rig_turned {p} at {y} {read'} {l'} post {t} put =
        let same : r.count ≡ p.count = at.part.count in
        subst (λ (z : Turn). EventPost cfg m r (called a board) read l z read' l') (sym put)
        (rig_changed cfg m r a board read l passed at.part
        (record {
          server = at.server ∙ ap (λ (z : Places). z.server) e ∙ ap (λ n. (places_of cfg n a l.messages).server) same;
          client = at.client ∙ ap (λ (z : Places). z.client) e ∙ ap (λ n. (places_of cfg n a l.messages).client) same;
        }) post)
