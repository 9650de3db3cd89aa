-- An event that is refused leaves all as it was. Assumes nothing.
use Prim.Native.Nat.{ℕ}
use mathlib.Core.Path.{◌≡◌, sym, ap, ap₂, ◌∙◌}
use mathlib.Core.List.{List}
use borrow.Author.Tests.{ne_eqb}
use Rattle.config.specs.declared.Config.{Config}
use Rattle.config.specs.declared.Room.{Room}
use Rattle.protocol.specs.Board.{refused}
use Rattle.protocol.specs.Boards.{BoardCall, BoardNetworkTurn}
use Rattle.protocol.specs.Network.{On, unless_refused}
use Rattle.parties.specs.Acts.{answer_of}
use Rattle.boards.specs.declared.Rig.{Rig}
use Rattle.boards.specs.declared.Turn.{Turn}
use Rattle.boards.specs.Calls.{EventPost, event_no, outcome}
use Rattle.boards.specs.Questions.{sized}
use Rattle.boards.specs.View.{Lent, view}

module _ (cfg : Config) (room : Room) (r : Rig) (a : On BoardCall) (read : List ℕ) (l : Lent) where
  pub refused_out : (event_no cfg room r a read l ≡ 0 → ⊥)
      → outcome cfg room r a read l ≡ record { network = view cfg room r l; answer = refused (event_no cfg room r a read l) }
  unfolding unless_refused
  refused_out ne = rw (ne_eqb (event_no cfg room r a read l) 0 ne)

  pub refused_event : (event_no cfg room r a read l ≡ 0 → ⊥) → {t : Turn} {read' : List ℕ} {l' : Lent} → answer_of t.answer read' ≡ refused (event_no cfg room r a read l)
      → t.rig ≡ r → read' ≡ read → l' ≡ l → EventPost cfg room r a read l t read' l'
  refused_event ne {t} {read'} {l'} says rig same lent =
      let out = refused_out ne in
      record {
        answer = says ∙ sym (ap (λ (x : BoardNetworkTurn). x.answer) out);
        untouched = λ _. same;
        seen = ap₂ (view cfg room) rig lent ∙ sym (ap (λ (x : BoardNetworkTurn). x.network) out);
        records = λ e. absurd (ne e);
        within = λ e. absurd (ne e);
        lengths = ap (sized cfg room) lent;
        held = λ _. (rig, lent);
        buffers_stay = λ _. lent;
      }
