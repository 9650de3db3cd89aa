-- An event up to its own questions: it is refused by one of 1 to 6, 21 and 22, or is no event, or they are all answered yes. Assumes nothing.
use Prim.Native.Nat.{ℕ, ◌≤◌, ◌<◌}
use mathlib.Core.Path.{◌≡◌, refl, sym, ap, subst, ◌∙◌}
use mathlib.Core.Bool.{Bool, true, ◌&&◌}
use mathlib.Core.Option.{Option, none}
use mathlib.Core.List.{List, [], ◌∷◌, ◌++◌, append_assoc}
use native.Mathlib.Omega.{arith}
use lib.Dec.{eqb}
use lib.ListN.{length}
use Rattle.laws.proofs.Bools.{and_left, and_right}
use Rattle.config.specs.declared.Config.{Config}
use Rattle.config.specs.declared.Refusal.{Refusal}
use Rattle.config.specs.declared.Room.{Room}
use Rattle.config.specs.Config.{board_length}
use Rattle.config.specs.Questions.{Question, ask, first_no, numbered}
use Rattle.config.specs.Refusal.{refusal_number}
use Rattle.config.specs.Room.{room_questions}
use Rattle.config.proofs.Questions.{first_no_pass, first_no_stop, numbered_both, within_true}
use Rattle.config.proofs.Refusals.{refusal_some}
use Rattle.config.proofs.Rooms.{room_questions_numbered}
use Rattle.protocol.specs.Board.{refused}
use Rattle.protocol.specs.Boards.{network_after6}
use Rattle.protocol.specs.Network.{board_exists, network_from7}
use Rattle.protocol.specs.Rig.{Code, code_of, write_fits}
use Rattle.protocol.proofs.Cut.{length_cut}
use Rattle.boards.specs.declared.Call.{Call}
use Rattle.boards.specs.declared.Rig.{Rig}
use Rattle.boards.specs.declared.Turn.{Turn}
use Rattle.boards.specs.Calls.{EventPost, called, event_no}
use Rattle.boards.specs.Questions.{all_sized, event_questions, formed_at, rig_within, sized, sizes}
use Rattle.boards.specs.View.{Lent, view}
use Rattle.boards.specs.inner.Named.{NamedPre}
use Rattle.boards.specs.inner.Outcome.{unturned_by}
use Rattle.boards.specs.inner.Questions.{Accepted, asked_no}
use Rattle.boards.proofs.Asked.{all_yes}
use Rattle.boards.proofs.Codes.{names_one}
use Rattle.boards.proofs.Refusing.{refused_event}

module _ (cfg : Config) (room : Room) (r : Rig) (a : Call) (board read : List ℕ) (l : Lent) where
  abbrev six : Bool
  six = all_sized cfg room board read l && rig_within cfg room r l.owners

  abbrev there : Bool
  there = board_exists room a.board (code_of a.code)

  abbrev own : List Question
  own = network_after6 cfg room (view cfg room r l) a.board (called a board).it (formed_at cfg r (called a board) l) (code_of a.code)

  first : List Question
  first = room_questions cfg room ++ ask 22 there ∷ ask 6 six ∷ []

  -- the event's questions are these and then its own
  number_is : event_no cfg room r (called a board) read l ≡ first_no (first ++ own)
  unfolding event_questions first
  number_is =
      ap (λ (k : ℕ). first_no (room_questions cfg room ++ ask 22 there ∷ ask 6 (eqb k (board_length cfg) && eqb (length read) (board_length cfg) && sized cfg room l && rig_within cfg room r l.owners) ∷ own))
      (length_cut a.length board)
      ∙ ap first_no (sym (append_assoc (room_questions cfg room) (ask 22 there ∷ ask 6 six ∷ []) own))

  first_numbered : numbered first ≡ true
  unfolding first numbered
  first_numbered = numbered_both (room_questions cfg room) (ask 22 there ∷ ask 6 six ∷ []) (room_questions_numbered cfg room) refl

  -- one of them is answered no
  pub early_refused : (why : Refusal) → refusal_number why ≡ asked_no cfg room r a (length board) (length read) (sizes l) l.owners → {t : Turn}
      → t ≡ unturned_by why r → EventPost cfg room r (called a board) read l t read l
  unfolding first
  early_refused why e {t} is =
      let some = refusal_some why e in
      let early : event_no cfg room r (called a board) read l ≡ refusal_number why = number_is ∙ first_no_stop first own some.1 ∙ sym e in
      subst (λ (z : Turn). EventPost cfg room r (called a board) read l z read l) (sym is)
      (refused_event cfg room r (called a board) read l (λ z. some.0 (sym early ∙ z)) (ap refused (sym early)) refl refl refl)

  module _ {got : ℕ} (e : got ≡ asked_no cfg room r a (length board) (length read) (sizes l) l.owners) where
    got_first : got ≡ first_no first
    unfolding first
    got_first = e

    -- none is
    module _ (z : got ≡ 0) where
      all : (Accepted cfg room) × (there ≡ true) × (six ≡ true)
      all = all_yes cfg room a got six e z

      pub accepted : Accepted cfg room
      accepted = all.0

      pub long_yes : all_sized cfg room board read l ≡ true
      long_yes = and_left (all_sized cfg room board read l) (rig_within cfg room r l.owners) all.2

      pub rig_yes : rig_within cfg room r l.owners ≡ true
      rig_yes = and_right (all_sized cfg room board read l) (rig_within cfg room r l.owners) all.2

      own_number : event_no cfg room r (called a board) read l ≡ first_no own
      own_number = number_is ∙ first_no_pass first own first_numbered (sym got_first ∙ z)

      -- 7
      no_event : code_of a.code ≡ none → event_no cfg room r (called a board) read l ≡ 7
      unfolding network_from7 write_fits first_no
      no_event h =
          own_number
          ∙ ap (λ (o : Option Code). first_no (network_after6 cfg room (view cfg room r l) a.board (called a board).it (formed_at cfg r (called a board) l) o)) h

      pub unknown : code_of a.code ≡ none → {t : Turn} → t ≡ unturned_by Refusal.Event r → EventPost cfg room r (called a board) read l t read l
      unknown h {t} is =
          let seven = no_event h in
          subst (λ (y : Turn). EventPost cfg room r (called a board) read l y read l) (sym is)
          (refused_event cfg room r (called a board) read l (λ k. omega (arith, seven, k)) (ap refused (sym seven)) refl refl refl)

      -- it names a board
      pub named_pre : 1 ≤ a.code → a.code ≤ 5 → NamedPre cfg room r a board read l
      named_pre low high =
          let code = within_true 1 5 a.code low high in
          record {
            accepted = accepted;
            exists = sym (names_one room a.board a.code code) ∙ all.1;
            code = code;
            sized = long_yes;
            rig = rig_yes;
          }

-- 0 is no event
pub code_zero : (c : ℕ) → c < 1 → code_of c ≡ none
unfolding code_of
code_zero c h = let z : c ≡ 0 = omega (arith, h) in ap code_of z
