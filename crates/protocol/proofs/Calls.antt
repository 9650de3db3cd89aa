-- The events of a list of calls are those of a run.
use Prim.Native.Nat.{ℕ}
use mathlib.Core.Path.{◌≡◌, refl, sym, ◌∙◌, ap, subst}
use mathlib.Core.Bool.{Bool, true, false, cond}
use mathlib.Core.Option.{Option, none, some}
use mathlib.Core.List.{List, [], ◌∷◌, ◌++◌, append_assoc, append-nil, Memᴰ}
use lib.Dec.{eqb}
use borrow.Author.Tests.{eqb-true}
use native.Mathlib.Decide.{ℕ_discrete}
use native.Mathlib.Omega.{arith}
use Rattle.config.specs.declared.Config.{Config}
use Rattle.config.specs.Questions.{Question, ask, first_no}
use Rattle.config.proofs.Questions.{first_no_stop}
use Rattle.tag.specs.declared.Tag.{Tag}
use Rattle.protocol.specs.Board.{Call, Event, refused}
use Rattle.protocol.specs.Rig.{Rig, Code, code_of, has_room, move, move_of, questions_to11, questions, questions_after6, write_fits, unless_no, event, run, Execution, refuses, moves}
use Rattle.protocol.proofs.Move.{code_number, code-number}

-- questions that were all answered with yes: the first of them were
first_no_append : (xs ys : List Question) → first_no (xs ++ ys) ≡ 0 → first_no xs ≡ 0
first_no_append xs ys e = elim (ℕ_discrete (first_no xs) 0) as (λ _. first_no xs ≡ 0) [
  | yes h ↦ h
  | no h ↦ sym (first_no_stop xs ys h) ∙ e
]

-- question 19 was answered with yes, and so were the others
after_fit : (b : Bool) (xs : List Question) → cond b (first_no xs) 19 ≡ 0 → (b ≡ true) × (first_no xs ≡ 0)
after_fit true xs e = (refl, e)
after_fit false xs e = absurd (omega arith)

module _ {Value Element : Type 0} (key : Tag → ℕ) (encode : Value → ℕ → Element) (decode : List (ℕ × Element) → Value) (cfg : Config) (IsBoard : Value → Type 0) (fits : Value → Bool) (start : Value) (most : ℕ) where
  abbrev Run : Rig Value Element → List (Event Value) → Type 0
  Run = Execution key encode decode cfg IsBoard start

  -- an event, by what its number says
  event_runs : (r : Rig Value Element) (h : List (Event Value)) → Run r h → (a : Call Value) → (a.code ≡ 1 → fits a.board ≡ true → IsBoard a.board) → (o : Option Code) → code_of a.code ≡ o → (b : Bool) → eqb (first_no (questions_after6 key encode decode cfg fits most r a true o)) 0 ≡ b → Run (cond b (move_of key encode decode cfg r a o) (record { rig = r; answer = refused (first_no (questions_after6 key encode decode cfg fits most r a true o)) })).rig (h ++ (record { call = a; answer = (cond b (move_of key encode decode cfg r a o) (record { rig = r; answer = refused (first_no (questions_after6 key encode decode cfg fits most r a true o)) })).answer } ∷ []))
  unfolding questions move_of first_no code_number write_fits
  event_runs r h runs a board o e false f = refuses runs a (first_no (questions_after6 key encode decode cfg fits most r a true o))
  event_runs r h runs a board none e true f = absurd (omega (arith, eqb-true 7 0 f))
  event_runs r h runs a board (some w) e true f =
      let later = after_fit (write_fits fits a (some w)) (questions key encode decode cfg most r a true (some w)) (eqb-true _ 0 f) in
      moves runs a w e (first_no_append (questions_to11 cfg r a w) (ask 12 true ∷ ask 13 (has_room most (move key encode decode cfg r a w)) ∷ []) later.1)
      (λ i. board (code-number a.code w e ∙ ap code_number i) (ap (λ (x : Code). write_fits fits a (some x)) (sym i) ∙ later.0))

  -- the model's event, whatever it answers, goes on with the run
  pub event_run : (r : Rig Value Element) (h : List (Event Value)) → Run r h → (a : Call Value) → (a.code ≡ 1 → fits a.board ≡ true → IsBoard a.board) → Run (event key encode decode cfg fits most r a).rig (h ++ (record { call = a; answer = (event key encode decode cfg fits most r a).answer } ∷ []))
  unfolding event unless_no
  event_run r h runs a board =
      event_runs r h runs a board (code_of a.code) refl (eqb (first_no (questions_after6 key encode decode cfg fits most r a true (code_of a.code))) 0) refl

  pub calls_run : (calls : List (Call Value)) → ((a : Call Value) → Memᴰ a calls → a.code ≡ 1 → fits a.board ≡ true → IsBoard a.board) → (r : Rig Value Element) (h : List (Event Value)) → Run r h → (r' : Rig Value Element) × Run r' (h ++ run key encode decode cfg fits most r calls)
  unfolding run
  calls_run [] boards r h runs = (r, subst (Run r) (sym (append-nil h)) runs)
  calls_run (a ∷ later) boards r h runs =
      let t = event key encode decode cfg fits most r a in
      let x : Event Value = record { call = a; answer = t.answer } in
      let next = event_run r h runs a (boards a (Memᴰ.head refl)) in
      let rest = calls_run later (λ b i. boards b (Memᴰ.tail i)) t.rig (h ++ (x ∷ [])) next in
      (rest.0, subst (Run rest.0) (append_assoc h (x ∷ []) (run key encode decode cfg fits most t.rig later)) rest.1)
