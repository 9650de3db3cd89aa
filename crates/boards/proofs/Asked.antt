-- Questions 1 to 5 and 21, both parts of 22, and 6 behind them. Assumes nothing.
use Prim.Native.Nat.{ℕ}
use mathlib.Core.Path.{◌≡◌, refl, sym, ◌∙◌}
use mathlib.Core.Bool.{Bool, true, false, ◌&&◌}
use mathlib.Core.List.{[], ◌∷◌}
use native.Mathlib.Omega.{arith}
use Rattle.config.specs.declared.Config.{Config}
use Rattle.config.specs.declared.Room.{Room}
use Rattle.config.specs.Questions.{ask, first_no}
use Rattle.config.specs.Room.{room_questions}
use Rattle.config.proofs.Questions.{first_no_behind, first_no_no, first_no_yes, none_first, none_rest, yes_next}
use Rattle.config.proofs.Rooms.{room_later, room_questions_numbered}
use Rattle.protocol.specs.Network.{board_exists}
use Rattle.protocol.specs.Rig.{code_of}
use Rattle.boards.specs.declared.Call.{Call}
use Rattle.boards.specs.inner.Questions.{Accepted, first_six}

module _ (cfg : Config) (room : Room) (a : Call) where
  -- the board that the call names exists
  abbrev pub there : Bool
  there = board_exists room a.board (code_of a.code)

  -- the first are answered yes: 22, 6 or none
  module _ (h : Accepted cfg room) (six : Bool) where
    pub no-board : there ≡ false → 22 ≡ first_six cfg room a six
    no-board e = room_later cfg room refl h (ask 22 there ∷ ask 6 six ∷ []) (sym (first_no_no 22 there (ask 6 six ∷ []) e))

    pub six_no : there ≡ true → six ≡ false → 6 ≡ first_six cfg room a six
    six_no e s =
        room_later cfg room refl h (ask 22 there ∷ ask 6 six ∷ []) (sym (first_no_yes 22 there (ask 6 six ∷ []) e ∙ first_no_no 6 six [] s))

    pub six_yes : there ≡ true → six ≡ true → 0 ≡ first_six cfg room a six
    unfolding first_no
    six_yes e s =
        room_later cfg room refl h (ask 22 there ∷ ask 6 six ∷ []) (sym (first_no_yes 22 there (ask 6 six ∷ []) e ∙ first_no_yes 6 six [] s))

  -- a refusal by a part of 6 is the refusal by all of it
  pub six_part : (n : ℕ) (part rest : Bool) → n ≡ first_six cfg room a part → (n ≡ 0 → ⊥) → n ≡ first_six cfg room a (part && rest)
  six_part n false rest e some = e
  six_part n true rest e some =
      e ∙ first_no_behind (room_questions cfg room) 22 there (ask 6 true ∷ []) (ask 6 rest ∷ []) (λ h t. absurd (some (e ∙ sym (six_yes h true t refl))))

  -- no refusal: all are answered yes
  pub all_yes : (n : ℕ) (six : Bool) → n ≡ first_six cfg room a six → n ≡ 0 → (Accepted cfg room) × (there ≡ true) × (six ≡ true)
  all_yes n six e z =
      let later = ask 22 there ∷ ask 6 six ∷ [] in
      let none = sym e ∙ z in
      let next = yes_next 22 there (ask 6 six ∷ []) (omega arith) (none_rest (room_questions cfg room) later (room_questions_numbered cfg room) none) in
      (none_first (room_questions cfg room) later none, next.0, (yes_next 6 six [] (omega arith) next.1).0)
