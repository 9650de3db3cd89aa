-- The elements in their places, and what encoding all does, from its contract alone: where nothing is refused each element is in its record, and
-- the bytes around the elements stay.
use Prim.Native.Nat.{ℕ, suc, ◌+◌, ◌*◌, ◌<◌, ◌≤◌}
use mathlib.Core.Logic.{◌⊎◌}
use mathlib.Core.Path.{◌≡◌, sym, ap, ◌∙◌}
use mathlib.Core.Bool.{Bool, cond}
use mathlib.Core.List.{List}
use native.Mathlib.Nat.{mul_comm}
use native.Mathlib.Omega.{arith}
use native.Mathlib.Decide.{ℕ_discrete}
use borrow.Author.Tests.{eq-eqb, ne_eqb}
use lib.ListN.{length, get_or}
use Rattle.config.specs.declared.Config.{Config}
use Rattle.config.specs.Refusal.{Verdict}
use Rattle.config.specs.Config.{Valid, board_length}
use Rattle.config.specs.Questions.{first_no}
use Rattle.config.proofs.Valid.{valid_asked}
use Rattle.code.specs.Around.{AllAroundPost}
use Rattle.code.specs.Element.{element, element_byte}
use Rattle.code.specs.EncodeAll.{EncodeAllPost, encode_all_questions, with_elements}
use Rattle.code.specs.inner.Calls.{EncodeAllPre}
use Rattle.code.proofs.Decoding.{element-at, length_element}
use Rattle.code.proofs.EncodableAll.{accepted, encodable_all}
use Rattle.code.proofs.LaidLaws.{laid_between, laid_byte, laid_length}

-- ---- the elements in their places

module _ (cfg : Config) (board : List ℕ) (offset distance : ℕ) (before : List ℕ) (fits : offset + cfg.e ≤ distance)
    (room : cfg.n * distance ≤ length before) where
  abbrev server : ℕ → List ℕ
  server t = element cfg board (suc t)

  long : (t : ℕ) → length (server t) ≡ cfg.e
  long t = length_element cfg board (suc t)

  pub elements-length : length (with_elements cfg board offset distance before) ≡ length before
  unfolding with_elements
  elements-length = laid_length server cfg.e offset distance before long fits cfg.n room

  pub elements_byte : (t j : ℕ) → t < cfg.n → j < cfg.e
      → get_or (with_elements cfg board offset distance before) (t * distance + (offset + j)) 0 ≡ element_byte cfg board (suc t) j
  unfolding with_elements
  elements_byte t j l h =
      laid_byte server cfg.e offset distance before long fits cfg.n t j room l h ∙ element-at cfg board (suc t) j h

  elements_between : (t j : ℕ) → j < distance → (j < offset) ⊎ (offset + cfg.e ≤ j)
      → get_or (with_elements cfg board offset distance before) (t * distance + j) 0 ≡ get_or before (t * distance + j) 0
  unfolding with_elements
  elements_between t j h out = laid_between server cfg.e offset distance before long fits cfg.n t j room h out

-- ---- the call

module _ (cfg : Config) (board : List ℕ) (offset distance : ℕ) (before after : List ℕ) (r : Verdict)
    (post : EncodeAllPost cfg board offset distance before after r) where
  abbrev answer : ℕ
  answer = first_no (encode_all_questions cfg (length board) offset distance (length before))

  encoded : answer ≡ 0 → after ≡ with_elements cfg board offset distance before
  encoded none = post.buffer ∙ ap (λ (c : Bool). cond c (with_elements cfg board offset distance before) before) (eq-eqb answer 0 none)

  kept : (answer ≡ 0 → ⊥) → after ≡ before
  kept some = post.buffer ∙ ap (λ (c : Bool). cond c (with_elements cfg board offset distance before) before) (ne_eqb answer 0 some)

  -- it leaves the elements in their places, where what the questions ask is so
  pub encodes_all : Valid cfg → length board ≡ board_length cfg → offset + cfg.e ≤ distance → length before ≡ distance * cfg.n
      → after ≡ with_elements cfg board offset distance before
  encodes_all valid lb fits lp =
      encoded
      (sym (accepted cfg (length board) offset distance (length before) (valid_asked cfg valid) lb fits (eq-eqb (length before) (distance * cfg.n) lp)))

  asked : answer ≡ 0 → EncodeAllPre cfg (length board) offset distance (length before)
  asked none = encodable_all cfg (length board) offset distance (length before) none

  room_for : answer ≡ 0 → cfg.n * distance ≤ length before
  room_for none = omega (arith, (asked none).buffer_length, mul_comm cfg.n distance)

  pub all_around : AllAroundPost cfg board offset distance before after r
  all_around =
      record {
        number = post.number;
        size = elim (ℕ_discrete answer 0) as (λ _. length after ≡ length before) [
          | yes none ↦ ap length (encoded none) ∙ elements-length cfg board offset distance before (asked none).fits (room_for none)
          | no some ↦ ap length (kept some)
        ];
        elements =
            λ accepted t j l h.
            let none = sym post.number ∙ accepted in
            ap (λ (b : List ℕ). get_or b (t * distance + (offset + j)) 0) (encoded none)
            ∙ elements_byte cfg board offset distance before (asked none).fits (room_for none) t j l h;
        between =
            λ t j l h out.
            elim (ℕ_discrete answer 0) as (λ _. get_or after (t * distance + j) 0 ≡ get_or before (t * distance + j) 0) [
              | yes none ↦
                  ap (λ (b : List ℕ). get_or b (t * distance + j) 0) (encoded none)
                  ∙ elements_between cfg board offset distance before (asked none).fits (room_for none) t j h out
              | no some ↦ ap (λ (b : List ℕ). get_or b (t * distance + j) 0) (kept some)
            ];
        refused = λ some. kept (λ none. some (post.number ∙ none));
      }
