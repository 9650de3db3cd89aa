-- A buffer that is filled from its front. Assumes nothing.
use mathlib.Core.Path.{◌≡◌, sym, ap, ap₂, ◌∙◌}
use mathlib.Core.List.{List, [], ◌∷◌, ◌++◌, append_assoc, append-nil}
use Prim.Native.Nat.{ℕ, suc, ◌+◌, ◌<◌}
use native.Mathlib.Numerals.{add-one}
use native.Mathlib.Omega.{arith}
use lib.ListN.{length, get_or, drop, set, drop_of_length-le}
use lib.Seq.{append_snoc, set_at, take_at, drop_at, drop-cons, drop-drop}
use Rattle.laws.specs.Parts.{over}
use Rattle.client.specs.Send.{front}

module _ (xs buffer : List ℕ) (at : ℕ) (long : length xs ≡ at) where
  -- more bytes at the end of what is filled
  pub over_front : (n : ℕ) (ys : List ℕ) → over at n ys (xs ++ drop at buffer) ≡ (xs ++ ys) ++ drop (at + n) buffer
  over_front n ys =
      ap₂ (λ (a b : List ℕ). a ++ (ys ++ b)) (take_at xs (drop at buffer) at long)
      (sym (drop-drop n at (xs ++ drop at buffer)) ∙ ap (drop n) (drop_at xs (drop at buffer) at long) ∙ drop-drop n at buffer)
      ∙ sym (append_assoc xs ys (drop (at + n) buffer))

  -- one byte more
  pub set_front : (y : ℕ) → at < length buffer → set (xs ++ drop at buffer) at y ≡ (xs ++ y ∷ []) ++ drop (at + 1) buffer
  set_front y room =
      ap (λ (l : List ℕ). set (xs ++ l) at y) (drop-cons buffer at 0 room)
      ∙ set_at xs (get_or buffer at 0) (drop (suc at) buffer) y at long
      ∙ sym (append_snoc xs y (drop (suc at) buffer))
      ∙ ap (λ (n : ℕ). (xs ++ y ∷ []) ++ drop n buffer) (sym (add-one at))

-- a result as long as its buffer leaves nothing of it
pub fills : (xs buffer after : List ℕ) → after ≡ xs → length after ≡ length buffer → after ≡ front xs buffer
fills xs buffer after e same =
    e ∙ sym (append-nil xs) ∙ ap (λ (l : List ℕ). xs ++ l) (sym (drop_of_length-le buffer {i = length xs} (omega (arith, ap length e))))
