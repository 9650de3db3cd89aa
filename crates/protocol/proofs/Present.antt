-- The elements that a read received, of the k lowest servers that sent one: they are k, of rising servers, and each is its server's.
use Prim.Native.Nat.{ℕ, zero, suc, ◌≤◌}
use mathlib.Core.Path.{◌≡◌, refl}
use mathlib.Core.Option.{Option, none, some}
use mathlib.Core.List.{List, [], ◌∷◌, ◌++◌}
use lib.ListN.{length, take}
use lib.Seq.{length-take-le}
use native.Mathlib.Nat.{le_refl}
use native.Mathlib.Omega.{arith}
use Rattle.protocol.specs.Number.{pair_of, present}
use Rattle.protocol.specs.Laws.{Rising, ElementsOf}
use Rattle.protocol.proofs.World.{Setting}

module _ {Element : Type 0} where
  rising_more : (low n : ℕ) (xs : List (ℕ × Element)) (o : Option Element) → low ≤ n → Rising low n xs → Rising low (suc n) (xs ++ pair_of (suc n) o)
  unfolding Rising pair_of
  rising_more low n [] none h a = tt
  rising_more low n [] (some e) h a = (omega arith, le_refl _, tt)
  rising_more low n (x ∷ xs) o h a =
      (a.0, omega (arith, a.1), rising_more x.0 n xs o a.1 a.2)

  pub present_rising : (n : ℕ) (es : ℕ → Option Element) → Rising 0 n (present n es)
  unfolding present Rising
  present_rising zero es = tt
  present_rising (suc n) es = rising_more 0 n (present n es) (es (suc n)) (omega arith) (present_rising n es)

  pub rising_take : (k low n : ℕ) (xs : List (ℕ × Element)) → Rising low n xs → Rising low n (take k xs)
  unfolding Rising
  rising_take zero low n xs a = tt
  rising_take (suc k) low n [] a = tt
  rising_take (suc k) low n (x ∷ xs) a = (a.0, a.1, rising_take k x.0 n xs a.2)

module _ {Value Element : Type 0} (encode : Value → ℕ → Element) (v : Value) where
  elements_more : (n : ℕ) (xs : List (ℕ × Element)) (o : Option Element) → ((e : Element) → o ≡ some e → e ≡ encode v n) → ElementsOf encode v xs → ElementsOf encode v (xs ++ pair_of n o)
  unfolding ElementsOf pair_of
  elements_more n [] none h a = tt
  elements_more n [] (some e) h a = (h e refl, tt)
  elements_more n (x ∷ xs) o h a = (a.0, elements_more n xs o h a.1)

  pub present_elements : (n : ℕ) (es : ℕ → Option Element) → ((s : ℕ) (e : Element) → es s ≡ some e → e ≡ encode v s) → ElementsOf encode v (present n es)
  unfolding present ElementsOf
  present_elements zero es h = tt
  present_elements (suc n) es h = elements_more (suc n) (present n es) (es (suc n)) (h (suc n)) (present_elements n es h)

  pub elements_take : (k : ℕ) (xs : List (ℕ × Element)) → ElementsOf encode v xs → ElementsOf encode v (take k xs)
  unfolding ElementsOf
  elements_take zero xs a = tt
  elements_take (suc k) [] a = tt
  elements_take (suc k) (x ∷ xs) a = (a.0, elements_take k xs a.1)

module _ (S : Setting) where
  open S use {Value, Element, cfg, encode, decode, IsBoard, coding}

  -- what a read decodes is the board whose elements it received
  pub decoded : (v : Value) → IsBoard v → (es : ℕ → Option Element) → ((s : ℕ) (e : Element) → es s ≡ some e → e ≡ encode v s) → cfg.k ≤ length (present cfg.n es) → decode (take cfg.k (present cfg.n es)) ≡ v
  decoded v board es h enough =
      let xs = present cfg.n es in
      coding.back v board (take cfg.k xs) (length-take-le cfg.k xs enough)
      (rising_take cfg.k 0 cfg.n xs (present_rising cfg.n es))
      (elements_take encode v cfg.k xs (present_elements encode v cfg.n es h))
