-- Server numbers that rise strictly within 1 to n: each is in range, and no two are one.
use Prim.Native.Nat.{ℕ, zero, suc, ◌+◌, ◌<◌, ◌≤◌}
use mathlib.Core.Path.{◌≡◌, refl, sym, ◌∙◌}
use mathlib.Core.Bool.{Bool, true, false, ◌&&◌}
use mathlib.Core.List.{List, [], ◌∷◌}
use native.Mathlib.Omega.{arith}
use native.Mathlib.Decide.{dec_lt}
use native.Mathlib.Numerals.{add-one}
use borrow.Author.Tests.{ltb-true, leb-true, le-ltb, lt-ltb, le-leb, lt-leb}
use lib.Dec.{ltb, leb}
use lib.ListN.{length, get_or, take, drop, get_or-eq_default, drop_of_length-le}
use lib.Seq.{get_or-take, length-take-le, drop-cons}
use Rattle.laws.proofs.Bools.{and_left, and_right}
use Rattle.code.specs.Decoded.{rising, rising_above}
use Rattle.laws.specs.Bytes.{Bytes}
use Rattle.code.proofs.Roots.{Distinct}

neither : (a b : Bool) → ((a && false) && b) ≡ false
neither true b = refl
neither false b = refl

module _ (n : ℕ) where
  above : (low s : ℕ) (ss : List ℕ) → rising_above n low (s ∷ ss) ≡ true → low < s
  unfolding rising_above
  above low s ss h = ltb-true low s (and_left (ltb low s) (leb s n) (and_left (ltb low s && leb s n) (rising_above n s ss) h))

  below : (low s : ℕ) (ss : List ℕ) → rising_above n low (s ∷ ss) ≡ true → s ≤ n
  unfolding rising_above
  below low s ss h = leb-true s n (and_right (ltb low s) (leb s n) (and_left (ltb low s && leb s n) (rising_above n s ss) h))

  rest : (low s : ℕ) (ss : List ℕ) → rising_above n low (s ∷ ss) ≡ true → rising_above n s ss ≡ true
  unfolding rising_above
  rest low s ss h = and_right (ltb low s && leb s n) (rising_above n s ss) h

  -- a scan from server r on: it stops at a number that does not rise or is above n, goes on past any other, and ends
  pub scan_low : (low : ℕ) (ss : List ℕ) (r : ℕ) → r < length ss → get_or ss r 0 ≤ low → rising_above n low (drop r ss) ≡ false
  unfolding rising_above
  scan_low low ss r h l = rw (drop-cons ss r 0 h, le-ltb low (get_or ss r 0) l)

  pub scan_high : (low : ℕ) (ss : List ℕ) (r : ℕ) → r < length ss → n < get_or ss r 0 → rising_above n low (drop r ss) ≡ false
  unfolding rising_above
  scan_high low ss r h l = rw (drop-cons ss r 0 h, lt-leb (get_or ss r 0) n l) (neither (ltb low (get_or ss r 0)) (rising_above n (get_or ss r 0) (drop (suc r) ss)))

  pub scan_on : (low : ℕ) (ss : List ℕ) (r : ℕ) → r < length ss → low < get_or ss r 0 → get_or ss r 0 ≤ n
      → rising_above n low (drop r ss) ≡ rising_above n (get_or ss r 0) (drop (r + 1) ss)
  unfolding rising_above
  scan_on low ss r h l m = rw (drop-cons ss r 0 h, lt-ltb low (get_or ss r 0) l, le-leb (get_or ss r 0) n m, add-one r)

  pub scan_end : (low : ℕ) (ss : List ℕ) (r : ℕ) → length ss ≤ r → rising_above n low (drop r ss) ≡ true
  unfolding rising_above
  scan_end low ss r h = rw (drop_of_length-le ss {i = r} h)

  pub rising_low : (low : ℕ) (ss : List ℕ) → rising_above n low ss ≡ true → (i : ℕ) → i < length ss → low < get_or ss i 0
  rising_low low [] h i l = absurd (omega arith)
  rising_low low (s ∷ ss) h zero l = above low s ss h
  rising_low low (s ∷ ss) h (suc i) l = omega (arith, above low s ss h, rising_low s ss (rest low s ss h) i (omega arith))

  pub rising_high : (low : ℕ) (ss : List ℕ) → rising_above n low ss ≡ true → (i : ℕ) → i < length ss → get_or ss i 0 ≤ n
  rising_high low [] h i l = absurd (omega arith)
  rising_high low (s ∷ ss) h zero l = below low s ss h
  rising_high low (s ∷ ss) h (suc i) l = rising_high s ss (rest low s ss h) i (omega arith)

  pub rising_step : (low : ℕ) (ss : List ℕ) → rising_above n low ss ≡ true → (i j : ℕ) → i < j → j < length ss
      → get_or ss i 0 < get_or ss j 0
  rising_step low [] h i j l m = absurd (omega arith)
  rising_step low (s ∷ ss) h i zero l m = absurd (omega arith)
  rising_step low (s ∷ ss) h zero (suc j) l m = rising_low s ss (rest low s ss h) j (omega arith)
  rising_step low (s ∷ ss) h (suc i) (suc j) l m = rising_step s ss (rest low s ss h) i j (omega arith) (omega arith)

  module _ (ss : List ℕ) (h : rising n ss ≡ true) where
    pub distinct : Distinct 0 ss
    distinct i j l m e = omega (arith, rising_step 0 ss h i j l m)

    -- the first k of them
    pub distinct_take : (k : ℕ) → k ≤ length ss → Distinct 0 (take k ss)
    distinct_take k f i j l m e =
        let o : j < k = rw (length-take-le k ss f) at m in
        omega (
          arith,
          rising_step 0 ss h i j l (omega arith),
          sym (get_or-take k ss i 0 (omega arith)) ∙ e ∙ get_or-take k ss j 0 (omega arith),
        )

    pub bytes : n < 256 → Bytes ss
    bytes small i = go (dec_lt i (length ss))
      where
        go : Dec (i < length ss) → get_or ss i 0 < 256
        go (yes l) = omega (arith, rising_high 0 ss h i l)
        go (no l) = omega (arith, get_or-eq_default ss 0 {n = i} (omega arith))

    pub bytes_take : n < 256 → (k : ℕ) → k ≤ length ss → Bytes (take k ss)
    bytes_take small k f i = go (dec_lt i k)
      where
        go : Dec (i < k) → get_or (take k ss) i 0 < 256
        go (yes l) = omega (arith, get_or-take k ss i 0 l, bytes small i)
        go (no l) = omega (arith, get_or-eq_default (take k ss) 0 {n = i} (rw (length-take-le k ss f) (omega arith)))
