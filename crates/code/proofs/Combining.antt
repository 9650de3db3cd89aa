-- A linear combination of rows, digit by digit of the coefficients: each digit doubles what stands and adds, of each group of four rows, the sum
-- of those whose coefficient has it.
use Prim.Native.Nat.{ℕ, zero, suc, ◌+◌, ◌*◌, ◌/◌, ◌%◌, ◌^◌, ◌-◌, ◌<◌, ◌≤◌}
use mathlib.Core.Path.{◌≡◌, refl, sym, ap, ap₂, ◌∙◌}
use mathlib.Core.List.{List}
use native.Mathlib.Decide.{ℕ_discrete, dec_lt}
use native.Mathlib.Omega.{arith}
use native.Mathlib.Nat.{div-div-eq-div-mul, mul-le-mul_right, mul-zero, div-one, div-le_self}
use lib.Arith.{digits_div, digits_mod}
use lib.Bits.{xor_zero_l, xor_zero_r}
use lib.ListN.{length, get_or}
use Rattle.field.specs.Field.{plus, times, double, bit}
use Rattle.field.proofs.Laws.{plus_assoc, times_zero_left, times_zero_right}
use Rattle.field.proofs.Linear.{double_plus, double_zero}
use Rattle.laws.specs.Bytes.{tabulate}
use Rattle.laws.proofs.Bytes.{get_d_tabulate, length_tabulate, tabulate_cong}
use Rattle.laws.proofs.Xor.{xor_swap}
use Rattle.code.specs.Polynomial.{sum}
use Rattle.code.specs.Element.{byte_field}
use Rattle.code.specs.inner.Combine.{OnePost, Small, Table, Without, added, choice, choice_at, combination, empty, last_byte, next, without_last}
use Rattle.code.specs.inner.Subsets.{chosen}
use Rattle.code.proofs.Digits.{halves, last_digit}
use Rattle.code.proofs.Sums.{sum_cong}

-- ---- sums of bytes

sum_plus : (n : ℕ) (f g : ℕ → ℕ) → sum byte_field n (λ i. plus (f i) (g i)) ≡ plus (sum byte_field n f) (sum byte_field n g)
unfolding sum
sum_plus zero f g = refl
sum_plus (suc n) f g = ap (λ x. plus x (plus (f n) (g n))) (sum_plus n f g) ∙ xor_swap (sum byte_field n f) (sum byte_field n g) (f n) (g n)

double_sum : (n : ℕ) (f : ℕ → ℕ) → double (sum byte_field n f) ≡ sum byte_field n (λ i. double (f i))
unfolding sum
double_sum zero f = double_zero
double_sum (suc n) f = double_plus (sum byte_field n f) (f n) ∙ ap (λ x. plus x (double (f n))) (double_sum n f)

sum_none : (n : ℕ) (f : ℕ → ℕ) → ((i : ℕ) → i < n → f i ≡ 0) → sum byte_field n f ≡ 0
unfolding sum
sum_none zero f h = refl
sum_none (suc n) f h = ap₂ plus (sum_none n f (λ i l. h i (omega arith))) (h n (omega arith))

-- terms of which all from k on are 0
sum_few : (n k : ℕ) (f : ℕ → ℕ) → k ≤ n → ((i : ℕ) → k ≤ i → f i ≡ 0) → sum byte_field n f ≡ sum byte_field k f
unfolding sum
sum_few zero k f l h = let e : 0 ≡ k = omega arith in ap (λ m. sum byte_field m f) e
sum_few (suc n) k f l h = go (λ m. sum_few n k f m h) (ℕ_discrete k (suc n))
  where
    go : (k ≤ n → sum byte_field n f ≡ sum byte_field k f) → Dec (k ≡ suc n) → sum byte_field (suc n) f ≡ sum byte_field k f
    go less (yes e) = ap (λ m. sum byte_field m f) (sym e)
    go less (no a) = ap₂ plus (less (omega arith)) (h n (omega arith)) ∙ xor_zero_r (sum byte_field k f)

-- four terms more
four_more : (n : ℕ) (f : ℕ → ℕ)
    → sum byte_field (suc (suc (suc (suc n)))) f
    ≡ plus (sum byte_field n f) (plus (plus (plus (f n) (f (suc n))) (f (suc (suc n)))) (f (suc (suc (suc n)))))
unfolding sum
four_more n f =
    ap (λ x. plus (plus x (f (suc (suc n)))) (f (suc (suc (suc n))))) (plus_assoc (sum byte_field n f) (f n) (f (suc n)))
    ∙ ap (λ x. plus x (f (suc (suc (suc n))))) (plus_assoc (sum byte_field n f) (plus (f n) (f (suc n))) (f (suc (suc n))))
    ∙ plus_assoc (sum byte_field n f) (plus (plus (f n) (f (suc n))) (f (suc (suc n)))) (f (suc (suc (suc n))))

-- ---- a choice of four

abbrev number : ℕ → ℕ → ℕ → ℕ → ℕ
number a b c d = a + b * 2 + c * 4 + d * 8

chosen_of : (a b c d : ℕ) → a < 2 → b < 2 → c < 2 → d < 2 → (f : ℕ → ℕ)
    → chosen (number a b c d) f ≡ plus (plus (plus (a * f 0) (b * f 1)) (c * f 2)) (d * f 3)
unfolding chosen
chosen_of a b c d la lb lc ld f =
    let as0 : number a b c d ≡ (b + c * 2 + d * 4) * 2 + a = omega arith in
    let as1 : b + c * 2 + d * 4 ≡ (c + d * 2) * 2 + b = omega arith in
    let as2 : c + d * 2 ≡ d * 2 + c = omega arith in
    let half : number a b c d / 2 ≡ b + c * 2 + d * 4 = ap (λ n. n / 2) as0 ∙ digits_div (b + c * 2 + d * 4) la in
    let quarter : number a b c d / 4 ≡ c + d * 2 = sym (div-div-eq-div-mul (number a b c d) 2 2) ∙ ap (λ n. n / 2) (half ∙ as1) ∙ digits_div (c + d * 2) lb in
    let eighth : number a b c d / 8 ≡ d = sym (div-div-eq-div-mul (number a b c d) 4 2) ∙ ap (λ n. n / 2) (quarter ∙ as2) ∙ digits_div d lc in
    let h0 : number a b c d % 2 ≡ a = ap (λ n. n % 2) as0 ∙ digits_mod (b + c * 2 + d * 4) la in
    let h1 : number a b c d / 2 % 2 ≡ b = ap (λ n. n % 2) (half ∙ as1) ∙ digits_mod (c + d * 2) lb in
    let h2 : number a b c d / 4 % 2 ≡ c = ap (λ n. n % 2) (quarter ∙ as2) ∙ digits_mod d lc in
    let h3 : number a b c d / 8 % 2 ≡ d = ap (λ n. n % 2) eighth ∙ omega arith in
    ap₂ plus
    (ap₂ plus (ap₂ plus (ap (λ n. n * f 0) h0) (ap (λ n. n * f 1) h1)) (ap (λ n. n * f 2) h2))
    (ap (λ n. n * f 3) h3)

-- the rows of a group whose coefficient has digit b
chosen_choice : (c : ℕ → ℕ) (b g : ℕ) (f : ℕ → ℕ)
    → chosen (choice c b g) f
    ≡ plus (plus (plus (bit b (c (4 * g)) * f 0) (bit b (c (4 * g + 1)) * f 1)) (bit b (c (4 * g + 2)) * f 2)) (bit b (c (4 * g + 3)) * f 3)
unfolding choice
chosen_choice c b g f =
    chosen_of (bit b (c (4 * g))) (bit b (c (4 * g + 1))) (bit b (c (4 * g + 2))) (bit b (c (4 * g + 3)))
    (omega arith) (omega arith) (omega arith) (omega arith) f

-- of rows of zeros
chosen_none : (v : ℕ) (f : ℕ → ℕ) → ((m : ℕ) → m < 4 → f m ≡ 0) → chosen v f ≡ 0
unfolding chosen
chosen_none v f h =
    ap₂ plus
    (ap₂ plus
    (ap₂ plus (ap (λ n. v % 2 * n) (h 0 (omega arith)) ∙ mul-zero (v % 2)) (ap (λ n. v / 2 % 2 * n) (h 1 (omega arith)) ∙ mul-zero (v / 2 % 2)))
    (ap (λ n. v / 4 % 2 * n) (h 2 (omega arith)) ∙ mul-zero (v / 4 % 2)))
    (ap (λ n. v / 8 % 2 * n) (h 3 (omega arith)) ∙ mul-zero (v / 8 % 2))

-- ---- a table, and a place of its rows

module _ (k e t : ℕ) (c : ℕ → ℕ) (x choices table : List ℕ) (small : e ≤ 64) (few : k ≤ 16) (T : Table k e t c x choices table) (j : ℕ) (hj : j < e) where
  -- byte j of row i
  abbrev at : ℕ → ℕ
  at i = get_or x (i * e + j) 0

  none : (i : ℕ) → k ≤ i → at i ≡ 0
  none i h = T.none (i * e + j) (omega (arith, mul-le-mul_right e h))

  -- one row, one digit
  abbrev above : ℕ → ℕ → ℕ
  above b i = times (at i) (c i / 2 ^ b)

  digit : (b i : ℕ) → above b i ≡ plus (double (above (suc b) i)) (bit b (c i) * at i)
  digit b i = go (dec_lt i k)
    where
      go : Dec (i < k) → above b i ≡ plus (double (above (suc b) i)) (bit b (c i) * at i)
      go (yes l) =
          let byte : c i / 2 ^ b < 256 = omega (arith, div-le_self (c i) (2 ^ b), T.coefficients i l) in
          sym
          (ap (λ n. plus (double (times (at i) n)) (bit b (c i) * at i)) (sym (halves (c i) b))
          ∙ last_digit (at i) (c i / 2 ^ b) (T.bytes (i * e + j)) byte)
      go (no l) =
          let z = none i (omega arith) in
          ap (λ n. times n (c i / 2 ^ b)) z ∙ times_zero_left (c i / 2 ^ b)
          ∙ sym
          (ap (λ n. plus (double (times n (c i / 2 ^ suc b))) (bit b (c i) * n)) z
          ∙ ap₂ plus (ap double (times_zero_left (c i / 2 ^ suc b)) ∙ double_zero) (mul-zero (bit b (c i))))

  -- the rows of which the coefficient has digit b
  abbrev having : ℕ → ℕ → ℕ
  having b i = bit b (c i) * at i

  one_digit : (b : ℕ) → without_last e x c b j ≡ plus (double (without_last e x c (suc b) j)) (sum byte_field 16 (having b))
  unfolding without_last
  one_digit b =
      sum_cong byte_field 16 (above b) (λ i. plus (double (above (suc b) i)) (having b i)) (λ i l. digit b i)
      ∙ sum_plus 16 (λ i. double (above (suc b) i)) (having b)
      ∙ ap (λ n. plus n (sum byte_field 16 (having b))) (sym (double_sum 16 (above (suc b))))

  -- group g of them
  abbrev group : ℕ → ℕ → ℕ
  group b g = chosen (choice c b g) (λ m. get_or x ((4 * g + m) * e + j) 0)

  sixteen : (b : ℕ) → sum byte_field 16 (having b) ≡ plus (plus (plus (group b 0) (group b 1)) (group b 2)) (group b 3)
  unfolding sum
  sixteen b =
      four_more 12 (having b)
      ∙ ap₂ plus
      (four_more 8 (having b)
      ∙ ap₂ plus
      (four_more 4 (having b)
      ∙ ap₂ plus (four_more 0 (having b) ∙ xor_zero_l _ ∙ sym (chosen_choice c b 0 (λ m. get_or x ((4 * 0 + m) * e + j) 0)))
      (sym (chosen_choice c b 1 (λ m. get_or x ((4 * 1 + m) * e + j) 0))))
      (sym (chosen_choice c b 2 (λ m. get_or x ((4 * 2 + m) * e + j) 0))))
      (sym (chosen_choice c b 3 (λ m. get_or x ((4 * 3 + m) * e + j) 0)))

  -- what the table has for the choice of group g, which stands at place i
  abbrev pub Chosen : ℕ → ℕ → ℕ → Type 0
  Chosen b g i = (get_or choices i 0 < 16) × (i ≡ choice_at b g t)

  tabled : (b g i : ℕ) → b < 8 → g < 4 → Chosen b g i → get_or table (1024 * g + 64 * get_or choices i 0 + j) 0 ≡ group b g
  tabled b g i hb hg h =
      T.fill.sums g (get_or choices i 0) j hg h.0 hj
      ∙ ap (λ v. chosen v (λ m. get_or x ((4 * g + m) * e + j) 0)) (ap (λ n. get_or choices n 0) h.1 ∙ T.chosen b g hb hg)

  -- before the first digit
  pub first : get_or (empty table) j 0 ≡ without_last e x c 8 j
  unfolding empty without_last
  first =
      get_d_tabulate 64 (λ i. get_or table i 0) j 0 (omega arith)
      ∙ T.fill.clear j (omega arith)
      ∙ sym (sum_none 16 (above 8) (λ i l. go i (dec_lt i k)))
    where
      go : (i : ℕ) → Dec (i < k) → above 8 i ≡ 0
      go i (yes l) =
          let small : c i / 2 ^ 8 ≡ 0 = omega (arith, T.coefficients i l) in
          ap (times (at i)) small ∙ times_zero_right (at i)
      go i (no l) = ap (λ n. times n (c i / 2 ^ 8)) (none i (omega arith)) ∙ times_zero_left (c i / 2 ^ 8)

  module _ (b : ℕ) (hb : b < 8) (row : List ℕ) (so : get_or row j 0 ≡ without_last e x c (suc b) j) (p q r s : ℕ)
      (hp : Chosen b 0 p) (hq : Chosen b 1 q) (hr : Chosen b 2 r) (hs : Chosen b 3 s) where
    abbrev all : ℕ
    all = plus (plus (plus (group b 0) (group b 1)) (group b 2)) (group b 3)

    digit_more : plus (double (get_or row j 0)) all ≡ without_last e x c b j
    digit_more = ap₂ (λ m n. plus (double m) n) so (sym (sixteen b)) ∙ sym (one_digit b)

    doubled_plus : get_or (next row (get_or choices p 0) (get_or choices q 0) table) j 0
        ≡ plus (double (get_or row j 0)) (plus (group b 0) (group b 1))
    unfolding next
    doubled_plus =
        get_d_tabulate 64
        (λ i. plus (double (get_or row i 0)) (plus (get_or table (64 * get_or choices p 0 + i) 0) (get_or table (1024 + 64 * get_or choices q 0 + i) 0)))
        j 0 (omega arith)
        ∙ ap (plus (double (get_or row j 0)))
        (ap₂ plus
        (ap (λ n. get_or table n 0) (omega arith) ∙ tabled b 0 p hb (omega arith) hp)
        (tabled b 1 q hb (omega arith) hq))

    -- one digit more, of 16 rows
    pub wide : get_or (added (next row (get_or choices p 0) (get_or choices q 0) table) (get_or choices r 0) (get_or choices s 0) table) j 0
        ≡ without_last e x c b j
    unfolding added
    wide =
        get_d_tabulate 64
        (λ i. plus (get_or (next row (get_or choices p 0) (get_or choices q 0) table) i 0) (plus (get_or table (2048 + 64 * get_or choices r 0 + i) 0) (get_or table (3072 + 64 * get_or choices s 0 + i) 0)))
        j 0 (omega arith)
        ∙ ap₂ plus doubled_plus (ap₂ plus (tabled b 2 r hb (omega arith) hr) (tabled b 3 s hb (omega arith) hs))
        ∙ plus_assoc (double (get_or row j 0)) (plus (group b 0) (group b 1)) (plus (group b 2) (group b 3))
        ∙ ap (plus (double (get_or row j 0))) (sym (plus_assoc (plus (group b 0) (group b 1)) (group b 2) (group b 3)))
        ∙ digit_more

    -- of 8
    pub narrow : k ≤ 8 → get_or (next row (get_or choices p 0) (get_or choices q 0) table) j 0 ≡ without_last e x c b j
    narrow low =
        doubled_plus
        ∙ ap (plus (double (get_or row j 0)))
        (sym
        (ap₂ (λ m n. plus (plus (plus (group b 0) (group b 1)) m) n)
        (chosen_none (choice c b 2) (λ m. at (4 * 2 + m)) (λ m h. none (4 * 2 + m) (omega arith)))
        (chosen_none (choice c b 3) (λ m. at (4 * 3 + m)) (λ m h. none (4 * 3 + m) (omega arith)))
        ∙ xor_zero_r (plus (plus (group b 0) (group b 1)) 0)
        ∙ xor_zero_r (plus (group b 0) (group b 1))))
        ∙ digit_more

    pub final : last_byte row (get_or choices p 0) (get_or choices q 0) (get_or choices r 0) (get_or choices s 0) table j ≡ without_last e x c b j
    unfolding last_byte
    final =
        ap (plus (double (get_or row j 0)))
        (ap₂ plus
        (ap₂ plus
        (ap₂ plus
        (ap (λ n. get_or table n 0) (omega arith) ∙ tabled b 0 p hb (omega arith) hp)
        (tabled b 1 q hb (omega arith) hq))
        (tabled b 2 r hb (omega arith) hr))
        (tabled b 3 s hb (omega arith) hs))
        ∙ digit_more

  -- all digits: the sum over the rows that there are
  pub whole : without_last e x c 0 j ≡ sum byte_field k (λ i. times (at i) (c i))
  unfolding without_last
  whole =
      sum_cong byte_field 16 (above 0) (λ i. times (at i) (c i)) (λ i l. ap (times (at i)) (div-one (c i)))
      ∙ sum_few 16 k (λ i. times (at i) (c i)) few (λ i l. ap (λ n. times n (c i)) (none i l) ∙ times_zero_left (c i))

-- ---- a loop over the digits

module _ (k t : ℕ) (choices table : List ℕ) (ht : t < 16) (small : Small choices) where
  pub without_all : (row : List ℕ) → row ≡ empty table → Without k t choices table row 8
  unfolding Without
  without_all row is e c x se few T j hj = ap (λ l. get_or l j 0) is ∙ first k e t c x choices table se few T j hj

  module _ (row : List ℕ) (b : ℕ) (low : 1 ≤ b) (high : b ≤ 8) (so : Without k t choices table row b) where
    abbrev choice_of : ℕ → ℕ
    choice_of n = get_or choices (64 * (b - 1) + t + n) 0

    first_place : get_or choices (64 * (b - 1) + t) 0 ≡ choice_of 0
    first_place = let e : 64 * (b - 1) + t ≡ 64 * (b - 1) + t + 0 = omega arith in ap (λ n. get_or choices n 0) e

    before : (e : ℕ) (c : ℕ → ℕ) (x : List ℕ) → e ≤ 64 → k ≤ 16 → Table k e t c x choices table
        → (j : ℕ) → j < e → get_or row j 0 ≡ without_last e x c (suc (b - 1)) j
    unfolding Without
    before e c x se few T j hj =
        let one : b ≡ suc (b - 1) = omega arith in so e c x se few T j hj ∙ ap (λ n. without_last e x c n j) one

    place : (g : ℕ) → g < 4 → (get_or choices (64 * (b - 1) + t + 16 * g) 0 < 16) × (64 * (b - 1) + t + 16 * g ≡ choice_at (b - 1) g t)
    place g h = (small (64 * (b - 1) + t + 16 * g) (omega arith), omega arith)

    -- one digit more, of more than 8 rows and of at most 8
    pub without_wide : (mid after : List ℕ) → mid ≡ next row (get_or choices (64 * (b - 1) + t) 0) (choice_of 16) table
        → after ≡ added mid (choice_of 32) (choice_of 48) table → Without k t choices table after (b - 1)
    unfolding Without
    without_wide mid after hm ha e c x se few T j hj =
        ap (λ l. get_or l j 0) (ha ∙ ap (λ l. added l (choice_of 32) (choice_of 48) table) (hm ∙ ap (λ v. next row v (choice_of 16) table) first_place))
        ∙ wide k e t c x choices table se few T j hj (b - 1) (omega arith) row (before e c x se few T j hj)
        (64 * (b - 1) + t + 0) (64 * (b - 1) + t + 16) (64 * (b - 1) + t + 32) (64 * (b - 1) + t + 48)
        (place 0 (omega arith)) (place 1 (omega arith)) (place 2 (omega arith)) (place 3 (omega arith))

    pub without_narrow : (after : List ℕ) → k ≤ 8 → after ≡ next row (get_or choices (64 * (b - 1) + t) 0) (choice_of 16) table
        → Without k t choices table after (b - 1)
    unfolding Without
    without_narrow after low ha e c x se few T j hj =
        ap (λ l. get_or l j 0) (ha ∙ ap (λ v. next row v (choice_of 16) table) first_place)
        ∙ narrow k e t c x choices table se few T j hj (b - 1) (omega arith) row (before e c x se few T j hj)
        (64 * (b - 1) + t + 0) (64 * (b - 1) + t + 16) (64 * (b - 1) + t + 32) (64 * (b - 1) + t + 48)
        (place 0 (omega arith)) (place 1 (omega arith)) (place 2 (omega arith)) (place 3 (omega arith)) low

-- the last digit, in a part of e bytes: the combination
without_none : (k t : ℕ) (choices table : List ℕ) → t < 16 → Small choices → (row : List ℕ) → Without k t choices table row 1
    → (e : ℕ) (c : ℕ → ℕ) (x : List ℕ) → e ≤ 64 → k ≤ 16 → Table k e t c x choices table
    → tabulate e (last_byte row (get_or choices t 0) (get_or choices (16 + t) 0) (get_or choices (32 + t) 0) (get_or choices (48 + t) 0) table)
    ≡ combination k e x c
unfolding combination Without
without_none k t choices table ht small row so e c x se few T =
    tabulate_cong e
    (last_byte row (get_or choices t 0) (get_or choices (16 + t) 0) (get_or choices (32 + t) 0) (get_or choices (48 + t) 0) table)
    (λ j. sum byte_field k (λ i. times (get_or x (i * e + j) 0) (c i)))
    (λ j hj.
    final k e t c x choices table se few T j hj 0 (omega arith) row (so e c x se few T j hj) t (16 + t) (32 + t) (48 + t)
    (small t (omega arith), omega arith)
    (small (16 + t) (omega arith), omega arith)
    (small (32 + t) (omega arith), omega arith)
    (small (48 + t) (omega arith), omega arith)
    ∙ whole k e t c x choices table se few T j hj)

-- combination t, in a part of e bytes
pub combined_one : (k t : ℕ) (choices table : List ℕ) → t < 16 → Small choices → (row : List ℕ) → Without k t choices table row 1 → (e : ℕ) → e ≤ 64
    → (after : List ℕ)
    → after ≡ tabulate e (last_byte row (get_or choices t 0) (get_or choices (16 + t) 0) (get_or choices (32 + t) 0) (get_or choices (48 + t) 0) table)
    → OnePost k t choices table e after
combined_one k t choices table ht small row so e se after is =
    record {
      size =
          ap length is
          ∙ length_tabulate e (last_byte row (get_or choices t 0) (get_or choices (16 + t) 0) (get_or choices (32 + t) 0) (get_or choices (48 + t) 0) table);
      whole = λ c x few T. is ∙ without_none k t choices table ht small row so e c x se few T;
    }
