-- The records of a buffer, and what they are after each call. Assumes nothing.
-- Of a buffer: `length_records`, `records_add`, `records_take`, `records_same`; `at_record`, `record_long`, `record_byte`.
-- Of a buffer that was written in place behind the first n records: `records_stay`, `records_written`.
-- Of whatever meets a call's contract: `take-..`, `remove-..`, `append-..`, `double-..`.
use Prim.Native.Nat.{ℕ, zero, suc, ◌+◌, ◌-◌, ◌*◌, ◌/◌, ◌%◌, ◌≤◌, ◌<◌}
use mathlib.Core.Bool.{true, false, ◌&&◌}
use mathlib.Core.Path.{◌≡◌, refl, sym, ap, ap₂, ◌∙◌}
use mathlib.Core.Option.{some}
use mathlib.Core.List.{List, [], ◌∷◌, ◌++◌, append_assoc, append-nil}
use native.Mathlib.Omega.{arith}
use native.Mathlib.Nat.{zero-add, suc-add}
use borrow.Author.Tests.{eq-eqb, eqb-true, le-leb, leb-true, lt-ltb, le-ltb, ltb-false, ltb-true}
use borrow.Table.Steps.{cases}
use lib.Dec.{eqb, ltb}
use lib.ListN.{length, take, drop, get_or, get_elem?, replicate, length-drop, length-replicate}
use lib.Seq.{paste, length-paste, take_all, drop-drop, take-take, drop_at, get_or-drop, get_or-take, length-take-le}
use Rattle.laws.specs.Lists.{to_list, without}
use Rattle.laws.proofs.Bools.{and_left, and_right}
use Rattle.laws.proofs.Lists.{at_past, drop_take, without_past, without_seam}
use Rattle.record.proofs.Records.{records_front}
use Rattle.flight.specs.Flight.{AppendPost, DoublePost, RemovePost, TakePost, appended, appends, doubles, fits, record_at, record_length, records, removed, stands}

pub length_records : (n : ℕ) (bytes : List ℕ) → length (records n bytes) ≡ n
unfolding records
length_records zero bytes = refl
length_records (suc n) bytes = ap suc (length_records n (drop record_length bytes))

next : (n : ℕ) (bytes : List ℕ) → drop (record_length * n) (drop record_length bytes) ≡ drop (record_length * suc n) bytes
next n bytes = drop-drop (record_length * n) record_length bytes ∙ ap (λ k. drop k bytes) shift
  where
    shift : record_length + record_length * n ≡ record_length * suc n
    shift = omega arith

-- the first n, and the k behind them
pub records_add : (n k : ℕ) (bytes : List ℕ) → records (n + k) bytes ≡ records n bytes ++ records k (drop (record_length * n) bytes)
unfolding records
records_add zero k bytes = ap (λ j. records j bytes) (zero-add k)
records_add (suc n) k bytes =
    ap (λ j. records j bytes) (suc-add n k)
    ∙ ap (◌∷◌ (take record_length bytes)) (records_add n k (drop record_length bytes)
    ∙ ap (λ b. records n (drop record_length bytes) ++ records k b) (next n bytes))

pub records_take : (n : ℕ) (bytes : List ℕ) → records n (take (record_length * n) bytes) ≡ records n bytes
unfolding records
records_take zero bytes = refl
records_take (suc n) bytes =
    ap (records (suc n)) (ap (λ k. take k bytes) step)
    ∙ ap₂ ◌∷◌ (take-take record_length (record_length + record_length * n) bytes (omega arith))
    (ap (records n) (drop_take record_length (record_length * n) bytes) ∙ records_take n (drop record_length bytes))
  where
    step : record_length * suc n ≡ record_length + record_length * n
    step = omega arith

-- a buffer that changed only past the count
pub records_same : (n : ℕ) (bytes other : List ℕ) → take (record_length * n) bytes ≡ take (record_length * n) other → records n bytes ≡ records n other
records_same n bytes other e = sym (records_take n bytes) ∙ ap (records n) e ∙ records_take n other

pub at_record : (n i : ℕ) (bytes : List ℕ) → i < n → get_elem? (records n bytes) i ≡ some (record_at i bytes)
unfolding records
at_record zero i bytes h = absurd (omega (arith, h))
at_record (suc n) zero bytes h = refl
at_record (suc n) (suc i) bytes h = at_record n i (drop record_length bytes) (omega (arith, h)) ∙ ap (λ b. some (take record_length b)) (next i bytes)

pub record_long : (n i : ℕ) (bytes : List ℕ) → i < n → record_length * n ≤ length bytes → length (record_at i bytes) ≡ record_length
record_long n i bytes h l = length-take-le record_length (drop (record_length * i) bytes) (omega (arith, h, l, length-drop (record_length * i) bytes))

pub record_byte : (i j : ℕ) (bytes : List ℕ) → j < record_length → get_or (record_at i bytes) j 0 ≡ get_or bytes (record_length * i + j) 0
record_byte i j bytes h = get_or-take record_length (drop (record_length * i) bytes) j 0 h ∙ get_or-drop (record_length * i) bytes j 0

-- one record
one_record : (bytes : List ℕ) → length bytes ≡ record_length → records 1 bytes ≡ bytes ∷ []
unfolding records
one_record bytes h = ap (λ x. x ∷ []) (take_all record_length bytes (omega (arith, h)))

-- what is written behind the first n leaves them
pub records_stay : (n : ℕ) (bytes rest : List ℕ) → record_length * n ≤ length bytes → records n (take (record_length * n) bytes ++ rest) ≡ records n bytes
records_stay n bytes rest h =
    records_front n (take (record_length * n) bytes) rest (omega (arith, length-take-le (record_length * n) bytes h)) ∙ records_take n bytes

-- Records written in place: a part of the buffer behind the first n was lent, and k records stand at its front.
pub records_written : (n k : ℕ) (bytes new rest : List ℕ) → record_length * n ≤ length bytes → record_length * k ≤ length new
    → records (n + k) (take (record_length * n) bytes ++ (new ++ rest)) ≡ records n bytes ++ records k new
records_written n k bytes new rest h l =
    records_add n k (take (record_length * n) bytes ++ (new ++ rest))
    ∙ ap₂ ◌++◌ (records_stay n bytes (new ++ rest) h)
    (ap (records k) (drop_at (take (record_length * n) bytes) (new ++ rest) (record_length * n) (length-take-le (record_length * n) bytes h))
    ∙ records_front k new rest l)

-- the first w bytes of others, k records at their front, pasted behind the first n
records_pasted : (n k w : ℕ) (bytes new : List ℕ) → record_length * n ≤ length bytes → record_length * k ≤ w → w ≤ length new
    → records (n + k) (paste bytes (record_length * n) new w) ≡ records n bytes ++ records k new
records_pasted n k w bytes new h l f =
    ap (records (n + k)) (append_assoc (take (record_length * n) bytes) (take w new) (drop (record_length * n + w) bytes))
    ∙ records_written n k bytes (take w new) (drop (record_length * n + w) bytes) h (omega (arith, l, length-take-le w new f))
    ∙ ap (λ x. records n bytes ++ x) (records_same k (take w new) new (take-take (record_length * k) w new l))

pub records_removed : (n i : ℕ) (bytes : List ℕ) → i < n → record_length * n ≤ length bytes
    → records (n - 1) (removed n i bytes) ≡ without i (records n bytes)
unfolding records
records_removed n i bytes h l =
    let k = n - 1 - i in
    let left : n - 1 ≡ i + k = omega (arith, h) in
    let all : n ≡ i + suc k = omega (arith, h) in
    let rest = drop (record_length * i) bytes in
    ap (λ j. records j (removed n i bytes)) left
    ∙ records_pasted i k (record_length * k) bytes (drop (record_length * i + record_length) bytes) (omega (arith, h, l)) (omega arith) (omega (arith, h, l, length-drop (record_length * i + record_length) bytes))
    ∙ sym (ap (λ j. without i (records j bytes)) all
    ∙ ap (without i) (records_add i (suc k) bytes)
    ∙ without_seam i (records i bytes) (take record_length rest) (records k (drop record_length rest)) (length_records i bytes)
    ∙ ap (λ b. records i bytes ++ records k b) (drop-drop record_length (record_length * i) bytes))

pub records_appended : (n k : ℕ) (new bytes : List ℕ) → length new ≡ record_length * k → record_length * n ≤ length bytes
    → records (n + k) (appended n new bytes) ≡ records n bytes ++ records k new
records_appended n k new bytes e l = records_pasted n k (length new) bytes new l (omega (arith, e)) (omega arith)

pub records_doubled : (n i : ℕ) (bytes : List ℕ) → i < n → record_length * n ≤ length bytes
    → records (n + 1) (appended n (record_at i bytes) bytes) ≡ records n bytes ++ to_list (get_elem? (records n bytes) i)
unfolding to_list
records_doubled n i bytes h l =
    records_appended n 1 (record_at i bytes) bytes (record_long n i bytes h l) l
    ∙ ap (λ x. records n bytes ++ x) (one_record (record_at i bytes) (record_long n i bytes h l) ∙ sym (ap to_list (at_record n i bytes h)))

-- ---- the tests

pub stands_true : (n i : ℕ) (bytes : List ℕ) → i < n → record_length * n ≤ length bytes → stands n i bytes ≡ true
stands_true n i bytes h l = ap₂ ◌&&◌ (lt-ltb i n h) (le-leb (record_length * n) (length bytes) l)

pub stands_past : (n i : ℕ) (bytes : List ℕ) → n ≤ i → stands n i bytes ≡ false
stands_past n i bytes h = ap (λ b. b && fits n bytes) (le-ltb i n h)

pub appends_true : (n k : ℕ) (new bytes : List ℕ) → length new ≡ record_length * k → record_length * (n + k) ≤ length bytes → appends n new bytes ≡ true
appends_true n k new bytes e l =
    ap₂ ◌&&◌ (eq-eqb (length new % record_length) 0 (omega (arith, e))) (le-leb (record_length * (n + length new / record_length)) (length bytes) (omega (arith, e, l)))

pub doubles_true : (n i : ℕ) (bytes : List ℕ) → i < n → record_length * (n + 1) ≤ length bytes → doubles n i bytes ≡ true
doubles_true n i bytes h l = ap₂ ◌&&◌ (lt-ltb i n h) (le-leb (record_length * (n + 1)) (length bytes) l)

pub doubles_past : (n i : ℕ) (bytes : List ℕ) → n ≤ i → doubles n i bytes ≡ false
doubles_past n i bytes h = ap (λ b. b && fits (n + 1) bytes) (le-ltb i n h)

-- ---- what meets the contracts

module _ {n i : ℕ} {bytes r : List ℕ} (post : TakePost n i bytes r) where
  pub take_is : i < n → record_length * n ≤ length bytes → r ≡ record_at i bytes
  take_is h l = rw (stands_true n i bytes h l) at post.taken

  pub take_record : i < n → record_length * n ≤ length bytes → get_elem? (records n bytes) i ≡ some r
  take_record h l = at_record n i bytes h ∙ ap some (sym (take_is h l))

  pub take_none : stands n i bytes ≡ false → r ≡ replicate record_length 0
  take_none h = rw h at post.taken

  pub take_long : length r ≡ record_length
  take_long =
      cases (stands n i bytes)
      (λ h.
      let inside : i < n = ltb-true i n (and_left (ltb i n) (fits n bytes) h) in
      let room : record_length * n ≤ length bytes = leb-true (record_length * n) (length bytes) (and_right (ltb i n) (fits n bytes) h) in
      ap length (take_is inside room) ∙ record_long n i bytes inside room)
      (λ h. ap length (take_none h) ∙ length-replicate {A = ℕ} record_length 0)

module _ {n i m : ℕ} {bytes after : List ℕ} (post : RemovePost n i bytes m after) where
  pub remove_none : stands n i bytes ≡ false → (m ≡ n) × (after ≡ bytes)
  remove_none h = (rw h at post.count, rw h at post.buffer)

  pub remove_count : i < n → record_length * n ≤ length bytes → m ≡ n - 1
  remove_count h l = rw (stands_true n i bytes h l) at post.count

  pub remove_long : length after ≡ length bytes
  remove_long =
      cases (stands n i bytes)
      (λ h.
      let inside : i < n = ltb-true i n (and_left (ltb i n) (fits n bytes) h) in
      let room : record_length * n ≤ length bytes = leb-true (record_length * n) (length bytes) (and_right (ltb i n) (fits n bytes) h) in
      ap length (rw h at post.buffer)
      ∙ length-paste bytes (record_length * i) (drop (record_length * i + record_length) bytes) (record_length * (n - 1 - i)) (omega (arith, inside, room))
      (omega (arith, inside, room, length-drop (record_length * i + record_length) bytes)))
      (λ h. ap length (remove_none h).1)

  -- of any position: where there is none the records stay
  pub remove_records : record_length * n ≤ length bytes → records m after ≡ without i (records n bytes)
  remove_records l =
      cases (ltb i n)
      (λ h.
      let inside : i < n = ltb-true i n h in
      ap₂ records (remove_count inside l) (rw (stands_true n i bytes inside l) at post.buffer) ∙ records_removed n i bytes inside l)
      (λ h.
      let past : n ≤ i = ltb-false i n h in
      let none = remove_none (stands_past n i bytes past) in
      ap₂ records none.0 none.1 ∙ sym (without_past i (records n bytes) (omega (arith, past, length_records n bytes))))

module _ {n m : ℕ} {new bytes after : List ℕ} (post : AppendPost n new bytes m after) where
  pub append_none : appends n new bytes ≡ false → (m ≡ n) × (after ≡ bytes)
  append_none h = (rw h at post.count, rw h at post.buffer)

  pub append_long : length after ≡ length bytes
  append_long =
      cases (appends n new bytes)
      (λ h.
      let whole : length new % record_length ≡ 0 = eqb-true (length new % record_length) 0 (and_left (eqb (length new % record_length) 0) (fits (n + length new / record_length) bytes) h) in
      let room : record_length * (n + length new / record_length) ≤ length bytes =
      leb-true (record_length * (n + length new / record_length)) (length bytes) (and_right (eqb (length new % record_length) 0) (fits (n + length new / record_length) bytes) h) in
      ap length (rw h at post.buffer)
      ∙ length-paste bytes (record_length * n) new (length new) (omega (arith, whole, room)) (omega arith))
      (λ h. ap length (append_none h).1)

  module _ (k : ℕ) (whole : length new ≡ record_length * k) (room : record_length * (n + k) ≤ length bytes) where
    pub append_count : m ≡ n + k
    append_count = rw (appends_true n k new bytes whole room) at post.count ∙ ap (λ j. n + j) k_is
      where
        k_is : length new / record_length ≡ k
        k_is = omega (arith, whole)

    pub append_records : records m after ≡ records n bytes ++ records k new
    append_records =
        ap₂ records append_count (rw (appends_true n k new bytes whole room) at post.buffer)
        ∙ records_appended n k new bytes whole (omega (arith, room))

module _ {n i m : ℕ} {bytes after : List ℕ} (post : DoublePost n i bytes m after) where
  pub double_none : doubles n i bytes ≡ false → (m ≡ n) × (after ≡ bytes)
  double_none h = (rw h at post.count, rw h at post.buffer)

  pub double_count : i < n → record_length * (n + 1) ≤ length bytes → m ≡ n + 1
  double_count h l = rw (doubles_true n i bytes h l) at post.count

  pub double_long : length after ≡ length bytes
  double_long =
      cases (doubles n i bytes)
      (λ h.
      let inside : i < n = ltb-true i n (and_left (ltb i n) (fits (n + 1) bytes) h) in
      let room : record_length * (n + 1) ≤ length bytes = leb-true (record_length * (n + 1)) (length bytes) (and_right (ltb i n) (fits (n + 1) bytes) h) in
      let eighty : length (record_at i bytes) ≡ record_length = record_long n i bytes inside (omega (arith, room)) in
      ap length (rw h at post.buffer)
      ∙ length-paste bytes (record_length * n) (record_at i bytes) (length (record_at i bytes)) (omega (arith, room, eighty)) (omega arith))
      (λ h. ap length (double_none h).1)

  -- of any position: where there is none the records stay
  pub double_records : record_length * (n + 1) ≤ length bytes → records m after ≡ records n bytes ++ to_list (get_elem? (records n bytes) i)
  unfolding to_list
  double_records l =
      cases (ltb i n)
      (λ h.
      let inside : i < n = ltb-true i n h in
      ap₂ records (double_count inside l) (rw (doubles_true n i bytes inside l) at post.buffer)
      ∙ records_doubled n i bytes inside (omega (arith, l)))
      (λ h.
      let past : n ≤ i = ltb-false i n h in
      let none = double_none (doubles_past n i bytes past) in
      ap₂ records none.0 none.1
      ∙ sym (ap (λ x. records n bytes ++ to_list x) (at_past (records n bytes) i (omega (arith, past, length_records n bytes))) ∙ append-nil (records n bytes)))
