-- Lists laid into a buffer: a loop that lays them, and what the buffer then has: its length stays, each list stands in its place, and the bytes
-- between them stay.
use Prim.Native.Nat.{ℕ, zero, suc, ◌+◌, ◌*◌, ◌-◌, ◌<◌, ◌≤◌}
use mathlib.Core.Logic.{◌⊎◌, ⊎_elim, inl, inr}
use mathlib.Core.Path.{◌≡◌, refl, sym, ap, subst, ◌∙◌}
use mathlib.Core.List.{List, ◌++◌}
use native.Mathlib.Nat.{mul-le-mul_right}
use native.Mathlib.Numerals.{add-one}
use native.Mathlib.Omega.{arith}
use native.Mathlib.Decide.{dec_lt, ℕ_discrete}
use lib.ListN.{length, get_or, take, drop}
use Rattle.laws.specs.Parts.{over}
use Rattle.laws.proofs.Parts.{over_byte, over_byte_after, over_byte_before, over_length, over_lent, part_fits}
use Rattle.code.specs.Laid.{laid}

-- ---- a loop

-- place t lies within a buffer that has n of them
pub place_fits : (e offset distance t n size : ℕ) → offset + e ≤ distance → t < n → n * distance ≤ size
    → (t * distance ≤ size) × (offset + t * distance ≤ size) × (offset + t * distance + e ≤ size)
place_fits e offset distance t n size fits h room =
    let l = part_fits t n distance h in (omega arith, omega arith, omega arith)

module _ (at e : ℕ) (now row : List ℕ) where
  -- the buffer, after e bytes from `at` on are lent and come back as the row
  abbrev pub back : List ℕ
  back = take at now ++ (row ++ drop (at + e - at) (drop at now))

  pub back_long : length row ≡ e → at + e ≤ length now → length back ≡ length now
  back_long long room = ap length (over_lent at e row now) ∙ over_length at e row now long room

-- a loop's turn
pub laid_next : (f : ℕ → List ℕ) (e offset distance t : ℕ) (before now row : List ℕ) → now ≡ laid f e offset distance t before → row ≡ f t
    → back (offset + t * distance) e now row ≡ laid f e offset distance (t + 1) before
unfolding laid
laid_next f e offset distance t before now row so is =
    over_lent (offset + t * distance) e row now
    ∙ ap (λ l. over (offset + t * distance) e l now) is
    ∙ ap (over (offset + t * distance) e (f t)) so
    ∙ ap (λ n. laid f e offset distance n before) (sym (add-one t))

-- ---- the buffer afterwards

-- the places of n + 1 lists are in a buffer where those of n are, and the last of them is
step_room : (n e offset distance size : ℕ) → offset + e ≤ distance → suc n * distance ≤ size
    → (n * distance ≤ size) × (offset + n * distance + e ≤ size)
step_room n e offset distance size fits room =
    let last = part_fits n (suc n) distance (omega arith) in
    (omega arith, omega arith)

-- a byte of record t that is not of its list is before or behind that of record n
elsewhere : (n t j e offset distance : ℕ) → offset + e ≤ distance → j < distance → (j < offset) ⊎ (offset + e ≤ j)
    → (t * distance + j < offset + n * distance) ⊎ (offset + n * distance + e ≤ t * distance + j)
elsewhere n t j e offset distance fits l (inl h) =
    elim (dec_lt n t) as (λ _. (t * distance + j < offset + n * distance) ⊎ (offset + n * distance + e ≤ t * distance + j)) [
      | yes above ↦ inr (omega (arith, part_fits n t distance above))
      | no not ↦ let below : t ≤ n = omega (arith, not) in inl (omega (arith, mul-le-mul_right distance below))
    ]
elsewhere n t j e offset distance fits l (inr h) =
    elim (dec_lt t n) as (λ _. (t * distance + j < offset + n * distance) ⊎ (offset + n * distance + e ≤ t * distance + j)) [
      | yes below ↦ inl (omega (arith, part_fits t n distance below))
      | no not ↦ let above : n ≤ t = omega (arith, not) in inr (omega (arith, mul-le-mul_right distance above))
    ]

module _ (f : ℕ → List ℕ) (e offset distance : ℕ) (buffer : List ℕ) (long : (t : ℕ) → length (f t) ≡ e) (fits : offset + e ≤ distance) where
  abbrev first : ℕ → List ℕ
  first n = laid f e offset distance n buffer

  pub laid_length : (n : ℕ) → n * distance ≤ length buffer → length (first n) ≡ length buffer
  unfolding laid
  laid_length zero room = refl
  laid_length (suc n) room =
      let r = step_room n e offset distance (length buffer) fits room in
      let same = laid_length n r.0 in
      over_length (offset + n * distance) e (f n) (first n) (long n) (omega arith) ∙ same

  -- place n is in the buffer
  last_room : (n : ℕ) → suc n * distance ≤ length buffer → offset + n * distance + e ≤ length (first n)
  last_room n room =
      let r = step_room n e offset distance (length buffer) fits room in
      omega (arith, laid_length n r.0)

  -- list n stands in its place
  last_byte : (n j : ℕ) → suc n * distance ≤ length buffer → j < e → get_or (first (suc n)) (n * distance + (offset + j)) 0 ≡ get_or (f n) j 0
  unfolding laid
  last_byte n j room h =
      let place : n * distance + (offset + j) ≡ offset + n * distance + j = omega arith in
      ap (λ (i : ℕ). get_or (first (suc n)) i 0) place ∙ over_byte (offset + n * distance) e (f n) (first n) (long n) (last_room n room) j h

  -- the bytes before and behind it stay
  before_last : (n i : ℕ) → suc n * distance ≤ length buffer → i < offset + n * distance → get_or (first (suc n)) i 0 ≡ get_or (first n) i 0
  unfolding laid
  before_last n i room h =
      over_byte_before (offset + n * distance) e (f n) (first n) (long n) (last_room n room) i h

  behind_last : (n i : ℕ) → suc n * distance ≤ length buffer → offset + n * distance + e ≤ i → get_or (first (suc n)) i 0 ≡ get_or (first n) i 0
  unfolding laid
  behind_last n i room h =
      over_byte_after (offset + n * distance) e (f n) (first n) (long n) (last_room n room) i h

  pub laid_byte : (n t j : ℕ) → n * distance ≤ length buffer → t < n → j < e → get_or (first n) (t * distance + (offset + j)) 0 ≡ get_or (f t) j 0
  laid_byte zero t j room l h = absurd (omega arith)
  laid_byte (suc n) t j room l h =
      elim (ℕ_discrete t n) as (λ _. get_or (first (suc n)) (t * distance + (offset + j)) 0 ≡ get_or (f t) j 0) [
        | yes same ↦
            subst (λ (m : ℕ). get_or (first (suc n)) (m * distance + (offset + j)) 0 ≡ get_or (f m) j 0) (omega arith) (last_byte n j room h)
        | no other ↦
            let under : t < n = omega (arith, other) in
            before_last n (t * distance + (offset + j)) room (omega (arith, part_fits t n distance under))
            ∙ laid_byte n t j (step_room n e offset distance (length buffer) fits room).0 under h
      ]

  -- a byte of record t that is not of its list
  pub laid_between : (n t j : ℕ) → n * distance ≤ length buffer → j < distance → (j < offset) ⊎ (offset + e ≤ j)
      → get_or (first n) (t * distance + j) 0 ≡ get_or buffer (t * distance + j) 0
  unfolding laid
  laid_between zero t j room l out = refl
  laid_between (suc n) t j room l out =
      ⊎_elim (before_last n (t * distance + j) room) (behind_last n (t * distance + j) room) (elsewhere n t j e offset distance fits l out)
      ∙ laid_between n t j (step_room n e offset distance (length buffer) fits room).0 l out
