-- The choices of combinations: they are small; a group's are filled in digit by digit, from four columns that lose a digit each turn, and all
-- are filled in group by group.
use Prim.Native.Nat.{ℕ, ◌+◌, ◌-◌, ◌*◌, ◌/◌, ◌%◌, ◌^◌, ◌<◌, ◌≤◌}
use mathlib.Core.Path.{◌≡◌, refl, sym, ap, subst, ◌∙◌}
use mathlib.Core.List.{List, ◌++◌}
use native.Mathlib.Numerals.{add-one}
use native.Mathlib.Decide.{dec_lt}
use native.Mathlib.Omega.{arith}
use lib.ListN.{length, get_or, take, drop}
use Rattle.laws.specs.Bytes.{tabulate}
use Rattle.laws.specs.Parts.{over}
use Rattle.laws.proofs.Bytes.{get_d_tabulate, length_tabulate}
use Rattle.laws.proofs.Parts.{over_byte, over_byte_after, over_byte_before, over_copied, over_length}
use Rattle.code.specs.inner.Choice.{GroupPost, chosen_lanes, column, halved, square_of}
use Rattle.code.specs.inner.Combine.{Choices, ChoicesOf, Small, choice, choice_at}
use Rattle.code.proofs.Digits.{halves}

-- ---- a choice

-- it depends on 16 coefficients
pub choice_same : (c d : ℕ → ℕ) (b g : ℕ) → g < 4 → ((i : ℕ) → i < 16 → c i ≡ d i) → choice c b g ≡ choice d b g
unfolding choice
choice_same c d b g h e =
    let e0 = e (4 * g) (omega arith) in
    let e1 = e (4 * g + 1) (omega arith) in
    let e2 = e (4 * g + 2) (omega arith) in
    let e3 = e (4 * g + 3) (omega arith) in
    cc

choice_small : (c : ℕ → ℕ) (b g : ℕ) → choice c b g < 16
unfolding choice
choice_small c b g = omega arith

-- choices are small
pub choices_small : (c : ℕ → ℕ → ℕ) (l : List ℕ) → Choices c l → Small l
choices_small c l h i m =
    let q = i / 16 in
    let e : choice_at (q / 4) (q % 4) (i % 16) ≡ i = omega arith in
    let own = h (q / 4) (q % 4) (i % 16) (omega arith) (omega arith) (omega arith) in
    subst (λ n. n < 16) (sym own ∙ ap (λ k. get_or l k 0) e) (choice_small (c (i % 16)) (q / 4) (q % 4))

-- ---- lanes without their last digits

-- lane t is f t without its b last digits
abbrev Shifted : ℕ → (ℕ → ℕ) → List ℕ → Type 0
Shifted b f a = (t : ℕ) → t < 16 → get_or a t 0 ≡ f t / 2 ^ b

shifted_none : (f : ℕ → ℕ) (a : List ℕ) → a ≡ tabulate 16 f → Shifted 0 f a
shifted_none f a e t h =
    let one : f t ≡ f t / 1 = omega arith in ap (λ l. get_or l t 0) e ∙ get_d_tabulate 16 f t 0 h ∙ one

shifted_next : (b : ℕ) (f : ℕ → ℕ) (a r : List ℕ) → Shifted b f a → r ≡ halved a → Shifted (b + 1) f r
unfolding halved
shifted_next b f a r s e t h =
    ap (λ l. get_or l t 0) e ∙ get_d_tabulate 16 (λ t. get_or a t 0 / 2) t 0 h
    ∙ ap (λ x. x / 2) (s t h)
    ∙ halves (f t) b
    ∙ ap (λ n. f t / 2 ^ n) (sym (add-one b))

-- ---- the choices of group g, digit by digit

-- before this digit, with m t i the coefficient of row i in combination t
pub record Turned (g : ℕ) (m : ℕ → ℕ → ℕ) (before : List ℕ) (digit : ℕ) (now a b c d : List ℕ) : Type 0 where
  pub size : length now ≡ 512
  pub first : Shifted digit (λ t. m t (4 * g)) a
  pub second : Shifted digit (λ t. m t (4 * g + 1)) b
  pub third : Shifted digit (λ t. m t (4 * g + 2)) c
  pub fourth : Shifted digit (λ t. m t (4 * g + 3)) d
  pub here : (e t : ℕ) → e < digit → t < 16 → get_or now (choice_at e g t) 0 ≡ choice (m t) e g
  pub there : (e h t : ℕ) → e < 8 → h < 4 → t < 16 → (h ≡ g → ⊥) → get_or now (choice_at e h t) 0 ≡ get_or before (choice_at e h t) 0

-- before the first digit
pub turned_none : (g : ℕ) (square : List (List ℕ)) (before a b c d : List ℕ) → length before ≡ 512
    → a ≡ column square (4 * g) → b ≡ column square (4 * g + 1) → c ≡ column square (4 * g + 2) → d ≡ column square (4 * g + 3)
    → Turned g (square_of square) before 0 before a b c d
unfolding column
turned_none g square before a b c d size ea eb ec ed = record {
  size = size;
  first = shifted_none (λ t. square_of square t (4 * g)) a ea;
  second = shifted_none (λ t. square_of square t (4 * g + 1)) b eb;
  third = shifted_none (λ t. square_of square t (4 * g + 2)) c ec;
  fourth = shifted_none (λ t. square_of square t (4 * g + 3)) d ed;
  here = λ e t h. absurd (omega arith);
  there = λ e h t le lh lt ne. refl;
}

-- four lanes make the choices of a digit
chosen_at : (g : ℕ) (m : ℕ → ℕ → ℕ) (before : List ℕ) (digit : ℕ) (now a b c d : List ℕ) → Turned g m before digit now a b c d
    → (t : ℕ) → t < 16 → get_or (chosen_lanes a b c d) t 0 ≡ choice (m t) digit g
unfolding chosen_lanes choice
chosen_at g m before digit now a b c d u t h =
    let e0 = u.first t h in
    let e1 = u.second t h in
    let e2 = u.third t h in
    let e3 = u.fourth t h in
    get_d_tabulate 16 (λ t. get_or a t 0 % 2 + get_or b t 0 % 2 * 2 + get_or c t 0 % 2 * 4 + get_or d t 0 % 2 * 8) t 0 h ∙ cc

chosen_length : (a b c d : List ℕ) → length (chosen_lanes a b c d) ≡ 16
unfolding chosen_lanes
chosen_length a b c d = length_tabulate 16 _

-- the choices of a digit, put in their place
module _ (g : ℕ) (m : ℕ → ℕ → ℕ) (before : List ℕ) (digit : ℕ) (now a b c d : List ℕ) (u : Turned g m before digit now a b c d)
    (low : digit < 8) (group : g < 4) where
  abbrev place : ℕ
  place = 64 * digit + 16 * g

  abbrev lanes : List ℕ
  lanes = chosen_lanes a b c d

  room : place + 16 ≤ length now
  room = omega (arith, u.size)

  put_here : (e t : ℕ) → e < digit + 1 → t < 16 → get_or (over place 16 lanes now) (choice_at e g t) 0 ≡ choice (m t) e g
  put_here e t h l = go (dec_lt e digit)
    where
      go : Dec (e < digit) → get_or (over place 16 lanes now) (choice_at e g t) 0 ≡ choice (m t) e g
      go (yes y) = over_byte_before place 16 lanes now (chosen_length a b c d) room (choice_at e g t) (omega arith) ∙ u.here e t y l
      go (no n) =
          let same : digit ≡ e = omega arith in
          subst (λ x. get_or (over place 16 lanes now) (choice_at x g t) 0 ≡ choice (m t) x g) same
          (over_byte place 16 lanes now (chosen_length a b c d) room t l ∙ chosen_at g m before digit now a b c d u t l)

  put_there : (e h t : ℕ) → e < 8 → h < 4 → t < 16 → (h ≡ g → ⊥)
      → get_or (over place 16 lanes now) (choice_at e h t) 0 ≡ get_or before (choice_at e h t) 0
  put_there e h t le lh lt ne = go (dec_lt (choice_at e h t) place) ∙ u.there e h t le lh lt ne
    where
      go : Dec (choice_at e h t < place) → get_or (over place 16 lanes now) (choice_at e h t) 0 ≡ get_or now (choice_at e h t) 0
      go (yes y) = over_byte_before place 16 lanes now (chosen_length a b c d) room (choice_at e h t) y
      go (no n) = over_byte_after place 16 lanes now (chosen_length a b c d) room (choice_at e h t) (omega (arith, ne))

  -- a turn: the choices of a digit are copied to their place, and each lane is halved
  pub turned_next : (made copied a' b' c' d' : List ℕ) → made ≡ lanes
      → copied ≡ take (length made) made ++ drop (length made) (take (place + 16 - place) (drop place now))
      → a' ≡ halved a → b' ≡ halved b → c' ≡ halved c → d' ≡ halved d
      → Turned g m before (digit + 1) (take place now ++ (copied ++ drop (place + 16 - place) (drop place now))) a' b' c' d'
  turned_next made copied a' b' c' d' em ek ea eb ec ed =
      subst (λ l. Turned g m before (digit + 1) l a' b' c' d')
      (sym (over_copied place 16 made now copied (ap length em ∙ chosen_length a b c d) room ek ∙ ap (λ l. over place 16 l now) em))
      (record {
        size = over_length place 16 lanes now (chosen_length a b c d) room ∙ u.size;
        first = shifted_next digit (λ t. m t (4 * g)) a a' u.first ea;
        second = shifted_next digit (λ t. m t (4 * g + 1)) b b' u.second eb;
        third = shifted_next digit (λ t. m t (4 * g + 2)) c c' u.third ec;
        fourth = shifted_next digit (λ t. m t (4 * g + 3)) d d' u.fourth ed;
        here = put_here;
        there = put_there;
      })

-- after the last turn
pub turned_all : (g : ℕ) (m : ℕ → ℕ → ℕ) (before : List ℕ) (now a b c d : List ℕ) → Turned g m before 8 now a b c d
    → GroupPost g m before now
turned_all g m before now a b c d u = record { size = u.size; here = u.here; there = u.there }

-- ---- the choices of all groups, group by group

-- those of the groups before g stand
abbrev pub Chosen : (ℕ → ℕ → ℕ) → ℕ → List ℕ → Type 0
Chosen m g l = (b h t : ℕ) → b < 8 → h < g → t < 16 → get_or l (choice_at b h t) 0 ≡ choice (m t) b h

-- a turn: group g is filled in
pub chosen_next : (m : ℕ → ℕ → ℕ) (g : ℕ) (before after : List ℕ) → g < 4 → Chosen m g before → GroupPost g m before after
    → Chosen m (g + 1) after
chosen_next m g before after lg old new b h t lb lh lt = go (dec_lt h g)
  where
    go : Dec (h < g) → get_or after (choice_at b h t) 0 ≡ choice (m t) b h
    go (yes y) = new.there b h t lb (omega arith) lt (λ e. omega arith) ∙ old b h t lb y lt
    go (no n) =
        let same : g ≡ h = omega arith in
        subst (λ x. get_or after (choice_at b x t) 0 ≡ choice (m t) b x) same (new.here b t lb lt)

-- after the last turn
pub chosen_all : (m : ℕ → ℕ → ℕ) (l : List ℕ) → Chosen m 4 l → ChoicesOf m l
chosen_all m l all = record { chosen = all; small = choices_small m l all }
