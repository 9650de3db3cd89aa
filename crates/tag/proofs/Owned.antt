-- What types tell: an array is made of values of its elements' type, and a tag's number has four bytes. Assumes nothing.
use Prim.Native.Nat.{ℕ, zero, suc, ◌≤◌, ◌<◌}
use mathlib.Core.Path.{sym, subst}
use mathlib.Core.List.{List, [], ◌∷◌, map}
use native.Mathlib.Omega.{arith}
use lib.ListN.{length, get_or, length-map, get_or-map}
use mir.Val.{Val}
use denote.Array.{each}
use denote.Laws.{Is}
use denote.RattleType.{RattleType}
use denote.Shadow.{shadow}
use denote.Struct.Field.{Field, array_field}
use Rattle.tag.specs.declared.Tag.{Tag}
use Rattle.tag.specs.contracts.Tag as tag

pub each_at : (R : RattleType) (xs : List R.Denot) (us : List Val) → shadow (each R.Denot R.own_val xs us)
    → (j : ℕ) → j < length xs → (d : R.Denot) → (u : Val) × Is R (get_or xs j d) (u ∷ [])
each_at R [] us h j l d = absurd (omega (arith, l))
each_at R (x ∷ xs) [] h j l d = absurd h
each_at R (x ∷ xs) (u ∷ us) h zero l d = (u, h.0)
each_at R (x ∷ xs) (u ∷ us) h (suc j) l d = each_at R xs us h.1 j (omega (arith, l)) d

-- the same of an array in a struct
pub field_at : (F : Field) (n : ℕ) (xs : List F.Value) (vs : List Val) → Is (array_field F n).row (map F.into xs) vs
    → (j : ℕ) → j < length xs → (d : F.Value) → (u : Val) × Is F.row (F.into (get_or xs j d)) (u ∷ [])
field_at F n xs vs p j l d =
    subst (λ z. (u : Val) × Is F.row z (u ∷ [])) (get_or-map F.into xs j d)
    (each_at F.row (map F.into xs) p.0 p.1.1 j (subst (λ k. j < k) (sym (length-map xs F.into)) l) (F.into d))

-- a tag's number
pub tag_number : (t : Tag) (vs : List Val) → Is (tag.the_field).row ((tag.the_field).into t) vs → t.number ≤ 4294967295
tag_number t vs p = omega (arith, p.1.1.0.1)
