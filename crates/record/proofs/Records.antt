-- Records look no further than their end. Assumes nothing.
use Prim.Native.Nat.{ℕ, zero, suc, ◌*◌, ◌≤◌}
use mathlib.Core.Path.{◌≡◌, refl, ap, ap₂, ◌∙◌}
use mathlib.Core.List.{List, ◌∷◌, ◌++◌}
use native.Mathlib.Omega.{arith}
use lib.ListN.{length, drop, length-drop}
use lib.Seq.{drop-append-le, take-append-le}
use Rattle.config.specs.Config.{record_length}
use Rattle.record.specs.Records.{records}

pub records_front : (n : ℕ) (xs ys : List ℕ) → record_length * n ≤ length xs → records n (xs ++ ys) ≡ records n xs
unfolding records
records_front zero xs ys h = refl
records_front (suc n) xs ys h =
    ap₂ ◌∷◌ (take-append-le record_length xs ys (omega (arith, h)))
    (ap (records n) (drop-append-le record_length xs ys (omega (arith, h)))
    ∙ records_front n (drop record_length xs) ys (omega (arith, h, length-drop record_length xs)))
