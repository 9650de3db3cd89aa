-- What a lane holds after a step.
use Prim.Native.Nat.{ℕ, ◌<◌, ◌≤◌}
use mathlib.Core.Path.{◌≡◌, ◌∙◌}
use mathlib.Core.List.{List}
use native.Mathlib.Decide.{dec_lt}
use native.Mathlib.Omega.{arith}
use lib.ListN.{get_or, take, get_or-eq_default}
use lib.Seq.{get_or-take, length-take-le}
use Rattle.field.specs.Field.{plus, times}
use Rattle.laws.specs.Bytes.{tabulate}
use Rattle.code.specs.inner.Lanes.{AdvancePre, InvertPre, advanced, numbers, scaled_lanes}
use Rattle.laws.proofs.Bytes.{get_d_tabulate, length_tabulate}

pub advanced_at : (x s c : List ℕ) (t : ℕ) → t < 16 → get_or (advanced x s c) t 0 ≡ plus (get_or c t 0) (times (get_or s t 0) (get_or x t 0))
unfolding advanced
advanced_at x s c t h = get_d_tabulate 16 (λ i. plus (get_or c i 0) (times (get_or s i 0) (get_or x i 0))) t 0 h

pub multiplied_at : (x d : List ℕ) (t : ℕ) → t < 16 → get_or (scaled_lanes x d) t 0 ≡ times (get_or d t 0) (get_or x t 0)
unfolding scaled_lanes
multiplied_at x d t h = get_d_tabulate 16 (λ i. times (get_or d i 0) (get_or x i 0)) t 0 h

pub numbers_at : (k : ℕ) (servers : List ℕ) (r : ℕ) → k ≤ 16 → r < k → get_or (numbers k servers) r 0 ≡ get_or servers r 0
unfolding numbers
numbers_at k servers r high h =
    get_d_tabulate 16 (λ i. get_or (take k servers) i 0) r 0 (omega arith) ∙ get_or-take k servers r 0 h

-- a server's number is at most 16, and there is none in the other lanes
pub numbers_small : (k : ℕ) (servers : List ℕ) → InvertPre k servers → AdvancePre (numbers k servers)
unfolding numbers
numbers_small k servers u t = go (dec_lt t 16) (dec_lt t k)
  where
    go : Dec (t < 16) → Dec (t < k) → get_or (tabulate 16 (λ i. get_or (take k servers) i 0)) t 0 < 32
    go (yes l) (yes m) =
        omega (arith, get_d_tabulate 16 (λ i. get_or (take k servers) i 0) t 0 l, get_or-take k servers t 0 m, u.server_high t m)
    go (yes l) (no m) =
        omega (
          arith,
          get_d_tabulate 16 (λ i. get_or (take k servers) i 0) t 0 l,
          get_or-eq_default (take k servers) 0 {n = t} (rw (length-take-le k servers u.enough) (omega arith)),
        )
    go (no l) m =
        omega (arith, get_or-eq_default (tabulate 16 (λ i. get_or (take k servers) i 0)) 0 {n = t} (rw length_tabulate (omega arith)))
