-- Owners that move up by one, and owners that are filled in: what each call then ensures. Assumes nothing.
use Prim.Native.Nat.{ℕ, ◌+◌, ◌-◌, ◌≤◌, ◌<◌}
use mathlib.Core.Path.{◌≡◌, ap, ◌∙◌}
use mathlib.Core.List.{List, ◌++◌}
use native.Mathlib.Omega.{arith}
use lib.ListN.{length, take, drop, replicate, length-drop, length-replicate}
use lib.Seq.{paste, length-paste, take-paste, drop-paste, take-take}
use borrow.Rule.Slice.PartMut.{put_mid}
use Rattle.std.proofs.lemmas.Grind.{common_steps}
use Rattle.std.proofs.lemmas.Slice.{drop-put_mid, take-put_mid}
use Rattle.laws.specs.Lists.{without}
use Rattle.laws.proofs.Lists.{drop_take}
use Rattle.flight.specs.Owners.{FilledPost, RemovedPost}

-- those behind place i, up to place n, move up
pub removed_there : (n i : ℕ) (l : List ℕ) → i < n → n ≤ length l → RemovedPost n i l (paste l i (drop (i + 1) l) (n - (i + 1)))
unfolding without
removed_there n i l h f =
    let w = n - (i + 1) in
    let s = drop (i + 1) l in
    let after = paste l i s w in
    let front : i ≤ length l = omega (arith, h, f) in
    let enough : w ≤ length s = omega (arith, h, f, length-drop (i + 1) l) in
    let whole : n - 1 ≡ i + w = omega (arith, h) in
    let all : n ≡ i + 1 + w = omega (arith, h) in
    let one_more : n ≡ i + w + 1 = omega (arith, h) in
    record {
      long = length-paste l i s w (omega (arith, h, f)) enough;
      left = λ _ _. grind (arith, common_steps, take-paste, drop_take, take-take);
      behind = grind (arith, common_steps, drop-paste);
      same = λ none. absurd (none h f);
    }

-- those from place low up to place high are filled in
pub filled_there : (low high b : ℕ) (l ys : List ℕ) → low ≤ high → high ≤ length l → ys ≡ replicate (high - low) b
    → FilledPost low high b l (put_mid low (high - low) l ys)
filled_there low high b l ys h f e =
    let w : length ys ≡ high - low = rw e (length-replicate (high - low) b) in
    let front : low ≤ length l = omega (arith, h, f) in
    record {
      long = grind (arith, common_steps);
      filled = λ _ _. take-put_mid low (high - low) l ys high (omega (arith, w, h)) front ∙ ap (λ x. take low l ++ x) e;
      behind = drop-put_mid low (high - low) l ys high (omega (arith, h)) front w;
      same = λ none. absurd (none h f);
    }
