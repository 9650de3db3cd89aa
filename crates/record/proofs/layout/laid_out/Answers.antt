use mathlib.Core.Path.{◌≡◌, sym, ◌∙◌, ap}
use mathlib.Core.Bool.{true, false, and-true}
use mathlib.Core.List.{List}
use Prim.Native.Nat.{ℕ, ◌-◌, ◌≤◌, ◌<◌}
use native.Mathlib.Omega.{arith}
use lib.Dec.{eqb}
use lib.ListN.{length, get_or, take, drop, length-drop}
use lib.Seq.{take_all}
use borrow.Author.Tests.{eq-eqb, le-leb, lt-leb, ne_eqb}
use Rattle.config.specs.declared.Config.{Config}
use Rattle.config.proofs.Questions.{within_true}
use Rattle.record.proofs.Bytes.{end_in}
use Rattle.record.specs.inner.Parse.{laid_out}
use Rattle.record.specs.Record.{all, all_zero, element_end, is_kind, present_at}
use Rattle.record.proofs.layout.laid_out.Goals as goal

module _ (cfg : Config) (bs : List ℕ) where
  no_kind : get_or bs 0 0 ≡ 0 → false ≡ laid_out cfg bs
  unfolding laid_out all
  no_kind z = rw (lt-leb 1 (get_or bs 0 0) (omega arith))

  module _ (low : get_or bs 0 0 ≡ 0 → ⊥) where
    high-kind : 9 < get_or bs 0 0 → false ≡ laid_out cfg bs
    unfolding laid_out all
    high-kind h = rw (le-leb 1 (get_or bs 0 0) (omega arith), lt-leb (get_or bs 0 0) 9 h)

    module _ (high : get_or bs 0 0 ≤ 9) where
      kind-in : is_kind (get_or bs 0 0) ≡ true
      kind-in = within_true 1 9 (get_or bs 0 0) (omega arith) high

      no_flag : 1 < get_or bs 3 0 → false ≡ laid_out cfg bs
      unfolding laid_out all
      no_flag h = rw (kind-in, lt-leb (get_or bs 3 0) 1 h)

      module _ (flag : get_or bs 3 0 ≤ 1) where
        not-zero : (get_or bs 15 0 ≡ 0 → ⊥) → false ≡ laid_out cfg bs
        unfolding laid_out all
        not-zero z = rw (kind-in, le-leb (get_or bs 3 0) 1 flag, ne_eqb (get_or bs 15 0) 0 z)

        last : get_or bs 15 0 ≡ 0 → (end : ℕ) → end ≡ element_end cfg (present_at bs)
            → all_zero (take (length bs - end) (drop end bs)) ≡ laid_out cfg bs
        unfolding laid_out all
        last z end e =
            rw (kind-in, le-leb (get_or bs 3 0) 1 flag, eq-eqb (get_or bs 15 0) 0 z, ← e, take_all (length bs - end) (drop end bs) (omega (arith, length-drop end bs)))
            (sym (and-true (all_zero (drop end bs))))

        absent : get_or bs 15 0 ≡ 0 → length bs ≡ 80 → get_or bs 3 0 ≡ 0 → all_zero (take 64 (drop 16 bs)) ≡ laid_out cfg bs
        absent z eighty none =
            ap (λ (n : ℕ). all_zero (take (n - 16) (drop 16 bs))) (sym eighty)
            ∙ last z 16 (ap (λ (n : ℕ). element_end cfg (eqb n 1)) (sym none))

pub returns-then-buf-eq0 : goal.returns-then-buf-eq0
returns-then-buf-eq0 c = no_kind _ _ c.if-buf-eq0.true

pub returns-then-buf-gt9 : goal.returns-then-buf-gt9
returns-then-buf-gt9 c = high-kind _ _ c.if-buf-eq0.false c.if-buf-gt9.true

pub returns-then-buf-gt1 : goal.returns-then-buf-gt1
returns-then-buf-gt1 c = no_flag _ _ c.if-buf-eq0.false c.if-buf-gt9.false c.if-buf-gt1.true

pub returns-then-buf-ne0 : goal.returns-then-buf-ne0
returns-then-buf-ne0 c =
    let b = c in
    not-zero _ _ b.if-buf-eq0.false b.if-buf-gt9.false b.if-buf-gt1.false
    c.if-buf-ne0.true

pub returns-then-buf-eq0-2 : goal.returns-then-buf-eq0-2
returns-then-buf-eq0-2 c =
    let d = c in
    let b = d in
    let s = b in
    c.zero.ensures
    ∙ absent _ _ b.if-buf-eq0.false b.if-buf-gt9.false b.if-buf-gt1.false
    d.if-buf-ne0.false s.requires.eighty c.if-buf-eq0-2.true

pub slice_bounds-zero-count-2 : goal.slice_bounds-zero-count-2
slice_bounds-zero-count-2 c =
    let s = c in
    end_in (present_at s.args.buf.now) s.requires.valid s.requires.eighty c.element_end-end.ensures

pub slice_bounds-zero-start-2 : goal.slice_bounds-zero-start-2
slice_bounds-zero-start-2 c = slice_bounds-zero-count-2 c

pub returns : goal.returns
returns c =
    let d = c in
    let b = d in
    c.zero-2.ensures
    ∙ last _ _ b.if-buf-eq0.false b.if-buf-gt9.false b.if-buf-gt1.false
    d.if-buf-ne0.false
    _ c.element_end-end.ensures
