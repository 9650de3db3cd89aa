use Rattle.std.proofs.Common.{◌≡◌, ℕ, ◌+◌, ◌*◌, ◌<◌, ◌≤◌, Bool, leb, List, length, set, sym, refl, ap, ◌∙◌, mul-le-mul_right, arith, le-leb}
use borrow.Author.Tests.{lt-leb}
use Rattle.laws.specs.Parts.{over}
use Rattle.config.specs.declared.Config.{Config}
use Rattle.tag.specs.declared.Tag.{Tag}
use Rattle.server.specs.declared.State.{State}
use Rattle.server.specs.declared.places.Least.{Least}
use Rattle.server.specs.inner.Keep.{DropSmallestPost, dropped, floored, lowest}
use Rattle.server.proofs.Owned.{eight_places}
use Rattle.server.proofs.serve.drop_smallest.Goals as goal

-- the lowest is the tag itself, or another
module _ (cfg : Config) (s : State) (t : Tag) (n : ℕ) (element before after : List ℕ) (l : Least) (is : l ≡ lowest cfg s t)
    (eight : (length s.tags ≡ 8) × (length s.lengths ≡ 8)) where
  itself : s.count ≤ l.place → after ≡ before → DropSmallestPost cfg s t n element before after (floored s l.tag s.tags s.lengths)
  unfolding dropped
  itself h e =
      let b : leb s.count (lowest cfg s t).place ≡ Bool.true = ap (λ (x : Least). leb s.count x.place) (sym is) ∙ le-leb s.count l.place h in
      record {
        state = rw b (ap (λ (x : Least). floored s x.tag s.tags s.lengths) is);
        store = rw b e;
        eight = eight;
      }

  another : l.place < s.count → after ≡ over (l.place * cfg.e) cfg.e element before
      → DropSmallestPost cfg s t n element before after (floored s l.tag (set s.tags l.place t) (set s.lengths l.place n))
  unfolding dropped
  another h e =
      let b : leb s.count (lowest cfg s t).place ≡ Bool.false = ap (λ (x : Least). leb s.count x.place) (sym is) ∙ lt-leb s.count l.place h in
      record {
        state = rw b (ap (λ (x : Least). floored s x.tag (set s.tags x.place t) (set s.lengths x.place n)) is);
        store = rw b (e ∙ ap (λ (x : Least). over (x.place * cfg.e) cfg.e element before) is);
        eight = eight;
      }

pub returns-then-count-place : goal.returns-then-count-place
returns-then-count-place c =
    let a = c.args in
    itself a.cfg a.s a.t a.length _ _ _ _ c.lowest-low.ensures (eight_places a.s _ c.well_formed.1.0) c.if-count-place.true refl

pub put-requires : goal.put-requires
put-requires c =
    let s = c in
    let p = c.lowest-low.result.place in
    let m : (p + 1) * s.args.cfg.e ≤ s.args.s.count * s.args.cfg.e = mul-le-mul_right s.args.cfg.e (omega (arith, c.if-count-place.false)) in
    record {
      e_high = s.requires.e_high;
      sized = s.requires.sized;
      n_high = omega (arith, s.requires.n_high, c.if-count-place.false);
      fits = omega (arith, s.requires.fits);
    }

pub returns : goal.returns
returns c =
    let a = c.args in
    another a.cfg a.s a.t a.length _ _ _ _ c.lowest-low.ensures (eight_places a.s _ c.well_formed.1.0) c.if-count-place.false c.put.ensures
