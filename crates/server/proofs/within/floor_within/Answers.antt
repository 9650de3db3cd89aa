use Rattle.std.proofs.Common.{◌≡◌, ℕ, ◌+◌, true, false, List, sym, ap, ◌∙◌, eq-eqb, ne_eqb}
use Rattle.std.specs.Prelude.{Option as Given, Some}
use borrow.Author.Tests.{not-true, not-false}
use Rattle.config.specs.declared.Config.{Config}
use Rattle.tag.specs.declared.Tag.{Tag}
use Rattle.tag.specs.Tag.{above, allowed}
use Rattle.server.specs.Within.{every, floor_within}
use Rattle.server.specs.View.{each, floor_of, tag_at}
use Rattle.server.proofs.Each.{length_each}
use Rattle.server.proofs.within.floor_within.Goals as goal

-- the floor's clauses, by the one that fails
module _ (cfg : Config) (f : Tag) (floor : Given Tag) (is : floor ≡ Some f) (tags : List Tag) (count : ℕ) where
  abbrev ts : List Tag
  ts = each (tag_at tags) 0 count

  not-allowed : allowed cfg.c f ≡ false → false ≡ floor_within cfg (floor_of floor) ts
  unfolding floor_within
  not-allowed h = rw (is, h)

  not_full : allowed cfg.c f ≡ true → (count ≡ cfg.d + 1 → ⊥) → false ≡ floor_within cfg (floor_of floor) ts
  unfolding floor_within
  not_full h n = rw (is, h, length_each (tag_at tags) 0 count, ne_eqb count (cfg.d + 1) n)

  full : allowed cfg.c f ≡ true → count ≡ cfg.d + 1 → every (λ (t : Tag). above cfg t f) ts ≡ floor_within cfg (floor_of floor) ts
  unfolding floor_within
  full h n = rw (is, h, length_each (tag_at tags) 0 count, eq-eqb count (cfg.d + 1) n)

pub returns-in_default : goal.returns-in_default
unfolding floor_within
returns-in_default c = let a = c.args in ap (λ (f : Given Tag). floor_within a.cfg (floor_of f) (each (tag_at a.tags) 0 a.count)) (sym c.in_default.is)

pub returns-then-not-allowed : goal.returns-then-not-allowed
returns-then-not-allowed c =
    let a = c.args in
    not-allowed a.cfg _ a.floor c.in-Some.is a.tags a.count (sym c.allowed.ensures ∙ not-true _ c.if-not-allowed.true-raw)

pub returns-then-count-cfg : goal.returns-then-count-cfg
returns-then-count-cfg c =
    let a = c.args in
    not_full a.cfg _ a.floor c.in-Some.is a.tags a.count (sym c.allowed.ensures ∙ not-false _ c.if-not-allowed.false-raw) c.if-count-cfg.true

pub returns : goal.returns
returns c =
    let a = c.args in
    c.each_above.ensures
    ∙ full a.cfg _ a.floor c.in-Some.is a.tags a.count (sym c.allowed.ensures ∙ not-false _ c.if-not-allowed.false-raw) c.if-count-cfg.false
