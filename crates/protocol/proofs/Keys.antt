-- Tags by their keys: of tags whose client numbers are bytes, the code's tests are the protocol's. Assumes nothing.
use mathlib.Core.Path.{◌≡◌, refl, sym, ap}
use mathlib.Core.Bool.{Bool, true, false, cond, not}
use mathlib.Core.Option.{some}
use borrow.Author.Tests.{le-leb, lt-leb}
use lib.Dec.{leb}
use Rattle.config.specs.declared.Config.{Config}
use Rattle.config.specs.Config.{Valid}
use Rattle.tag.specs.declared.Tag.{Tag}
use Rattle.tag.specs.Tag as tag
use Rattle.tag.specs.Tag.{above, key}
use Rattle.tag.proofs.Order.{Small, above_key, above_ltb, not_above}
use Rattle.protocol.specs.Server.{at_or_below_floor}
use Rattle.protocol.specs.Tags.{higher}

module _ (cfg : Config) (valid : Valid cfg) (t u : Tag) (st : Small t) (su : Small u) where
  -- the higher of two
  pub higher_key : tag.higher cfg t u ≡ higher (key cfg) t u
  unfolding higher
  higher_key = ap (λ (b : Bool). cond b u t) (above_ltb cfg valid u t su st)

  -- t is at or below the floor u
  pub at-or-below-floor : not (above cfg t u) ≡ at_or_below_floor (key cfg) t (some u)
  unfolding at_or_below_floor
  at-or-below-floor = go (above cfg t u) refl
    where
      go : (x : Bool) → above cfg t u ≡ x → not x ≡ leb (key cfg t) (key cfg u)
      go true h = sym (lt-leb (key cfg t) (key cfg u) (above_key cfg valid t u st su h))
      go false h = sym (le-leb (key cfg t) (key cfg u) (not_above cfg valid t u st su h))
