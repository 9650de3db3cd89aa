-- The places of stored tags, and of their elements in the store.
use Rattle.std.specs.Prelude.{◌≡◌, ℕ, suc, ◌*◌, ◌≤◌, cond, List, [], ◌∷◌, length}
use Rattle.config.specs.declared.Config.{Config}
use Rattle.tag.specs.declared.Tag.{Tag}
use Rattle.tag.specs.Tag.{above}
use Rattle.server.specs.declared.places.Least.{Least}

-- the lowest of t and of tags, with its place: t's is p, the tags' are i and on
unfoldable pub least_from : Config → Tag → ℕ → ℕ → List Tag → Least
least_from cfg t p i [] = record { tag = t; place = p }
least_from cfg t p i (x ∷ xs) = cond (above cfg t x) (least_from cfg x i (suc i) xs) (least_from cfg t p (suc i) xs)

-- a store has room for n elements like this one
pub record Room (cfg : Config) (n : ℕ) (element store : List ℕ) : Type 0 where
  pub e_high : cfg.e ≤ 64
  pub sized : length element ≡ cfg.e
  pub n_high : n ≤ 8
  pub fits : n * cfg.e ≤ length store
