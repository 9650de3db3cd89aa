-- What the quick tests of question 6 show.
use Rattle.std.specs.Prelude.{◌≡◌, ℕ, ◌+◌, ◌*◌, ◌%◌, ◌≤◌, Bool, true, ◌&&◌, List, ◌==◌, nat_lt}
use Rattle.std.proofs.Math.Option.{Option, none, some}
use Rattle.config.specs.declared.Config.{Config}
use Rattle.tag.specs.declared.Tag.{Tag}
use Rattle.tag.specs.Tag.{allowed}
use Rattle.server.specs.Within.{every, once}

-- t has a higher number than the floor, if there is one: so it is above it
abbrev pub over_floor : Option Tag → Tag → Bool
over_floor none t = true
over_floor (some f) t = nat_lt f.number t.number

-- where there is a floor, it is within its limit, and n is D + 1
abbrev pub floor_full : Config → Option Tag → ℕ → Bool
floor_full cfg none n = true
floor_full cfg (some f) n = allowed cfg.c f && n == cfg.d + 1

-- a number below 64
abbrev pub spot_of : Tag → ℕ
spot_of t = (t.number * 16 + t.client) % 64

-- what a yes shows of tags; a no shows nothing
pub record SpreadPost (clients : ℕ) (floor : Option Tag) (ts : List Tag) (r : Bool) : Type 0 where
  pub limits : r ≡ true → every (allowed clients) ts ≡ true
  pub over : r ≡ true → every (over_floor floor) ts ≡ true
  pub differ : r ≡ true → once ts ≡ true

-- the same of each floor whose number is low enough
abbrev pub RisenPost : ℕ → ℕ → List Tag → Bool → Type 0
RisenPost clients low ts r = (f : Tag) → f.number * 16 + 16 ≤ low → SpreadPost clients (some f) ts r
