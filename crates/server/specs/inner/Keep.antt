-- A tag and its element, stored: at a free place, or in that of the smallest.
use Rattle.std.specs.Prelude.{Some, ◌≡◌, ℕ, ◌+◌, ◌*◌, true, cond, List, length, nat_le, slice_set}
use Rattle.laws.specs.Parts.{over}
use Rattle.config.specs.declared.Config.{Config}
use Rattle.tag.specs.declared.Tag.{Tag}
use Rattle.tag.specs.Tag.{allowed, key}
use Rattle.record.specs.Element.{element_with}
use Rattle.protocol.specs.Server.{store as stores}
use Rattle.server.specs.declared.State.{State}
use Rattle.server.specs.declared.places.Least.{Least}
use Rattle.server.specs.Within.{ValidState}
use Rattle.server.specs.View.{tags_used, view}
use Rattle.server.specs.inner.Places.{least_from}

-- t at the first free place, with its length
unfoldable pub appended : State → Tag → ℕ → State
appended s t n =
    record {
      me = s.me;
      highest = s.highest;
      floor = s.floor;
      count = s.count + 1;
      tags = slice_set s.tags s.count t;
      lengths = slice_set s.lengths s.count n;
    }

pub record AppendPost (cfg : Config) (s : State) (t : Tag) (n : ℕ) (element before after : List ℕ) (r : State) : Type 0 where
  pub state : r ≡ appended s t n
  pub store : after ≡ over (s.count * cfg.e) cfg.e element before
  pub eight : (length s.tags ≡ 8) × (length s.lengths ≡ 8)

-- the lowest of t and the stored tags; t's place is taken for the count
abbrev pub lowest : Config → State → Tag → Least
lowest cfg s t = least_from cfg t s.count 0 (tags_used s)

-- the floor is f, and tags are stored with their lengths
abbrev pub floored : State → Tag → List Tag → List ℕ → State
floored s f tags lengths =
    record { me = s.me; highest = s.highest; floor = Some f; count = s.count; tags = tags; lengths = lengths }

-- the lowest is the floor; if it is not t, then t has its place
unfoldable pub dropped : Config → State → Tag → ℕ → State
dropped cfg s t n =
    floored s (lowest cfg s t).tag
    (cond (nat_le s.count (lowest cfg s t).place) s.tags (slice_set s.tags (lowest cfg s t).place t))
    (cond (nat_le s.count (lowest cfg s t).place) s.lengths (slice_set s.lengths (lowest cfg s t).place n))

pub record DropSmallestPost (cfg : Config) (s : State) (t : Tag) (n : ℕ) (element before after : List ℕ) (r : State) : Type 0 where
  pub state : r ≡ dropped cfg s t n
  pub store : after ≡ cond (nat_le s.count (lowest cfg s t).place) before (over ((lowest cfg s t).place * cfg.e) cfg.e element before)
  pub eight : (length s.tags ≡ 8) × (length s.lengths ≡ 8)

-- a tag and its element, to be stored
pub record KeepPre (cfg : Config) (s : State) (t : Tag) (element store : List ℕ) : Type 0 where
  pub held : ValidState cfg s store
  pub sized : length element ≡ cfg.e
  pub allowed : allowed cfg.c t ≡ true

-- they are stored as the protocol has it, with the length
pub record KeepPost (cfg : Config) (s : State) (t : Tag) (n : ℕ) (element store after : List ℕ) (r : State) : Type 0 where
  pub me : r.me ≡ s.me
  pub seen : view cfg r after ≡ stores (key cfg) cfg.d (view cfg s store) (record { tag = t; element = element_with n element })
  pub long : length after ≡ length store
