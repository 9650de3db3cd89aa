-- A server's state with its store, seen as the protocol's server: place i of the store, at i × E, holds the element of the stored tag i, and
-- the length beside it is length i.
-- Only the places in use are read.
use Rattle.std.specs.Prelude.{ℕ, zero, suc, ◌*◌, cond, List, [], ◌∷◌, take, drop, slice_index, slice_index_or}
use Rattle.std.specs.Prelude.{Option as Given, None, Some}
use Rattle.std.proofs.Math.Option.{Option, none, some}
use Rattle.config.specs.declared.Config.{Config}
use Rattle.tag.specs.declared.Tag.{Tag}
use Rattle.tag.specs.Tag.{same, start}
use Rattle.record.specs.Element.{Element, element_with}
use Rattle.protocol.specs.Server.{Server, Stored}
use Rattle.server.specs.declared.State.{State}

-- what f gives from place i on, n places
unfoldable pub each : {A : Type 0} → (ℕ → A) → ℕ → ℕ → List A
each f i zero = []
each f i (suc n) = f i ∷ each f (suc i) n

-- the tag at place i
abbrev pub tag_at : List Tag → ℕ → Tag
tag_at tags i = slice_index_or tags i start

-- the E bytes of place i
abbrev pub element_at : Config → List ℕ → ℕ → List ℕ
element_at cfg store i = take cfg.e (drop (i * cfg.e) store)

-- the length at place i
abbrev pub stored_length : List ℕ → ℕ → ℕ
stored_length lengths i = slice_index lengths i

abbrev pub place_at : Config → List Tag → List ℕ → List ℕ → ℕ → Stored Element
place_at cfg tags lengths store i =
    record { tag = tag_at tags i; element = element_with (stored_length lengths i) (element_at cfg store i) }

abbrev pub floor_of : Given Tag → Option Tag
floor_of None = none
floor_of (Some t) = some t

unfoldable pub view : Config → State → List ℕ → Server Element
view cfg s store =
    record {
      highest = s.highest;
      floor = floor_of s.floor;
      stored = each (place_at cfg s.tags s.lengths store) 0 s.count;
    }

-- the stored tags
abbrev pub tags_used : State → List Tag
tags_used s = each (tag_at s.tags) 0 s.count

-- the lengths beside their elements
abbrev pub lengths_used : State → List ℕ
lengths_used s = each (stored_length s.lengths) 0 s.count

-- "the first place in the store that holds that tag", among tags; their number where none is that tag
unfoldable pub place_in : Tag → List Tag → ℕ
place_in t [] = 0
place_in t (x ∷ xs) = cond (same x t) 0 (suc (place_in t xs))
