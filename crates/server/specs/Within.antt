-- Question 6 of what a server keeps: "is each count, server number, client number and tag in the state within its limit, each stored
-- tag there once and above the floor, with exactly D + 1 stored where there is a floor?" And: "A length above V kept by a party gets 6."
use Rattle.std.specs.Prelude.{◌≡◌, ℕ, ◌+◌, Bool, true, false, not, ◌&&◌, ◌||◌, leb, List, [], ◌∷◌, length, ◌==◌, nat_le}
use Rattle.std.proofs.Math.Option.{Option, none, some}
use Rattle.config.specs.Config.{Valid, board_length, store_length}
use Rattle.config.specs.declared.Config.{Config}
use Rattle.config.specs.Number.{server_number}
use Rattle.config.specs.Questions.{within}
use Rattle.tag.specs.declared.Tag.{Tag}
use Rattle.tag.specs.Tag.{above, allowed, same}
use Rattle.record.specs.Element.{Element}
use Rattle.record.specs.Record.{all}
use Rattle.protocol.specs.Server.{Server, Stored}
use Rattle.server.specs.declared.State.{State}
use Rattle.server.specs.View.{floor_of, lengths_used, tags_used}

-- the test holds of every one
unfoldable pub every : {A : Type 0} → (A → Bool) → List A → Bool
every test [] = true
every test (x ∷ xs) = test x && every test xs

-- t is one of them
unfoldable pub among : Tag → List Tag → Bool
among t [] = false
among t (x ∷ xs) = same x t || among t xs

-- "each stored tag there once"
unfoldable pub once : List Tag → Bool
once [] = true
once (t ∷ ts) = not (among t ts) && once ts

-- "above the floor, with exactly D + 1 stored where there is a floor"
unfoldable pub floor_within : Config → Option Tag → List Tag → Bool
floor_within cfg none ts = true
floor_within cfg (some f) ts = allowed cfg.c f && length ts == cfg.d + 1 && every (λ t. above cfg t f) ts

-- the highest finalised tag, the floor and the stored tags are within their limits
unfoldable pub tags_within : Config → Tag → Option Tag → List Tag → Bool
tags_within cfg highest floor ts =
    all (allowed cfg.c highest ∷ nat_le (length ts) (cfg.d + 1) ∷ every (allowed cfg.c) ts ∷ once ts ∷ floor_within cfg floor ts ∷ [])

-- lengths are at most V
unfoldable pub lengths_within : Config → List ℕ → Bool
lengths_within cfg ns = every (λ n. leb n (board_length cfg)) ns

-- the server's number and its tags
unfoldable pub numbers_within : Config → State → Bool
numbers_within cfg s = within 1 cfg.n (server_number s.me) && tags_within cfg s.highest (floor_of s.floor) (tags_used s)

-- the state's part of question 6
unfoldable pub state_within : Config → State → Bool
state_within cfg s = numbers_within cfg s && lengths_within cfg (lengths_used s)

module _ {Element : Type 0} where
  -- the stored tags of the protocol's server
  unfoldable pub tags_of : List (Stored Element) → List Tag
  tags_of [] = []
  tags_of (x ∷ xs) = x.tag ∷ tags_of xs

-- the lengths beside its elements
unfoldable pub stored_lengths : List (Stored Element) → List ℕ
stored_lengths [] = []
stored_lengths (x ∷ xs) = x.element.length ∷ stored_lengths xs

-- the same of the protocol's server
unfoldable pub server_within : Config → Server Element → Bool
server_within cfg v = tags_within cfg v.highest v.floor (tags_of v.stored) && lengths_within cfg (stored_lengths v.stored)

-- a state and its store, of which questions 1 to 6 and 21 are answered yes
pub record ValidState (cfg : Config) (s : State) (store : List ℕ) : Type 0 where
  pub valid : Valid cfg
  pub within : state_within cfg s ≡ true
  pub long : length store ≡ store_length cfg
