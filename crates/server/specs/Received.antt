-- What a server has received, over a run of messages: the stored tags are the highest of it.
use Rattle.std.specs.Prelude.{◌≡◌, ℕ, ◌+◌, ◌≤◌, Bool, true, false, ◌&&◌, List, [], ◌∷◌, length}
use Rattle.std.proofs.Math.Option.{Option, none, some}
use Rattle.config.specs.declared.Config.{Config}
use Rattle.tag.specs.declared.Tag.{Tag}
use Rattle.tag.specs.Tag.{above as above_tag, allowed, key}
use Rattle.record.specs.declared.Kind.{Kind}
use Rattle.record.specs.declared.Kind.TheVariants.{Query, QueryAnswer, PreWrite, PreWriteAnswer, WriteFinalise, WriteFinaliseAnswer, ReadFinalise, ReadFinaliseAnswer, Cleared}
use Rattle.record.specs.Message.{Message}
use Rattle.protocol.specs.Server.{Server, server_step}
use Rattle.server.specs.Within.{among, once as once_in, tags_of}

module _ {Element : Type 0} where
  -- a pre-write with an element adds its tag
  abbrev pub with_tag : Kind → Tag → Option Element → List Tag → List Tag
  with_tag Query t e ts = ts
  with_tag QueryAnswer t e ts = ts
  with_tag PreWrite t none ts = ts
  with_tag PreWrite t (some e) ts = t ∷ ts
  with_tag PreWriteAnswer t e ts = ts
  with_tag WriteFinalise t e ts = ts
  with_tag WriteFinaliseAnswer t e ts = ts
  with_tag ReadFinalise t e ts = ts
  with_tag ReadFinaliseAnswer t e ts = ts
  with_tag Cleared t e ts = ts

  abbrev pub receive : Message Element → List Tag → List Tag
  receive m ts = with_tag m.kind m.tag m.element ts

  -- the server after messages, and the tags received up to then
  unfoldable pub server_after : Config → ℕ → Server Element → List (Message Element) → Server Element
  server_after cfg s v [] = v
  server_after cfg s v (m ∷ ms) = server_after cfg s (server_step (key cfg) cfg.d s v m).server ms

  unfoldable pub received_after : List Tag → List (Message Element) → List Tag
  received_after ts [] = ts
  received_after ts (m ∷ ms) = received_after (receive m ts) ms

  -- every message's tag is within its limit
  unfoldable pub each_allowed : ℕ → List (Message Element) → Bool
  each_allowed clients [] = true
  each_allowed clients (m ∷ ms) = allowed clients m.tag && each_allowed clients ms

  -- t is stored
  abbrev pub holds : Server Element → Tag → Bool
  holds v t = among t (tags_of v.stored)

  -- Of the tags received the D + 1 highest are stored, and the floor, if any, is the highest dropped.
  pub record Highest (cfg : Config) (received : List Tag) (v : Server Element) : Type 0 where
    -- at most D + 1 are stored, each once
    pub few : length v.stored ≤ cfg.d + 1
    pub once : once_in (tags_of v.stored) ≡ true
    -- what is stored was received
    pub stored : (t : Tag) → holds v t ≡ true → among t received ≡ true
    -- it is above all that was received and is not stored
    pub above : (t x : Tag) → among t received ≡ true → holds v t ≡ false → holds v x ≡ true → above_tag cfg x t ≡ true
    -- without a floor nothing was dropped
    pub all : v.floor ≡ none → (t : Tag) → among t received ≡ true → holds v t ≡ true
    -- with one, D + 1 are stored
    pub count : (f : Tag) → v.floor ≡ some f → length v.stored ≡ cfg.d + 1
    -- and it was received, is not stored, and is the highest of those
    pub dropped : (f : Tag) → v.floor ≡ some f → (among f received ≡ true) × (holds v f ≡ false)
    pub highest : (f t : Tag) → v.floor ≡ some f → among t received ≡ true → holds v t ≡ false → above_tag cfg t f ≡ false
