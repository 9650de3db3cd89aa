-- The server of document 01, as the protocol sees it: what it keeps and its step on a message. Elements are of any type, tags are
-- compared by their key.
use Rattle.std.specs.Prelude.{ℕ, ◌+◌, Bool, false, cond, ◌||◌, List, [], ◌∷◌, ◌++◌, leb, ltb, length}
use Rattle.std.proofs.Math.Option.{Option, none, some}
use Rattle.tag.specs.declared.Tag.{Tag}
use Rattle.tag.specs.Tag.{start}
use Rattle.record.specs.declared.Kind.{Kind}
use Rattle.record.specs.declared.Kind.TheVariants.{Query, QueryAnswer, PreWrite, PreWriteAnswer, WriteFinalise, WriteFinaliseAnswer, ReadFinalise, ReadFinaliseAnswer, Cleared}
use Rattle.record.specs.Message.{Message}
use Rattle.protocol.specs.Tags.{same_key, higher, lower}

-- a stored tag with its element
pub record Stored (Element : Type 0) : Type 0 where
  pub tag : Tag
  pub element : Element

-- "It keeps the highest finalised tag H, a floor (none at first), and at most D + 1 stored tags with elements."
pub record Server (Element : Type 0) : Type 0 where
  pub highest : Tag
  pub floor : Option Tag
  pub stored : List (Stored Element)

-- what a step leaves: the server, and its answer, which only a kind that no server receives is without
pub record Served (Element : Type 0) : Type 0 where
  pub server : Server Element
  pub answer : Option (Message Element)

-- t is at or below the floor; without a floor it is not
unfoldable pub at_or_below_floor : (Tag → ℕ) → Tag → Option Tag → Bool
at_or_below_floor key t none = false
at_or_below_floor key t (some f) = leb (key t) (key f)

module _ {Element : Type 0} where
  -- "Fresh: H = (0, 0), with the starting board's element stored at (0, 0)."
  unfoldable pub fresh_server : Element → Server Element
  fresh_server e = record { highest = start; floor = none; stored = record { tag = start; element = e } ∷ [] }

  -- where there is no server nothing is stored
  unfoldable pub no_server : Server Element
  no_server = record { highest = start; floor = none; stored = [] }

  -- t is stored
  unfoldable pub is_stored : (Tag → ℕ) → Tag → List (Stored Element) → Bool
  is_stored key t [] = false
  is_stored key t (x ∷ xs) = same_key key x.tag t || is_stored key t xs

  -- the stored element of t, at the first place that holds it
  unfoldable pub element_of : (Tag → ℕ) → Tag → List (Stored Element) → Option Element
  element_of key t [] = none
  element_of key t (x ∷ xs) = cond (same_key key x.tag t) (some x.element) (element_of key t xs)

  -- "of the stored tags and t, the smallest"
  unfoldable pub smallest : (Tag → ℕ) → Tag → List (Stored Element) → Tag
  smallest key t [] = t
  smallest key t (x ∷ xs) = smallest key (lower key t x.tag) xs

  -- the stored tags with the place of the tag u taken by another
  unfoldable pub in_place_of : (Tag → ℕ) → Tag → Stored Element → List (Stored Element) → List (Stored Element)
  in_place_of key u y [] = []
  in_place_of key u y (x ∷ xs) = cond (same_key key x.tag u) (y ∷ xs) (x ∷ in_place_of key u y xs)

  -- the others are stored: where t itself is the smallest, those that were; else t has the place of the one dropped
  unfoldable pub others : (Tag → ℕ) → Tag → Stored Element → List (Stored Element) → List (Stored Element)
  others key u y xs = cond (same_key key u y.tag) xs (in_place_of key u y xs)

  -- "Else, of the stored tags and t, the smallest is dropped and becomes the floor; the others are stored."
  unfoldable pub drop_smallest : (Tag → ℕ) → Server Element → Stored Element → Server Element
  drop_smallest key v y =
      record {
        highest = v.highest;
        floor = some (smallest key y.tag v.stored);
        stored = others key (smallest key y.tag v.stored) y v.stored;
      }

  -- "Else if fewer than D + 1 are stored, store it."
  unfoldable pub add_last : Server Element → Stored Element → Server Element
  add_last v y = record { highest = v.highest; floor = v.floor; stored = v.stored ++ (y ∷ []) }

  -- "Pre-write of t: if t is stored or at or below the floor, store nothing. Else if fewer than D + 1 are stored, store it. Else, .."
  unfoldable pub store : (Tag → ℕ) → ℕ → Server Element → Stored Element → Server Element
  store key d v y =
      cond (is_stored key y.tag v.stored || at_or_below_floor key y.tag v.floor) v
      (cond (ltb (length v.stored) (d + 1)) (add_last v y) (drop_smallest key v y))

  -- a pre-write has an element; without one there would be nothing to store
  unfoldable pub store_element : (Tag → ℕ) → ℕ → Server Element → Tag → Option Element → Server Element
  store_element key d v t none = v
  store_element key d v t (some e) = store key d v (record { tag = t; element = e })

  -- "H becomes the higher of H and t"
  unfoldable pub finalised : (Tag → ℕ) → Server Element → Tag → Server Element
  finalised key v t = record { highest = higher key v.highest t; floor = v.floor; stored = v.stored }

  -- "Answers name the server and repeat client, operation number and tag (kind 2 carries H)."
  unfoldable pub answer_to : ℕ → Message Element → Kind → Tag → Option Element → Message Element
  answer_to s m kind t e = record { kind = kind; client = m.client; server = s; operation = m.operation; tag = t; element = e }

  -- "Query: answer H."
  unfoldable pub query : ℕ → Server Element → Message Element → Served Element
  query s v m = record { server = v; answer = some (answer_to s m QueryAnswer v.highest none) }

  -- "Pre-write of t: .. Always acknowledge."
  unfoldable pub pre_write : (Tag → ℕ) → ℕ → ℕ → Server Element → Message Element → Served Element
  pre_write key d s v m =
      record {
        server = store_element key d v m.tag m.element;
        answer = some (answer_to s m PreWriteAnswer m.tag none);
      }

  -- "Write finalise of t: H becomes the higher of H and t; acknowledge."
  unfoldable pub write_finalise : (Tag → ℕ) → ℕ → Server Element → Message Element → Served Element
  write_finalise key s v m =
      record { server = finalised key v m.tag; answer = some (answer_to s m WriteFinaliseAnswer m.tag none) }

  -- "If t is stored, answer with its element. Else if t is at or below the floor, send nothing (15). Else answer without one." And: "Where a
  -- server step gave 15 it now sends a record of kind 9, which repeats client, operation number and tag and has no element."
  unfoldable pub read_answer : (Tag → ℕ) → ℕ → Option Tag → Message Element → Option Element → Message Element
  read_answer key s floor m (some e) = answer_to s m ReadFinaliseAnswer m.tag (some e)
  read_answer key s floor m none =
      answer_to s m (cond (at_or_below_floor key m.tag floor) Cleared ReadFinaliseAnswer) m.tag none

  -- "Read finalise of t: H likewise. .."
  unfoldable pub read_finalise : (Tag → ℕ) → ℕ → Server Element → Message Element → Served Element
  read_finalise key s v m =
      record {
        server = finalised key v m.tag;
        answer = some (read_answer key s v.floor m (element_of key m.tag v.stored));
      }

  -- the step of server s on a message of a given kind; the other five kinds are a client's
  unfoldable pub server_step_of : Kind → (Tag → ℕ) → ℕ → ℕ → Server Element → Message Element → Served Element
  server_step_of Query key d s v m = query s v m
  server_step_of QueryAnswer key d s v m = record { server = v; answer = none }
  server_step_of PreWrite key d s v m = pre_write key d s v m
  server_step_of PreWriteAnswer key d s v m = record { server = v; answer = none }
  server_step_of WriteFinalise key d s v m = write_finalise key s v m
  server_step_of WriteFinaliseAnswer key d s v m = record { server = v; answer = none }
  server_step_of ReadFinalise key d s v m = read_finalise key s v m
  server_step_of ReadFinaliseAnswer key d s v m = record { server = v; answer = none }
  server_step_of Cleared key d s v m = record { server = v; answer = none }

  -- the step of server s on a message: by the tags' key, with D, of server s in the state v
  unfoldable pub server_step : (Tag → ℕ) → ℕ → ℕ → Server Element → Message Element → Served Element
  server_step key d s v m = server_step_of m.kind key d s v m
