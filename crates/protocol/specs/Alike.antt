-- Rigs that differ in the order of what their servers store, and in nothing else: "The order of stored elements in the store is free; each
-- stored tag occurs once."
use Rattle.std.specs.Prelude.{ℕ, ◌≡◌, false, List, [], ◌∷◌}
use Rattle.tag.specs.declared.Tag.{Tag}
use Rattle.protocol.specs.Server.{Server, Stored, is_stored}
use Rattle.protocol.specs.Parties.{Parties}
use Rattle.protocol.specs.Rig.{Rig, Turn}

-- the same things, in any order
pub data Reordered {A : Type 0} : List A → List A → Type 0 where
  none : Reordered [] []
  next : {x : A} {xs ys : List A} → Reordered xs ys → Reordered (x ∷ xs) (x ∷ ys)
  swap : {x y : A} {xs : List A} → Reordered (x ∷ y ∷ xs) (y ∷ x ∷ xs)
  then : {xs ys zs : List A} → Reordered xs ys → Reordered ys zs → Reordered xs zs

-- the same server, but for the order
pub record SameButOrder {Element : Type 0} (v w : Server Element) : Type 0 where
  pub highest : v.highest ≡ w.highest
  pub floor : v.floor ≡ w.floor
  pub stored : Reordered v.stored w.stored

-- "each stored tag occurs once", as tags are compared
unfoldable pub StoredOnce : {Element : Type 0} → (Tag → ℕ) → List (Stored Element) → Type 0
StoredOnce key [] = Unit {0}
StoredOnce key (x ∷ xs) = (is_stored key x.tag xs ≡ false) × StoredOnce key xs

module _ {Value Element : Type 0} where
  -- in every server
  abbrev pub OnceEach : (Tag → ℕ) → Parties Value Element → Type 0
  OnceEach key p = (s : ℕ) → StoredOnce key (p.servers s).stored

  -- the same parties, but for the order in each server
  pub record AlikeParties (p q : Parties Value Element) : Type 0 where
    pub servers : (s : ℕ) → SameButOrder (p.servers s) (q.servers s)
    pub up : p.up ≡ q.up
    pub clients : p.clients ≡ q.clients

  -- the same rig, but for that
  pub record AlikeRigs (r z : Rig Value Element) : Type 0 where
    pub parties : AlikeParties r.parties z.parties
    pub in_flight : r.in_flight ≡ z.in_flight

  -- two events that answer alike, and leave such rigs
  pub record AlikeTurns (t u : Turn Value Element) : Type 0 where
    pub answer : t.answer ≡ u.answer
    pub rig : AlikeRigs t.rig u.rig
