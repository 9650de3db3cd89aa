-- Two tags are compared by one number, the tag's key: the order of tags is the key's, and the protocol takes it as a parameter.
use Rattle.std.specs.Prelude.{ℕ, Bool, cond, eqb, ltb}
use Rattle.tag.specs.declared.Tag.{Tag}

-- two tags compare equal
abbrev pub same_key : (Tag → ℕ) → Tag → Tag → Bool
same_key key t u = eqb (key t) (key u)

-- the higher of two tags
unfoldable pub higher : (Tag → ℕ) → Tag → Tag → Tag
higher key t u = cond (ltb (key t) (key u)) u t

-- the lower of two tags
unfoldable pub lower : (Tag → ℕ) → Tag → Tag → Tag
lower key t u = cond (ltb (key u) (key t)) u t
