-- Document 01, "Tags", in the order that document 02's ranks give them.
use Rattle.std.specs.Prelude.{ℕ, ◌+◌, ◌*◌, Bool, cond, ◌&&◌, eqb, leb, ltb}
use Rattle.config.specs.declared.Config.{Config}
use Rattle.config.specs.Config.{rank}
use Rattle.tag.specs.declared.Tag.{Tag}

-- "Tags now compare by number, then by the rank of the tag's client, then by client number."
abbrev pub above : Config → Tag → Tag → Bool
above cfg a b =
    cond (eqb a.number b.number)
    (cond (eqb (rank cfg a.client) (rank cfg b.client)) (ltb b.client a.client)
    (ltb (rank cfg b.client) (rank cfg a.client)))
    (ltb b.number a.number)

-- the higher of two tags
abbrev pub higher : Config → Tag → Tag → Tag
higher cfg a b = cond (above cfg b a) b a

-- the two are one tag
abbrev pub same : Tag → Tag → Bool
same a b = eqb a.number b.number && eqb a.client b.client

-- "The starting tag is (0, 0)"
abbrev pub start : Tag
start = record { number = 0; client = 0 }

-- "The starting tag is (0, 0); no other tag has a 0 in either part." A tag's client is at most C.
abbrev pub allowed : ℕ → Tag → Bool
allowed clients t = cond (eqb t.number 0) (eqb t.client 0) (leb 1 t.client && leb t.client clients)

-- a tag as one number: in a valid configuration, of client numbers below 256, its order is that of tags
unfoldable pub key : Config → Tag → ℕ
key cfg t = t.number * 65536 + rank cfg t.client * 256 + t.client

-- ---- the order without ranks

-- document 01's: "The number decides, then the client number."
abbrev pub plain_above : Tag → Tag → Bool
plain_above a b = cond (eqb a.number b.number) (ltb b.client a.client) (ltb b.number a.number)

-- and as one number
unfoldable pub plain_key : Tag → ℕ
plain_key t = t.number * 256 + t.client
