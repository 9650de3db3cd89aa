-- States as bytes stand in rows of 8, little-endian; where nothing is kept stand zeros.
use Rattle.std.specs.Prelude.{ℕ, ◌+◌, Bool, true, false, ◌&&◌, List, [], ◌∷◌, ◌++◌, eqb, get_or, replicate}
use Rattle.tag.specs.declared.Tag.{Tag}
use Rattle.record.specs.Record.{four_bytes, little_two, number_at, two_bytes}

-- a tag's row: its number (4 bytes), its client (1), the length of its board (2), and a zero
unfoldable pub tag_row : Tag → ℕ → List ℕ
tag_row t length = four_bytes t.number ++ t.client ∷ two_bytes length ++ 0 ∷ []

-- a row in which nothing is kept
abbrev pub empty_row : List ℕ
empty_row = replicate 8 0

-- the tag whose row begins at an offset, and the length in it
abbrev pub tag_from : List ℕ → ℕ → Tag
tag_from bs at = record { number = number_at at bs; client = get_or bs (at + 4) 0 }

abbrev pub length_from : List ℕ → ℕ → ℕ
length_from bs at = little_two (get_or bs at 0) (get_or bs (at + 1) 0)

-- the two are the same bytes
unfoldable pub same_bytes : List ℕ → List ℕ → Bool
same_bytes [] [] = true
same_bytes [] (y ∷ ys) = false
same_bytes (x ∷ xs) [] = false
same_bytes (x ∷ xs) (y ∷ ys) = eqb x y && same_bytes xs ys
