-- What the theorem asks of its two parameters: the order of tags, given by a key, and the code.
use Rattle.std.specs.Prelude.{ℕ, ◌+◌, ◌≤◌, ◌<◌, ◌≡◌, List, [], ◌∷◌, length}
use Rattle.config.specs.declared.Config.{Config}
use Rattle.tag.specs.declared.Tag.{Tag}

-- Tags of the clients of a configuration, and the starting tag, are compared by their key.
pub record TagOrder (cfg : Config) (key : Tag → ℕ) : Type 0 where
  -- tags that compare equal are equal
  pub injective : (t u : Tag) → t.client ≤ cfg.c → u.client ≤ cfg.c → key t ≡ key u → t ≡ u
  -- a tag of the next number is above, whatever client's it is: "The number decides"
  pub next : (t : Tag) (c : ℕ) → t.client ≤ cfg.c → 1 ≤ c → c ≤ cfg.c → key t < key (record { number = t.number + 1; client = c })

-- "server numbers rise strictly within 1 to N": above low, and to N
unfoldable pub Rising : {Element : Type 0} → ℕ → ℕ → List (ℕ × Element) → Type 0
Rising low n [] = Unit {0}
Rising low n (x ∷ xs) = (low < x.0) × (x.0 ≤ n) × Rising x.0 n xs

-- each element is that of its server for the board v
unfoldable pub ElementsOf : {Value Element : Type 0} → (Value → ℕ → Element) → Value → List (ℕ × Element) → Type 0
ElementsOf encode v [] = Unit {0}
ElementsOf encode v (x ∷ xs) = (x.1 ≡ encode v x.0) × ElementsOf encode v xs

-- Any k elements of a board, of servers that rise strictly within 1 to N, give that board back.
pub record Coding {Value Element : Type 0} (cfg : Config) (IsBoard : Value → Type 0) (encode : Value → ℕ → Element) (decode : List (ℕ × Element) → Value) : Type 0 where
  pub back : (v : Value) → IsBoard v → (xs : List (ℕ × Element)) → length xs ≡ cfg.k → Rising 0 cfg.n xs → ElementsOf encode v xs → decode xs ≡ v
