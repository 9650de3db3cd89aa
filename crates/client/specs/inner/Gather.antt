-- The elements that a read decodes, and the board that it shows.
use Rattle.std.specs.Prelude.{ℕ, ◌+◌, ◌-◌, ◌*◌, ◌≤◌, true, cond, ◌&&◌, ◌≡◌, List, map, ◌++◌, ltb, length, take, drop, set}
use Rattle.laws.specs.Parts.{over, part}
use Rattle.config.specs.declared.Config.{Config}
use Rattle.config.specs.Config.{Valid, board_length, elements_length}
use Rattle.laws.specs.Bytes.{joined}
use Rattle.protocol.specs.Boards.{Board, decode}
use Rattle.protocol.specs.Number.{count, present}
use Rattle.client.specs.Servers.{member, sent_by, within_servers}
use Rattle.client.specs.State.{Slots, received}

-- the bytes that server s sent
abbrev pub bytes_at : Config → List ℕ → ℕ → List ℕ
bytes_at cfg es s = part cfg.e (s - 1) es

-- "the k lowest server numbers that sent one", of the servers 1 to i, each with the bytes of its element
abbrev pub lowest : Config → List ℕ → ℕ → ℕ → List (ℕ × List ℕ)
lowest cfg es sent i = take cfg.k (present i (sent_by (bytes_at cfg es) sent))

abbrev pub numbers_of : List (ℕ × List ℕ) → List ℕ
numbers_of pairs = map (λ p. p.0) pairs

abbrev pub elements_of : List (ℕ × List ℕ) → List ℕ
elements_of pairs = joined (map (λ p. p.1) pairs)

-- what gathering asks: at least k servers sent an element, and room for k numbers and k elements
pub record GatherPre (cfg : Config) (sent : ℕ) (es numbers packed : List ℕ) : Type 0 where
  pub valid : Valid cfg
  pub within : within_servers cfg.n sent ≡ true
  pub elements : length es ≡ elements_length cfg
  pub enough : cfg.k ≤ count (member sent) cfg.n
  pub numbers_room : cfg.k ≤ length numbers
  pub packed_room : board_length cfg ≤ length packed

-- numbers and elements of the pairs, of which there are `found`, stand at the front
pub record GatherPost (cfg : Config) (pairs : List (ℕ × List ℕ)) (numbers numbers' packed packed' : List ℕ) (found : ℕ) : Type 0 where
  pub count : found ≡ length pairs
  pub numbered : numbers' ≡ numbers_of pairs ++ drop found numbers
  pub joint : packed' ≡ elements_of pairs ++ drop (found * cfg.e) packed
  pub long : length (elements_of pairs) ≡ found * cfg.e

-- what picking server s asks, with `found` found
pub record PickPre (cfg : Config) (sent s found : ℕ) (es numbers packed : List ℕ) : Type 0 where
  pub all : GatherPre cfg sent es numbers packed
  pub low : 1 ≤ s
  pub high : s ≤ cfg.n
  pub found_high : found ≤ cfg.k

-- what it leaves
pub record PickPost (cfg : Config) (sent s found : ℕ) (es numbers numbers' packed packed' : List ℕ) (r : ℕ) : Type 0 where
  pub count : r ≡ cond (ltb found cfg.k && member sent s) (found + 1) found
  pub numbered : numbers' ≡ cond (ltb found cfg.k && member sent s) (set numbers found s) numbers
  pub joint :
      packed'
      ≡ cond (ltb found cfg.k && member sent s) (over (found * cfg.e) cfg.e (part cfg.e (s - 1) es) packed) packed

-- the board that a read shows
abbrev pub board_shown : Config → Slots → ℕ → Board
board_shown cfg es sent = decode cfg (take cfg.k (present cfg.n (received cfg es sent)))

-- what showing it asks: at least k servers sent an element
pub record ShowPre (cfg : Config) (sent : ℕ) (es board : List ℕ) : Type 0 where
  pub valid : Valid cfg
  pub within : within_servers cfg.n sent ≡ true
  pub elements : length es ≡ elements_length cfg
  pub board-length : length board ≡ board_length cfg
  pub enough : cfg.k ≤ count (member sent) cfg.n

-- what it leaves in the lent buffer, and the length that it gives
pub record ShowPost (cfg : Config) (es : Slots) (sent : ℕ) (board' : List ℕ) (r : ℕ) : Type 0 where
  pub length : r ≡ (board_shown cfg es sent).length
  pub bytes : board' ≡ (board_shown cfg es sent).bytes
