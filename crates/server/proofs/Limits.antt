-- What question 6 tells of a state. Assumes nothing.
use Rattle.std.proofs.Common.{◌≡◌, ℕ, ◌+◌, ◌<◌, ◌≤◌, Bool, true, false, ◌&&◌, eqb, leb, List, [], ◌∷◌, length, get_or, arith, eqb-true, leb-true}
use mathlib.Core.Option.{Option, some}
use Rattle.config.specs.declared.Config.{Config}
use Rattle.config.specs.Config.{Valid, board_length}
use Rattle.config.specs.Number.{server_number}
use Rattle.config.specs.Questions.{within}
use Rattle.laws.proofs.Bools.{and_left, and_right}
use Rattle.tag.specs.declared.Tag.{Tag}
use Rattle.tag.specs.Tag.{above, allowed}
use Rattle.record.proofs.Clauses.{all_at}
use Rattle.server.specs.declared.State.{State}
use Rattle.server.specs.Within.{every, floor_within, lengths_within, numbers_within, once, state_within, tags_within}
use Rattle.server.specs.View.{floor_of, lengths_used, stored_length, tag_at, tags_used}
use Rattle.server.proofs.Each.{every_at, length_each}

-- the clauses of a floor
module _ (cfg : Config) (f : Tag) (ts : List Tag) (h : floor_within cfg (some f) ts ≡ true) where
  first_two : (allowed cfg.c f && eqb (length ts) (cfg.d + 1)) ≡ true
  unfolding floor_within
  first_two = and_left (allowed cfg.c f && eqb (length ts) (cfg.d + 1)) (every (λ (t : Tag). above cfg t f) ts) h

  pub floor_allowed : allowed cfg.c f ≡ true
  floor_allowed = and_left (allowed cfg.c f) (eqb (length ts) (cfg.d + 1)) first_two

  pub floor_count : length ts ≡ cfg.d + 1
  floor_count = eqb-true (length ts) (cfg.d + 1) (and_right (allowed cfg.c f) (eqb (length ts) (cfg.d + 1)) first_two)

  pub floor_every : every (λ (t : Tag). above cfg t f) ts ≡ true
  unfolding floor_within
  floor_every = and_right (allowed cfg.c f && eqb (length ts) (cfg.d + 1)) (every (λ (t : Tag). above cfg t f) ts) h

-- the clauses of what a server keeps
abbrev within_clauses : Config → Tag → Option Tag → List Tag → List Bool
within_clauses cfg highest floor ts =
    allowed cfg.c highest ∷ leb (length ts) (cfg.d + 1) ∷ every (allowed cfg.c) ts ∷ once ts ∷ floor_within cfg floor ts ∷ []

module _ (cfg : Config) (highest : Tag) (floor : Option Tag) (ts : List Tag) (h : tags_within cfg highest floor ts ≡ true) where
  clause : (i : ℕ) → get_or (within_clauses cfg highest floor ts) i true ≡ true
  unfolding tags_within
  clause i = all_at (within_clauses cfg highest floor ts) h i

  pub within_highest : allowed cfg.c highest ≡ true
  within_highest = clause 0

  pub within_count : length ts ≤ cfg.d + 1
  within_count = leb-true (length ts) (cfg.d + 1) (clause 1)

  pub within_allowed : every (allowed cfg.c) ts ≡ true
  within_allowed = clause 2

  pub within_once : once ts ≡ true
  within_once = clause 3

  pub within_floor : floor_within cfg floor ts ≡ true
  within_floor = clause 4

-- the server's number and its tags
module _ (cfg : Config) (s : State) (h : numbers_within cfg s ≡ true) where
  pub numbers_me : within 1 cfg.n (server_number s.me) ≡ true
  unfolding numbers_within
  numbers_me = and_left (within 1 cfg.n (server_number s.me)) (tags_within cfg s.highest (floor_of s.floor) (tags_used s)) h

  pub numbers_tags : tags_within cfg s.highest (floor_of s.floor) (tags_used s) ≡ true
  unfolding numbers_within
  numbers_tags = and_right (within 1 cfg.n (server_number s.me)) (tags_within cfg s.highest (floor_of s.floor) (tags_used s)) h

  pub numbers_count : s.count ≤ cfg.d + 1
  numbers_count =
      omega (arith, within_count cfg s.highest (floor_of s.floor) (tags_used s) numbers_tags, length_each (tag_at s.tags) 0 s.count)

  -- a configuration has at most 8 places
  pub numbers_eight : Valid cfg → s.count ≤ 8
  numbers_eight v = omega (arith, numbers_count, v.d_high)

-- and the lengths
module _ (cfg : Config) (s : State) where
  pub no_numbers : numbers_within cfg s ≡ false → state_within cfg s ≡ false
  unfolding state_within
  no_numbers h = rw h

  pub by_lengths : numbers_within cfg s ≡ true → state_within cfg s ≡ lengths_within cfg (lengths_used s)
  unfolding state_within
  by_lengths h = rw h

module _ (cfg : Config) (s : State) (h : state_within cfg s ≡ true) where
  pub state_numbers : numbers_within cfg s ≡ true
  unfolding state_within
  state_numbers = and_left (numbers_within cfg s) (lengths_within cfg (lengths_used s)) h

  pub state_lengths : lengths_within cfg (lengths_used s) ≡ true
  unfolding state_within
  state_lengths = and_right (numbers_within cfg s) (lengths_within cfg (lengths_used s)) h

  pub state_me : within 1 cfg.n (server_number s.me) ≡ true
  state_me = numbers_me cfg s state_numbers

  pub state_tags : tags_within cfg s.highest (floor_of s.floor) (tags_used s) ≡ true
  state_tags = numbers_tags cfg s state_numbers

  pub state_highest : allowed cfg.c s.highest ≡ true
  state_highest = within_highest cfg s.highest (floor_of s.floor) (tags_used s) state_tags

  pub state_count : s.count ≤ cfg.d + 1
  state_count = numbers_count cfg s state_numbers

  pub state_allowed : every (allowed cfg.c) (tags_used s) ≡ true
  state_allowed = within_allowed cfg s.highest (floor_of s.floor) (tags_used s) state_tags

  pub state_once : once (tags_used s) ≡ true
  state_once = within_once cfg s.highest (floor_of s.floor) (tags_used s) state_tags

  pub state_floor : floor_within cfg (floor_of s.floor) (tags_used s) ≡ true
  state_floor = within_floor cfg s.highest (floor_of s.floor) (tags_used s) state_tags

  pub state_eight : Valid cfg → s.count ≤ 8
  state_eight v = numbers_eight cfg s state_numbers v

  -- the length of a place in use is at most V
  pub state_length : (p : ℕ) → p < s.count → leb (stored_length s.lengths p) (board_length cfg) ≡ true
  unfolding lengths_within
  state_length p lt =
      every_at (stored_length s.lengths) (λ (n : ℕ). leb n (board_length cfg)) 0 s.count p state_lengths (omega arith) (omega arith)
