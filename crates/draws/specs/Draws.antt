-- Document 02, L3: the seed, the draws, and question 20.
use Rattle.std.specs.Prelude.{ℕ, ◌*◌, ◌/◌, ◌%◌, ◌^◌, not, List, [], ◌∷◌, eqb, Result, Ok, Err}
use Rattle.std.specs.Int.Bits.{bit_xor}
use Rattle.config.specs.Number as number
use Rattle.config.specs.Questions.{Question, ask}
use Rattle.config.specs.Refusal.{verdict_number}
use Rattle.config.specs.declared.Refusal.{Refusal}
use Rattle.draws.specs.declared.Generator.{Generator}
use Rattle.draws.specs.declared.Next.{Next}

-- "a stated seed, 2,463,534,242 when none is given"
abbrev pub default_seed : ℕ
default_seed = 2463534242

-- a number of 32 bits, shifted: what is shifted out is gone
abbrev pub left : ℕ → ℕ → ℕ
left n x = x * 2 ^ n % 2 ^ 32

abbrev pub right : ℕ → ℕ → ℕ
right n x = x / 2 ^ n

-- x, exclusive or x shifted
abbrev pub mixed : (ℕ → ℕ) → ℕ → ℕ
mixed shift x = bit_xor x (shift x)

-- the draw that follows the seed, or a draw: "32-bit xorshift with shifts left 13, right 17, left 5"
unfoldable pub draw : ℕ → ℕ
draw x = mixed (left 5) (mixed (right 17) (mixed (left 13) x))

-- what `next` gives at a draw: the draw, and the generator that wraps it
abbrev pub after : ℕ → Next
after x = record { draw = x; generator = record { 0 = x } }

-- "20, is the seed other than 0"
abbrev pub seed_questions : ℕ → List Question
seed_questions seed = ask 20 (not (eqb seed 0)) ∷ []

-- the answer of the constructor, and what it made wraps: 0 where it made none
abbrev pub NewGenerator : Type 0
NewGenerator = Result Generator Refusal

abbrev pub generator_made : NewGenerator → ℕ
generator_made (Ok g) = g.0
generator_made (Err why) = 0

-- a generator is made exactly of a seed that passes, and wraps it
abbrev pub NewGeneratorPost : ℕ → NewGenerator → Type 0
NewGeneratorPost seed r = number.NewPost (seed_questions seed) seed (verdict_number r) (generator_made r)
