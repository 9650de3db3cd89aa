-- The lengths of a valid configuration's buffers: which they are, and how great they can be. Assumes nothing.
use mathlib.Core.Path.{◌≡◌}
use Prim.Native.Nat.{ℕ, ◌+◌, ◌≤◌}
use native.Mathlib.Omega.{arith}
use native.Mathlib.Nat.{le_trans, mul-le-mul}
use borrow.Author.Tests.{eq-eqb, ne_eqb}
use Rattle.config.specs.declared.Config.{Config}
use Rattle.config.specs.Config.{Valid, board_length, elements_length, questions, sends_length, store_length}
use Rattle.config.specs.Lengths.{lengths_of, no_lengths, valid_lengths}
use Rattle.config.specs.Questions.{first_no}
use Rattle.config.proofs.Valid.{valid_asked}

module _ (cfg : Config) (v : Valid cfg) where
  pub board_small : board_length cfg ≤ 1024
  board_small = mul-le-mul (le_trans v.k_high v.n_high) v.e_high

  pub store_small : store_length cfg ≤ 512
  store_small = let d : cfg.d + 1 ≤ 8 = omega arith in mul-le-mul d v.e_high

  pub sends_small : sends_length cfg ≤ 1280
  sends_small = omega arith

  pub elements_small : elements_length cfg ≤ 1024
  elements_small = mul-le-mul v.n_high v.e_high

  pub lengths_valid : (m : ℕ) → lengths_of cfg m ≡ valid_lengths cfg m
  lengths_valid m = rw (eq-eqb (first_no (questions cfg)) 0 (valid_asked cfg v))

pub lengths_none : (cfg : Config) (m : ℕ) → (first_no (questions cfg) ≡ 0 → ⊥) → lengths_of cfg m ≡ no_lengths
lengths_none cfg m some = rw (ne_eqb (first_no (questions cfg)) 0 some)
