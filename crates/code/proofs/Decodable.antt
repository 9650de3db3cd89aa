-- The questions of `decode`: which is the first no, and what is known where there is none.
use Prim.Native.Nat.{ℕ, ◌*◌, ◌<◌, ◌≤◌}
use mathlib.Core.Path.{◌≡◌, refl, sym, ◌∙◌}
use mathlib.Core.Bool.{Bool, true, false, ◌&&◌}
use mathlib.Core.List.{List, [], ◌∷◌}
use native.Mathlib.Omega.{arith}
use borrow.Author.Tests.{eq-eqb, ne_eqb, eqb-true, le-leb, lt-leb, leb-true}
use lib.Dec.{eqb, leb}
use lib.ListN.{length}
use Rattle.laws.proofs.Bools.{and_left, and_right}
use Rattle.config.specs.declared.Config.{Config}
use Rattle.config.specs.Config.{questions, board_length}
use Rattle.config.specs.Questions.{ask, first_no}
use Rattle.config.proofs.Questions.{early, first_no_pass, none_first, questions_numbered, first_no_yes, first_no_no}
use Rattle.config.proofs.Valid.{valid}
use Rattle.code.specs.Decode.{decode_questions}
use Rattle.code.specs.inner.Calls.{DecodePre}
use Rattle.code.specs.Decoded.{rising}
use Rattle.code.proofs.Asked.{left_no, right_no, both_yes}

all_yes : (a b c : Bool) → first_no (ask 6 a ∷ ask 17 b ∷ ask 18 c ∷ []) ≡ 0 → (a ≡ true) × (b ≡ true) × (c ≡ true)
unfolding first_no
all_yes true true true h = (refl, refl, refl)
all_yes true true false h = absurd (omega arith)
all_yes true false c h = absurd (omega arith)
all_yes false b c h = absurd (omega arith)

module _ (cfg : Config) (servers : List ℕ) (elements buffer : ℕ) where
  abbrev answer : ℕ
  answer = first_no (decode_questions cfg servers elements buffer)

  abbrev whole : Bool
  whole = eqb elements (length servers * cfg.e)

  abbrev shape : Bool
  shape = whole && eqb buffer (board_length cfg)

  abbrev up : Bool
  up = rising cfg.n servers

  abbrev many : Bool
  many = leb cfg.k (length servers)

  pub refused : (got : ℕ) → got ≡ first_no (questions cfg) → (got ≡ 0 → ⊥) → got ≡ answer
  unfolding decode_questions
  refused got e some = early cfg e some (ask 6 shape ∷ ask 17 up ∷ ask 18 many ∷ [])

  passes : first_no (questions cfg) ≡ 0 → answer ≡ first_no (ask 6 shape ∷ ask 17 up ∷ ask 18 many ∷ [])
  unfolding decode_questions
  passes = first_no_pass (questions cfg) (ask 6 shape ∷ ask 17 up ∷ ask 18 many ∷ []) (questions_numbered cfg)

  pub decodable : answer ≡ 0 → DecodePre cfg servers elements buffer
  unfolding decode_questions
  decodable h =
      let none : first_no (questions cfg) ≡ 0 = none_first (questions cfg) (ask 6 shape ∷ ask 17 up ∷ ask 18 many ∷ []) h in
      let y = all_yes shape up many (sym (passes none) ∙ h) in
      record {
        valid = valid cfg none;
        elements-length = eqb-true elements (length servers * cfg.e) (and_left whole (eqb buffer (board_length cfg)) y.0);
        buffer_length = eqb-true buffer (board_length cfg) (and_right whole (eqb buffer (board_length cfg)) y.0);
        rises = y.1;
        enough = leb-true cfg.k (length servers) y.2;
      }

  module _ (none : first_no (questions cfg) ≡ 0) where
    misshaped : shape ≡ false → 6 ≡ answer
    misshaped h = sym (passes none ∙ first_no_no 6 shape (ask 17 up ∷ ask 18 many ∷ []) h)

    pub wrong_elements : whole ≡ false → 6 ≡ answer
    wrong_elements h = misshaped (left_no whole (eqb buffer (board_length cfg)) h)

    pub wrong_buffer : (buffer ≡ board_length cfg → ⊥) → 6 ≡ answer
    wrong_buffer n = misshaped (right_no whole (eqb buffer (board_length cfg)) (ne_eqb buffer (board_length cfg) n))

    module _ (le : whole ≡ true) (lb : buffer ≡ board_length cfg) where
      later : answer ≡ first_no (ask 17 up ∷ ask 18 many ∷ [])
      later =
          passes none
          ∙ first_no_yes 6 shape (ask 17 up ∷ ask 18 many ∷ [])
          (both_yes whole (eqb buffer (board_length cfg)) le (eq-eqb buffer (board_length cfg) lb))

      pub falling : up ≡ false → 17 ≡ answer
      falling h = sym (later ∙ first_no_no 17 up (ask 18 many ∷ []) h)

      module _ (u : up ≡ true) where
        last : answer ≡ first_no (ask 18 many ∷ [])
        last = later ∙ first_no_yes 17 up (ask 18 many ∷ []) u

        pub too_few : length servers < cfg.k → 18 ≡ answer
        too_few h = sym (last ∙ first_no_no 18 many [] (lt-leb cfg.k (length servers) h))

        pub accepted : cfg.k ≤ length servers → 0 ≡ answer
        unfolding first_no
        accepted h = sym (last ∙ first_no_yes 18 many [] (le-leb cfg.k (length servers) h))
