-- What is asked of a client that is to begin or to crash is what is asked of the protocol's. Assumes nothing.
use Prim.Native.Nat.{ℕ, ◌*◌}
use mathlib.Core.Path.{◌≡◌, refl, ap, ap₂, ◌∙◌}
use mathlib.Core.Bool.{Bool, true, ◌&&◌}
use mathlib.Core.List.{List, [], ◌∷◌}
use borrow.Author.Tests.{eq-eqb}
use lib.Dec.{leb}
use lib.ListN.{length}
use Rattle.config.specs.declared.Config.{Config}
use Rattle.config.specs.Config.{Valid, board_length, questions}
use Rattle.config.specs.Questions.{Question, ask, first_no, numbered}
use Rattle.config.proofs.Questions.{first_no_pass, first_no_yes, numbered_both, questions_numbered}
use Rattle.config.proofs.Valid.{valid_asked}
use Rattle.client.specs.declared.State.{State}
use Rattle.client.specs.Questions.{ask_begin_questions, begin_read_questions, begin_write_questions, call_questions, crash_questions}
use Rattle.client.specs.State.{bare, state_within, view}
use Rattle.client.proofs.Theorems.{bare_begin}
use Rattle.protocol.specs.Client as protocol

-- what a client that is to begin is asked, by its state alone
abbrev pub idle_of : Config → State → List Question
idle_of cfg x = protocol.begin_questions (bare cfg x)

-- 9, 10 and 11
pub begin_asked : (cfg : Config) (x : State) (kept es : List ℕ) → first_no (protocol.begin_questions (view cfg x kept es)) ≡ first_no (idle_of cfg x)
begin_asked cfg x kept es = ap first_no (bare_begin cfg x kept es)

pub ask_numbered : (cfg : Config) (x : State) → numbered (ask_begin_questions cfg x) ≡ true
unfolding call_questions protocol.begin_questions numbered
ask_numbered cfg x = numbered_both (questions cfg) (ask 6 (true && state_within cfg x) ∷ idle_of cfg x) (questions_numbered cfg) refl

-- a call asks the others alone, where 1 to 6 and 21 are answered yes
module _ (cfg : Config) (valid : Valid cfg) (x : State) (within : state_within cfg x ≡ true) where
  call_number : (sized : Bool) (others : List Question) → sized ≡ true → first_no (call_questions cfg sized x others) ≡ first_no others
  unfolding call_questions
  call_number sized others h =
      first_no_pass (questions cfg) (ask 6 (sized && state_within cfg x) ∷ others) (questions_numbered cfg) (valid_asked cfg valid)
      ∙ first_no_yes 6 (sized && state_within cfg x) others (ap₂ ◌&&◌ h within)

  pub crash_number : first_no (crash_questions cfg x) ≡ first_no (ask 9 (protocol.is_up (bare cfg x).phase) ∷ [])
  crash_number = call_number true (ask 9 (protocol.is_up (bare cfg x).phase) ∷ []) refl

  pub ask_number : first_no (ask_begin_questions cfg x) ≡ first_no (idle_of cfg x)
  ask_number = call_number true (idle_of cfg x) refl

  pub read_number : (sends : List ℕ) → length sends ≡ 80 * cfg.n → first_no (begin_read_questions cfg x sends) ≡ first_no (idle_of cfg x)
  read_number sends e = call_number _ (idle_of cfg x) (eq-eqb (length sends) (80 * cfg.n) e)

  pub write_number : (n : ℕ) (board kept sends : List ℕ) → leb n (board_length cfg) ≡ true → length board ≡ board_length cfg → length kept ≡ board_length cfg → length sends ≡ 80 * cfg.n
      → first_no (begin_write_questions cfg x n board kept sends) ≡ first_no (idle_of cfg x)
  write_number n board kept sends fits b k e =
      call_number _ (ask 19 (leb n (board_length cfg)) ∷ idle_of cfg x)
      (ap₂ ◌&&◌ (eq-eqb (length board) (board_length cfg) b)
      (ap₂ ◌&&◌ (eq-eqb (length kept) (board_length cfg) k) (eq-eqb (length sends) (80 * cfg.n) e)))
      ∙ first_no_yes 19 (leb n (board_length cfg)) (idle_of cfg x) fits
