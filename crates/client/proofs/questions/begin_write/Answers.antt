use mathlib.Core.Path.{◌≡◌, sym, ◌∙◌}
use mathlib.Core.Bool.{true}
use mathlib.Core.List.{◌∷◌}
use Prim.Native.Nat.{ℕ, ◌≤◌, ◌<◌}
use native.Mathlib.Omega.{arith}
use borrow.Author.Tests.{eqb-true, le-leb, lt-leb, not-true, not-false}
use lib.Dec.{leb}
use Rattle.laws.proofs.Bools.{and_left}
use Rattle.config.specs.declared.Config.{Config}
use Rattle.config.specs.Config.{board_length}
use Rattle.config.specs.Questions.{ask, first_no}
use Rattle.config.proofs.Exits.{exits}
use Rattle.protocol.specs.Client.{begin_questions}
use Rattle.client.specs.declared.State.{State}
use Rattle.client.specs.Questions.{is_board, write_sized}
use Rattle.client.specs.State.{bare}
use Rattle.client.proofs.Asked.{others, passed, short, stopped}
use Rattle.client.proofs.questions.begin_write.Goals as goal

-- the board has V bytes, so that a length above them is above V
long : (cfg : Config) (board kept sends : ℕ) → write_sized cfg board kept sends ≡ true → board ≡ board_length cfg
long cfg board kept sends h = eqb-true board (board_length cfg) (and_left (is_board cfg board) _ h)

module _ (cfg : Config) (x : State) (n board : ℕ) (is : board ≡ board_length cfg) where
  too_long : board < n → 19 ≡ first_no (ask 19 (leb n (board_length cfg)) ∷ begin_questions (bare cfg x))
  unfolding first_no
  too_long h = rw (lt-leb n (board_length cfg) (omega (arith, h, is)))

  fits : n ≤ board → first_no (begin_questions (bare cfg x)) ≡ first_no (ask 19 (leb n (board_length cfg)) ∷ begin_questions (bare cfg x))
  unfolding first_no
  fits h = rw (le-leb n (board_length cfg) (omega (arith, h, is)))

pub returns-in_err-ask : goal.returns-in_err-ask
returns-in_err-ask c = exits c.from_residual.result _ c.from_residual.ensures.1 ∙ stopped _ _ _ c.in_err-ask.ensures _ _

pub write_sized-requires : goal.write_sized-requires
write_sized-requires c = (passed _ _ c.in_ok-ask.ensures).0

pub returns-then-not-write_sized : goal.returns-then-not-write_sized
returns-then-not-write_sized c = short _ _ c.in_ok-ask.ensures (sym c.write_sized.ensures ∙ not-true _ c.if-not-write_sized.true-raw) _

-- 19
pub returns-then-board-length : goal.returns-then-board-length
returns-then-board-length c =
    let a = c.args in
    let sized = sym c.write_sized.ensures ∙ not-false _ c.if-not-write_sized.false-raw in
    others _ _ c.in_ok-ask.ensures sized _
    (too_long a.cfg a.x a.length a.board (long a.cfg a.board a.kept a.sends sized) c.if-board-length.true)

-- 9 to 11
pub returns : goal.returns
returns c =
    let a = c.args in
    let sized = sym c.write_sized.ensures ∙ not-false _ c.if-not-write_sized.false-raw in
    others _ _ c.in_ok-ask.ensures sized _
    (c.idle.ensures a.cfg ∙ fits a.cfg a.x a.length a.board (long a.cfg a.board a.kept a.sends sized) c.if-board-length.false)
