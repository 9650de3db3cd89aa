use mathlib.Core.Path.{◌≡◌, refl, sym, ap, ◌∙◌}
use mathlib.Core.Bool.{true, ◌&&◌}
use mathlib.Core.List.{List, []}
use mathlib.Core.Option.{some}
use Prim.Native.Nat.{ℕ, ◌*◌}
use native.Mathlib.Nat.{le_of_eq}
use native.Mathlib.Omega.{arith}
use borrow.Author.Tests.{eqb-true}
use lib.Dec.{leb}
use lib.ListN.{length}
use Rattle.laws.proofs.Bools.{and_left, and_right}
use Rattle.laws.proofs.Parts.{copied}
use Rattle.config.specs.declared.Config.{Config}
use Rattle.config.specs.Config.{board_length}
use Rattle.config.specs.Questions.{first_no}
use Rattle.config.proofs.Questions.{yes_next}
use Rattle.protocol.specs.Boards.{board_of, cut}
use Rattle.protocol.specs.Client.{begin_questions}
use Rattle.protocol.proofs.Cut.{cut_again}
use Rattle.client.specs.declared.State.{State}
use Rattle.client.specs.Questions.{begin_write_questions, is_board, is_sends}
use Rattle.client.specs.State.{bare}
use Rattle.client.proofs.Answers.{announces, asks, begin-refused, begun, operation-below, passes}
use Rattle.client.proofs.begin_write.Goals as goal

-- all questions are answered yes: the buffers have their lengths, and the board's fits
module _ (cfg : Config) (x : State) (n : ℕ) (board kept sends : List ℕ) (none : 0 ≡ first_no (begin_write_questions cfg x n board kept sends)) where
  pass : first_no (begin_write_questions cfg x n board kept sends) ≡ 0
  pass = sym none

  two : (is_board cfg (length kept) && is_sends cfg (length sends)) ≡ true
  two = and_right (is_board cfg (length board)) (is_board cfg (length kept) && is_sends cfg (length sends)) (passes _ _ _ _ pass).1

  copy-length : length board ≡ length kept
  copy-length =
      eqb-true (length board) (board_length cfg)
      (and_left (is_board cfg (length board)) (is_board cfg (length kept) && is_sends cfg (length sends)) (passes _ _ _ _ pass).1)
      ∙ sym (eqb-true (length kept) (board_length cfg) (and_left (is_board cfg (length kept)) (is_sends cfg (length sends)) two))

  sends-length : length sends ≡ 80 * cfg.n
  sends-length = eqb-true (length sends) (80 * cfg.n) (and_right (is_board cfg (length kept)) (is_sends cfg (length sends)) two)

  -- 19, and then 9 to 11
  then : (leb n (board_length cfg) ≡ true) × (first_no (begin_questions (bare cfg x)) ≡ 0)
  then = yes_next 19 (leb n (board_length cfg)) (begin_questions (bare cfg x)) (omega arith) (passes _ _ _ _ pass).3

pub returns-in-Err : goal.returns-in-Err
returns-in-Err c es = begin-refused _ _ _ _ _ _ es _ _ c.in-Err.ensures c.refused.ensures

pub begun-requires : goal.begun-requires
begun-requires c =
    let a = c.args in
    operation-below _ _ (then a.cfg a.state a.length a.board.now a.kept.now a.sends.now c.in_default.ensures).1

pub announce-requires : goal.announce-requires
announce-requires c =
    let a = c.args in
    let p = passes _ _ _ _ (sym c.in_default.ensures) in
    rw c.begun.ensures
    (announces _ _ p.2 true _ (then a.cfg a.state a.length a.board.now a.kept.now a.sends.now c.in_default.ensures).0 p.0 _ _
    (sends-length a.cfg a.state a.length a.board.now a.kept.now a.sends.now c.in_default.ensures))

pub returns : goal.returns
returns c es =
    let a = c.args in
    let n = a.length in
    let same-length = copy-length a.cfg a.state n a.board.now a.kept.now a.sends.now c.in_default.ensures in
    let fits = (then a.cfg a.state n a.board.now a.kept.now a.sends.now c.in_default.ensures).0 in
    let copy = (c.copy.ensures.whole (le_of_eq same-length)).1 ∙ copied a.board.now a.kept.now _ refl (sym same-length) in
    let same = c.cut.ensures ∙ ap (cut n) copy in
    begun _ _ _ _ (sym c.in_default.ensures) (some (board_of n a.board.now)) a.kept.now _ es a.sends.now refl refl refl same
    (asks _ a.state (passes _ _ _ _ (sym c.in_default.ensures)).2 true n fits _ _ _ es _ []
    (ap (λ bs. some (record { length = n; bytes = bs })) (ap (cut n) same ∙ cut_again n a.board.now))
    (rw c.begun.ensures at c.announce.ensures))
