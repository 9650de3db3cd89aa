use mathlib.Core.Path.{sym}
use native.Mathlib.Omega.{arith}
use borrow.Author.Tests.{le-leb, lt-leb}
use Rattle.config.proofs.Questions.{within_true}
use Rattle.boards.proofs.Codes.{above_codes, below_codes, names_none, names_one}
use Rattle.boards.proofs.exists.Goals as goal

pub returns-then-call-lt1 : goal.returns-then-call-lt1
returns-then-call-lt1 c =
    let a = c.args in
    sym (names_none a.room a.call.board a.call.code (below_codes a.call.code c.if-call-lt1.true))

pub returns-then-call-gt5 : goal.returns-then-call-gt5
returns-then-call-gt5 c =
    let a = c.args in
    sym (names_none a.room a.call.board a.call.code (above_codes a.call.code c.if-call-gt5.true))

pub returns-then-call-lt1-2 : goal.returns-then-call-lt1-2
returns-then-call-lt1-2 c =
    let a = c.args in
    let low = c.if-call-lt1.false in
    let high = c.if-call-gt5.false in
    let w = within_true 1 5 a.call.code (omega (arith, low)) (omega (arith, high)) in
    rw (names_one a.room a.call.board a.call.code w, lt-leb 1 a.call.board c.if-call-lt1-2.true)

pub returns : goal.returns
returns c =
    let a = c.args in
    let low = c.if-call-lt1.false in
    let high = c.if-call-gt5.false in
    let w = within_true 1 5 a.call.code (omega (arith, low)) (omega (arith, high)) in
    rw (names_one a.room a.call.board a.call.code w, le-leb 1 a.call.board (omega (arith, c.if-call-lt1-2.false)))
