-- `code::encode_all` meets its contract.
use mathlib.Core.Path.{sym}
use lib.ListN.{length}
use Rattle.config.specs.Questions.{first_no}
use Rattle.code.specs.EncodeAll.{encode_all_questions, with_elements}
use Rattle.code.proofs.Answered.{refused, accepted}
use Rattle.code.proofs.EncodableAll.{encodable_all}
use Rattle.code.proofs.encode_all.Goals as goal

pub returns-in_err-encode_all : goal.returns-in_err-encode_all
returns-in_err-encode_all c =
    let x = c.args in
    let a =
    refused (first_no (encode_all_questions x.cfg (length x.board.now) x.offset x.distance (length x.buffer.now)))
    (with_elements x.cfg x.board.now x.offset x.distance x.buffer.now) x.buffer.now _
    c.from_residual.result c.in_err-encode_all.ensures c.from_residual.ensures.1 in
    record { number = a.0; buffer = a.1 }

pub encode-requires : goal.encode-requires
encode-requires c =
    let x = c.args in
    encodable_all x.cfg (length x.board.now) x.offset x.distance (length x.buffer.now)
    (sym c.in_ok-encode_all.ensures)

pub returns : goal.returns
returns c =
    let b = c in
    let x = b.args in
    let a =
    accepted (first_no (encode_all_questions x.cfg (length x.board.now) x.offset x.distance (length x.buffer.now)))
    (with_elements x.cfg x.board.now x.offset x.distance x.buffer.now) x.buffer.now _
    (sym b.in_ok-encode_all.ensures) c.encode.ensures in
    record { number = a.0; buffer = a.1 }
