-- `code::encode` meets its contract.
use mathlib.Core.Path.{sym}
use lib.ListN.{length}
use Rattle.config.specs.Questions.{first_no}
use Rattle.code.specs.Element.{element}
use Rattle.code.specs.Encode.{encode_questions}
use Rattle.code.proofs.Answered.{refused, accepted}
use Rattle.code.proofs.Encodable.{encodable}
use Rattle.code.proofs.encode.Goals as goal

pub returns-in_err-encode : goal.returns-in_err-encode
returns-in_err-encode c =
    let x = c.args in
    let a =
    refused (first_no (encode_questions x.cfg (length x.board.now) x.s (length x.part.now))) (element x.cfg x.board.now x.s) x.part.now _
    c.from_residual.result c.in_err-encode.ensures c.from_residual.ensures.1 in
    record { number = a.0; part = a.1 }

pub encode-requires-2 : goal.encode-requires-2
encode-requires-2 c =
    let x = c.args in
    encodable x.cfg (length x.board.now) x.s (length x.part.now) (sym c.in_ok-encode.ensures)

pub returns : goal.returns
returns c =
    let x = c.args in
    let a =
    accepted (first_no (encode_questions x.cfg (length x.board.now) x.s (length x.part.now))) (element x.cfg x.board.now x.s) x.part.now _
    (sym c.in_ok-encode.ensures) c.encode-2.ensures in
    record { number = a.0; part = a.1 }
