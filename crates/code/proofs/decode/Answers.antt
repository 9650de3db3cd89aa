-- `code::decode` meets its contract.
use mathlib.Core.Path.{sym}
use lib.ListN.{length}
use Rattle.config.specs.Questions.{first_no}
use Rattle.code.specs.Decode.{decode_questions}
use Rattle.code.specs.Decoded.{decoded}
use Rattle.code.proofs.Answered.{refused, accepted}
use Rattle.code.proofs.Decodable.{decodable}
use Rattle.code.proofs.decode.Goals as goal

pub returns-in_err-decode : goal.returns-in_err-decode
returns-in_err-decode c =
    let x = c.args in
    let a =
    refused (first_no (decode_questions x.cfg x.servers.now (length x.elements.now) (length x.buffer.now))) (decoded x.cfg x.servers.now x.elements.now) x.buffer.now _
    c.from_residual.result c.in_err-decode.ensures c.from_residual.ensures.1 in
    record { number = a.0; buffer = a.1 }

pub decode-requires-2 : goal.decode-requires-2
decode-requires-2 c =
    let x = c.args in
    decodable x.cfg x.servers.now (length x.elements.now) (length x.buffer.now) (sym c.in_ok-decode.ensures)

pub returns : goal.returns
returns c =
    let x = c.args in
    let a =
    accepted (first_no (decode_questions x.cfg x.servers.now (length x.elements.now) (length x.buffer.now))) (decoded x.cfg x.servers.now x.elements.now) x.buffer.now _
    (sym c.in_ok-decode.ensures) c.decode-2.ensures in
    record { number = a.0; buffer = a.1 }
