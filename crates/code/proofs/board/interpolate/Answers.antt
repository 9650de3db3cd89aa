-- `code::board::interpolate` meets its contract.
use mathlib.Core.Path.{◌∙◌}
use lib.ListN.{length}
use Rattle.code.proofs.Combined.{combined_decoded}
use Rattle.code.proofs.CombinedRows.{rows_asked}
use Rattle.code.proofs.Interpolated.{usable}
use Rattle.code.proofs.board.interpolate.Goals as goal

pub invert-inverse-requires : goal.invert-inverse-requires
invert-inverse-requires c =
    let a = c.args in
    usable a.cfg a.servers.now (length a.elements.now) (length a.buffer.now) c.requires

pub by_sums-requires : goal.by_sums-requires
by_sums-requires c =
    let a = c.args in
    let i = c.invert-inverse in
    rows_asked a.cfg a.servers.now (length a.elements.now) (length a.buffer.now) c.requires i.result i.ensures

pub returns-then-large : goal.returns-then-large
returns-then-large c =
    let a = c.args in
    let h = c.requires in
    let i = c.invert-inverse in
    c.by_sums.ensures
    ∙ combined_decoded a.cfg a.servers.now a.elements.now i.result h.valid.e_low h.enough i.ensures

pub by_multiples-requires : goal.by_multiples-requires
by_multiples-requires c =
    let a = c.args in
    let i = c.invert-inverse in
    rows_asked a.cfg a.servers.now (length a.elements.now) (length a.buffer.now) c.requires i.result i.ensures

pub returns : goal.returns
returns c =
    let a = c.args in
    let h = c.requires in
    let i = c.invert-inverse in
    c.by_multiples.ensures
    ∙ combined_decoded a.cfg a.servers.now a.elements.now i.result h.valid.e_low h.enough i.ensures
