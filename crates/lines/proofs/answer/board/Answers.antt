-- `lines::answer::board` meets its contract. Assumes nothing.
use Rattle.std.proofs.Common.{take, sym, refl, ◌∙◌, arith, length-take-le, rules}
use Rattle.lines.proofs.Texts.{hex_length, joined, none_shown, nothing, recast, some_shown}
use Rattle.lines.proofs.answer.board.Goals as goal

pub returns-then-end-eq0 : goal.returns-then-end-eq0
returns-then-end-eq0 c =
    let s = c in
    let a = s.args in (
      recast (none_shown a.long a.read.now (sym c.min-end.ensures ∙ c.if-end-eq0.true)) refl (nothing a.out.now a.at (omega (arith, s.requires))),
      omega arith,
    )

pub hex-requires : goal.hex-requires
hex-requires c =
    let s = c in
    let l = c.min-end in
    let w = c.word-digits in
    omega (arith, s.requires, w.ensures.place, w.auto.out, l.ensures, length-take-le l.result s.args.read.now (omega (arith, l.ensures)))

pub returns : goal.returns
returns c =
    let a = c.args in
    let l = c.min-end in
    let w = c.word-digits in
    let h = c.hex in (
      recast (some_shown a.long l.result a.read.now l.ensures c.if-end-eq0.false) refl (joined w.ensures h.ensures),
      omega (arith, w.ensures.place, h.ensures.place, hex_length (take l.result a.read.now), length-take-le l.result a.read.now (omega (arith, l.ensures)), l.ensures),
    )
