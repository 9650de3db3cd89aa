use mathlib.Core.Path.{◌∙◌}
use Prim.Native.Nat.{◌<◌}
use native.Mathlib.Omega.{arith}
use borrow.Author.Rules.{rules}
use Rattle.record.proofs.Bytes.{end_in}
use Rattle.record.proofs.Written.{put_record}
use Rattle.record.proofs.put.Goals as goal

pub slice_bounds-fill-count : goal.slice_bounds-fill-count
slice_bounds-fill-count c =
    let s = c in
    end_in s.args.h.present s.requires.0.valid (c.copy.auto.dst ∙ s.requires.0.eighty) c.element_end-end.ensures

pub slice_bounds-fill-start : goal.slice_bounds-fill-start
slice_bounds-fill-start c = slice_bounds-fill-count c

pub returns : goal.returns
returns c =
    let s = c in
    let small : s.args.h.length < 65536 = omega arith in
    put_record s.args.cfg s.args.h _ _ _ _ _ _ _
    (record {
      kind = c.number-k.ensures;
      client = c.number-c.ensures;
      server = c.number-s.ensures;
      present = c.flag-p.ensures;
      operation = c.four_bytes-o.ensures;
      number = c.four_bytes-t.ensures;
    })
    small s.requires.1 s.requires.0.eighty s.requires.0.valid.e_high _ _ _ (c.copy.ensures.whole (search rules)).1 (c.fill.ensures.after (λ y e. e)) c.element_end-end.ensures
