use borrow.Author.Rules.{rules}
use lib.ListN.{replicate}
use mathlib.Core.Path.{refl}
use Rattle.host.proofs.told.Laws.{ranks_copied, read_short, read_whole}
use Rattle.host.proofs.told.read.Goals as goal

pub returns-then-bytes-ne-CONFIG : goal.returns-then-bytes-ne-CONFIG
returns-then-bytes-ne-CONFIG c = record { number = read_short _ c.if-bytes-ne-CONFIG.true; gives = tt }

pub returns : goal.returns
returns c =
    let long = c.if-bytes-ne-CONFIG.false in
    record {
      number = read_whole _ long;
      gives = λ i. record {
        n = c.wide.ensures i;
        k = c.wide-2.ensures i;
        d = c.wide-3.ensures i;
        e = c.wide-4.ensures i;
        c = c.wide-5.ensures i;
        ranks = ranks_copied c.args.bytes.now long (replicate 16 0) _ refl (c.copy.ensures.whole (search rules)).1 i;
      };
    }
