use borrow.Author.Rules.{rules}
use lib.ListN.{length}
use mathlib.Core.Path.{refl, sym, ap, subst, ◌∙◌}
use Rattle.laws.proofs.Parts.{copied}
use Rattle.states.proofs.servers.Packed.{packed_long}
use Rattle.states.specs.Servers.{PackPost}
use Rattle.host.proofs.keep.server.Goals as goal

pub returns : goal.returns
returns c = subst (PackPost _) (sym ((c.copy.ensures.whole (search rules)).1 ∙ copied c.pack-packed.result c.args.out.now _ refl (c.requires ∙ sym (ap length c.pack-packed.ensures.bytes ∙ packed_long _)))) c.pack-packed.ensures
