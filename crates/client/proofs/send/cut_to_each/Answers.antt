use mathlib.Core.Path.{◌≡◌, refl, ap, ◌∙◌}
use mathlib.Core.List.{List}
use Prim.Native.Nat.{ℕ}
use lib.ListN.{length}
use Rattle.laws.proofs.Parts.{copied}
use Rattle.config.specs.declared.Config.{Config}
use Rattle.protocol.specs.Boards.{cut}
use Rattle.protocol.proofs.Cut.{length_cut}
use Rattle.client.specs.declared.send.Broadcast.{Broadcast}
use Rattle.client.specs.Send.{records_of}
use Rattle.client.specs.inner.Send.{ToEachPre, broadcast}
use borrow.Author.Rules.{rules}
use Rattle.client.proofs.send.cut_to_each.Goals as goal
use Rattle.client.proofs.send.cut_to_each.Goals.{After-cut}

-- with another board of its length
with-board : {cfg : Config} {b : Broadcast} {board sends : List ℕ} (other : List ℕ) → length other ≡ length board → ToEachPre cfg b board sends → ToEachPre cfg b other sends
with-board other e p = record { goes = p.goes; board-length = λ h. e ∙ p.board-length h; room = p.room }

-- what is cut
module _ (c : After-cut) where
  whole : c.cut.new.board ≡ cut c.args.b.length c.args.board.now
  whole =
      c.cut.ensures
      ∙ ap (cut c.args.b.length) ((c.copy.ensures.whole (search rules)).1 ∙ copied c.args.board.now c.args.whole.now _ refl c.requires.1)

pub to_each-requires : goal.to_each-requires
to_each-requires c = let k = c in
    with-board _ (ap length (whole (goal.at.to_each-requires c).After-cut) ∙ length_cut k.args.b.length k.args.board.now) k.requires.0

pub returns : goal.returns
returns c = let k = c in
    c.to_each.ensures ∙ ap (λ (bs : List ℕ). records_of k.args.cfg (broadcast k.args.cfg k.args.b bs)) (whole (goal.at.returns c).After-cut)
