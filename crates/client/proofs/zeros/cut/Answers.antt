use Rattle.std.proofs.Common.{◌≡◌, ℕ, ◌-◌, ◌++◌, List, [], length, take, drop, replicate, sym, ap, ◌∙◌, arith, append-nil}
use Rattle.std.proofs.Math.ListN.{drop_of_length-le, length-take, length-drop}
use borrow.Rule.Slice.PartMut.{post_of}
use Rattle.protocol.specs.Boards.{cut}
use Rattle.protocol.proofs.Cut.{cut_all}
use Rattle.client.proofs.zeros.cut.Goals as goal

pub returns-then-from-board : goal.returns-then-from-board
unfolding cut
returns-then-from-board c =
    let n = c.args.length in
    let b = c.args.board.now in
    let many : length (take (length b - n) (drop n b)) ≡ length b - n = simp (length-take, length-drop) (omega arith) in
    let filled = c.fill.ensures.after (λ y e. e) ∙ ap (λ (m : ℕ). replicate m 0) many in
    let none : post_of n (length b - n) b ≡ [] = drop_of_length-le (drop n b) (simp length-drop (omega arith)) in
    ap (λ (l : List ℕ). take n b ++ l) (ap (λ (l : List ℕ). l ++ post_of n (length b - n) b) filled ∙ ap (λ (l : List ℕ). replicate (length b - n) 0 ++ l) none ∙ append-nil _)

pub returns-else-from-board : goal.returns-else-from-board
returns-else-from-board c = sym (cut_all c.args.length c.args.board.now c.if-from-board.false)
