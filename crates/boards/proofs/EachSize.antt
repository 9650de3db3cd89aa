-- Sizes that are the same, one by one. Assumes nothing.
use mathlib.Core.Path.{◌≡◌}
use mathlib.Core.Bool.{true, ◌&&◌}
use borrow.Author.Tests.{eqb-true}
use lib.Dec.{eqb}
use Rattle.laws.proofs.Bools.{and_left, and_right}
use Rattle.boards.specs.declared.Sizes.{Sizes}
use Rattle.boards.specs.Questions.{same_sizes}

pub record SameSizes (x y : Sizes) : Type 0 where
  pub messages : x.messages ≡ y.messages
  pub owners : x.owners ≡ y.owners
  pub stores : x.stores ≡ y.stores
  pub boards : x.boards ≡ y.boards
  pub elements : x.elements ≡ y.elements

pub sizes_are : (x y : Sizes) → same_sizes x y ≡ true → SameSizes x y
unfolding same_sizes
sizes_are x y h =
    let m = eqb x.messages y.messages in
    let o = eqb x.owners y.owners in
    let s = eqb x.stores y.stores in
    let b = eqb x.boards y.boards in
    let e = eqb x.elements y.elements in
    let four = and_left (m && o && s && b) e h in
    let three = and_left (m && o && s) b four in
    let two = and_left (m && o) s three in
    record {
      messages = eqb-true x.messages y.messages (and_left m o two);
      owners = eqb-true x.owners y.owners (and_right m o two);
      stores = eqb-true x.stores y.stores (and_right (m && o) s three);
      boards = eqb-true x.boards y.boards (and_right (m && o && s) b four);
      elements = eqb-true x.elements y.elements (and_right (m && o && s && b) e h);
    }
