-- A message, as the protocol sees it: no bytes. The element is any type; of the records it is a length and E bytes.
use Rattle.std.specs.Prelude.{ℕ}
use Rattle.std.proofs.Math.Option.{Option}
use Rattle.tag.specs.declared.Tag.{Tag}
use Rattle.record.specs.declared.Kind.{Kind}

pub record Message (Element : Type 0) : Type 0 where
  pub kind : Kind
  pub client : ℕ
  pub server : ℕ
  pub operation : ℕ
  pub tag : Tag
  pub element : Option Element
