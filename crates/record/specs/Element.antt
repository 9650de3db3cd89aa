-- An element as a server stores it and a message carries it: "Servers store the length beside the element."
use Rattle.std.specs.Prelude.{ℕ, List}

pub record Element : Type 0 where
  -- of the board that it is of
  pub length : ℕ
  -- E of them
  pub bytes : List ℕ

abbrev pub element_with : ℕ → List ℕ → Element
element_with length bytes = record { length = length; bytes = bytes }
