-- The laws of a commutative field whose sum is its own inverse (characteristic two).
use Rattle.std.specs.Prelude.{◌≡◌}

module _ (F : Type 0) (zero one : F) (◌⊕◌ ◌⊗◌ : F → F → F) (inv : F → F) where
  infixl 60 ◌⊕◌
  infixl 70 ◌⊗◌
  pub record FieldLaws : Type 0 where
    pub add_assoc : (a b c : F) → (a ⊕ b) ⊕ c ≡ a ⊕ (b ⊕ c)
    pub add_comm : (a b : F) → a ⊕ b ≡ b ⊕ a
    pub add-zero : (a : F) → a ⊕ zero ≡ a
    pub add_self : (a : F) → a ⊕ a ≡ zero
    pub mul_assoc : (a b c : F) → (a ⊗ b) ⊗ c ≡ a ⊗ (b ⊗ c)
    pub mul_comm : (a b : F) → a ⊗ b ≡ b ⊗ a
    pub mul_one : (a : F) → a ⊗ one ≡ a
    pub mul_add : (a b c : F) → a ⊗ (b ⊕ c) ≡ (a ⊗ b) ⊕ (a ⊗ c)
    pub mul_inv : (a : F) → (a ≡ zero → ⊥) → a ⊗ inv a ≡ one
    pub one_ne_zero : one ≡ zero → ⊥
