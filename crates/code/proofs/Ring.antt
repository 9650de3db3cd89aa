-- What follows from the laws of a field of characteristic two, and `normal`, the list by which `simp` takes two sums of
-- products to one form.
use mathlib.Core.Path.{◌≡◌, sym, ap, ap₂, ◌∙◌}
use Rattle.laws.specs.Algebra.{FieldLaws}
use Rattle.code.specs.Polynomial.{Operations}

-- the laws of a field, of a record of operations
abbrev pub Laws : {F : Type 0} → Operations F → Type 0
Laws {F} o = FieldLaws F o.nought o.unit o.add o.mul o.inverse

module _ {F : Type 0} (o : Operations F) (L : Laws o) where
  pub add_assoc : (a b c : F) → o.add (o.add a b) c ≡ o.add a (o.add b c)
  add_assoc = L.add_assoc

  pub add_comm : (a b : F) → o.add a b ≡ o.add b a
  add_comm = L.add_comm

  pub add_left_comm : (a b c : F) → o.add a (o.add b c) ≡ o.add b (o.add a c)
  add_left_comm a b c = rw (← L.add_assoc a b c, ← L.add_assoc b a c, L.add_comm a b)

  pub add-zero : (a : F) → o.add a o.nought ≡ a
  add-zero = L.add-zero

  pub zero-add : (a : F) → o.add o.nought a ≡ a
  zero-add a = L.add_comm o.nought a ∙ L.add-zero a

  pub add_self : (a : F) → o.add a a ≡ o.nought
  add_self = L.add_self

  pub add_cancel : (a b : F) → o.add a (o.add a b) ≡ b
  add_cancel a b = rw (← L.add_assoc a a b, L.add_self a) (zero-add b)

  pub mul_assoc : (a b c : F) → o.mul (o.mul a b) c ≡ o.mul a (o.mul b c)
  mul_assoc = L.mul_assoc

  pub mul_comm : (a b : F) → o.mul a b ≡ o.mul b a
  mul_comm = L.mul_comm

  pub mul_left_comm : (a b c : F) → o.mul a (o.mul b c) ≡ o.mul b (o.mul a c)
  mul_left_comm a b c = rw (← L.mul_assoc a b c, ← L.mul_assoc b a c, L.mul_comm a b)

  pub mul_one : (a : F) → o.mul a o.unit ≡ a
  mul_one = L.mul_one

  pub one-mul : (a : F) → o.mul o.unit a ≡ a
  one-mul a = L.mul_comm o.unit a ∙ L.mul_one a

  pub mul_add : (a b c : F) → o.mul a (o.add b c) ≡ o.add (o.mul a b) (o.mul a c)
  mul_add = L.mul_add

  pub add-mul : (a b c : F) → o.mul (o.add a b) c ≡ o.add (o.mul a c) (o.mul b c)
  add-mul a b c = L.mul_comm (o.add a b) c ∙ L.mul_add c a b ∙ ap₂ o.add (L.mul_comm c a) (L.mul_comm c b)

  pub mul-zero : (a : F) → o.mul a o.nought ≡ o.nought
  mul-zero a =
      ap (o.mul a) (sym (L.add_self o.nought))
      ∙ L.mul_add a o.nought o.nought
      ∙ L.add_self (o.mul a o.nought)

  pub zero-mul : (a : F) → o.mul o.nought a ≡ o.nought
  zero-mul a = L.mul_comm o.nought a ∙ mul-zero a

  -- a sum is 0 only of equals
  pub same : (a b : F) → o.add a b ≡ o.nought → a ≡ b
  same a b e = sym (L.add-zero a) ∙ ap (o.add a) (sym e) ∙ add_cancel a b

  pub not_zero : (a b : F) → (a ≡ b → ⊥) → o.add a b ≡ o.nought → ⊥
  not_zero a b n e = n (same a b e)

  -- a product is 0 only by a factor
  pub no_divisor : (a b : F) → (a ≡ o.nought → ⊥) → o.mul a b ≡ o.nought → b ≡ o.nought
  no_divisor a b n e =
      sym (one-mul b)
      ∙ ap (λ x. o.mul x b) (sym (L.mul_inv a n) ∙ L.mul_comm a (o.inverse a))
      ∙ L.mul_assoc (o.inverse a) a b
      ∙ ap (o.mul (o.inverse a)) e
      ∙ mul-zero (o.inverse a)

pub ruleset normal = (
  add_assoc,
  add_comm,
  add_left_comm,
  add-zero,
  zero-add,
  add_self,
  add_cancel,
  mul_assoc,
  mul_comm,
  mul_left_comm,
  mul_one,
  one-mul,
  mul_add,
  add-mul,
  mul-zero,
  zero-mul,
)
