-- What is kept for each number, of servers or of clients: a function from numbers has no length to carry about.
use Rattle.std.specs.Prelude.{ℕ, zero, suc, ◌+◌, Bool, false, cond, List, [], ◌∷◌, ◌++◌, eqb}
use Rattle.std.proofs.Math.Option.{Option, none, some}
unfoldable pub use Rattle.laws.specs.Lists.{to_list}
unfoldable pub use Rattle.laws.specs.Servers.{count}

-- the same function, but for what it gives at n
unfoldable pub upd : {A : Type 0} → (ℕ → A) → ℕ → A → ℕ → A
upd f n a m = cond (eqb m n) a (f m)

-- what f gives for 1 to n, in that order
unfoldable pub to_each : {A : Type 0} → ℕ → (ℕ → A) → List A
to_each zero f = []
to_each (suc n) f = to_each n f ++ (f (suc n) ∷ [])

-- the pair of a number with what there is for it, or nothing
unfoldable pub pair_of : {A : Type 0} → ℕ → Option A → List (ℕ × A)
pair_of n none = []
pair_of n (some a) = (n, a) ∷ []

-- those of 1 to n for which there is something, in rising order, each with what there is
unfoldable pub present : {A : Type 0} → ℕ → (ℕ → Option A) → List (ℕ × A)
present zero f = []
present (suc n) f = present n f ++ pair_of (suc n) (f (suc n))

-- nobody is in the set
abbrev pub nobody : ℕ → Bool
nobody n = false

-- nothing is there for anybody
abbrev pub nothing_yet : {A : Type 0} → ℕ → Option A
nothing_yet n = none
