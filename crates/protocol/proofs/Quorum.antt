-- "two quorums share at least k servers", and so, k being at least 1, they meet. A quorum is a witness: a set of at least q servers, and a
-- fact at each.
use Prim.Native.Nat.{ℕ, ◌≤◌}
use mathlib.Core.Path.{◌≡◌}
use mathlib.Core.Bool.{Bool, true}
use native.Mathlib.Omega.{arith}
use Rattle.config.specs.declared.Config.{Config}
use Rattle.protocol.specs.Number.{count}
use Rattle.laws.specs.Servers.{shared}
use Rattle.laws.proofs.Servers.{count_member}
use Rattle.config.proofs.Valid.{quorums_share}
use Rattle.config.specs.Config.{quorum_of}
use Rattle.protocol.proofs.Basics.{and-true}

-- at least q servers, and a fact at each
pub record Quorum (cfg : Config) (P : ℕ → Type 0) : Type 0 where
  pub members : ℕ → Bool
  pub enough : quorum_of cfg ≤ count members cfg.n
  pub each : (s : ℕ) → members s ≡ true → P s

pub quorum_map : {cfg : Config} {P Q : ℕ → Type 0} → ((s : ℕ) → P s → Q s) → Quorum cfg P → Quorum cfg Q
quorum_map f w = record { members = w.members; enough = w.enough; each = λ s e. f s (w.each s e) }

pub quorums_meet : {cfg : Config} {P Q : ℕ → Type 0} → 1 ≤ cfg.k → Quorum cfg P → Quorum cfg Q → (s : ℕ) × P s × Q s
quorums_meet {cfg} k v w =
    let many = quorums_share cfg v.members w.members v.enough w.enough in
    let found = count_member (shared v.members w.members) cfg.n (omega arith) in
    let parts = and-true (v.members found.0) (w.members found.0) found.1 in
    (found.0, v.each found.0 parts.0, w.each found.0 parts.1)
