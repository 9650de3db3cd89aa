-- The places that an event names are two of sixteen. Assumes nothing.
use Prim.Native.Nat.{ℕ, ◌<◌}
use mathlib.Core.Path.{◌≡◌, ap}
use mathlib.Core.List.{List}
use native.Mathlib.Omega.{arith}
use Rattle.config.specs.declared.Config.{Config}
use Rattle.config.specs.Config.{Valid}
use Rattle.events.specs.declared.Call.{Call}
use Rattle.events.specs.declared.Places.{Places}
use Rattle.events.specs.Questions.{named_by, places_of}
use Rattle.events.proofs.named.Laws.{place_below}

pub named_inside : {cfg : Config} → Valid cfg → (count : ℕ) (a : Call) (messages : List ℕ) {x : Places} → x ≡ places_of cfg count a messages
    → (x.server < 16) × (x.client < 16)
named_inside {cfg} valid count a messages e = (
  omega (
    arith,
    ap (λ (z : Places). z.server) e,
    place_below cfg.n (named_by count a.code a.party a.position 2 messages) valid.n_low,
    valid.n_high,
  ),
  omega (
    arith,
    ap (λ (z : Places). z.client) e,
    place_below cfg.c (named_by count a.code a.party a.position 1 messages) valid.c_low,
    valid.c_high,
  ),
)
