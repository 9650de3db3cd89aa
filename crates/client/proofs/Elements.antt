-- The elements received, with one more or none from a server. Assumes nothing.
use mathlib.Core.Path.{◌≡◌, refl, ap, ap₂, ◌∙◌, fun_ext}
use mathlib.Core.Bool.{Bool, true, false, cond}
use mathlib.Core.Option.{Option, none, some}
use mathlib.Core.List.{List}
use Prim.Native.Nat.{ℕ, ◌+◌, ◌-◌, ◌*◌, ◌≤◌, ◌<◌}
use native.Mathlib.Omega.{arith}
use lib.ListN.{length}
use lib.Seq.{get_or-set_other, get_or-set_same}
use Rattle.laws.proofs.Parts.{part_fits, part_other, part_own}
use Rattle.config.specs.declared.Config.{Config}
use Rattle.record.specs.Element.{Element, element_with}
use Rattle.protocol.specs.Number.{upd}
use Rattle.protocol.proofs.Basics.{upd_elim, upd_other, upd_same}
use Rattle.client.specs.Servers.{member, sent_by, within_servers}
use Rattle.client.specs.State.{Slots, length_placed_at, placed_at, received, slot_at, slots_of}
use Rattle.client.specs.inner.Count.{put_of}
use Rattle.client.proofs.Sets.{member_put, within_members}

-- the element of a server in the set, or none
abbrev at : Config → Slots → ℕ → Bool → Option Element
at cfg es s b = cond b (some (slot_at cfg es s)) none

-- there is room for the elements of N servers, and for their lengths
pub record Roomy (cfg : Config) (es : Slots) : Type 0 where
  pub bytes : length es.bytes ≡ cfg.n * cfg.e
  pub lengths : cfg.n ≤ length es.lengths

module _ (cfg : Config) (es : Slots) (sent s : ℕ) (whole : Roomy cfg es) (low : 1 ≤ s) (high : s ≤ cfg.n)
    (within : within_servers cfg.n sent ≡ true) (u : Element) (long : length u.bytes ≡ cfg.e) where
  -- the elements after server s sent u, or none
  abbrev after : Bool → Slots
  after there =
      slots_of (length_placed_at s (cond there (some u) none) es.lengths) (placed_at cfg s (cond there (some u) none) es.bytes)

  room : (s - 1) * cfg.e + cfg.e ≤ length es.bytes
  room = let below : s - 1 < cfg.n = omega arith in omega (arith, part_fits (s - 1) cfg.n cfg.e below, whole.bytes)

  some_element : {n m : ℕ} {bs cs : List ℕ} → n ≡ m → bs ≡ cs → ◌≡◌ {A = Option Element} (some (element_with n bs)) (some (element_with m cs))
  some_element e f = ap₂ (λ (n : ℕ) (bs : List ℕ). some (element_with n bs)) e f

  own : (there : Bool) → at cfg (after there) s there ≡ cond there (some u) none
  unfolding placed_at length_placed_at
  own true =
      some_element (get_or-set_same es.lengths (s - 1) u.length 0 (omega (arith, whole.lengths)))
      (part_own cfg.e (s - 1) u.bytes es.bytes long room)
  own false = refl

  other : (there : Bool) (t : ℕ) → (t ≡ s → ⊥) → (b : Bool) → member sent t ≡ b → at cfg (after there) t b ≡ at cfg es t b
  unfolding placed_at length_placed_at
  other there t ne false h = refl
  other false t ne true h = refl
  other true t ne true h =
      let lo = (within_members cfg.n sent t within h).0 in
      some_element (get_or-set_other es.lengths (s - 1) (t - 1) u.length 0 (λ i. ne (omega arith)))
      (part_other cfg.e (s - 1) u.bytes es.bytes long room (t - 1) (λ i. ne (omega arith)))

  pub received_put : (there : Bool) → received cfg (after there) (put_of sent s there) ≡ upd (received cfg es sent) s (cond there (some u) none)
  unfolding received sent_by
  received_put there = fun_ext (λ t. ap (at cfg (after there) t) (ap (λ (f : ℕ → Bool). f t) (member_put sent s there)) ∙ here t)
    where
      here : (t : ℕ) → at cfg (after there) t (upd (member sent) s there t) ≡ upd (received cfg es sent) s (cond there (some u) none) t
      here t =
          upd_elim (λ (o : Option Element). at cfg (after there) t (upd (member sent) s there t) ≡ o) (received cfg es sent) s (cond there (some u) none) t
          (λ i. rw (i, upd_same (member sent) s there) (own there)) (λ i. rw (upd_other (member sent) s there t i) (other there t i (member sent t) refl))
