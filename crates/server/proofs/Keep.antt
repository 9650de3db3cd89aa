-- A pre-write's tag and element, by the case that the protocol has: stored already, at or below the floor, room, full. Assumes nothing.
use Rattle.std.proofs.Common.{◌≡◌, ℕ, ◌+◌, ◌-◌, ◌*◌, ◌<◌, ◌≤◌, Bool, true, false, cond, leb, List, length, refl, ap, ◌∙◌, mul-le-mul_right, zero-add, arith, le-ltb, lt-ltb, le-leb}
use native.Mathlib.Nat.{sub-zero}
use borrow.Author.Tests.{lt-leb}
use native.Mathlib.Decide.{dec_le}
use Rattle.laws.specs.Parts.{over}
use Rattle.laws.proofs.Parts.{over_length, part_fits}
use Rattle.config.specs.declared.Config.{Config}
use Rattle.tag.specs.declared.Tag.{Tag}
use Rattle.tag.specs.Tag.{allowed, key}
use Rattle.tag.proofs.Order.{Small, small}
use Rattle.record.specs.Element.{Element, element_with}
use Rattle.protocol.specs.Server.{Stored, at_or_below_floor, drop_smallest, is_stored, store as stores}
use Rattle.server.specs.declared.State.{State}
use Rattle.server.specs.inner.Keep.{AppendPost, DropSmallestPost, KeepPre, KeepPost, appended, dropped, lowest}
use Rattle.server.specs.inner.Places.{Room}
use Rattle.server.specs.Within.{among, every}
use Rattle.server.specs.View.{each, floor_of, place_at, place_in, tag_at, tags_used, view}
use Rattle.server.proofs.Each.{length_each, place_among, place_not_among}
use Rattle.server.proofs.Limits.{state_allowed, state_count, state_eight, state_once}
use Rattle.server.proofs.Lists.{stored_among}
use Rattle.server.proofs.Views.{another_view, append_view, itself_view}

-- the place that a walk from 0 gives
pub from_zero : (t : Tag) (f : ℕ → Tag) (n p : ℕ) → p ≡ 0 + place_in t (each f 0 (n - 0)) → p ≡ place_in t (each f 0 n)
from_zero t f n p e = e ∙ zero-add (place_in t (each f 0 (n - 0))) ∙ ap (λ (m : ℕ). place_in t (each f 0 m)) (sub-zero n)

module _ (cfg : Config) (s : State) (t : Tag) (n : ℕ) (element store : List ℕ) (k : KeepPre cfg s t element store) where
  abbrev new : Stored Element
  new = record { tag = t; element = element_with n element }

  tag_small : Small t
  tag_small = small cfg k.held.valid t k.allowed

  all_allowed : every (allowed cfg.c) (tags_used s) ≡ true
  all_allowed = state_allowed cfg s k.held.within

  stored_is : is_stored (key cfg) t (view cfg s store).stored ≡ among t (tags_used s)
  unfolding view
  stored_is = stored_among cfg k.held.valid (place_at cfg s.tags s.lengths store) t tag_small 0 s.count all_allowed

  many : length (view cfg s store).stored ≡ s.count
  unfolding view
  many = length_each (place_at cfg s.tags s.lengths store) 0 s.count

  -- the place of t: it is stored, or it is not
  there : (p : ℕ) → p ≡ place_in t (tags_used s) → p < s.count → is_stored (key cfg) t (view cfg s store).stored ≡ true
  there p e h =
      let l : place_in t (tags_used s) < length (tags_used s) = omega (arith, length_each (tag_at s.tags) 0 s.count) in
      stored_is ∙ place_among t (tags_used s) l

  nowhere : (p : ℕ) → p ≡ place_in t (tags_used s) → s.count ≤ p → among t (tags_used s) ≡ false
  nowhere p e h =
      let l : length (tags_used s) ≤ place_in t (tags_used s) = omega (arith, length_each (tag_at s.tags) 0 s.count) in
      place_not_among t (tags_used s) l

  pub keep_stored : (p : ℕ) → p ≡ place_in t (tags_used s) → p < s.count → KeepPost cfg s t n element store store s
  unfolding stores
  keep_stored p e h = record { me = refl; seen = rw (there p e h); long = refl }

  module _ (p : ℕ) (e : p ≡ place_in t (tags_used s)) (h : s.count ≤ p) where
    not_stored : is_stored (key cfg) t (view cfg s store).stored ≡ false
    not_stored = stored_is ∙ nowhere p e h

    floor_is : (view cfg s store).floor ≡ floor_of s.floor
    unfolding view
    floor_is = refl

    pub keep_below : at_or_below_floor (key cfg) t (floor_of s.floor) ≡ true → KeepPost cfg s t n element store store s
    unfolding stores
    keep_below b = record { me = refl; seen = rw (not_stored, ap (at_or_below_floor (key cfg) t) floor_is ∙ b); long = refl }

    module _ (b : at_or_below_floor (key cfg) t (floor_of s.floor) ≡ false) where
      above_floor : at_or_below_floor (key cfg) t (view cfg s store).floor ≡ false
      above_floor = ap (at_or_below_floor (key cfg) t) floor_is ∙ b

      pub room_append : s.count ≤ cfg.d → Room cfg (s.count + 1) element store
      room_append c =
          let m : (s.count + 1) * cfg.e ≤ (cfg.d + 1) * cfg.e = mul-le-mul_right cfg.e (omega arith) in
          record {
            e_high = k.held.valid.e_high;
            sized = k.sized;
            n_high = omega (arith, k.held.valid.d_high);
            fits = omega (arith, k.held.long);
          }

      pub keep_append : s.count ≤ cfg.d → (after : List ℕ) (r : State) → AppendPost cfg s t n element store after r → KeepPost cfg s t n element store after r
      unfolding stores appended
      keep_append c after r a =
          let room = room_append c in
          let fits : s.count * cfg.e + cfg.e ≤ length store = omega (arith, room.fits) in
          let eights : s.count < 8 = omega (arith, room.n_high) in
          record {
            me = ap (λ (x : State). x.me) a.state;
            seen =
                rw (a.state, a.store, not_stored, above_floor, many, lt-ltb s.count (cfg.d + 1) (omega arith))
                (append_view cfg s store t n element k.sized a.eight eights fits);
            long = ap length a.store ∙ over_length (s.count * cfg.e) cfg.e element store k.sized fits;
          }

      pub room_drop : Room cfg s.count element store
      room_drop =
          let m : s.count * cfg.e ≤ (cfg.d + 1) * cfg.e = mul-le-mul_right cfg.e (state_count cfg s k.held.within) in
          record {
            e_high = k.held.valid.e_high;
            sized = k.sized;
            n_high = state_eight cfg s k.held.within k.held.valid;
            fits = omega (arith, k.held.long);
          }

      drop_view : (after : List ℕ) (r : State) → DropSmallestPost cfg s t n element store after r → view cfg r after ≡ drop_smallest (key cfg) (view cfg s store) new
      drop_view after r d = elim (dec_le s.count (lowest cfg s t).place) as (λ _. view cfg r after ≡ drop_smallest (key cfg) (view cfg s store) new) [
        | yes le ↦
            let x : after ≡ store = d.store ∙ ap (λ (z : Bool). cond z store (over ((lowest cfg s t).place * cfg.e) cfg.e element store)) (le-leb s.count (lowest cfg s t).place le) in
            rw (d.state, x)
            (itself_view cfg s store t n element k.sized d.eight k.held.valid tag_small all_allowed
            (state_once cfg s k.held.within) (nowhere p e h) le)
        | no gt ↦
            let lt : (lowest cfg s t).place < s.count = omega arith in
            let x : after ≡ over ((lowest cfg s t).place * cfg.e) cfg.e element store =
            d.store ∙ ap (λ (z : Bool). cond z store (over ((lowest cfg s t).place * cfg.e) cfg.e element store)) (lt-leb s.count (lowest cfg s t).place lt) in
            rw (d.state, x)
            (another_view cfg s store t n element k.sized d.eight k.held.valid tag_small all_allowed
            (state_once cfg s k.held.within) (nowhere p e h) lt room_drop.n_high room_drop.fits)
      ]

      drop_long : (after : List ℕ) (r : State) → DropSmallestPost cfg s t n element store after r → length after ≡ length store
      drop_long after r d = ap length d.store ∙ elim (dec_le s.count (lowest cfg s t).place) as (λ _. length (cond (leb s.count (lowest cfg s t).place) store (over ((lowest cfg s t).place * cfg.e) cfg.e element store)) ≡ length store) [
        | yes le ↦ rw (le-leb s.count (lowest cfg s t).place le)
        | no gt ↦
            let lt : (lowest cfg s t).place < s.count = omega arith in
            let fits : (lowest cfg s t).place * cfg.e + cfg.e ≤ length store = omega (arith, part_fits (lowest cfg s t).place s.count cfg.e lt, room_drop.fits) in
            rw (lt-leb s.count (lowest cfg s t).place lt) (over_length ((lowest cfg s t).place * cfg.e) cfg.e element store k.sized fits)
      ]

      pub keep_drop : cfg.d < s.count → (after : List ℕ) (r : State) → DropSmallestPost cfg s t n element store after r → KeepPost cfg s t n element store after r
      unfolding stores dropped
      keep_drop c after r d =
          record {
            me = ap (λ (x : State). x.me) d.state;
            seen = drop_view after r d ∙ rw (not_stored, above_floor, many, le-ltb s.count (cfg.d + 1) (omega arith));
            long = drop_long after r d;
          }
