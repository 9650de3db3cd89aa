-- Laws of a server's state as bytes: what is not in use does not show, a state that is packed is one that unpacks, and bytes that unpack are what
-- packing gives. Assumes nothing.
use mathlib.Core.Path.{◌≡◌, refl, sym, ap, ap₂, ◌∙◌}
use mathlib.Core.Bool.{Bool, true, false, cond, ◌&&◌}
use mathlib.Core.List.{List, ◌++◌}
use Prim.Native.Nat.{ℕ, ◌≤◌, ◌<◌}
use native.Mathlib.Omega.{arith}
use borrow.Author.Tests.{eq-eqb, lt-leb}
use lib.Dec.{eqb, leb}
use lib.ListN.{length, get_or}
use Rattle.laws.specs.Bytes.{joined}
use Rattle.laws.proofs.Bytes.{get_d_tabulate, tabulate_cong}
use Rattle.config.specs.declared.Config.{Config}
use Rattle.config.specs.Number.{server_number}
use Rattle.config.specs.Questions.{within}
use Rattle.tag.specs.declared.Tag.{Tag}
use Rattle.tag.specs.Tag.{start}
use Rattle.record.specs.Element.{element_with}
use Rattle.server.specs.declared.State.{State}
use Rattle.server.specs.View.{each, element_at, floor_of, lengths_used, place_at, stored_length, tag_at, tags_used, view}
use Rattle.server.specs.Within.{lengths_within, numbers_within, state_within, tags_within}
use Rattle.server.proofs.Each.{each_same}
use Rattle.states.specs.Bytes.{empty_row, tag_row}
use Rattle.states.specs.Servers.{PackPost, floor_row, head_row, is_state, packed, packed_length, state_of, stored_row, tidy}
use Rattle.states.proofs.Bytes.{last_same, same_self}
use Rattle.states.proofs.servers.Packed.{packed_long}

-- ---- what is not in use does not show

pub tidy_me : (s : State) → (tidy s).me ≡ s.me
unfolding tidy
tidy_me s = refl

module _ (s : State) (few : s.count ≤ 8) where
  tidy_tag : (i : ℕ) → i < s.count → tag_at (tidy s).tags i ≡ tag_at s.tags i
  unfolding tidy
  tidy_tag i h = get_d_tabulate 8 _ i start (omega arith) ∙ rw (lt-leb s.count i h)

  tidy_length : (i : ℕ) → i < s.count → stored_length (tidy s).lengths i ≡ stored_length s.lengths i
  unfolding tidy
  tidy_length i h = get_d_tabulate 8 _ i 0 (omega arith) ∙ rw (lt-leb s.count i h)

pub tidy_view : (cfg : Config) (s : State) (store : List ℕ) → s.count ≤ 8 → view cfg (tidy s) store ≡ view cfg s store
unfolding view tidy
tidy_view cfg s store few =
    let stored : each (place_at cfg (tidy s).tags (tidy s).lengths store) 0 s.count ≡ each (place_at cfg s.tags s.lengths store) 0 s.count =
    each_same _ _ 0 s.count
    (λ j _ l i. record { tag = tidy_tag s few j (omega arith) i; element = element_with (tidy_length s few j (omega arith) i) (element_at cfg store j) }) in
    λ i. record { highest = s.highest; floor = floor_of s.floor; stored = stored i }

pub tidy_within : (cfg : Config) (s : State) → s.count ≤ 8 → state_within cfg (tidy s) ≡ state_within cfg s
unfolding state_within numbers_within tidy
tidy_within cfg s few =
    let me = within 1 cfg.n (server_number s.me) in
    let tags : tags_used (tidy s) ≡ tags_used s = each_same _ _ 0 s.count (λ j _ l. tidy_tag s few j (omega arith)) in
    let lengths : lengths_used (tidy s) ≡ lengths_used s = each_same _ _ 0 s.count (λ j _ l. tidy_length s few j (omega arith)) in
    ap₂ (λ (ts : List Tag) (ns : List ℕ). (me && tags_within cfg s.highest (floor_of s.floor) ts) && lengths_within cfg ns) tags lengths

-- ---- packing

pub packed_tidy : (s : State) → packed (tidy s) ≡ packed s
unfolding packed head_row stored_row tidy
packed_tidy s =
    ap (λ (ls : List (List ℕ)). head_row s ++ tag_row s.highest 0 ++ floor_row s.floor ++ joined ls)
    (tabulate_cong 8 (stored_row (tidy s)) (stored_row s) (λ i h. rw (get_d_tabulate {A = Tag} 8 _ i start h, get_d_tabulate {A = ℕ} 8 _ i 0 h) (go i (leb s.count i))))
  where
    go : (i : ℕ) (b : Bool) → cond b empty_row (tag_row (cond b start (tag_at s.tags i)) (cond b 0 (stored_length s.lengths i)))
        ≡ cond b empty_row (tag_row (tag_at s.tags i) (stored_length s.lengths i))
    go i true = refl
    go i false = refl

packed_first : (s : State) → get_or (packed s) 0 0 ≡ server_number s.me
unfolding packed head_row tag_row
packed_first s = refl

-- a state that is packed is one that unpacks
pub packed_state : (cfg : Config) {s : State} {out : List ℕ} → PackPost s out → within 1 cfg.n (server_number s.me) ≡ true → is_state cfg out ≡ true
unfolding is_state
packed_state cfg {s} {out} p there =
    let again : packed (state_of out) ≡ out = ap packed p.back ∙ packed_tidy s ∙ sym p.bytes in
    let first : get_or out 0 0 ≡ server_number s.me = ap (λ (l : List ℕ). get_or l 0 0) p.bytes ∙ packed_first s in
    rw (eq-eqb (length out) packed_length (ap length p.bytes ∙ packed_long s), again, first, there) (same_self out)

-- bytes that unpack are what packing gives
pub is_packed : (cfg : Config) (bs : List ℕ) → is_state cfg bs ≡ true → bs ≡ packed (state_of bs)
unfolding is_state
is_packed cfg bs h = last_same (eqb (length bs) packed_length) (within 1 cfg.n (get_or bs 0 0)) (packed (state_of bs)) bs h
