-- What the type of a state tells: it has eight places for tags, and as many for lengths, the numbers of its tags have four bytes, and the client
-- of its highest tag is a byte. Assumes nothing.
use Rattle.std.proofs.Common.{◌≡◌, ℕ, ◌≤◌, List, length, ap, arith}
use native.Mathlib.Decide.{dec_lt}
use lib.ListN.{get_or-eq_default}
use mir.Val.{Val}
use denote.Laws.{Is}
use denote.Array.{Array}
use Rattle.tag.specs.declared.Tag.{Tag}
use Rattle.tag.specs.Tag.{start}
use Rattle.tag.proofs.Order.{Small}
use Rattle.tag.proofs.Owned.{each_at, tag_number}
use Rattle.tag.specs.contracts.Tag as tag
use Rattle.record.specs.Record.{highest_number}
use Rattle.server.specs.declared.State.{State}
use Rattle.server.specs.View.{tag_at}
use Rattle.server.specs.contracts.State as state

pub eight_places : (s : State) (vs : List Val) → Is state.the_row s vs → (length s.tags ≡ 8) × (length s.lengths ≡ 8)
eight_places s vs p = (
  p.1.1.1.1.1.1.0.1.0.1,
  p.1.1.1.1.1.1.1.0.1.0.1,
)

pub tags_numbers : (n : ℕ) (ts : List Tag) (vs : List Val) → Is (Array tag.the_row n) ts vs
    → (j : ℕ) → (tag_at ts j).number ≤ highest_number
tags_numbers n ts vs p j = elim (dec_lt j (length ts)) as (λ _. (tag_at ts j).number ≤ highest_number) [
  | yes l ↦ let e = each_at tag.the_row ts p.0 p.1.1 j l start in tag_number (tag_at ts j) _ e.1
  | no l ↦ let e : tag_at ts j ≡ start = get_or-eq_default ts start {n = j} (omega (arith, l)) in omega (arith, ap (λ (t : Tag). t.number) e)
]

pub highest_small : (s : State) (vs : List Val) → Is state.the_row s vs → Small s.highest
highest_small s vs p = p.1.1.1.1.0.1.1.1.0.1
