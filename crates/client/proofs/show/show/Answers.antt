use mathlib.Core.Path.{◌≡◌, sym, ap₂, ◌∙◌}
use Prim.Native.Nat.{◌-◌, ◌*◌, ◌≤◌}
use native.Mathlib.Omega.{arith}
use lib.ListN.{length, get_or}
use lib.Seq.{length-take-le}
use Rattle.config.proofs.Sizes.{board_small}
use Rattle.protocol.specs.Boards.{cut}
use Rattle.client.specs.State.{slots_of}
use Rattle.client.proofs.Gathering.{bytes_shown, first_in, length_shown, shows}
use Rattle.client.proofs.show.show.Goals as goal
use Rattle.client.proofs.show.show.Goals.{After-gather}

-- there is room for k numbers and k elements
module _ (c : After-gather) where
  numbers_room : c.args.cfg.k ≤ length c.gather.new.numbers
  numbers_room = omega (arith, c.requires.valid.k_high, c.requires.valid.n_high, c.gather.auto.numbers)

  packed_room : c.args.cfg.k * c.args.cfg.e ≤ length c.gather.new.packed
  packed_room = omega (arith, board_small c.args.cfg c.requires.valid, c.gather.auto.packed)

  -- the first of the numbers is one of 1 to N
  first : (1 ≤ get_or c.gather.new.numbers 0 0) × (get_or c.gather.new.numbers 0 0 ≤ c.args.cfg.n)
  first = first_in c.args.cfg c.args.sent c.args.elements.now c.args.board.now c.requires _ _ _ _ c.gather.ensures

pub gather-requires : goal.gather-requires
gather-requires c = let p = c.requires in
    record {
      valid = p.valid;
      within = p.within;
      elements = p.elements;
      enough = p.enough;
      numbers_room = omega (arith, p.valid.k_high, p.valid.n_high);
      packed_room = board_small _ p.valid;
    }

pub overflow_mul-size : goal.overflow_mul-size
overflow_mul-size c = let w = c in record { fits = omega (arith, board_small w.args.cfg w.requires.valid) }

pub slice_bounds-numbers-end : goal.slice_bounds-numbers-end
slice_bounds-numbers-end c = numbers_room (goal.at.slice_bounds-numbers-end c).After-gather

pub slice_bounds-decode-end : goal.slice_bounds-decode-end
slice_bounds-decode-end c = sym (length-take-le _ _ (numbers_room (goal.at.slice_bounds-decode-end c).After-gather))

pub slice_bounds-packed-end : goal.slice_bounds-packed-end
slice_bounds-packed-end c = packed_room (goal.at.slice_bounds-packed-end c).After-gather

pub slice_bounds-decode-end-2 : goal.slice_bounds-decode-end-2
slice_bounds-decode-end-2 c = sym (length-take-le _ _ (packed_room (goal.at.slice_bounds-decode-end-2 c).After-gather))

pub bounds-numbers-0 : goal.bounds-numbers-0
bounds-numbers-0 c = omega (arith, numbers_room (goal.at.bounds-numbers-0 c).After-gather, c.requires.valid.k_low)

pub overflow_cast-low : goal.overflow_cast-low
overflow_cast-low c = record { fits = omega (arith, first (goal.at.overflow_cast-low c).After-gather, c.requires.valid.n_high) }

pub overflow_sub-low : goal.overflow_sub-low
overflow_sub-low c = (first (goal.at.overflow_sub-low c).After-gather).0

pub offset_bounds-lengths-low : goal.offset_bounds-lengths-low
offset_bounds-lengths-low c = omega (arith, first (goal.at.offset_bounds-lengths-low c).After-gather, c.requires.valid.n_high)

pub bounds-lengths-low : goal.bounds-lengths-low
bounds-lengths-low c = omega (arith, first (goal.at.bounds-lengths-low c).After-gather, c.requires.valid.n_high)

pub returns : goal.returns
returns c = let g = c in
    let a = g.args in
    let es = slots_of a.lengths a.elements.now in
    let length : get_or a.lengths (get_or g.gather.new.numbers 0 0 - 1) 0 ≡ _ = sym (length_shown a.cfg a.sent es g.gather.ensures g.requires.valid.k_low) in
    record {
      length = length;
      bytes =
          c.cut.ensures
          ∙ ap₂ cut length
          (shows a.cfg a.sent a.elements.now a.board.now g.requires _ _ _ _ g.gather.ensures _ _ c.decode.ensures
          ∙ sym (bytes_shown a.cfg a.sent es));
    }
