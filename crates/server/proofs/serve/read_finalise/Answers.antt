use Rattle.std.proofs.Common.{◌+◌, ◌-◌, ◌*◌, length, take, drop, sym, refl, ap, ◌∙◌, arith, length-drop, length-take, rules, eq-eqb}
use mathlib.Core.Option.{Option, none, some}
use Rattle.tag.proofs.Order.{small}
use Rattle.record.specs.declared.Kind.TheVariants.{Cleared, ReadFinaliseAnswer}
use Rattle.record.specs.Element.{Element, element_with}
use Rattle.server.specs.View.{stored_length, tag_at}
use Rattle.server.proofs.Answering.{bare_post, bare_respond, cleared_reply, copied_element, copied_long, finalised_cleared, finalised_element, finalised_none, raised_me, read_reply}
use Rattle.server.proofs.Limits.{state_eight, state_length}
use Rattle.server.proofs.Keep.{from_zero}
use Rattle.server.proofs.Lending.{element_nowhere, element_there, part_fits, part_is, part_long, part_low}
use Rattle.server.proofs.Tags.{both}
use Rattle.server.proofs.serve.read_finalise.Goals as goal

pub place_of-place-requires : goal.place_of-place-requires
place_of-place-requires c =
    let s = c in
    (search rules, state_eight s.args.cfg s.args.s s.requires.held.within s.requires.held.valid)

pub overflow_mul-from : goal.overflow_mul-from
overflow_mul-from c = omega (arith, part_low c.args.cfg c.args.s c.args.h.tag c.args.store.now c.requires.held _ c.if-place-count.true)

pub overflow_add-end : goal.overflow_add-end
overflow_add-end c = omega (arith, part_low c.args.cfg c.args.s c.args.h.tag c.args.store.now c.requires.held _ c.if-place-count.true)

pub slice_bounds-copy-end : goal.slice_bounds-copy-end
slice_bounds-copy-end c = part_fits c.args.cfg c.args.s c.args.h.tag c.args.store.now c.requires.held _ c.if-place-count.true

pub copy-requires : goal.copy-requires
copy-requires c =
    let s = c in
    let p = c.place_of-place.result in
    omega (arith, ap length (part_is c.args.cfg c.args.s c.args.h.tag c.args.store.now c.requires.held p), part_long c.args.cfg c.args.s c.args.h.tag c.args.store.now c.requires.held p c.if-place-count.true, length-take (length s.args.answer.now - 16) (drop 16 s.args.answer.now), length-drop 16 s.args.answer.now, s.requires.eighty, s.requires.held.valid.e_high)

pub bounds-lengths-place : goal.bounds-lengths-place
bounds-lengths-place c =
    let s = c in
    omega (arith, c.if-place-count.true, state_eight s.args.cfg s.args.s s.requires.held.within s.requires.held.valid)

pub respond-requires : goal.respond-requires
respond-requires c =
    let s = c in
    let p = c.place_of-place.result in
    let src = take ((p * s.args.cfg.e + s.args.cfg.e) - p * s.args.cfg.e) (drop (p * s.args.cfg.e) s.args.store.now) in
    let sized-src = ap length (part_is c.args.cfg c.args.s c.args.h.tag c.args.store.now c.requires.held p) ∙ part_long c.args.cfg c.args.s c.args.h.tag c.args.store.now c.requires.held p c.if-place-count.true in
    let long = copied_long s.args.cfg.e s.requires.held.valid.e_high s.args.answer.now src _ s.requires.eighty sized-src (c.copy.ensures.whole (search rules)).1 in
    let is = copied_element s.args.cfg.e s.requires.held.valid.e_high s.args.answer.now src _ s.requires.eighty sized-src (c.copy.ensures.whole (search rules)).1 in
    let fits = state_length s.args.cfg s.args.s s.requires.held.within p c.if-place-count.true in
    record {
      valid = s.requires.held.valid;
      eighty = long;
      of_config =
          read_reply s.args.cfg s.args.s s.args.h s.args.store.now s.args.answer.now s.requires _
          (raised_me s.args.cfg s.args.s s.args.h.tag c.raise-after.ensures) (some _) (both _ _ (eq-eqb _ s.args.cfg.e (ap length is ∙ sized-src)) fits);
      fits = fits;
    }

pub returns-then-place-count : goal.returns-then-place-count
returns-then-place-count c =
    let s = c in
    let p = c.place_of-place.result in
    let src = take ((p * s.args.cfg.e + s.args.cfg.e) - p * s.args.cfg.e) (drop (p * s.args.cfg.e) s.args.store.now) in
    let sized-src = ap length (part_is c.args.cfg c.args.s c.args.h.tag c.args.store.now c.requires.held p) ∙ part_long c.args.cfg c.args.s c.args.h.tag c.args.store.now c.requires.held p c.if-place-count.true in
    let is = copied_element s.args.cfg.e s.requires.held.valid.e_high s.args.answer.now src _ s.requires.eighty sized-src (c.copy.ensures.whole (search rules)).1 in
    let there = element_there c.args.cfg c.args.s c.args.h.tag c.args.store.now c.requires.held p (small c.args.cfg c.requires.held.valid c.args.h.tag c.requires.allowed) (from_zero c.args.h.tag (tag_at c.args.s.tags) c.args.s.count _ c.place_of-place.ensures) c.if-place-count.true in
    finalised_element s.args.cfg s.args.s c.raise-after.result s.args.h s.args.store.now c.raise-after.ensures
    _ (there ∙ ap {B = Option Element} (λ bs. some (element_with (stored_length s.args.s.lengths p) bs)) (sym (is ∙ part_is c.args.cfg c.args.s c.args.h.tag c.args.store.now c.requires.held p))) _ _ c.respond.ensures

pub respond-requires-then-at_or_below : goal.respond-requires-then-at_or_below
respond-requires-then-at_or_below c =
    let s = c in
    bare_respond s.args.cfg _ s.args.h Cleared s.args.h.tag _ c.bare.ensures _ s.requires.held.valid s.requires.eighty
    (cleared_reply s.args.cfg s.args.s s.args.h s.args.store.now s.args.answer.now s.requires _ (raised_me s.args.cfg s.args.s s.args.h.tag c.raise-after.ensures))

pub returns-then-at_or_below : goal.returns-then-at_or_below
returns-then-at_or_below c =
    let s = c in
    finalised_cleared s.args.cfg s.args.s c.raise-after.result s.args.h s.args.store.now c.raise-after.ensures
    (element_nowhere c.args.cfg c.args.s c.args.h.tag c.args.store.now c.requires.held _ (small c.args.cfg c.requires.held.valid c.args.h.tag c.requires.allowed) (from_zero c.args.h.tag (tag_at c.args.s.tags) c.args.s.count _ c.place_of-place.ensures) c.if-place-count.false)
    (sym c.at_or_below.ensures ∙ c.if-at_or_below.true) _ _
    (bare_post s.args.cfg c.raise-after.result.me s.args.h Cleared s.args.h.tag _ c.bare.ensures s.args.answer.now c.raise-after.result _ _ c.respond-then-at_or_below.ensures)

pub respond-requires-2 : goal.respond-requires-2
respond-requires-2 c =
    let s = c in
    bare_respond s.args.cfg _ s.args.h ReadFinaliseAnswer s.args.h.tag _ c.bare-2.ensures _ s.requires.held.valid s.requires.eighty
    (read_reply s.args.cfg s.args.s s.args.h s.args.store.now s.args.answer.now s.requires _ (raised_me s.args.cfg s.args.s s.args.h.tag c.raise-after.ensures) none refl)

pub returns : goal.returns
returns c =
    let s = c in
    finalised_none s.args.cfg s.args.s c.raise-after.result s.args.h s.args.store.now c.raise-after.ensures
    (element_nowhere c.args.cfg c.args.s c.args.h.tag c.args.store.now c.requires.held _ (small c.args.cfg c.requires.held.valid c.args.h.tag c.requires.allowed) (from_zero c.args.h.tag (tag_at c.args.s.tags) c.args.s.count _ c.place_of-place.ensures) c.if-place-count.false)
    (sym c.at_or_below.ensures ∙ c.if-at_or_below.false) _ _
    (bare_post s.args.cfg c.raise-after.result.me s.args.h ReadFinaliseAnswer s.args.h.tag _ c.bare-2.ensures s.args.answer.now c.raise-after.result _ _ c.respond-2.ensures)
