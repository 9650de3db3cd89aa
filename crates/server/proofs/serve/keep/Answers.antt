use Rattle.std.proofs.Common.{sym, ◌∙◌, rules}
use Rattle.server.specs.View.{tag_at}
use Rattle.server.proofs.Limits.{state_eight}
use Rattle.server.proofs.Keep.{from_zero, keep_append, keep_below, keep_drop, keep_stored, room_append, room_drop}
use Rattle.server.proofs.serve.keep.Goals as goal

pub place_of-requires : goal.place_of-requires
place_of-requires c =
    let s = c in
    (search rules, state_eight s.args.cfg s.args.s s.requires.held.within s.requires.held.valid)

pub returns-then-place_of-count : goal.returns-then-place_of-count
returns-then-place_of-count c =
    let s = c in
    let a = s.args in
    keep_stored a.cfg a.s a.t a.length _ _ s.requires _ (from_zero a.t (tag_at a.s.tags) a.s.count _ c.place_of.ensures) c.if-place_of-count.true

pub returns-then-at_or_below : goal.returns-then-at_or_below
returns-then-at_or_below c =
    let s = c in
    let a = s.args in
    keep_below a.cfg a.s a.t a.length _ _ s.requires _ (from_zero a.t (tag_at a.s.tags) a.s.count _ c.place_of.ensures) c.if-place_of-count.false
    (sym c.at_or_below.ensures ∙ c.if-at_or_below.true)

pub append-requires : goal.append-requires
append-requires c =
    let s = c in
    let a = s.args in
    room_append a.cfg a.s a.t a.length _ _ s.requires _ (from_zero a.t (tag_at a.s.tags) a.s.count _ c.place_of.ensures) c.if-place_of-count.false
    (sym c.at_or_below.ensures ∙ c.if-at_or_below.false) c.if-count-cfg.true

pub returns-then-count-cfg : goal.returns-then-count-cfg
returns-then-count-cfg c =
    let s = c in
    let a = s.args in
    keep_append a.cfg a.s a.t a.length _ _ s.requires _ (from_zero a.t (tag_at a.s.tags) a.s.count _ c.place_of.ensures) c.if-place_of-count.false
    (sym c.at_or_below.ensures ∙ c.if-at_or_below.false) c.if-count-cfg.true _ _ c.append.ensures

pub drop_smallest-requires : goal.drop_smallest-requires
drop_smallest-requires c =
    let s = c in
    let a = s.args in
    room_drop a.cfg a.s a.t a.length _ _ s.requires _ (from_zero a.t (tag_at a.s.tags) a.s.count _ c.place_of.ensures) c.if-place_of-count.false
    (sym c.at_or_below.ensures ∙ c.if-at_or_below.false)

pub returns : goal.returns
returns c =
    let s = c in
    let a = s.args in
    keep_drop a.cfg a.s a.t a.length _ _ s.requires _ (from_zero a.t (tag_at a.s.tags) a.s.count _ c.place_of.ensures) c.if-place_of-count.false
    (sym c.at_or_below.ensures ∙ c.if-at_or_below.false) c.if-count-cfg.false _ _ c.drop_smallest.ensures
