use mathlib.Core.Path.{refl, ap}
use native.Mathlib.Omega.{arith}
use lib.ListN.{length}
use Rattle.events.specs.View.{lent}
use Rattle.boards.specs.declared.Rig.{Rig}
use Rattle.boards.proofs.Making.{few_boards, fresh_more, still_sized}
use Rattle.boards.proofs.fresh.rig.Goals as goal

pub loop-i-init : goal.loop-i-init
loop-i-init c =
    record {
      fresh = λ j h. absurd (omega (arith, h));
      nothing = ap (λ (r : Rig). r.count) c.least-rig.ensures;
      places = ap (λ (r : Rig). length r.boards) c.least-rig.ensures;
      messages = refl;
      stores = refl;
      boards = refl;
      elements = refl;
    }

pub one-x-requires : goal.one-x-requires
one-x-requires c = record { pre = still_sized c.requires c.loop-i.invariant; place = c.loop-i-test.true }

pub put-rig-requires : goal.put-rig-requires
put-rig-requires c = let s = c in omega (arith, c.loop-i-test.true, few_boards s.args.cfg s.args.room s.requires.accepted)

pub loop-i-preserved : goal.loop-i-preserved
loop-i-preserved c =
    let s = c in
    let a = s.args in
    let l = c.loop-i in
    let o = c.one-x in
    fresh_more a.cfg a.room a.start.now (lent a.messages.now a.stores.now a.boards.now a.elements.now) (lent l.messages l.stores l.boards l.elements) l.rig l.i
    o.result c.put-rig.result _ s.requires l.invariant c.loop-i-test.true o.ensures c.put-rig.ensures

pub shape_of-messages : goal.shape_of-messages
shape_of-messages c = c.loop-i.invariant.messages

pub shape_of-stores : goal.shape_of-stores
shape_of-stores c = c.loop-i.invariant.stores

pub shape_of-boards : goal.shape_of-boards
shape_of-boards c = c.loop-i.invariant.boards

pub shape_of-elements : goal.shape_of-elements
shape_of-elements c = c.loop-i.invariant.elements

pub returns : goal.returns
returns c =
    let h = c.loop-i.invariant in
    record {
      each = λ j low. h.fresh j (omega (arith, low, c.loop-i-test.false));
      nothing = h.nothing;
      messages = h.messages;
      stores = h.stores;
      boards = h.boards;
      elements = h.elements;
    }
