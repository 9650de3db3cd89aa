use mathlib.Core.Path.{◌≡◌, refl}
use native.Mathlib.Omega.{arith}
use lib.ListN.{get_or}
use Rattle.states.specs.Servers.{state_of}
use Rattle.states.proofs.Rows.{begun_all, begun_more, begun_none}
use borrow.Author.Rules.{rules}
use Rattle.states.proofs.servers.told.Invariants.{length_of, tag_of}
use Rattle.states.proofs.servers.told.Goals as goal

pub loop-i-init : goal.loop-i-init
loop-i-init c = (begun_none _ 8 _ refl, begun_none _ 8 _ refl)

pub loop-i-preserved : goal.loop-i-preserved
loop-i-preserved c =
    let l = c.loop-i in
    let bs = c.args.bytes.now in (
      begun_more (tag_of bs) 8 l.i l.tags _ l.invariant.0 (search rules) c.tag_at.ensures,
      begun_more (length_of bs) 8 l.i l.lengths _ l.invariant.1 (search rules) c.length_at.ensures,
    )

pub returns : goal.returns
unfolding state_of
returns c =
    let l = c.loop-i in
    let s = c in
    let bs = s.args.bytes.now in
    let end : l.i ≡ 8 = omega arith in
    let tags = begun_all (tag_of bs) 8 l.i l.tags l.invariant.0 end in
    let lengths = begun_all (length_of bs) 8 l.i l.lengths l.invariant.1 end in
    λ t.
    record {
      me = record { 0 = s.requires.number t };
      count = get_or bs 1 0;
      highest = c.tag_at-2.ensures t;
      floor = c.floor_at.ensures t;
      tags = tags t;
      lengths = lengths t;
    }
