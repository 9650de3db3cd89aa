use mathlib.Core.Path.{refl}
use native.Mathlib.Omega.{arith}
use Rattle.states.specs.Clients.{state_of}
use Rattle.states.proofs.Rows.{begun_all, begun_more, begun_none}
use borrow.Author.Rules.{rules}
use Rattle.states.proofs.clients.told.Invariants.{length_of}
use Rattle.states.proofs.clients.told.Goals as goal

pub loop-i-init : goal.loop-i-init
loop-i-init c = begun_none _ 16 _ refl

pub loop-i-preserved : goal.loop-i-preserved
loop-i-preserved c =
    let l = c.loop-i in
    let bs = c.args.bytes.now in
    begun_more (length_of bs) 16 l.i l.length-items _ l.invariant (search rules) c.length_at.ensures

pub returns : goal.returns
unfolding state_of
returns c =
    let l = c.loop-i in
    let s = c in
    let lengths = begun_all (length_of s.args.bytes.now) 16 l.i l.length-items l.invariant (omega arith) in
    λ t.
    record {
      me = record { 0 = s.requires.number t };
      operation = c.number_at.ensures t;
      phase = c.phase_at.ensures t;
      length = c.length_at-2.ensures t;
      lengths = lengths t;
    }
