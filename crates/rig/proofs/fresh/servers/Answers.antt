use Prim.Native.Nat.{◌+◌, ◌-◌, ◌*◌}
use mathlib.Core.Path.{refl, subst, ◌∙◌}
use native.Mathlib.Omega.{arith}
use borrow.Rule.Slice.PartMut.{same_len_mid}
use lib.ListN.{take, drop, length-set}
use Rattle.laws.proofs.Parts.{lent_length, part_fits}
use Rattle.config.proofs.Questions.{within_true}
use Rattle.config.proofs.Sizes.{store_small}
use Rattle.config.specs.Config.{store_length}
use Rattle.rig.specs.inner.Fresh.{FreshServers}
use Rattle.parties.proofs.Making.{server_passes}
use Rattle.rig.proofs.Making.{servers_more}
use Rattle.events.proofs.Lengths.{stores_small}
use Rattle.rig.proofs.fresh.servers.Goals as goal

pub overflow_add-long : goal.overflow_add-long
overflow_add-long c = omega (arith, c.requires.valid.d_high)

pub overflow_mul-long : goal.overflow_mul-long
overflow_mul-long c = omega (arith, store_small c.args.cfg c.requires.valid)

pub loop-i-init : goal.loop-i-init
loop-i-init c = record { fresh = λ j h. absurd (omega (arith, h)); places = omega arith; same = refl }

pub overflow_mul-at : goal.overflow_mul-at
overflow_mul-at c =
    let s = c in
    let l = c.loop-i in
    omega (arith, part_fits l.i s.args.cfg.n (store_length s.args.cfg) c.loop-i-test.true, stores_small s.args.cfg s.requires.valid, s.requires.stores_length, l.invariant.same)

pub overflow_add-end : goal.overflow_add-end
overflow_add-end c =
    let s = c in
    let l = c.loop-i in
    omega (arith, part_fits l.i s.args.cfg.n (store_length s.args.cfg) c.loop-i-test.true, stores_small s.args.cfg s.requires.valid, s.requires.stores_length, l.invariant.same)

pub slice_bounds-server-end : goal.slice_bounds-server-end
slice_bounds-server-end c =
    let s = c in
    let l = c.loop-i in
    omega (arith, part_fits l.i s.args.cfg.n (store_length s.args.cfg) c.loop-i-test.true, stores_small s.args.cfg s.requires.valid, s.requires.stores_length, l.invariant.same)

pub loop-i-preserved : goal.loop-i-preserved
loop-i-preserved c =
    let s = c in
    let l = c.loop-i in
    let o = c.server-made in
    let below = c.loop-i-test.true in
    let wide = store_length s.args.cfg in
    let at = l.i * wide in
    let fits = part_fits l.i s.args.cfg.n wide below in
    let none =
    server_passes s.args.cfg (l.i + 1) s.args.start.now (take (at + wide - at) (drop at l.stores)) s.requires.valid
    (within_true 1 s.args.cfg.n (l.i + 1) (omega arith) (omega (arith, below))) s.requires.start_length
    (lent_length l.stores at wide (omega (arith, fits, s.requires.stores_length, l.invariant.same))) in
    record {
      fresh =
          servers_more s.args.cfg s.args.start.now l.i l.nodes o.result.node l.stores o.new.store
          (omega (arith, fits, s.requires.stores_length, l.invariant.same)) o.ensures none refl
          (omega (arith, below, s.requires.valid.n_high, l.invariant.places)) l.invariant.fresh;
      places = length-set l.nodes l.i o.result.node ∙ l.invariant.places;
      same = same_len_mid at (at + wide - at) l.stores o.new.store o.auto.store ∙ l.invariant.same;
    }

pub shape_of-stores : goal.shape_of-stores
shape_of-stores c = c.loop-i.invariant.same

pub returns : goal.returns
returns c =
    let s = c in
    let l = c.loop-i in
    record {
      fresh = subst (λ n. FreshServers s.args.cfg s.args.start.now n l.nodes l.stores) (omega arith) l.invariant.fresh;
      long = l.invariant.same;
    }
