-- `lines::block` meets its contract: each turn runs one record. Assumes nothing.
use Rattle.std.proofs.Common.{◌≡◌, ℕ, ◌-◌, ◌<◌, ◌≤◌, List, length, sym, refl, ◌∙◌, arith, length-set, length-take-le, rules}
use Rattle.laws.proofs.Lists.{at_get_d}
use Rattle.config.specs.declared.Config.{Config}
use Rattle.config.proofs.Valid.{rig_valid}
use Rattle.events.specs.declared.Rig.{Rig}
use Rattle.events.specs.View.{Lent, lent}
use Rattle.rig.proofs.Going.{client_places, server_places}
use Rattle.events.proofs.Inside.{named_inside}
use Rattle.lines.specs.declared.Ran.{Ran}
use Rattle.lines.specs.Block.{RanPost}
use Rattle.lines.proofs.Events.{Goes, board_few, bytes_there, called_there, can_go, cannot_go, none_ran, one_more}
use Rattle.lines.proofs.block.Invariants.{Inv}
use Rattle.lines.proofs.block.Goals as goal
use Rattle.lines.proofs.block.Goals.{After-board_length-v, After-names-places, In-loop-read}

-- a board fits the buffer for reads
few : (c : After-board_length-v) → c.board_length-v.result ≤ 1024
few c = omega (arith, c.board_length-v.ensures, board_few c.args.cfg c.args.m)

-- in a turn
turn : (c : In-loop-read) → Goes c.args.cfg c.args.m c.board_length-v.result c.size-size.result (length c.args.input.now) (length c.args.output.now) c.loop-read.taken c.loop-read.used
turn c = can_go c.board_length-v.ensures c.size-size.ensures c.starts-starts.ensures c.loop-read.invariant.ran.whole c.goes_on.ensures c.loop-read-test.true

-- the places that the event names
inside : (c : After-names-places) → (c.names-places.result.server < 16) × (c.names-places.result.client < 16)
inside c =
    let s = c.args in
    named_inside (rig_valid s.cfg s.m refl (can_go c.board_length-v.ensures c.size-size.ensures c.starts-starts.ensures c.loop-read.invariant.ran.whole c.goes_on.ensures c.loop-read-test.true).yes) c.loop-read.rig.count c.called-call.result c.loop-read.messages c.names-places.ensures

pub size-size-requires : goal.size-size-requires
size-size-requires c = few (goal.at.size-size-requires c).After-board_length-v

pub slice_bounds-space-end : goal.slice_bounds-space-end
slice_bounds-space-end c = few (goal.at.slice_bounds-space-end c).After-board_length-v

pub slice_bounds-read-end : goal.slice_bounds-read-end
slice_bounds-read-end c = sym (length-take-le c.board_length-v.result _ (few (goal.at.slice_bounds-read-end c).After-board_length-v))

pub loop-read-init : goal.loop-read-init
loop-read-init c =
    let s = c in
    let a = s.args in
    record {
      ran = none_ran a.cfg a.m a.rig (lent a.messages.now a.stores.now a.boards.now a.elements.now) a.count s.ranges.count.fits a.input.now a.output.now;
      servers = server_places a.rig _ s.well_formed.1.1.0;
      clients = client_places a.rig _ s.well_formed.1.1.0;
      reads = length-take-le c.board_length-v.result _ (few (goal.at.loop-read-init c).After-board_length-v);
      outputs = refl;
      messages = refl;
      stores = refl;
      boards = refl;
      elements = refl;
    }

pub goes_on-requires : goal.goes_on-requires
goes_on-requires c = c.loop-read.invariant.ran.whole

pub called-call-requires : goal.called-call-requires
called-call-requires c = let t = turn (goal.at.called-call-requires c).In-loop-read in omega (arith, t.whole, t.board)

pub offset_bounds-rig-s : goal.offset_bounds-rig-s
offset_bounds-rig-s c = omega (arith, (inside (goal.at.offset_bounds-rig-s c).After-names-places).0)

pub bounds-rig-s : goal.bounds-rig-s
bounds-rig-s c = (inside (goal.at.bounds-rig-s c).After-names-places).0

pub offset_bounds-rig-c : goal.offset_bounds-rig-c
offset_bounds-rig-c c = omega (arith, (inside (goal.at.offset_bounds-rig-c c).After-names-places).1)

pub bounds-rig-c : goal.bounds-rig-c
bounds-rig-c c = (inside (goal.at.bounds-rig-c c).After-names-places).1

pub board-board-requires : goal.board-board-requires
board-board-requires c = let t = turn (goal.at.board-board-requires c).In-loop-read in omega (arith, t.whole, t.board)

pub offset_bounds-rig-s-in-loop-read : goal.offset_bounds-rig-s-in-loop-read
offset_bounds-rig-s-in-loop-read c = omega (arith, (inside (goal.at.offset_bounds-rig-s-in-loop-read c).After-names-places).0)

pub bounds-rig-s-in-loop-read : goal.bounds-rig-s-in-loop-read
bounds-rig-s-in-loop-read c = (inside (goal.at.bounds-rig-s-in-loop-read c).After-names-places).0

pub offset_bounds-rig-c-in-loop-read : goal.offset_bounds-rig-c-in-loop-read
offset_bounds-rig-c-in-loop-read c = omega (arith, (inside (goal.at.offset_bounds-rig-c-in-loop-read c).After-names-places).1)

pub bounds-rig-c-in-loop-read : goal.bounds-rig-c-in-loop-read
bounds-rig-c-in-loop-read c = (inside (goal.at.bounds-rig-c-in-loop-read c).After-names-places).1

pub line-used-requires : goal.line-used-requires
line-used-requires c = let i = c.loop-read.invariant in omega (arith, (turn (goal.at.line-used-requires c).In-loop-read).room, i.reads, i.outputs, c.changes-change.auto.read)

pub overflow_add-taken : goal.overflow_add-taken
overflow_add-taken c = let t = turn (goal.at.overflow_add-taken c).In-loop-read in omega (arith, t.whole, t.takes, c.well_formed.1.1.1.1.0.0)

pub loop-read-smaller : goal.loop-read-smaller
loop-read-smaller c = let t = turn (goal.at.loop-read-smaller c).In-loop-read in omega (arith, t.whole, t.takes)

pub loop-read-preserved : goal.loop-read-preserved
loop-read-preserved c =
    let s = c in
    let at = c.loop-read in
    let i = at.invariant in
    let x = c.changes-change in
    let t = turn (goal.at.loop-read-preserved c).In-loop-read in
    let named = inside (goal.at.loop-read-preserved c).After-names-places in
    record {
      ran =
          one_more s.args.cfg s.args.m s.args.rig (lent s.args.messages.now s.args.stores.now s.args.boards.now s.args.elements.now) s.args.count s.ranges.count.fits s.args.input.now s.args.output.now
          (λ k. (c.shared_slice_known-1.given k).fits) i.ran
          (record {
            call = c.called-call.result;
            board = c.board-board.result.now;
            read = at.read;
            read' = x.new.read;
            change = x.result;
            yes = t.yes;
            whole = t.whole;
            takes = t.takes;
            calls = called_there s.args.input.now at.taken t.board c.board-board.ensures c.called-call.ensures;
            handed = bytes_there s.args.input.now at.taken t.board c.board-board.ensures;
            reads = i.reads ∙ t.board;
            turned = record {
              places = c.names-places.result;
              node = _;
              state = _;
              part = c.of-part.result;
              named = c.names-places.ensures;
              node_is = at_get_d at.rig.servers _ _ (omega (arith, i.servers, named.0));
              state_is = at_get_d at.rig.clients _ _ (omega (arith, i.clients, named.1));
              part_is = c.of-part.ensures;
              changed = x.ensures;
              put = refl;
            };
            says = c.line-used.ensures.0;
            counts = c.wrapping_add_u64-count.ensures.value;
          });
      servers = length-set at.rig.servers _ _ ∙ i.servers;
      clients = length-set at.rig.clients _ _ ∙ i.clients;
      reads = omega (arith, i.reads, x.auto.read);
      outputs = omega (arith, i.outputs, c.line-used.auto.out);
      messages = omega (arith, i.messages, x.auto.messages);
      stores = omega (arith, i.stores, x.auto.stores);
      boards = omega (arith, i.boards, x.auto.boards);
      elements = omega (arith, i.elements, x.auto.elements);
    }

pub returns : goal.returns
returns c =
    let i = c.loop-read.invariant in
    record {
      ran = i.ran;
      all = (cannot_go c.board_length-v.ensures c.size-size.ensures c.starts-starts.ensures i.ran.whole c.goes_on.ensures c.loop-read-test.false).all;
    }
