use native.Mathlib.Omega.{arith}
use Rattle.config.proofs.Sizes.{store_small}
use Rattle.record.proofs.Parties.{no-server, some_server}
use Rattle.host.proofs.Fresh.{all-long, server_eight, server_fresh, server_not_told, server_six, short_element, short_state, short_store}
use Rattle.host.proofs.Made.{valid_told}
use Rattle.host.proofs.coded_server_fresh.Goals as goal

pub returns-in-Err : goal.returns-in-Err
returns-in-Err c = server_not_told _ _ _ _ _ c.in-Err.ensures c.number.ensures

pub returns-then-state-ne-LENGTH : goal.returns-then-state-ne-LENGTH
returns-then-state-ne-LENGTH c = rw c.number-then-state-ne-LENGTH.ensures
    (server_six _ _ _ _ _ c.in-Ok.ensures (short_state c.args.element.now _ c.args.store.now c.in-Ok.cfg c.if-state-ne-LENGTH.true))

pub returns-then-element-cfg : goal.returns-then-element-cfg
returns-then-element-cfg c = rw c.number-then-element-cfg.ensures
    (server_six _ _ _ _ _ c.in-Ok.ensures (short_element _ _ _ c.in-Ok.cfg c.if-state-ne-LENGTH.false c.if-element-cfg.true))

pub overflow_add-cfg : goal.overflow_add-cfg
overflow_add-cfg c = omega (arith, (valid_told _ c.in-Ok.ensures).d_high)

pub overflow_mul-cfg : goal.overflow_mul-cfg
overflow_mul-cfg c = omega (arith, store_small _ (valid_told _ c.in-Ok.ensures))

pub returns-then-store-cfg : goal.returns-then-store-cfg
returns-then-store-cfg c = rw c.number-then-store-cfg.ensures
    (server_six _ _ _ _ _ c.in-Ok.ensures (short_store _ _ _ c.in-Ok.cfg c.if-state-ne-LENGTH.false c.if-element-cfg.false c.if-store-cfg.true))

pub returns-in_default : goal.returns-in_default
returns-in_default c = rw c.number-in_default.ensures
    (server_eight _ _ _ _ _ c.in-Ok.ensures (all-long _ _ _ c.in-Ok.cfg c.if-state-ne-LENGTH.false c.if-element-cfg.false c.if-store-cfg.false)
    (no-server _ _ (valid_told _ c.in-Ok.ensures) _ _ c.new.ensures c.in_default.is))

pub server-requires : goal.server-requires
server-requires c = c.if-state-ne-LENGTH.false

pub returns : goal.returns
returns c =
    let some = some_server _ _ _ _ c.new.ensures c.in-Ok-new.is in
    server_fresh _ _ _ _ _ c.in-Ok.ensures (all-long _ _ _ c.in-Ok.cfg c.if-state-ne-LENGTH.false c.if-element-cfg.false c.if-store-cfg.false) _ some.0 some.1 _ _ c.fresh-made.ensures _ c.server.ensures
