use Rattle.std.proofs.Common.{◌+◌, ◌*◌, ◌≤◌, mul-le-mul, arith}
use Rattle.server.proofs.within.store_length.Goals as goal

pub overflow_mul-result : goal.overflow_mul-result
overflow_mul-result c =
    let v = c.requires in
    let d : c.args.cfg.d + 1 ≤ 8 = omega (arith, v.d_high) in
    let p : (c.args.cfg.d + 1) * c.args.cfg.e ≤ 512 = mul-le-mul d v.e_high in
    omega arith
