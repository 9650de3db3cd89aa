use Rattle.std.proofs.Common.{◌+◌, ◌*◌, ◌≤◌, length, arith, rules}
use Rattle.laws.proofs.Parts.{over_copied}
use Rattle.server.proofs.places.put.Goals as goal

pub returns : goal.returns
returns c =
    let s = c in
    let f : s.args.place * s.args.cfg.e + s.args.cfg.e ≤ length s.args.store.now = omega (arith, s.requires.fits) in
    over_copied (s.args.place * s.args.cfg.e) s.args.cfg.e s.args.element.now s.args.store.now _ s.requires.sized f (c.copy.ensures.whole (search rules)).1
