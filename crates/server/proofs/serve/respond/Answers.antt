use Rattle.std.proofs.Common.{refl}
use Rattle.record.specs.Calls.{with_element}
use Rattle.record.proofs.Callers.{was_written}
use Rattle.server.specs.inner.Serve.{reply}
use Rattle.server.proofs.serve.respond.Goals as goal

pub returns : goal.returns
unfolding with_element reply
returns c =
    let w = was_written c.args.cfg _ _ c.requires.valid c.requires.eighty c.requires.of_config c.requires.fits _ _ c.write-verdict.ensures in
    record { number = w.0; state = refl; answer = w.1 }
