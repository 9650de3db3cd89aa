-- `code::question::rising` meets its contract: whether the rest rises above `low` is whether all rise.
use mathlib.Core.Path.{◌≡◌}
use lib.ListN.{drop}
use Rattle.code.specs.Decoded.{rising, rising_above}
use Rattle.code.proofs.question.rising.Given as goal

abbrev pub invariant-loop-server : goal.invariant-loop-server
invariant-loop-server l = rising_above l.n l.low (drop l.server-index l.servers) ≡ rising l.n l.servers
