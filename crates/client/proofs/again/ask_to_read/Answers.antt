use mathlib.Core.Path.{refl}
use mathlib.Core.Bool.{false}
use mathlib.Core.Option.{none}
use Rattle.client.proofs.Answers.{announces, asks}
use Rattle.client.proofs.Settling.{of_state}
use Rattle.client.proofs.again.ask_to_read.Goals as goal

pub announce-requires : goal.announce-requires
announce-requires c = let p = c.requires.0 in
    rw c.begun.ensures (announces _ _ p.within false _ refl p.valid _ _ p.sends-length)

pub returns : goal.returns
returns c kept es board = let s = c in
    of_state refl refl refl
    (asks _ s.args.x s.requires.0.within false _ refl none kept _ es _ board refl
    (rw c.begun.ensures at c.announce.ensures))
