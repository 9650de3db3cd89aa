use Rattle.client.specs.Servers.{member}
use Rattle.states.specs.Clients.{sent_length}
use Rattle.states.proofs.clients.length_sent.Goals as goal

pub returns : goal.returns
unfolding sent_length member
returns c = c.kept.ensures
