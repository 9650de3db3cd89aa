use Rattle.events.proofs.names.Goals as goal

pub returns : goal.returns
returns c = λ i. record { server = c.server.ensures i; client = c.client.ensures i }
