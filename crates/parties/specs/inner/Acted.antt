-- What a party has done, as the code says it.
use Rattle.std.specs.Prelude.{Ok, Err}
use Rattle.config.specs.declared.Client.{Client}
use Rattle.config.specs.declared.Refusal.{Refusal}
use Rattle.config.specs.Refusal.{Verdict}
use Rattle.server.specs.declared.Stepped.{Stepped}
use Rattle.client.specs.declared.Ended.{Ended}
use Rattle.client.specs.declared.Moved.{Moved}
use Rattle.parties.specs.declared.Acted.{Acted}
use Rattle.parties.specs.declared.Answer.{Answer}
use Rattle.parties.specs.declared.Pair.{Pair}

-- a refusal, with the parties as they were
abbrev pub refusing : Refusal → Pair → Acted
refusing why x = record { answer = Answer.No why; pair = x; sent = 0 }

-- nothing is sent and nothing ends
abbrev pub quietly : Pair → Acted
quietly x = record { answer = Answer.Nothing; pair = x; sent = 0 }

-- the answer that names a client whose operation ended, if it did
abbrev pub ended_by : Client → Ended → Answer
ended_by me Ended.Nothing = Answer.Nothing
ended_by me (Ended.Written t) = Answer.Written me t
ended_by me Ended.Spent = Answer.Spent me
ended_by me (Ended.Read t length) = Answer.Read me t length

-- the client has moved, or was refused
abbrev pub moved_on : Verdict → Pair → Moved → Acted
moved_on (Ok tt) x y =
    record {
      answer = ended_by y.state.me y.ended;
      pair = record { node = x.node; client = y.state };
      sent = y.sent;
    }
moved_on (Err why) x y = refusing why x

-- the pair with another state of its server
abbrev pub with_state : Pair → Stepped → Pair
with_state x y = record { node = record { state = y.state; up = x.node.up }; client = x.client }

-- the server has done its step, or was refused
abbrev pub stepped_on : Verdict → Pair → Stepped → Acted
stepped_on (Ok tt) x y = record { answer = Answer.Nothing; pair = with_state x y; sent = 1 }
stepped_on (Err why) x y = refusing why x
