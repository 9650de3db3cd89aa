-- A part of a rig: whom it has, and what an inner function leaves of it.
use Rattle.std.specs.Prelude.{ℕ, ◌≡◌, List}
use Rattle.config.specs.declared.Config.{Config}
use Rattle.config.specs.declared.Refusal.{Refusal}
use Rattle.parties.specs.declared.Acted.{Acted}
use Rattle.parties.specs.declared.Answer.{Answer}
use Rattle.events.specs.declared.Call.{Call}
use Rattle.events.specs.declared.Change.{Change}
use Rattle.events.specs.declared.Part.{Part}
use Rattle.events.specs.Questions.{places_of}

-- it has the server and the client that an event names
pub record Names (cfg : Config) (p : Part) (a : Call) (messages : List ℕ) : Type 0 where
  pub server : p.server ≡ (places_of cfg p.count a messages).server
  pub client : p.client ≡ (places_of cfg p.count a messages).client

-- a refusal, with the part as it was
abbrev pub refusing : Refusal → Part → Change
refusing why p = record { answer = Answer.No why; part = p }

-- the parties have acted, and so many records are in flight
abbrev pub acting : Acted → ℕ → Part → Change
acting y n p =
    record {
      answer = y.answer;
      part = record { server = p.server; client = p.client; pair = y.pair; count = n };
    }

-- nothing ended, the parties are as they were, and so many records are in flight
abbrev pub counting : ℕ → Part → Change
counting n p = acting (record { answer = Answer.Nothing; pair = p.pair; sent = 0 }) n p
