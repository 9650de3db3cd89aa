-- Events of a rig that is kept in place: of each the part that it names is handed to `changes`, and what comes back is put into its places.
use Rattle.std.specs.Prelude.{ℕ, ◌≡◌, List, [], ◌∷◌, ◌++◌, length, set}
use Rattle.std.proofs.Math.Option.{some}
use Rattle.std.proofs.Math.ListN.{get_elem?}
use Rattle.laws.specs.Bytes.{Bytes}
use Rattle.config.specs.declared.Config.{Config}
use Rattle.config.specs.Config.{board_length}
use Rattle.client.specs.declared.State as client
use Rattle.protocol.specs.Boards.{BoardEvent}
use Rattle.parties.specs.declared.Node.{Node}
use Rattle.parties.specs.Acts.{answer_of}
use Rattle.events.specs.declared.Call.{Call}
use Rattle.events.specs.declared.Change.{Change}
use Rattle.events.specs.declared.Part.{Part}
use Rattle.events.specs.declared.Places.{Places}
use Rattle.events.specs.declared.Rig.{Rig}
use Rattle.events.specs.View.{Lent}
use Rattle.events.specs.Questions.{places_of}
use Rattle.events.specs.Calls.{ChangePost, called, part_at}

-- the rig with what a change leaves put into places
abbrev pub put_back : Rig → Places → Part → Rig
put_back r x p =
    record {
      servers = set r.servers x.server p.pair.node;
      clients = set r.clients x.client p.pair.client;
      count = p.count;
    }

-- the event of a call and a change
abbrev pub event_by : Call → List ℕ → Change → List ℕ → BoardEvent
event_by a board x read' = record { call = called a board; answer = answer_of x.answer read' }

-- What a host does in an event: it takes the part of the places that the event names, hands it to `changes`, and puts back what it gets.
pub record Turned (cfg : Config) (m : ℕ) (r : Rig) (l : Lent) (a : Call) (board read : List ℕ) (x : Change) (read' : List ℕ) (l' : Lent) (r' : Rig) : Type 0 where
  pub places : Places
  pub node : Node
  pub state : client.State
  pub part : Part
  pub named : places ≡ places_of cfg r.count a l.messages
  pub node_is : get_elem? r.servers places.server ≡ some node
  pub state_is : get_elem? r.clients places.client ≡ some state
  pub part_is : part ≡ part_at places node state r.count
  pub changed : ChangePost cfg m part a board read l x read' l'
  pub put : r' ≡ put_back r places x.part

-- Events one after the other, from a rig and its buffers to those that are left. Each is handed a board of V bytes, and lent V bytes for a read.
pub data InPlace (cfg : Config) (m : ℕ) (r : Rig) (l : Lent) : List BoardEvent → Rig → Lent → Type 0 where
  none : InPlace cfg m r l [] r l
  next : {events : List BoardEvent} {now left : Rig} {k k' : Lent} {a : Call} {board read read' : List ℕ} {x : Change}
      → InPlace cfg m r l events now k → Bytes board → length board ≡ board_length cfg → length read ≡ board_length cfg
      → Turned cfg m now k a board read x read' k' left → InPlace cfg m r l (events ++ (event_by a board x read' ∷ [])) left k'
