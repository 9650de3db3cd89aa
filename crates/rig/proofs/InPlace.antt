-- A host that keeps its rig in place: it hands `changes` the part that an event names, and puts back what it gets. Along a list of events that
-- meets the contract of the rig's event, so `Runs` goes on by it. Assumes nothing.
use Prim.Native.Nat.{ℕ}
use mathlib.Core.Path.{◌≡◌, refl}
use mathlib.Core.Option.{some}
use mathlib.Core.List.{List}
use lib.ListN.{get_elem?}
use Rattle.config.specs.declared.Config.{Config}
use Rattle.config.specs.Config.{rig_questions}
use Rattle.config.proofs.Questions.{last_yes, rig_questions_numbered}
use Rattle.client.specs.declared.State as client
use Rattle.protocol.specs.Boards.{BoardEvent}
use Rattle.parties.specs.declared.Node.{Node}
use Rattle.events.specs.declared.Call.{Call}
use Rattle.events.specs.declared.Change.{Change}
use Rattle.events.specs.declared.Places.{Places}
use Rattle.events.specs.declared.Rig.{Rig}
use Rattle.events.specs.View.{Lent}
use Rattle.events.specs.Questions.{places_of, rig_within}
use Rattle.events.specs.Calls.{ChangePost, EventPost, called, part_at, turned}
use Rattle.rig.specs.Runs.{Runs}
use Rattle.rig.proofs.Always.{always_five, always_within}
use Rattle.events.proofs.Entry.{rig_changed}

module _ {cfg : Config} {m : ℕ} {start : List ℕ} {r : Rig} {l : Lent} {events : List BoardEvent} (runs : Runs cfg m start r l events) (a : Call) where
  abbrev named : Places
  named = places_of cfg r.count a l.messages

  pub in_place : {node : Node} {state : client.State} → get_elem? r.servers named.server ≡ some node
      → get_elem? r.clients named.client ≡ some state → {board read : List ℕ} {x : Change} {read' : List ℕ} {l' : Lent}
      → ChangePost cfg m (part_at named node state r.count) a board read l x read' l'
      → EventPost cfg m r (called a board) read l (turned r x) read' l'
  in_place node_is state_is {board} {read} post =
      rig_changed cfg m r a board read l
      (last_yes (rig_questions cfg m) 6 (rig_within cfg m r) (rig_questions_numbered cfg m) (always_five cfg m start runs) (always_within cfg m start runs))
      (record { node = node_is; client = state_is; count = refl }) (record { server = refl; client = refl }) post
