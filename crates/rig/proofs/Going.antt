-- A host that keeps its rig in place and puts back what an event changes goes on with its list of events: the list that it has is longer by that
-- event's call and answer, and its rig is the one that the event leaves. Assumes nothing.
use Prim.Native.Nat.{ℕ}
use mathlib.Core.Path.{◌≡◌, sym, ap, subst, ◌∙◌}
use mathlib.Core.List.{List, [], ◌∷◌, ◌++◌, append_assoc, append-nil}
use lib.ListN.{length, get_elem?, set}
use Rattle.laws.specs.Bytes.{Bytes}
use Rattle.config.specs.declared.Config.{Config}
use Rattle.config.specs.Config.{board_length}
use Rattle.protocol.specs.Boards.{BoardEvent}
use Rattle.protocol.proofs.Cut.{filled, length_cut}
use Rattle.parties.specs.Acts.{answer_of}
use Rattle.events.specs.declared.Call.{Call}
use Rattle.events.specs.declared.Change.{Change}
use Rattle.events.specs.declared.Part.{Part}
use Rattle.events.specs.declared.Places.{Places}
use Rattle.events.specs.declared.Rig.{Rig}
use Rattle.events.specs.declared.Turn.{Turn}
use Rattle.events.specs.View.{Lent}
use Rattle.events.specs.Questions.{places_of}
use Rattle.events.specs.Calls.{ChangePost, EventPost, called, part_at, turned, with_part}
use Rattle.rig.specs.InPlace.{InPlace, Turned, event_by, next, none}
use Rattle.rig.specs.Runs.{Runs, Whole, WholeRuns, event}
use Rattle.rig.proofs.InPlace.{in_place}
pub use Rattle.rig.proofs.Owned.{client_places, server_places}

-- A host that calls the rig's event with any call, board and buffer goes on with its list: a board of bytes and a length is one of those that
-- `Runs` asks for.
pub event_on : {cfg : Config} {m : ℕ} {start : List ℕ} {r : Rig} {l : Lent} {events : List BoardEvent} → Runs cfg m start r l events
    → (a : Call) (board : List ℕ) → Bytes board → {read read' : List ℕ} {t : Turn} {l' : Lent} → EventPost cfg m r (called a board) read l t read' l'
    → Runs cfg m start t.rig l' (events ++ (record { call = called a board; answer = answer_of t.answer read' } ∷ []))
event_on runs a board bytes {read} {read'} post = event runs (called a board) (filled a.length board bytes) read read' post

module _ {cfg : Config} {m : ℕ} {r : Rig} {l : Lent} {a : Call} {board read : List ℕ} {x : Change} {read' : List ℕ} {l' : Lent} {r' : Rig}
    (t : Turned cfg m r l a board read x read' l' r')
  where
    abbrev at : Places
    at = places_of cfg r.count a l.messages

    changed_there : ChangePost cfg m (part_at at t.node t.state r.count) a board read l x read' l'
    changed_there =
        subst (λ (p : Part). ChangePost cfg m p a board read l x read' l')
        (t.part_is ∙ ap (λ (z : Places). part_at z t.node t.state r.count) t.named) t.changed

    -- what is left is what the change makes of the rig
    put_there : with_part r x.part ≡ r'
    put_there =
        (λ i. record {
          servers = set r.servers ((t.changed.server ∙ ap (λ (p : Part). p.server) t.part_is) i) x.part.pair.node;
          clients = set r.clients ((t.changed.client ∙ ap (λ (p : Part). p.client) t.part_is) i) x.part.pair.client;
          count = x.part.count;
        })
        ∙ sym t.put

    event_there : {start : List ℕ} {events : List BoardEvent} → Runs cfg m start r l events → EventPost cfg m r (called a board) read l (turned r x) read' l'
    event_there runs =
        in_place runs a (ap (λ (z : Places). get_elem? r.servers z.server) (sym t.named) ∙ t.node_is)
        (ap (λ (z : Places). get_elem? r.clients z.client) (sym t.named) ∙ t.state_is) changed_there

    goes_on : {start : List ℕ} {events : List BoardEvent} → Runs cfg m start r l events → Bytes board
        → Runs cfg m start r' l' (events ++ (event_by a board x read' ∷ []))
    goes_on {start} {events} runs bytes =
        subst (λ (z : Rig). Runs cfg m start z l' (events ++ (event_by a board x read' ∷ []))) put_there
        (event_on runs a board bytes (event_there runs))

    goes_on_whole : {start : List ℕ} {events : List BoardEvent} → WholeRuns cfg m start r l events → Bytes board → length board ≡ board_length cfg
        → length read ≡ board_length cfg → WholeRuns cfg m start r' l' (events ++ (event_by a board x read' ∷ []))
    unfolding Whole
    goes_on_whole {start} {events} w bytes long lent =
        subst (λ (z : Rig). WholeRuns cfg m start z l' (events ++ (event_by a board x read' ∷ []))) put_there (
          event w.0 (called a board) (filled a.length board bytes) read read' (event_there w.0),
          (w.1, length_cut a.length board ∙ long, lent),
        )

module _ {cfg : Config} {m : ℕ} {start : List ℕ} {r : Rig} {l : Lent} {before : List BoardEvent} where
  -- a list of events that came to a rig goes on by those that are run on it in place
  pub runs_on : {events : List BoardEvent} {r' : Rig} {l' : Lent} → InPlace cfg m r l events r' l' → Runs cfg m start r l before
      → Runs cfg m start r' l' (before ++ events)
  runs_on none runs = subst (λ (xs : List BoardEvent). Runs cfg m start r l xs) (sym (append-nil before)) runs
  runs_on {r' = r'} {l' = l'} (next {events} steps bytes long lent t) runs =
      subst (λ (xs : List BoardEvent). Runs cfg m start r' l' xs) (append_assoc before events _) (goes_on t (runs_on steps runs) bytes)

  -- and where every board and every buffer for a read had V bytes, this is so of all
  pub whole_on : {events : List BoardEvent} {r' : Rig} {l' : Lent} → InPlace cfg m r l events r' l' → WholeRuns cfg m start r l before
      → WholeRuns cfg m start r' l' (before ++ events)
  whole_on none w = subst (λ (xs : List BoardEvent). WholeRuns cfg m start r l xs) (sym (append-nil before)) w
  whole_on {r' = r'} {l' = l'} (next {events} steps bytes long lent t) w =
      subst (λ (xs : List BoardEvent). WholeRuns cfg m start r' l' xs) (append_assoc before events _) (goes_on_whole t (whole_on steps w) bytes long lent)

-- those of two, one after the other
pub joined : {cfg : Config} {m : ℕ} {r : Rig} {l : Lent} {events : List BoardEvent} {now : Rig} {k : Lent} {more : List BoardEvent} {r' : Rig} {l' : Lent}
    → InPlace cfg m r l events now k → InPlace cfg m now k more r' l' → InPlace cfg m r l (events ++ more) r' l'
joined {cfg} {m} {r} {l} {events} {now} {k} first none = subst (λ (xs : List BoardEvent). InPlace cfg m r l xs now k) (sym (append-nil events)) first
joined {cfg} {m} {r} {l} {events} {r' = r'} {l' = l'} first (next {events = more} steps bytes long lent t) =
    subst (λ (xs : List BoardEvent). InPlace cfg m r l xs r' l') (append_assoc events more _) (next (joined first steps) bytes long lent t)
