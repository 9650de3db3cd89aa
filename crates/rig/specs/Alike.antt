-- "the store's order and the bytes of places not in use are the only freedom, and no answer's bytes depend on either": rigs, with the buffers
-- lent to them, that differ in these alone, and events that answer alike.
use Rattle.std.specs.Prelude.{ℕ, ◌<◌, ◌≡◌, List, length}
use Rattle.std.proofs.Math.Option.{Option, none, some}
use Rattle.std.proofs.Math.ListN.{get_elem?}
use Rattle.laws.specs.Parts.{part}
use Rattle.config.specs.declared.Config.{Config}
use Rattle.config.specs.Config.{board_length, elements_length, store_length}
use Rattle.protocol.specs.Alike.{AlikeRigs}
use Rattle.protocol.specs.Boards.{BoardEvent}
use Rattle.server.specs.Alike.{AlikeStates}
use Rattle.client.specs.declared.State as client
use Rattle.client.specs.State as clientView
use Rattle.parties.specs.declared.Node.{Node}
use Rattle.parties.specs.Acts.{answer_of}
use Rattle.events.specs.declared.Rig.{Rig}
use Rattle.events.specs.declared.Turn.{Turn}
use Rattle.events.specs.View.{Lent, flight, view}
use Rattle.events.specs.Questions.{rig_within, sized}
use Rattle.rig.specs.Runs.{Runs, event, made}

-- what stands in two places, with its part of the stores
unfoldable pub AlikeNodes : Config → Option Node → List ℕ → Option Node → List ℕ → Type 0
AlikeNodes cfg (some x) storeX (some y) storeY = AlikeStates cfg x.state y.state storeX storeY
AlikeNodes cfg (some x) storeX none storeY = ⊥
AlikeNodes cfg none storeX (some y) storeY = ⊥
AlikeNodes cfg none storeX none storeY = Unit {0}

-- the clients of two places, with their parts of the boards and the elements: one number, and seen alike
unfoldable pub AlikeClients : Config → Option client.State → List ℕ → List ℕ → Option client.State → List ℕ → List ℕ → Type 0
AlikeClients cfg (some x) keptX elementsX (some y) keptY elementsY = (x.me ≡ y.me) × (clientView.view cfg x keptX elementsX ≡ clientView.view cfg y keptY elementsY)
AlikeClients cfg (some x) keptX elementsX none keptY elementsY = ⊥
AlikeClients cfg none keptX elementsX (some y) keptY elementsY = ⊥
AlikeClients cfg none keptX elementsX none keptY elementsY = Unit {0}

-- Two rigs with their buffers. `view` reads only what is in use.
pub record Alike (cfg : Config) (m : ℕ) (r : Rig) (l : Lent) (z : Rig) (lentZ : Lent) : Type 0 where
  -- what is seen of them differs in the order of what servers store alone
  pub seen : AlikeRigs (view cfg r l) (view cfg z lentZ)
  -- the records in flight are the same, byte for byte
  pub records : flight r l ≡ flight z lentZ
  -- of question 6: both pass, or neither does. Where they are alike place by place, that is so (`within_alike`).
  pub within : rig_within cfg m r ≡ rig_within cfg m z
  pub lengths : sized cfg m l ≡ sized cfg m lentZ

-- The same place by place: servers that differ in the order of what they store and in places not in use, and clients that differ in these.
pub record AlikePlaces (cfg : Config) (r : Rig) (l : Lent) (z : Rig) (lentZ : Lent) : Type 0 where
  pub servers : (i : ℕ) → i < cfg.n → AlikeNodes cfg (get_elem? r.servers i) (part (store_length cfg) i l.stores)
      (get_elem? z.servers i) (part (store_length cfg) i lentZ.stores)
  pub clients : (i : ℕ) → i < cfg.c → AlikeClients cfg (get_elem? r.clients i) (part (board_length cfg) i l.boards) (part (elements_length cfg) i l.elements)
      (get_elem? z.clients i) (part (board_length cfg) i lentZ.boards) (part (elements_length cfg) i lentZ.elements)
  pub count : r.count ≡ z.count

-- What two events leave: one answer, with a read's bytes; one content of the buffer lent for a read; and two such rigs.
pub record AlikeTurns (cfg : Config) (m : ℕ) (t : Turn) (readT : List ℕ) (l : Lent) (u : Turn) (readU : List ℕ) (lentU : Lent) : Type 0 where
  pub answer : answer_of t.answer readT ≡ answer_of u.answer readU
  pub read : readT ≡ readU
  pub rigs : Alike cfg m t.rig l u.rig lentU

-- two lists of events with the same calls, and with buffers lent for a read of the same lengths
unfoldable pub SameCalls : {cfg : Config} {m : ℕ} {start : List ℕ} {r z : Rig} {l lentZ : Lent} {xs ys : List BoardEvent} → Runs cfg m start r l xs
    → Runs cfg m start z lentZ ys → Type 0
SameCalls (made b p e) (made c q f) = Unit {0}
SameCalls (made b p e) (event runs a c read read' q) = ⊥
SameCalls (event runs a b read read' p) (made c q f) = ⊥
SameCalls (event runs a b read read' p) (event others x c readZ readZ' q) = SameCalls runs others × (a ≡ x) × (length read ≡ length readZ)
