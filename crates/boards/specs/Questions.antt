-- What an event of a rig of several boards asks, in the documents' order.
use Rattle.std.specs.Prelude.{ℕ, ◌*◌, Bool, true, false, cond, not, ◌&&◌, List, ◌∷◌, ◌++◌, eqb, length, take}
use Rattle.std.proofs.Math.Option.{Option, none, some}
use Rattle.std.proofs.Math.ListN.{get_elem?}
use Rattle.laws.specs.Below.{all_below}
use Rattle.laws.specs.Owners.{place_of}
use Rattle.config.specs.declared.Config.{Config}
use Rattle.config.specs.declared.Room.{Room}
use Rattle.config.specs.Config.{board_length, elements_length, record_length, store_length}
use Rattle.config.specs.Questions.{Question, ask, first_no}
use Rattle.config.specs.Room.{fits_room, owners_within, room_questions}
use Rattle.client.specs.declared.Phase.{Phase}
use Rattle.client.specs.declared.State as client
use Rattle.parties.specs.declared.Node.{Node}
use Rattle.protocol.specs.Boards.{BoardCall, network_after6}
use Rattle.protocol.specs.Network.{On, board_exists}
use Rattle.protocol.specs.Rig.{code_of}
use Rattle.events.specs.declared.Rig as one
use Rattle.events.specs.Questions.{formed_for, rig_within as one_within}
use Rattle.events.specs.View.{up_seen}
use Rattle.boards.specs.declared.Rig.{Rig}
use Rattle.boards.specs.declared.Sizes.{Sizes}
use Rattle.boards.specs.View.{Lent, flight, owners_of, rig_at, view}

-- the lengths of the buffers: those of a rig of one board, for each board; the messages are shared, and a byte for each is its board
abbrev pub due : Config → Room → Sizes
due cfg room =
    record {
      messages = record_length * room.m;
      owners = room.m;
      stores = room.boards * (cfg.n * store_length cfg);
      boards = room.boards * (cfg.c * board_length cfg);
      elements = room.boards * (cfg.c * elements_length cfg);
    }

-- of a configuration that is refused
abbrev pub nothing_due : Sizes
nothing_due = record { messages = 0; owners = 0; stores = 0; boards = 0; elements = 0 }

-- of any configuration: 0 where one of questions 1 to 5, 21 and 22 is answered no
abbrev pub lengths_of : Config → Room → Sizes
lengths_of cfg room = cond (eqb (first_no (room_questions cfg room)) 0) (due cfg room) nothing_due

-- the lengths are the same
unfoldable pub same_sizes : Sizes → Sizes → Bool
same_sizes x y =
    eqb x.messages y.messages
    && eqb x.owners y.owners
    && eqb x.stores y.stores
    && eqb x.boards y.boards
    && eqb x.elements y.elements

-- each buffer has its length
abbrev pub sized_by : Config → Room → Sizes → Bool
sized_by cfg room x = same_sizes x (due cfg room)

abbrev pub sizes : Lent → Sizes
sizes l =
    record {
      messages = length l.messages;
      owners = length l.owners;
      stores = length l.stores;
      boards = length l.boards;
      elements = length l.elements;
    }

abbrev pub sized : Config → Room → Lent → Bool
sized cfg room l = sized_by cfg room (sizes l)

-- both or neither
abbrev pub same : Bool → Bool → Bool
same a b = cond a b (not b)

-- a client is up
unfoldable pub is_up : Phase → Bool
is_up Phase.Idle = true
is_up (Phase.Asking w b c) = true
is_up (Phase.PreWriting t c) = true
is_up (Phase.FinalisingWrite t c) = true
is_up (Phase.FinalisingRead t c s) = true
is_up Phase.Down = false

unfoldable pub client_up : Option client.State → Bool
client_up none = true
client_up (some x) = is_up x.phase

-- of two boards, the servers are up alike, and the clients
abbrev pub servers_alike : Config → List Node → List Node → Bool
servers_alike cfg xs ys = all_below cfg.n (λ i. same (up_seen (get_elem? xs i)) (up_seen (get_elem? ys i)))

abbrev pub clients_alike : Config → List client.State → List client.State → Bool
clients_alike cfg xs ys = all_below cfg.c (λ i. same (client_up (get_elem? xs i)) (client_up (get_elem? ys i)))

-- "a party is down on all boards or none": on two of them
unfoldable pub up_alike : Config → one.Rig → one.Rig → Bool
up_alike cfg x y = servers_alike cfg x.servers y.servers && clients_alike cfg x.clients y.clients

-- what is asked of each board: what is asked of a rig of one board, and that its parties are up as the first board's are
unfoldable pub board_within : Config → Room → Rig → ℕ → Bool
board_within cfg room r i = one_within cfg room.m (rig_at r i) && up_alike cfg (rig_at r i) (rig_at r 0)

abbrev pub parties_within : Config → Room → Rig → Bool
parties_within cfg room r = all_below room.boards (board_within cfg room r)

-- 6, of a rig: that of every board; each message's board is one that there is; "a state already past that gets 6"
unfoldable pub rig_within : Config → Room → Rig → List ℕ → Bool
rig_within cfg room r owners = parties_within cfg room r && owners_within room (take r.count owners) && fits_room room (take r.count owners)

-- every buffer handed in has its length, whatever the event: the board, the buffer for a read, and those lent to the rig
abbrev pub all_sized : Config → Room → List ℕ → List ℕ → Lent → Bool
all_sized cfg room board read l = eqb (length board) (board_length cfg) && eqb (length read) (board_length cfg) && sized cfg room l

-- 12, of the record that event 3 names
abbrev pub formed_at : Config → Rig → On BoardCall → Lent → Bool
formed_at cfg r a l = formed_for cfg (flight r l) (place_of a.board a.it.position (owners_of r l)) (code_of a.it.code)

-- An event: questions 1 to 5 and 21; 22, of the configuration and then of the board that it names; 6, of every buffer handed in, whatever the
-- event, and of the rig; 19; 7 to 13.
unfoldable pub event_questions : Config → Room → Rig → On BoardCall → List ℕ → Lent → List Question
event_questions cfg room r a read l =
    room_questions cfg room
    ++ ask 22 (board_exists room a.board (code_of a.it.code))
    ∷ ask 6 (all_sized cfg room a.it.board.bytes read l && rig_within cfg room r l.owners)
    ∷ network_after6 cfg room (view cfg room r l) a.board a.it (formed_at cfg r a l) (code_of a.it.code)
