-- The parts of the buffers that are one board's, lent to its event and put back. Assumes nothing.
use Prim.Native.Nat.{ℕ, ◌+◌, ◌-◌, ◌*◌, ◌≤◌}
use mathlib.Core.Path.{◌≡◌, sym, subst}
use mathlib.Core.List.{List, ◌++◌}
use native.Mathlib.Omega.{arith}
use native.Mathlib.Nat.{mul-le-mul, zero-add}
use lib.ListN.{length, take, drop}
use Rattle.laws.proofs.Parts.{lent_is, over_lent, part_fits}
use Rattle.config.specs.declared.Config.{Config}
use Rattle.config.specs.declared.Room.{Room}
use Rattle.config.specs.Config.{Valid, board_length, elements_length, record_length, store_length}
use Rattle.config.proofs.Rooms.{boards_high, room_is, room_most, room_valid}
use Rattle.config.proofs.Sizes.{board_small, elements_small, store_small}
use Rattle.events.specs.declared.Rig.{Rig as OneRig}
use Rattle.events.specs.declared.Turn.{Turn as OneTurn}
use Rattle.events.specs.declared.Call as one
use Rattle.events.specs.View.{Lent as OneLent, lent as one_lent}
use Rattle.events.specs.Calls.{EventPost as OneEventPost, called as one_called}
use Rattle.events.proofs.Lengths.{all_elements_small, boards_small, stores_small}
use Rattle.boards.specs.inner.Named.{LentPost, LentPre, cut_to, put_back}

-- how great the numbers are by which the parts are cut
pub record Bounds (cfg : Config) (most i : ℕ) (l : OneLent) : Type 0 where
  pub depth : cfg.d + 1 ≤ 8
  pub store : store_length cfg ≤ 512
  pub stores : cfg.n * store_length cfg ≤ 8192
  pub stores_from : i * (cfg.n * store_length cfg) ≤ 65536
  pub stores_fit : i * (cfg.n * store_length cfg) + cfg.n * store_length cfg ≤ length l.stores
  pub board : board_length cfg ≤ 1024
  pub boards : cfg.c * board_length cfg ≤ 16384
  pub boards_from : i * (cfg.c * board_length cfg) ≤ 131072
  pub boards_fit : i * (cfg.c * board_length cfg) + cfg.c * board_length cfg ≤ length l.boards
  pub received : elements_length cfg ≤ 1024
  pub elements : cfg.c * elements_length cfg ≤ 16384
  pub elements_from : i * (cfg.c * elements_length cfg) ≤ 131072
  pub elements_fit : i * (cfg.c * elements_length cfg) + cfg.c * elements_length cfg ≤ length l.elements
  pub messages : record_length * most ≤ length l.messages
  pub few : record_length * most ≤ 40960

module _ {cfg : Config} {room : Room} {most i : ℕ} {l : OneLent} (pre : LentPre cfg room most i l) where
  abbrev valid : Valid cfg
  valid = room_valid cfg room pre.accepted

  place_low : i ≤ 8
  place_low = omega (arith, pre.place, boards_high room (room_is cfg room pre.accepted))

  pub bounds : Bounds cfg most i l
  bounds =
      let most-messages = room_most cfg room pre.accepted in
      record {
        depth = omega (arith, valid.d_high);
        store = store_small cfg valid;
        stores = stores_small cfg valid;
        stores_from = mul-le-mul place_low (stores_small cfg valid);
        stores_fit = omega (arith, part_fits i room.boards (cfg.n * store_length cfg) pre.place, pre.stores);
        board = board_small cfg valid;
        boards = boards_small cfg valid;
        boards_from = mul-le-mul place_low (boards_small cfg valid);
        boards_fit = omega (arith, part_fits i room.boards (cfg.c * board_length cfg) pre.place, pre.boards);
        received = elements_small cfg valid;
        elements = all_elements_small cfg valid;
        elements_from = mul-le-mul place_low (all_elements_small cfg valid);
        elements_fit = omega (arith, part_fits i room.boards (cfg.c * elements_length cfg) pre.place, pre.elements);
        messages = omega (arith, pre.few, pre.messages);
        few = omega (arith, pre.few, most-messages.1);
      }

module _ (cfg : Config) (most i : ℕ) (x : OneRig) (a : one.Call) (board read : List ℕ) (l : OneLent) where
  abbrev ws : ℕ
  ws = cfg.n * store_length cfg

  abbrev wb : ℕ
  wb = cfg.c * board_length cfg

  abbrev we : ℕ
  we = cfg.c * elements_length cfg

  abbrev end : ℕ
  end = record_length * most

  -- the parts as the code cuts them
  abbrev handed : OneLent
  handed =
      one_lent (take end l.messages) (take (i * ws + ws - i * ws) (drop (i * ws) l.stores)) (take (i * wb + wb - i * wb) (drop (i * wb) l.boards))
      (take (i * we + we - i * we) (drop (i * we) l.elements))

  -- and as it puts them back
  abbrev returned : OneLent → OneLent
  returned y =
      one_lent (y.messages ++ drop end l.messages)
      (take (i * ws) l.stores ++ (y.stores ++ drop (i * ws + ws - i * ws) (drop (i * ws) l.stores)))
      (take (i * wb) l.boards ++ (y.boards ++ drop (i * wb + wb - i * wb) (drop (i * wb) l.boards)))
      (take (i * we) l.elements ++ (y.elements ++ drop (i * we + we - i * we) (drop (i * we) l.elements)))

  handed_is : handed ≡ cut_to cfg most i l
  handed_is = λ j. one_lent (take end l.messages) (lent_is l.stores (i * ws) ws j) (lent_is l.boards (i * wb) wb j) (lent_is l.elements (i * we) we j)

  returned_is : (y : OneLent) → returned y ≡ put_back cfg most i y l
  returned_is y =
      λ j. one_lent (y.messages ++ drop (sym (zero-add end) j) l.messages) (over_lent (i * ws) ws y.stores l.stores j)
      (over_lent (i * wb) wb y.boards l.boards j)
      (over_lent (i * we) we y.elements l.elements j)

  pub lent_done : {t : OneTurn} {read' : List ℕ} (y : OneLent) → OneEventPost cfg most x (one_called a board) read handed t read' y
      → LentPost cfg most i x a board read l t read' (returned y)
  lent_done {t} {read'} y post =
      record {
        after = y;
        event = subst (λ (z : OneLent). OneEventPost cfg most x (one_called a board) read z t read' y) handed_is post;
        back = returned_is y;
      }
