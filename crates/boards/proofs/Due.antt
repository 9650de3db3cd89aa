-- The lengths of the buffers lent to a rig of several boards: which they are, how great, and what question 6 shows of each. Assumes nothing.
use Prim.Native.Nat.{ℕ, ◌*◌, ◌≤◌}
use mathlib.Core.Path.{◌≡◌, ap, ◌∙◌}
use native.Mathlib.Omega.{arith}
use native.Mathlib.Nat.{mul-le-mul}
use borrow.Author.Tests.{eq-eqb, ne_eqb}
use Rattle.config.specs.declared.Config.{Config}
use Rattle.config.specs.declared.Lengths.{Lengths}
use Rattle.config.specs.declared.Room.{Room}
use Rattle.config.specs.Config.{Valid, board_length, elements_length, record_length, store_length}
use Rattle.config.specs.Lengths.{messages_length, valid_lengths}
use Rattle.config.specs.Lengths as one
use Rattle.config.specs.Questions.{first_no}
use Rattle.config.specs.Room.{room_questions}
use Rattle.config.proofs.Questions.{within_true}
use Rattle.config.proofs.Rooms.{boards_high, room_is, room_most, room_valid}
use Rattle.config.proofs.Sizes.{board_small, lengths_valid}
use Rattle.events.proofs.Lengths.{all_elements_small, boards_small, stores_small}
use Rattle.boards.specs.declared.Sizes.{Sizes}
use Rattle.boards.specs.Questions.{due, lengths_of, nothing_due}
use Rattle.boards.specs.inner.Questions.{Accepted}

pub nothing_is : (cfg : Config) (room : Room) → (Accepted cfg room → ⊥) → nothing_due ≡ lengths_of cfg room
nothing_is cfg room some = rw (ne_eqb (first_no (room_questions cfg room)) 0 some)

-- those of every board, from those of one
abbrev pub for_all : Config → Room → Lengths → Sizes
for_all cfg room x =
    record {
      messages = x.messages;
      owners = room.m;
      stores = room.boards * (cfg.n * x.store);
      boards = room.boards * (cfg.c * x.board);
      elements = room.boards * (cfg.c * x.elements);
    }

-- and with another length of the messages
abbrev due_with : Config → Room → ℕ → Sizes
due_with cfg room n =
    record {
      messages = n;
      owners = room.m;
      stores = room.boards * (cfg.n * store_length cfg);
      boards = room.boards * (cfg.c * board_length cfg);
      elements = room.boards * (cfg.c * elements_length cfg);
    }

module _ (cfg : Config) (room : Room) (h : Accepted cfg room) where
  valid : Valid cfg
  valid = room_valid cfg room h

  pub due_is : due cfg room ≡ lengths_of cfg room
  due_is = rw (eq-eqb (first_no (room_questions cfg room)) 0 h)

  messages_are : messages_length room.m ≡ record_length * room.m
  messages_are = let most = room_most cfg room h in rw (within_true 1 512 room.m most.0 most.1)

  one_is : (x : Lengths) → x ≡ one.lengths_of cfg room.m → x ≡ valid_lengths cfg room.m
  one_is x e = e ∙ lengths_valid cfg valid room.m

  pub all_are : (x : Lengths) → x ≡ one.lengths_of cfg room.m → for_all cfg room x ≡ lengths_of cfg room
  all_are x e = ap (for_all cfg room) (one_is x e) ∙ ap (due_with cfg room) messages_are ∙ due_is

  few : room.boards ≤ 8
  few = boards_high room (room_is cfg room h)

  pub starts_small : room.boards * board_length cfg ≤ 8192
  starts_small = mul-le-mul few (board_small cfg valid)

  pub all_stores_small : room.boards * (cfg.n * store_length cfg) ≤ 65536
  all_stores_small = mul-le-mul few (stores_small cfg valid)

  pub all_boards_small : room.boards * (cfg.c * board_length cfg) ≤ 131072
  all_boards_small = mul-le-mul few (boards_small cfg valid)

  pub each_elements_small : room.boards * (cfg.c * elements_length cfg) ≤ 131072
  each_elements_small = mul-le-mul few (all_elements_small cfg valid)

  -- the same by what `Config::lengths` gave
  module _ (x : Lengths) (e : x ≡ one.lengths_of cfg room.m) where
    is : x ≡ valid_lengths cfg room.m
    is = one_is x e

    pub stores_fit : cfg.n * x.store ≤ 8192
    stores_fit = omega (arith, ap (λ (y : Lengths). cfg.n * y.store) is, stores_small cfg valid)

    pub boards_fit : cfg.c * x.board ≤ 16384
    boards_fit = omega (arith, ap (λ (y : Lengths). cfg.c * y.board) is, boards_small cfg valid)

    pub elements_fit : cfg.c * x.elements ≤ 16384
    elements_fit = omega (arith, ap (λ (y : Lengths). cfg.c * y.elements) is, all_elements_small cfg valid)

    pub all_stores_fit : room.boards * (cfg.n * x.store) ≤ 65536
    all_stores_fit = mul-le-mul few stores_fit

    pub all_boards_fit : room.boards * (cfg.c * x.board) ≤ 131072
    all_boards_fit = mul-le-mul few boards_fit

    pub each_elements_fit : room.boards * (cfg.c * x.elements) ≤ 131072
    each_elements_fit = mul-le-mul few elements_fit
