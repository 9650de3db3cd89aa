-- The event of the board that is named, as the code puts it together. Assumes nothing.
use Prim.Native.Nat.{ℕ, ◌-◌, ◌<◌}
use mathlib.Core.Path.{◌≡◌, sym, ap, subst, ◌∙◌}
use mathlib.Core.List.{List}
use native.Mathlib.Omega.{arith}
use lib.ListN.{length, get_elem?}
use Rattle.events.specs.declared.Call.{Call as OneCall}
use Rattle.events.specs.declared.Rig.{Rig as OneRig}
use Rattle.events.specs.declared.Turn.{Turn as OneTurn}
use Rattle.laws.specs.Owners.{place_of}
use Rattle.config.specs.declared.Config.{Config}
use Rattle.config.specs.declared.Room.{Room}
use Rattle.config.specs.Room.{kept_free}
use Rattle.config.proofs.Rooms.{boards_high, room_is}
use Rattle.events.specs.View.{Lent as OneLent}
use Rattle.boards.specs.declared.Call.{Call}
use Rattle.boards.specs.declared.Rig.{Rig}
use Rattle.boards.specs.declared.Turn.{Turn}
use Rattle.boards.specs.Calls.{EventPost, called}
use Rattle.boards.specs.View.{Lent, lent, owners_of, rig_at, rig_with}
use Rattle.boards.specs.inner.Named.{LentPost, LentPre, NamedPre, SettlePost, SettlePre, at_least_one, bare, taken}
use Rattle.boards.proofs.NamedEvent as ev
use Rattle.boards.proofs.NamedTurn.{named_event, settle_pre}
use Rattle.boards.proofs.OnBoard as on
use Rattle.boards.proofs.OneOf.{any_count, counting}

-- the call of the board's own event, at a place
abbrev pub call_at : Call → ℕ → OneCall
call_at a p = record { code = a.code; party = a.party; position = p; length = a.length }

-- the numbers and the rig of one board that the code computes
pub record Values (room : Room) (r : Rig) (a : Call) (l : Lent) (p limit most count : ℕ) (x : OneRig) : Type 0 where
  pub place : p ≡ place_of a.board a.position (owners_of r l)
  pub limits : limit ≡ room.m - kept_free room a.board (owners_of r l)
  pub mosts : most ≡ at_least_one limit
  pub counts : count ≡ taken limit a.code r.count
  pub rig : x ≡ rig_with (get_elem? r.boards (a.board - 1)) count

module _ (cfg : Config) (room : Room) (r : Rig) (a : Call) (board read : List ℕ) (l : Lent) (pre : NamedPre cfg room r a board read l) where
  abbrev i : ℕ
  i = a.board - 1

  pub place_low : i < 8
  place_low = omega (arith, on.place_in cfg room r a board read l pre, boards_high room (room_is cfg room pre.accepted))

  module _ {p limit most count : ℕ} {x : OneRig} (v : Values room r a l p limit most count x) where
    most_is : most ≡ ev.most cfg room r a board read l pre
    most_is = v.mosts ∙ ap at_least_one v.limits

    x_is : x ≡ ev.x cfg room r a board read l pre
    x_is =
        v.rig
        ∙ any_count (get_elem? r.boards i) count r.count
        ∙ ap (counting (rig_at r i)) (v.counts ∙ ap (λ k. taken k a.code r.count) v.limits)

    pub lend_pre : LentPre cfg room most i (bare l)
    lend_pre =
        let long = on.long cfg room r a board read l pre in
        record {
          accepted = pre.accepted;
          place = on.place_in cfg room r a board read l pre;
          few = omega (arith, most_is, ev.few cfg room r a board read l pre);
          messages = long.messages;
          stores = long.stores;
          boards = long.boards;
          elements = long.elements;
        }

    module _ {t : OneTurn} {read' : List ℕ} {l₁ : OneLent} (post : LentPost cfg most i x (call_at a p) board read (bare l) t read' l₁) where
      lent_is : LentPost cfg (ev.most cfg room r a board read l pre) i (ev.x cfg room r a board read l pre) (on.its cfg room r a board read l pre) board read (bare l) t read' l₁
      lent_is =
          subst (λ k. LentPost cfg k i (ev.x cfg room r a board read l pre) (on.its cfg room r a board read l pre) board read (bare l) t read' l₁) most_is
          (subst (λ z. LentPost cfg most i z (on.its cfg room r a board read l pre) board read (bare l) t read' l₁) x_is
          (subst (λ q. LentPost cfg most i x (call_at a q) board read (bare l) t read' l₁) v.place post))

      pub settles : (i < 8) × SettlePre r.count p a t l.owners
      settles = (place_low, subst (λ q. SettlePre r.count q a t l.owners) (sym v.place) (settle_pre cfg room r a board read l pre lent_is))

      pub event_done : {u : Turn} {owners' : List ℕ} → SettlePost r i a p t l.owners u owners' → length r.boards ≡ 8
          → EventPost cfg room r (called a board) read l u read' (lent l₁.messages owners' l₁.stores l₁.boards l₁.elements)
      event_done {u} {owners'} settled eight =
          named_event cfg room r a board read l pre lent_is (subst (λ q. SettlePost r i a q t l.owners u owners') v.place settled) eight
          (boards_high room (room_is cfg room pre.accepted)) lent_is.back
