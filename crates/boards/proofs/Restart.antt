-- "starts a crashed server again with its store, highest finalised tag and floor exactly as they stood at the crash": from the crash to the restart
-- they stay on every board, whatever happens between. The rig is any, and need not be one of a list from a fresh one. Assumes nothing.
use Prim.Native.Nat.{ℕ}
use mathlib.Core.Path.{◌≡◌, sym, ap, subst, ◌∙◌}
use mathlib.Core.Bool.{Bool, true, false}
use mathlib.Core.List.{List, map}
use Rattle.config.specs.declared.Config.{Config}
use Rattle.config.specs.declared.Room.{Room}
use Rattle.config.specs.Questions.{within}
use Rattle.protocol.specs.Boards.{BoardAnswer, BoardCall, BoardEvent, BoardNetwork, BoardNetworkTurn, BoardParties, decode, encode, order}
use Rattle.protocol.specs.GoesOn.{GoesOn}
use Rattle.protocol.specs.Network.{On}
use Rattle.protocol.specs.Restart.{Kept, NoRestart, crashes, is_done, restarts}
use Rattle.protocol.proofs.Restart.{code_for, comes_back, goes_on_keeps, network_done_keeps, network_event_keeps}
use Rattle.boards.specs.declared.Rig.{Rig}
use Rattle.boards.specs.View.{Lent, parties_on, view}
use Rattle.boards.specs.Calls.{event_no, outcome}
use Rattle.boards.specs.OneEvent.{OneEvent}

module _ (cfg : Config) (room : Room) (b : ℕ) where
  abbrev parties_in : Rig × Lent → BoardParties
  parties_in x = parties_on cfg room x.0 x.1 b

  -- what an event leaves and answers is the network's
  module _ {x : Rig × Lent} {e : On BoardEvent} {y : Rig × Lent} (one : OneEvent cfg room x e y) (s : ℕ) where
    abbrev call : On BoardCall
    call = record { board = e.board; it = e.it.call }

    abbrev out : BoardNetworkTurn
    out = outcome cfg room x.0 call one.read x.1

    abbrev number : ℕ
    number = event_no cfg room x.0 call one.read x.1

    leaves : parties_in y ≡ out.network.parties b
    unfolding view
    leaves = ap (λ (r : Rig). parties_on cfg room r y.1 b) one.rig ∙ ap (λ (n : BoardNetwork). n.parties b) one.event.seen

    -- and so is what a test says of it
    tested : (P : BoardEvent → Bool) → P (record { call = e.it.call; answer = out.answer }) ≡ P e.it
    tested P = ap (λ (z : BoardAnswer). P (record { call = e.it.call; answer = z })) (sym (one.answer ∙ one.event.answer))

    kept : (parties_in x).up s ≡ false → restarts s e.it ≡ false → Kept s false (parties_in x) (parties_in y)
    unfolding view
    kept down not =
        subst (Kept s false (parties_in x)) (sym leaves)
        (network_event_keeps (order cfg) (encode cfg) (decode cfg) cfg s room (view cfg room x.0 x.1) b down e.board e.it.call number
        (tested (restarts s) ∙ not))

    done : within 1 room.boards b ≡ true → (up : Bool) → is_done (code_for up) s e.it ≡ true → Kept s up (parties_in x) (parties_in y)
    unfolding view
    done exists up taken =
        subst (Kept s up (parties_in x)) (sym leaves)
        (network_done_keeps (order cfg) (encode cfg) (decode cfg) cfg room (view cfg room x.0 x.1) b exists e.board e.it.call number s up
        (tested (is_done (code_for up) s) ∙ taken))

  -- while server s is down, and no event starts it again
  pub kept_while_down : (s : ℕ) {x y : Rig × Lent} {events : List (On BoardEvent)} → GoesOn (OneEvent cfg room) x events y
      → (parties_on cfg room x.0 x.1 b).up s ≡ false → NoRestart s (map (λ e. e.it) events)
      → Kept s false (parties_on cfg room x.0 x.1 b) (parties_on cfg room y.0 y.1 b)
  kept_while_down s = goes_on_keeps (OneEvent cfg room) parties_in (λ e. e.it) s (λ x e y one. kept one s)

  -- its crash, events of which none starts it again, and its restart: on each board that there is
  pub back_as_it_was : within 1 room.boards b ≡ true → (s : ℕ) {w x y z : Rig × Lent} {crash restart : On BoardEvent} {events : List (On BoardEvent)}
      → OneEvent cfg room w crash x → crashes s crash.it ≡ true
      → GoesOn (OneEvent cfg room) x events y → NoRestart s (map (λ e. e.it) events)
      → OneEvent cfg room y restart z → restarts s restart.it ≡ true
      → Kept s true (parties_on cfg room w.0 w.1 b) (parties_on cfg room z.0 z.1 b)
  back_as_it_was exists s {z = z} first crashed between not last restarted =
      comes_back (OneEvent cfg room) parties_in (λ e. e.it) s (λ x e y one. kept one s) {z = z} (done first s exists false crashed) between not
      (done last s exists true restarted)
