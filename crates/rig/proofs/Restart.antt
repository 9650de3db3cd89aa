-- "starts a crashed server again with its store, highest finalised tag and floor exactly as they stood at the crash": from the crash to the restart
-- they stay, whatever happens between. The rig is any, and need not be one of a list from a fresh one. Assumes nothing.
use Prim.Native.Nat.{ℕ}
use mathlib.Core.Path.{◌≡◌, sym, ap, subst, ◌∙◌}
use mathlib.Core.Bool.{Bool, true, false}
use mathlib.Core.List.{List, map, map-id}
use Rattle.config.specs.declared.Config.{Config}
use Rattle.protocol.specs.Boards.{BoardAnswer, BoardEvent, BoardParties, BoardRig, BoardTurn, decode, encode, order}
use Rattle.protocol.specs.GoesOn.{GoesOn}
use Rattle.protocol.specs.Restart.{Kept, NoRestart, crashes, is_done, restarts}
use Rattle.protocol.proofs.Restart.{code_for, comes_back, done_keeps, event_keeps, goes_on_keeps}
use Rattle.events.specs.declared.Rig.{Rig}
use Rattle.events.specs.View.{Lent, parties_of, view}
use Rattle.events.specs.Calls.{event_no, outcome}
use Rattle.rig.specs.OneEvent.{OneEvent}

as_they_are : (s : ℕ) (events : List BoardEvent) → NoRestart s events → NoRestart s (map (λ e. e) events)
as_they_are s events not = subst (NoRestart s) (sym (map-id events)) not

module _ (cfg : Config) (m : ℕ) where
  abbrev parties_in : Rig × Lent → BoardParties
  parties_in x = parties_of cfg x.0 x.1

  -- what an event leaves and answers is the protocol's
  module _ {x : Rig × Lent} {e : BoardEvent} {y : Rig × Lent} (one : OneEvent cfg m x e y) (s : ℕ) where
    abbrev out : BoardTurn
    out = outcome cfg m x.0 e.call one.read x.1

    abbrev number : ℕ
    number = event_no cfg m x.0 e.call one.read x.1

    leaves : parties_in y ≡ out.rig.parties
    unfolding view
    leaves = ap (λ (r : Rig). parties_of cfg r y.1) one.rig ∙ ap (λ (v : BoardRig). v.parties) one.event.seen

    -- and so is what a test says of it
    tested : (P : BoardEvent → Bool) → P (record { call = e.call; answer = out.answer }) ≡ P e
    tested P = ap (λ (z : BoardAnswer). P (record { call = e.call; answer = z })) (sym (one.answer ∙ one.event.answer))

    kept : (parties_in x).up s ≡ false → restarts s e ≡ false → Kept s false (parties_in x) (parties_in y)
    unfolding view
    kept down not =
        subst (Kept s false (parties_in x)) (sym leaves)
        (event_keeps (order cfg) (encode cfg) (decode cfg) cfg s (view cfg x.0 x.1) down e.call number (tested (restarts s) ∙ not))

    done : (up : Bool) → is_done (code_for up) s e ≡ true → Kept s up (parties_in x) (parties_in y)
    unfolding view
    done up taken =
        subst (Kept s up (parties_in x)) (sym leaves)
        (done_keeps (order cfg) (encode cfg) (decode cfg) cfg (view cfg x.0 x.1) e.call number s up (tested (is_done (code_for up) s) ∙ taken))

  -- while server s is down, and no event starts it again
  pub kept_while_down : (s : ℕ) {x y : Rig × Lent} {events : List BoardEvent} → GoesOn (OneEvent cfg m) x events y → (parties_of cfg x.0 x.1).up s ≡ false
      → NoRestart s events → Kept s false (parties_of cfg x.0 x.1) (parties_of cfg y.0 y.1)
  kept_while_down s {events = events} between down not =
      goes_on_keeps (OneEvent cfg m) parties_in (λ e. e) s (λ x e y one. kept one s) between down (as_they_are s events not)

  -- its crash, events of which none starts it again, and its restart
  pub back_as_it_was : (s : ℕ) {w x y z : Rig × Lent} {crash restart : BoardEvent} {events : List BoardEvent}
      → OneEvent cfg m w crash x → crashes s crash ≡ true
      → GoesOn (OneEvent cfg m) x events y → NoRestart s events
      → OneEvent cfg m y restart z → restarts s restart ≡ true
      → Kept s true (parties_of cfg w.0 w.1) (parties_of cfg z.0 z.1)
  back_as_it_was s {z = z} {events = events} first crashed between not last restarted =
      comes_back (OneEvent cfg m) parties_in (λ e. e) s (λ x e y one. kept one s) {z = z} (done first s false crashed) between (as_they_are s events not)
      (done last s true restarted)
