-- The world changes in one place: messages come or go, a server is changed, a client is changed. All else stays good.
use Prim.Native.Nat.{ℕ, ◌+◌, ◌≤◌}
use mathlib.Core.Path.{◌≡◌, refl, sym, ap, subst}
use mathlib.Core.Logic.{⊎_elim}
use mathlib.Core.List.Memᴰ
use mathlib.Core.List.{List, ◌++◌, Memᴰ}
use native.Mathlib.Nat.{le_refl}
use native.Mathlib.Omega.{arith}
use Rattle.record.specs.Message.{Message}
use Rattle.protocol.specs.Number.{upd}
use Rattle.protocol.specs.Server.{Server}
use Rattle.protocol.specs.Client.{Client}
use Rattle.protocol.specs.Parties.{Parties, with_server, with_client}
use Rattle.protocol.proofs.Basics.{upd_elim, upd_other}
use Rattle.protocol.proofs.World.{Setting, Ghost, Knowledge, know, GoodMessage, GoodServer, GoodPhase, GoodLog, Good}
use Rattle.protocol.proofs.Monotone.{Below, Keeps, keeps_refl, message_up, server-up, phase_up}
use Rattle.protocol.proofs.LogUp.{log_up}

module _ (S : Setting) where
  open S use {Value, Element, key}

  pub below_refl : (k : Knowledge S) → Below S k k
  below_refl k =
      record {
        high = λ s. le_refl _;
        number = λ c. le_refl _;
        base = λ c e s. refl;
        bytes = λ n v e. e;
      }

  module _ {ps : Parties Value Element} {ms : List (Message Element)} {g : Ghost S} {now : ℕ} (a : Good S ps ms g now) where
    -- an event went by
    pub later : Good S ps ms g (now + 1)
    later =
        record {
          messages = a.messages;
          servers = a.servers;
          base = a.base;
          clients = a.clients;
          log = log_up S (below_refl (know S ps g)) (λ n. refl) (omega arith) a.log;
        }

    -- of the messages in flight some went, or came once more
    pub flight_changed : (ms' : List (Message Element)) → ((m : Message Element) → Memᴰ m ms' → Memᴰ m ms) → Good S ps ms' g now
    flight_changed ms' from =
        record {
          messages = λ m i. a.messages m (from m i);
          servers = a.servers;
          base = a.base;
          clients = a.clients;
          log = a.log;
        }

    module _ (s : ℕ) (v : Server Element) (rises : key (ps.servers s).highest ≤ key v.highest) where
      rises_at : (z : ℕ) → key (ps.servers z).highest ≤ key (upd ps.servers s v z).highest
      rises_at z =
          upd_elim (λ (y : Server Element). key (ps.servers z).highest ≤ key y.highest) ps.servers s v z
          (λ e. subst (λ (y : ℕ). key (ps.servers y).highest ≤ key v.highest) (sym e) rises)
          (λ n. le_refl _)

      pub server_rises : Below S (know S ps g) (know S (with_server ps s v) g)
      unfolding with_server know
      server_rises = record { high = rises_at; number = λ c. le_refl _; base = λ c e z. refl; bytes = λ n w e. e }

      -- server s is changed, and sends
      pub server_changed : (sends : List (Message Element)) → GoodServer S (know S ps g) s v → ((m : Message Element) → Memᴰ m sends → GoodMessage S (know S (with_server ps s v) g) m) → Good S (with_server ps s v) (ms ++ sends) g now
      unfolding with_server know
      server_changed sends good sent =
          let up = server_rises in
          record {
            messages = λ m i. ⊎_elim (λ h. message_up S up (a.messages m h)) (sent m) (Memᴰ.append_cases ms i);
            servers = λ z.
                upd_elim (λ (y : Server Element). GoodServer S (know S (with_server ps s v) g) z y) ps.servers s v z
                (λ e. subst (λ (y : ℕ). GoodServer S (know S (with_server ps s v) g) y v) (sym e) (server-up S up good))
                (λ n. server-up S up (a.servers z));
            base = λ c z. omega (arith, a.base c z, rises_at z);
            clients = λ c. phase_up S up (keeps_refl S g c) refl (ps.clients c).phase (a.clients c);
            log = log_up S up (λ n. refl) (le_refl now) a.log;
          }

    -- client c is changed, and sends; the record is changed with it
    pub client_changed : (c : ℕ) (x : Client Value Element) (sends : List (Message Element)) (g' : Ghost S) {now' : ℕ} → Below S (know S ps g) (know S (with_client ps c x) g') → ((d : ℕ) → (d ≡ c → ⊥) → Keeps S g g' d) → ((d s : ℕ) → g'.base d s ≤ key (ps.servers s).highest) → ((m : Message Element) → Memᴰ m sends → GoodMessage S (know S (with_client ps c x) g') m) → GoodPhase S (know S (with_client ps c x) g') g' c x.phase → GoodLog S (know S (with_client ps c x) g') g' now' → Good S (with_client ps c x) (ms ++ sends) g' now'
    unfolding with_client know
    client_changed c x sends g' up keeps base sent phase log =
        record {
          messages = λ m i. ⊎_elim (λ h. message_up S up (a.messages m h)) (sent m) (Memᴰ.append_cases ms i);
          servers = λ z. server-up S up (a.servers z);
          base = base;
          clients = λ d.
              upd_elim (λ (y : Client Value Element). GoodPhase S (know S (with_client ps c x) g') g' d y.phase) ps.clients c x d
              (λ e. subst (λ (y : ℕ). GoodPhase S (know S (with_client ps c x) g') g' y x.phase) (sym e) phase)
              (λ n. phase_up S up (keeps d n) (sym (ap (λ (y : Client Value Element). y.operation) (upd_other ps.clients c x d n))) (ps.clients d).phase (a.clients d));
          log = log;
        }
