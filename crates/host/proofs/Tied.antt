-- What hosts keep, seen as the protocol's parties, and the records that they sent as its messages. Assumes nothing.
use Prim.Native.Nat.{ℕ}
use mathlib.Core.Path.{◌≡◌, refl, sym, ap, subst, ◌∙◌}
use mathlib.Core.Bool.{Bool, true, false≢true}
use mathlib.Core.Logic.{⊎_elim}
use mathlib.Core.List.Memᴰ
use mathlib.Core.List.{List, [], ◌∷◌, ◌++◌, map, map-append, Memᴰ}
use Rattle.config.specs.declared.Config.{Config}
use Rattle.config.specs.Number.{client_number, server_number}
use Rattle.config.specs.Questions.{within}
use Rattle.record.specs.Record.{record_of, well_formed}
use Rattle.protocol.specs.Boards.{Board, BoardClient, BoardEvent, BoardHosted, BoardMessage, BoardParties, BoardServer}
use Rattle.protocol.specs.Number.{upd}
use Rattle.protocol.proofs.Basics.{upd_elim, upd_same, upd_other}
use Rattle.server.specs.View as serverView
use Rattle.client.specs.State as clientView
use Rattle.states.specs.Clients as clients
use Rattle.states.specs.Servers as servers
use Rattle.host.specs.Config.{config_of}
use Rattle.host.specs.Runs.{ClientKept, Handed, Kept, ServerKept}

-- a server that is kept, of a number, is this one
pub record ServerIs (cfg : Config) (s : ℕ) (x : ServerKept) (v : BoardServer) : Type 0 where
  pub me : server_number (servers.state_of x.state).me ≡ s
  pub seen : serverView.view cfg (servers.state_of x.state) x.store ≡ v

-- and a client
pub record ClientIs (cfg : Config) (c : ℕ) (x : ClientKept) (v : BoardClient) : Type 0 where
  pub me : client_number (clients.state_of x.state).me ≡ c
  pub seen : clientView.view cfg (clients.state_of x.state) x.board x.elements ≡ v

pub record Tied (cfg : Config) (k : Kept) (p : BoardParties) (ms : List BoardMessage) : Type 0 where
  pub servers : (s : ℕ) → within 1 cfg.n s ≡ true → ServerIs cfg s (k.servers s) (p.servers s)
  pub clients : (c : ℕ) → within 1 cfg.c c ≡ true → ClientIs cfg c (k.clients c) (p.clients c)
  pub sent : k.sent ≡ map (record_of cfg) ms

-- one of two functions that agree is changed in a place, and so is the other
pub both_changed : {A B : Type 0} (P : ℕ → A → B → Type 0) (f : ℕ → A) (g : ℕ → B) (i : ℕ) (a : A) (b : B) (test : ℕ → Bool)
    → ((j : ℕ) → test j ≡ true → P j (f j) (g j)) → P i a b → (j : ℕ) → test j ≡ true → P j (upd f i a j) (upd g i b j)
both_changed {A} {B} P f g i a b test all one j h =
    upd_elim (λ (x : A). P j x (upd g i b j)) f i a j
    (λ e. subst (λ (n : ℕ). P n a (upd g i b n)) (sym e) (subst (P i a) (sym (upd_same g i b)) one))
    (λ n. subst (P j (f j)) (sym (upd_other g i b j n)) (all j h))

-- one of a list's images is that of one of the list
pub from_image : {A B : Type 0} (f : A → B) (xs : List A) (y : B) → Memᴰ y (map f xs) → (x : A) × (Memᴰ x xs) × (y ≡ f x)
from_image f [] y i = absurd (Memᴰ.not-nil i)
from_image f (x ∷ xs) y i =
    ⊎_elim (λ e. (x, Memᴰ.head refl, e))
    (λ j. let r = from_image f xs y j in (r.0, Memᴰ.tail r.1, r.2))
    (Memᴰ.cases_cons i)

-- a well-formed record that is handed in is that of a message that was sent
pub was_sent : (config : List ℕ) {k : Kept} {p : BoardParties} {ms : List BoardMessage} → Tied (config_of config) k p ms → (message : List ℕ)
    → Handed config k.sent message → well_formed (config_of config) message ≡ true
    → (m : BoardMessage) × (Memᴰ m ms) × (message ≡ record_of (config_of config) m)
was_sent config {ms = ms} tied message handed well =
    ⊎_elim (λ i. from_image (record_of (config_of config)) ms message (subst (Memᴰ message) tied.sent i))
    (λ ill. absurd (false≢true (sym ill ∙ well))) handed

-- what is sent more
pub sent_more : (cfg : Config) {rs new : List (List ℕ)} (ms more : List BoardMessage) → rs ≡ map (record_of cfg) ms → new ≡ map (record_of cfg) more
    → rs ++ new ≡ map (record_of cfg) (ms ++ more)
sent_more cfg {rs} {new} ms more e f =
    ap (λ (x : List (List ℕ)). x ++ new) e ∙ ap (λ (x : List (List ℕ)). map (record_of cfg) ms ++ x) f ∙ sym (map-append (record_of cfg) ms more)

-- What a run comes to: a run of the protocol, with the same events.
pub record Comes (cfg : Config) (origin : Board) (k : Kept) (events : List BoardEvent) : Type 0 where
  pub parties : BoardParties
  pub messages : List BoardMessage
  pub hosted : BoardHosted cfg origin parties messages events
  pub tied : Tied cfg k parties messages
