-- The invariant holds of the fresh rig.
use Prim.Native.Nat.{ℕ, zero-le}
use mathlib.Core.Path.{◌≡◌, refl, sym, subst}
use mathlib.Core.Logic.{inl}
use mathlib.Core.Option.{Option, none, some}
use mathlib.Core.List.Memᴰ
use mathlib.Core.List.{[]}
use native.Mathlib.Omega.{arith}
use Rattle.config.specs.Questions.{within}
use Rattle.protocol.specs.Number.{upd}
use Rattle.tag.specs.Tag.{start as starting_tag}
use Rattle.protocol.specs.Server.{fresh_server, no_server}
use Rattle.protocol.specs.Client.{fresh_client}
use Rattle.protocol.specs.Parties.{fresh_parties}
use Rattle.protocol.proofs.Basics.{cond_elim, upd_elim, upd_same, none≢some, some-injective}
use Rattle.protocol.proofs.World.{Setting, Ghost, Known, know, GoodServer, GoodStored, GoodLog, Good}
use Rattle.protocol.proofs.Recorded.{Recorded}

module _ (S : Setting) where
  open S use {Value, Element, cfg, key, encode, IsBoard, start, start_is_board}

  -- nothing is recorded but the starting board
  abbrev pub blank : Ghost S
  blank =
      record {
        begun = λ p. none;
        chosen = λ p. none;
        ending = λ p. none;
        latest = λ c. 0;
        base = λ c s. 0;
        bytes = upd (λ n. none) (key starting_tag) (some start);
      }

  -- the only board known
  only_start : (n : ℕ) (v : Value) → upd (λ m. none) (key starting_tag) (some start) n ≡ some v → (n ≡ key starting_tag) × (start ≡ v)
  only_start n v =
      upd_elim (λ (o : Option Value). o ≡ some v → (n ≡ key starting_tag) × (start ≡ v)) (λ m. none) (key starting_tag) (some start) n (λ e f. (e, some-injective f)) (λ e f. absurd (none≢some f))

  log_fresh : GoodLog S (know S (fresh_parties cfg encode start) blank) blank 0
  unfolding know
  log_fresh =
      record {
        begun_before = λ p x e. absurd (none≢some e);
        latest_before = λ c. omega arith;
        past = λ p c b e. absurd (none≢some e);
        chosen_begun = λ p t e. absurd (none≢some e);
        chosen_known = λ p t e. absurd (none≢some e);
        wrote_bytes = λ p v t w. absurd (none≢some w.chosen);
        wrote_client = λ p v t w. absurd (none≢some w.chosen);
        wrote_above = λ p v t w. absurd (none≢some w.chosen);
        wrote_once = λ p r v w t u i j e. absurd (none≢some i.chosen);
        ending_after = λ p x e. absurd (none≢some e);
        ending_before = λ p x e. absurd (none≢some e);
        ending_how = λ p x e c b f. absurd (none≢some e);
        ending_once = λ p r x y e f h. absurd (none≢some e);
        ending_quorum = λ p x t e f. absurd (none≢some e);
        start_bytes = upd_same (λ n. none) (key starting_tag) (some start);
        boards = λ n v e. subst IsBoard (only_start n v e).1 start_is_board;
        source = λ n v e. inl (only_start n v e).0;
        in_time = λ p r x t u e f h i. absurd (none≢some e);
        in_time_write = λ p r x t u v e f h i. absurd (none≢some e);
      }

  -- what a server knows at the start, and what it has stored
  known_start : Known S (know S (fresh_parties cfg encode start) blank) starting_tag
  unfolding know
  known_start = record { board = start; is = upd_same (λ n. none) (key starting_tag) (some start); within = omega arith }

  stored_start : (s : ℕ) → GoodServer S (know S (fresh_parties cfg encode start) blank) s (fresh_server (encode start s))
  unfolding fresh_server know
  stored_start s =
      record {
        known = known_start;
        stored = λ x i.
            subst (GoodStored S (know S (fresh_parties cfg encode start) blank) s) (sym (Memᴰ.eq_of_singleton i))
            (record { board = start; is = upd_same (λ n. none) (key starting_tag) (some start); element = refl });
      }

  stored_nothing : (s : ℕ) → GoodServer S (know S (fresh_parties cfg encode start) blank) s no_server
  unfolding no_server know
  stored_nothing s = record { known = known_start; stored = λ x i. absurd (Memᴰ.not-nil i) }

  pub fresh_good : Good S (fresh_parties cfg encode start) [] blank 0
  unfolding fresh_parties fresh_server fresh_client know
  fresh_good =
      record {
        messages = λ m i. absurd (Memᴰ.not-nil i);
        servers = λ s. cond_elim (GoodServer S (know S (fresh_parties cfg encode start) blank) s) (within 1 cfg.n s)
            (fresh_server (encode start s)) no_server (λ _. stored_start s) (λ _. stored_nothing s);
        base = λ c s. zero-le;
        clients = λ c. record { closed = λ p b e. absurd (none≢some e) };
        log = log_fresh;
      }

  pub fresh_recorded : Recorded S [] blank
  fresh_recorded = record { blank = λ p x e f. absurd (none≢some e); begun = λ p c b e. absurd (none≢some e); named = λ c q x e n. absurd (none≢some e) }
