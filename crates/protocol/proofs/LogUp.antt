-- The record of operations stays good while knowledge grows and events go by.
use Prim.Native.Nat.{ℕ, ◌≤◌}
use mathlib.Core.Path.{◌≡◌, sym, ◌∙◌}
use native.Mathlib.Omega.{arith}
use Rattle.tag.specs.Tag.{start as starting_tag}
use Rattle.protocol.proofs.World.{Setting, Ghost, Knowledge, GoodLog}
use Rattle.protocol.proofs.Monotone.{Below, known_up, high_up}

module _ (S : Setting) where
  open S use {Value, key}

  pub log_up : {k k' : Knowledge S} {g : Ghost S} {now now' : ℕ} → Below S k k' → ((n : ℕ) → k'.bytes n ≡ k.bytes n) → now ≤ now' → GoodLog S k g now → GoodLog S k' g now'
  log_up up same later a =
      record {
        begun_before = λ p x e. omega (arith, a.begun_before p x e);
        latest_before = λ c. omega (arith, a.latest_before c);
        past = a.past;
        chosen_begun = a.chosen_begun;
        chosen_known = λ p t e. known_up S up (a.chosen_known p t e);
        wrote_bytes = λ p v t w. same (key t) ∙ a.wrote_bytes p v t w;
        wrote_client = a.wrote_client;
        wrote_above = a.wrote_above;
        wrote_once = a.wrote_once;
        ending_after = a.ending_after;
        ending_before = λ p x e. omega (arith, a.ending_before p x e);
        ending_how = a.ending_how;
        ending_once = a.ending_once;
        ending_quorum = λ p x t e f. high_up S up (key t) (a.ending_quorum p x t e f);
        start_bytes = same (key starting_tag) ∙ a.start_bytes;
        boards = λ n v e. a.boards n v (sym (same n) ∙ e);
        source = λ n v e. a.source n v (sym (same n) ∙ e);
        in_time = a.in_time;
        in_time_write = a.in_time_write;
      }
