-- Lists of messages of a configuration: lists of some of them and lists joined are such lists, and their records read back.
-- Assumes nothing.
use Prim.Native.Nat.{ℕ, zero, suc, ◌+◌, ◌≤◌}
use mathlib.Core.Path.{◌≡◌, refl, sym, ap₂, subst}
use mathlib.Core.Bool.{true}
use mathlib.Core.Logic.{⊎_elim}
use mathlib.Core.Option.{some}
use mathlib.Core.List.Memᴰ
use mathlib.Core.List.{List, [], ◌∷◌, ◌++◌, map}
use native.Mathlib.Omega.{arith}
use lib.ListN.{get_elem?}
use Rattle.config.specs.declared.Config.{Config}
use Rattle.config.specs.Config.{Valid}
use Rattle.record.specs.Record.{message_of, of_config, record_of}
use Rattle.record.proofs.Laws.{reads_back}
use Rattle.protocol.specs.Boards.{BoardMessage}
use Rattle.protocol.specs.Number.{to_each}
use Rattle.protocol.specs.Rig.{doubled, without}
use Rattle.protocol.proofs.Flight.{at_mem, doubled_mem, without_mem}
use Rattle.protocol.specs.Sound.{Sound}

module _ {cfg : Config} where
  pub sound_none : Sound cfg []
  sound_none = record { each = λ m i. absurd (Memᴰ.not-nil i) }

  pub sound_one : (m : BoardMessage) → of_config cfg m ≡ true → Sound cfg (m ∷ [])
  sound_one m h =
      record { each = λ x i. subst (λ (y : BoardMessage). of_config cfg y ≡ true) (sym (Memᴰ.eq_of_singleton i)) h }

  pub sound_append : {xs ys : List BoardMessage} → Sound cfg xs → Sound cfg ys → Sound cfg (xs ++ ys)
  sound_append {xs = xs} h k = record { each = λ m i. ⊎_elim (h.each m) (k.each m) (Memᴰ.append_cases xs i) }

  -- a message to each server
  pub sound_to_each : (n : ℕ) (f : ℕ → BoardMessage) → ((s : ℕ) → 1 ≤ s → s ≤ n → of_config cfg (f s) ≡ true) → Sound cfg (to_each n f)
  unfolding to_each
  sound_to_each zero f h = sound_none
  sound_to_each (suc n) f h =
      sound_append (sound_to_each n f (λ s l k. h s l (omega (arith, k)))) (sound_one (f (suc n)) (h (suc n) (omega arith) (omega arith)))

  module _ {ms : List BoardMessage} (h : Sound cfg ms) where
    pub sound-at : (i : ℕ) (m : BoardMessage) → get_elem? ms i ≡ some m → of_config cfg m ≡ true
    sound-at i m e = h.each m (at_mem ms i m e)

    pub sound_without : (i : ℕ) → Sound cfg (without i ms)
    sound_without i = record { each = λ m j. h.each m (without_mem i ms m j) }

    pub sound_doubled : (i : ℕ) → Sound cfg (doubled i ms)
    sound_doubled i = record { each = λ m j. h.each m (doubled_mem i ms m j) }

  module _ {m : BoardMessage} {ms : List BoardMessage} (h : Sound cfg (m ∷ ms)) where
    pub sound_first : of_config cfg m ≡ true
    sound_first = h.each m (Memᴰ.head refl)

    pub sound_rest : Sound cfg ms
    sound_rest = record { each = λ x i. h.each x (Memᴰ.tail i) }

-- their records read back
module _ (cfg : Config) (valid : Valid cfg) where
  pub read_sends : (ms : List BoardMessage) → Sound cfg ms → map (message_of cfg) (map (record_of cfg) ms) ≡ ms
  read_sends [] h = refl
  read_sends (m ∷ ms) h = ap₂ ◌∷◌ (reads_back cfg valid m (sound_first h)) (read_sends ms (sound_rest h))
