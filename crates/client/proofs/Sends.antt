-- The records of messages of a configuration, one after the other: how long they are, and that they stand at the front of a buffer. Assumes nothing.
use Prim.Native.Nat.{ℕ, suc, ◌+◌, ◌*◌, ◌≤◌}
use mathlib.Core.Path.{◌≡◌, refl, ap, ap₂, ◌∙◌}
use mathlib.Core.List.{List, [], ◌∷◌, map}
use native.Mathlib.Omega.{arith}
use lib.ListN.{length, drop, length-append}
use lib.Seq.{drop_at, take_at}
use Rattle.config.specs.declared.Config.{Config}
use Rattle.record.specs.Record.{record_of}
use Rattle.record.specs.Records.{records}
use Rattle.record.proofs.Laws.{record_long}
use Rattle.record.proofs.Records.{records_front}
use Rattle.protocol.specs.Boards.{BoardMessage}
use Rattle.protocol.specs.Sound.{Sound}
use Rattle.protocol.proofs.Sound.{sound_first, sound_rest}
use Rattle.client.specs.Send.{front, records_of}

module _ (cfg : Config) (high : cfg.e ≤ 64) where
  pub length_sends : (ms : List BoardMessage) → Sound cfg ms → length (records_of cfg ms) ≡ 80 * length ms
  unfolding records_of
  length_sends [] h = refl
  length_sends (m ∷ ms) h =
      length-append (record_of cfg m) (records_of cfg ms)
      ∙ ap₂ ◌+◌ (record_long cfg high m (sound_first h)) (length_sends ms (sound_rest h))
      ∙ more (length ms)
    where
      more : (n : ℕ) → 80 + 80 * n ≡ 80 * suc n
      more n = omega arith

  -- one after the other, they are those of the messages
  pub records_sends : (ms : List BoardMessage) → Sound cfg ms → records (length ms) (records_of cfg ms) ≡ map (record_of cfg) ms
  unfolding records_of records
  records_sends [] h = refl
  records_sends (m ∷ ms) h =
      ap₂ ◌∷◌ (take_at (record_of cfg m) (records_of cfg ms) 80 (record_long cfg high m (sound_first h)))
      (ap (records (length ms)) (drop_at (record_of cfg m) (records_of cfg ms) 80 (record_long cfg high m (sound_first h)))
      ∙ records_sends ms (sound_rest h))

  -- at the front of a buffer they are its first records, and it has room for them
  module _ (ms : List BoardMessage) (h : Sound cfg ms) (sends sends' : List ℕ) (out : sends' ≡ front (records_of cfg ms) sends) where
    pub records_out : records (length ms) sends' ≡ map (record_of cfg) ms
    records_out =
        ap (records (length ms)) out
        ∙ records_front (length ms) (records_of cfg ms) (drop (length (records_of cfg ms)) sends) (omega (arith, length_sends ms h))
        ∙ records_sends ms h

    pub room_out : 80 * length ms ≤ length sends'
    room_out =
        omega (arith, length_sends ms h, ap length out, length-append (records_of cfg ms) (drop (length (records_of cfg ms)) sends))
