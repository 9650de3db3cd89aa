-- Records of 80 bytes that stand one behind the other in a lent buffer, of which so many are in use. Where there is no such record, or no
-- room for those that come, all is as it was. What the buffers here mean for the records is shown in proofs/Laws.
use Rattle.std.specs.Prelude.{ℕ, ◌+◌, ◌-◌, ◌*◌, ◌/◌, ◌%◌, Bool, cond, ◌&&◌, ◌≡◌, List, eqb, leb, ltb, length, take, drop, replicate}
use Rattle.std.proofs.Math.Seq.{paste}
unfoldable pub use Rattle.record.specs.Records.{records}

-- a record's bytes
abbrev pub record_length : ℕ
record_length = 80

-- n records fit into a buffer
abbrev pub fits : ℕ → List ℕ → Bool
fits n bytes = leb (record_length * n) (length bytes)

-- one of n records, which fit, stands at position i
abbrev pub stands : ℕ → ℕ → List ℕ → Bool
stands n i bytes = ltb i n && fits n bytes

-- the record at position i
abbrev pub record_at : ℕ → List ℕ → List ℕ
record_at i bytes = take record_length (drop (record_length * i) bytes)

-- Taking: the record at a position, or as many zeros.
pub record TakePost (n i : ℕ) (bytes r : List ℕ) : Type 0 where
  pub taken : r ≡ cond (stands n i bytes) (record_at i bytes) (replicate record_length 0)

-- of n records that at position i is gone: those behind it have moved up by one
abbrev pub removed : ℕ → ℕ → List ℕ → List ℕ
removed n i bytes = paste bytes (record_length * i) (drop (record_length * i + record_length) bytes) (record_length * (n - 1 - i))

-- Removing: the new count, and the buffer.
pub record RemovePost (n i : ℕ) (bytes : List ℕ) (m : ℕ) (after : List ℕ) : Type 0 where
  pub count : m ≡ cond (stands n i bytes) (n - 1) n
  pub buffer : after ≡ cond (stands n i bytes) (removed n i bytes) bytes

-- behind n records stand others
abbrev pub appended : ℕ → List ℕ → List ℕ → List ℕ
appended n new bytes = paste bytes (record_length * n) new (length new)

-- they are whole records, and there is room for them
abbrev pub appends : ℕ → List ℕ → List ℕ → Bool
appends n new bytes = eqb (length new % record_length) 0 && fits (n + length new / record_length) bytes

-- Appending: the new count, and the buffer.
pub record AppendPost (n : ℕ) (new bytes : List ℕ) (m : ℕ) (after : List ℕ) : Type 0 where
  pub count : m ≡ cond (appends n new bytes) (n + length new / record_length) n
  pub buffer : after ≡ cond (appends n new bytes) (appended n new bytes) bytes

-- there is a record at position i, and room for one more
abbrev pub doubles : ℕ → ℕ → List ℕ → Bool
doubles n i bytes = ltb i n && fits (n + 1) bytes

-- Doubling, "a copy goes to the end": the new count, and the buffer.
pub record DoublePost (n i : ℕ) (bytes : List ℕ) (m : ℕ) (after : List ℕ) : Type 0 where
  pub count : m ≡ cond (doubles n i bytes) (n + 1) n
  pub buffer : after ≡ cond (doubles n i bytes) (appended n (record_at i bytes) bytes) bytes
