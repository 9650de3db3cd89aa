-- An event as a record of bytes: "code, party (0 if unused), position (2 bytes), board byte", and "two bytes of length at the end". Where a
-- board has V bytes, a record has them all.
use Rattle.std.specs.Prelude.{ℕ, ◌+◌, ◌*◌, List, take, drop, slice_index}
use Rattle.laws.specs.Bytes.{tabulate}
use Rattle.record.specs.Record.{little_two}
use Rattle.protocol.specs.Boards.{BoardCall, board_of}
use Rattle.protocol.specs.Network.{On}

-- a record's bytes, where a board has v
abbrev pub event_length : ℕ → ℕ
event_length v = 6 + v

-- the bytes handed in by the record that begins at a place, and the length
abbrev pub bytes_at : ℕ → ℕ → List ℕ → List ℕ
bytes_at v at input = take v (drop (at + 4) input)

abbrev pub length_at : ℕ → ℕ → List ℕ → ℕ
length_at v at input = little_two (slice_index input (at + 4 + v)) (slice_index input (at + 5 + v))

-- its call
unfoldable pub call_at : ℕ → ℕ → List ℕ → BoardCall
call_at v at input =
    record {
      code = slice_index input at;
      party = slice_index input (at + 1);
      position = little_two (slice_index input (at + 2)) (slice_index input (at + 3));
      board = board_of (length_at v at input) (bytes_at v at input);
    }

-- the calls of the first n records, which stand one behind the other
abbrev pub calls_in : ℕ → ℕ → List ℕ → List BoardCall
calls_in v n input = tabulate n (λ i. call_at v (i * event_length v) input)

-- ---- of several boards: the number of the board that it names stands behind the position

abbrev pub event_on_length : ℕ → ℕ
event_on_length v = 7 + v

abbrev pub bytes_on_at : ℕ → ℕ → List ℕ → List ℕ
bytes_on_at v at input = take v (drop (at + 5) input)

abbrev pub length_on_at : ℕ → ℕ → List ℕ → ℕ
length_on_at v at input = little_two (slice_index input (at + 5 + v)) (slice_index input (at + 6 + v))

unfoldable pub call_on_at : ℕ → ℕ → List ℕ → On BoardCall
call_on_at v at input =
    record {
      board = slice_index input (at + 4);
      it =
          record {
            code = slice_index input at;
            party = slice_index input (at + 1);
            position = little_two (slice_index input (at + 2)) (slice_index input (at + 3));
            board = board_of (length_on_at v at input) (bytes_on_at v at input);
          };
    }
