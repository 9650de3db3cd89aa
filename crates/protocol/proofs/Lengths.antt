-- Lengths in the model, evaluated with the documents' boards: N 3, k 1, D 0, E 1, C 2, M 64, and so V 1; the starting board is 0.
use Prim.Native.Nat.{ℕ, zero, suc, ◌-◌}
use mathlib.Core.Path.{◌≡◌, refl, ap}
use mathlib.Core.Option.{some}
use mathlib.Core.List.{List, [], ◌∷◌, ◌++◌}
use lib.ListN.{replicate}
use native.Mathlib.Omega.{arith}
use Rattle.config.specs.declared.Config.{Config}
use Rattle.laws.specs.Below.{all_below}
use Rattle.config.specs.Config.{no_ranks, questions, rank, ranks_within}
use Rattle.config.specs.Questions.{first_no}
use Rattle.config.proofs.Valid.{valid}
use Rattle.laws.specs.Bytes.{Bytes, tabulate}
use Rattle.tag.specs.declared.Tag.{Tag}
use Rattle.tag.specs.Tag.{start}
use Rattle.code.specs.Decoded.{decoded, decoded_pairs}
use Rattle.record.specs.declared.Kind.TheVariants.{ReadFinaliseAnswer}
use Rattle.record.specs.Element.{Element, element_with}
use Rattle.record.specs.Message.{Message}
use Rattle.protocol.specs.Board.{refused, nothing_ended, written_by, read_by}
use Rattle.protocol.specs.Boards.{Board, BoardAnswer, BoardCall, BoardClient, BoardMoved, IsBoard, board_of, client_step, cut, decode, encode, fits_in, order, starting_board}
use Rattle.protocol.specs.Client.{Ended, finalising_read}
use Rattle.protocol.specs.Laws.{ElementsOf, Rising}
use Rattle.protocol.specs.Number.{nobody, nothing_yet}
use Rattle.protocol.proofs.Boards.{coding}
use Rattle.protocol.proofs.Cut.{filled, length_cut}
use Rattle.protocol.proofs.Evaluate.{answers_to}
use Rattle.protocol.proofs.Example.{config}

-- a call with the byte 7 and a length
abbrev call : ℕ → ℕ → ℕ → BoardCall
call code party length = record { code = code; party = party; position = 0; board = board_of length (7 ∷ []) }

abbrev answers : List BoardCall → List BoardAnswer
answers calls = answers_to (order config) (encode config) (decode config) config (fits_in config) 64 (starting_board config (0 ∷ [])) calls

-- "19, is the write's length at most V, placed after 6", and so before 7 to 11: a write of length 2 by client 1, and by client 9; no other
-- event is asked it: one of an unknown code, a read, and, once client 1 asks, a crash; then a write of length 2 by client 1, which is not
-- idle, and one of length 1.
pub nineteen : answers (call 1 1 2 ∷ call 1 9 2 ∷ call 255 1 2 ∷ call 2 1 65535 ∷ call 6 3 2 ∷ call 1 1 2 ∷ call 1 1 1 ∷ [])
    ≡ refused 19 ∷ refused 19 ∷ refused 7 ∷ nothing_ended ∷ nothing_ended ∷ refused 19 ∷ refused 10 ∷ []
unfolding answers_to
nineteen = refl

abbrev tag : Tag
tag = record { number = 1; client = 1 }

-- client 1 writes with this length, and what is first in flight is handed over 18 times; then client 2 reads, and it is handed over 12 times
abbrev write_then_read : ℕ → List BoardCall
write_then_read length = call 1 1 length ∷ replicate 18 (call 3 0 0) ++ call 2 2 0 ∷ replicate 12 (call 3 0 0)

-- the write ends, and the read, which shows this board
abbrev shows : Board → List BoardAnswer
shows board = replicate 17 nothing_ended ++ written_by 1 tag ∷ replicate 12 nothing_ended ++ read_by 2 tag board ∷ nothing_ended ∷ []

-- "A read returns the length sent with its lowest server's element and that many bytes, zeros after."
pub empty : answers (write_then_read 0) ≡ shows (record { length = 0; bytes = 0 ∷ [] })
unfolding answers_to cut decoded_pairs decoded tabulate
empty = refl

-- of length 1, whose one element is that of server 1
abbrev seven : Board
seven = board_of 1 (7 ∷ [])

is-board : IsBoard config seven
is-board = record { whole = length_cut 1 (7 ∷ []); fits = omega arith; filled = filled 1 (7 ∷ []) byte }
  where
    byte : Bytes (7 ∷ [])
    byte zero = omega arith
    byte (suc i) = omega arith

back : decode config ((1, encode config seven 1) ∷ []) ≡ seven
unfolding ElementsOf Rising questions first_no ranks_within rank all_below
back = (coding config (valid config refl)).back seven is-board ((1, encode config seven 1) ∷ []) refl (omega arith, omega arith, tt) (refl, tt)

pub full : answers (write_then_read 1) ≡ shows (record { length = 1; bytes = 7 ∷ [] })
unfolding answers_to cut
full = ap shows back

-- N 3, k 2, E 1, and so q 3 and V 2. Client 1 reads: server 3 answers with length 2, then server 2 with length 1, and server 1 with length
-- 0. Servers 1 and 2 are decoded from, and the length is that of server 1.
abbrev pair : Config
pair = record { n = 3; k = 2; d = 0; e = 1; c = 2; ranks = no_ranks }

abbrev sent : ℕ → Message Element
sent s =
    record {
      kind = ReadFinaliseAnswer;
      client = 1;
      server = s;
      operation = 1;
      tag = start;
      element = some (element_with (s - 1) (7 ∷ []));
    }

abbrev step : BoardClient → ℕ → BoardMoved
step x s = client_step pair 1 x (sent s)

abbrev reading : BoardClient
reading = record { operation = 1; phase = finalising_read start nobody nothing_yet }

pub lowest : (step (step (step reading 3).client 2).client 1).ended ≡ Ended.read start (record { length = 0; bytes = 0 ∷ 0 ∷ [] })
unfolding answers_to cut decoded_pairs decoded tabulate
lowest = refl
