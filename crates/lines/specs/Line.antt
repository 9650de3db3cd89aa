-- The line of an event: "its count from 1, then `ok`, `written Z C`, `spent`, `read Z C` with the board in two lower-case hexadecimal
-- digits, or `no` with the number".
use Rattle.std.specs.Prelude.{ℕ, zero, suc, ◌/◌, ◌%◌, cond, List, [], ◌∷◌, ◌++◌, take, nat_lt}
use Rattle.tag.specs.declared.Tag.{Tag}
use Rattle.protocol.specs.Board.{refused, nothing_ended, written_by, spent_by, read_by}
use Rattle.protocol.specs.Boards.{Board, BoardAnswer}
use Rattle.io.specs.Digits.{hex_digit_ascii}

-- the decimal digits of a number that has at most so many
unfoldable pub decimal_within : ℕ → ℕ → List ℕ
decimal_within zero n = []
decimal_within (suc most) n = cond (nat_lt n 10) (hex_digit_ascii n ∷ []) (decimal_within most (n / 10) ++ (hex_digit_ascii (n % 10) ∷ []))

-- the decimal digits of a number of 64 bits
abbrev pub decimal_of : ℕ → List ℕ
decimal_of n = decimal_within 20 n

-- two lower-case hexadecimal digits for each byte
unfoldable pub hex_of : List ℕ → List ℕ
hex_of [] = []
hex_of (b ∷ bs) = hex_digit_ascii (b / 16) ∷ hex_digit_ascii (b % 16) ∷ hex_of bs

abbrev pub blank : List ℕ
blank = 32 ∷ []

abbrev pub newline : List ℕ
newline = 10 ∷ []

-- " Z C"
unfoldable pub tag_of : Tag → List ℕ
tag_of t = blank ++ decimal_of t.number ++ blank ++ decimal_of t.client

-- " written Z C"
unfoldable pub written_of : Tag → List ℕ
written_of t = (32 ∷ 119 ∷ 114 ∷ 105 ∷ 116 ∷ 116 ∷ 101 ∷ 110 ∷ []) ++ tag_of t ++ newline

-- a blank and bytes; "a read of length 0 prints only its tag"
unfoldable pub bytes_of : List ℕ → List ℕ
bytes_of [] = []
bytes_of (b ∷ bs) = blank ++ hex_of (b ∷ bs)

-- " read Z C" and the board, as many bytes as it is long
unfoldable pub shown_of : Tag → Board → List ℕ
shown_of t board = (32 ∷ 114 ∷ 101 ∷ 97 ∷ 100 ∷ []) ++ tag_of t ++ bytes_of (take board.length board.bytes) ++ newline

-- " no" and the number
unfoldable pub refused_of : ℕ → List ℕ
refused_of number = (32 ∷ 110 ∷ 111 ∷ 32 ∷ []) ++ decimal_of number ++ newline

-- what follows the count: "the client whose operation ended isn't printed"
unfoldable pub said_of : BoardAnswer → List ℕ
said_of nothing_ended = 32 ∷ 111 ∷ 107 ∷ 10 ∷ []
said_of (written_by c t) = written_of t
said_of (spent_by c) = 32 ∷ 115 ∷ 112 ∷ 101 ∷ 110 ∷ 116 ∷ 10 ∷ []
said_of (read_by c t board) = shown_of t board
said_of (refused number) = refused_of number

-- the line of an event, from its count and its answer as the history has it
unfoldable pub line_of : ℕ → BoardAnswer → List ℕ
line_of count answer = decimal_of count ++ said_of answer
