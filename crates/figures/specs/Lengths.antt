-- Document 02, L1: figures of boards shorter than the block. `proofs/Lengths.antt` proves them.
use Rattle.std.specs.Prelude.{ℕ, ◌≡◌, true, false, List, [], ◌∷◌, replicate}
use Rattle.std.proofs.Math.Option.{some}
use Rattle.config.specs.declared.Config.{Config}
use Rattle.record.specs.declared.Kind.TheVariants.{PreWrite}
use Rattle.record.specs.Element.{Element, element_with}
use Rattle.record.specs.Message.{Message}
use Rattle.record.specs.Record.{record_of, two_bytes, well_formed}
use Rattle.protocol.specs.Boards.{Board, board_of, decode, encode}
use Rattle.figures.specs.Figures.{config, tag}

-- N 5, k 3, E 1, and two clients: V is 3
abbrev pub shared : Config
shared = config 5 3 0 1 2

-- board 10 20 30 with length 2
abbrev pub short : Board
short = board_of 2 (10 ∷ 20 ∷ 30 ∷ [])

-- a length and bytes, as they are
abbrev pub board : ℕ → List ℕ → Board
board length bytes = record { length = length; bytes = bytes }

-- an element of one byte, with length 2
abbrev pub two : ℕ → Element
two b = element_with 2 (b ∷ [])

-- its pre-write to server 4 by client 2, with tag (1, 2), in operation 1
abbrev pub pre_write : Message Element
pre_write =
    record { kind = PreWrite; client = 2; server = 4; operation = 1; tag = tag 1 2; element = some (encode shared short 4) }

-- a record of client 2 and server 4, with tag (1, 2), in operation 1: its kind, offset 3, offsets 13 to 15, and the element's byte
abbrev pub bytes : ℕ → ℕ → ℕ → ℕ → ℕ → ℕ → List ℕ
bytes kind present a b c element =
    kind ∷ 2 ∷ 4 ∷ present ∷ 1 ∷ 0 ∷ 0 ∷ 0 ∷ 1 ∷ 0 ∷ 0 ∷ 0 ∷ 2 ∷ a ∷ b ∷ c ∷ element ∷ replicate 63 0

pub record Lengths : Type 0 where
  -- "the code sees zeros after that many of its V bytes": the elements, each with the length beside it
  pub zeros : short ≡ board 2 (10 ∷ 20 ∷ 0 ∷ [])
  pub element_1 : encode shared short 1 ≡ two 30
  pub element_2 : encode shared short 2 ≡ two 34
  pub element_3 : encode shared short 3 ≡ two 54
  pub element_4 : encode shared short 4 ≡ two 90
  pub element_5 : encode shared short 5 ≡ two 78
  -- "that many bytes, zeros after": servers 2, 4, 5 give it back
  pub decoded_2_4_5 : decode shared ((2, two 34) ∷ (4, two 90) ∷ (5, two 78) ∷ []) ≡ board 2 (10 ∷ 20 ∷ 0 ∷ [])
  -- "A read returns the length sent with its lowest server's element"
  pub lowest : decode shared ((2, element_with 1 (34 ∷ [])) ∷ (4, two 90) ∷ (5, two 78) ∷ []) ≡ board 1 (10 ∷ 0 ∷ 0 ∷ [])
  -- "Message offsets 13 and 14 hold the length in kind 3, and in kind 8 with an element"
  pub pre-write : record_of shared pre_write ≡ bytes 3 1 2 0 0 90
  pub formed_3 : well_formed shared (bytes 3 1 2 0 0 90) ≡ true
  pub formed_8 : well_formed shared (bytes 8 1 2 0 0 90) ≡ true
  pub thousand : two_bytes 1000 ≡ 232 ∷ 3 ∷ []
  -- they "are zero elsewhere": an acknowledgement, and a kind 8 without an element
  pub formed_4 : well_formed shared (bytes 4 0 0 0 0 0) ≡ true
  pub length_of_4 : well_formed shared (bytes 4 0 2 0 0 0) ≡ false
  pub absent_8 : well_formed shared (bytes 8 0 0 0 0 0) ≡ true
  pub length_of_absent_8 : well_formed shared (bytes 8 0 2 0 0 0) ≡ false
  -- "Such a length above V makes a record ill formed": length V, and V + 1
  pub length_v : well_formed shared (bytes 3 1 3 0 0 90) ≡ true
  pub above_v : well_formed shared (bytes 3 1 4 0 0 90) ≡ false
  -- length 2 at offsets 14 and 15, and a byte at offset 15
  pub offset_14 : well_formed shared (bytes 3 1 0 2 0 90) ≡ false
  pub offset_15 : well_formed shared (bytes 3 1 2 0 1 90) ≡ false
