-- Document 01, "Message record, 80 bytes": the bytes of a message, with the length that document 02 puts there. Assumes nothing.
use Rattle.std.specs.Prelude.{ℕ, ◌+◌, ◌-◌, ◌*◌, ◌/◌, ◌%◌, Bool, true, cond, not, ◌&&◌, List, [], ◌∷◌, ◌++◌, eqb, leb, length, get_or, take, drop, replicate}
use Rattle.std.proofs.Math.Option.{Option, none, some}
use Rattle.config.specs.declared.Config.{Config}
use Rattle.config.specs.Config.{board_length, most_width, record_length}
use Rattle.config.specs.Questions.{within}
use Rattle.tag.specs.declared.Tag.{Tag}
use Rattle.tag.specs.Tag.{allowed, same, start}
use Rattle.record.specs.declared.Kind.{Kind}
use Rattle.record.specs.declared.Kind.TheVariants.{Query, QueryAnswer, PreWrite, PreWriteAnswer, WriteFinalise, WriteFinaliseAnswer, ReadFinalise, ReadFinaliseAnswer, Cleared}
use Rattle.record.specs.Element.{Element, element_with}
use Rattle.record.specs.Message.{Message}

-- every one of them holds
unfoldable pub all : List Bool → Bool
all [] = true
all (b ∷ bs) = b && all bs

-- each byte is 0
unfoldable pub all_zero : List ℕ → Bool
all_zero [] = true
all_zero (b ∷ bs) = eqb b 0 && all_zero bs

-- a number of four bytes, "records are little-endian"
abbrev pub little_endian : ℕ → ℕ → ℕ → ℕ → ℕ
little_endian a b c d = a + 256 * b + 65536 * c + 16777216 * d

abbrev pub number_at : ℕ → List ℕ → ℕ
number_at i bs = little_endian (get_or bs i 0) (get_or bs (i + 1) 0) (get_or bs (i + 2) 0) (get_or bs (i + 3) 0)

unfoldable pub four_bytes : ℕ → List ℕ
four_bytes n = n % 256 ∷ n / 256 % 256 ∷ n / 65536 % 256 ∷ n / 16777216 % 256 ∷ []

-- a number of two bytes
abbrev pub little_two : ℕ → ℕ → ℕ
little_two a b = a + 256 * b

unfoldable pub two_bytes : ℕ → List ℕ
two_bytes n = n % 256 ∷ n / 256 % 256 ∷ []

-- the highest number of four bytes
abbrev pub highest_number : ℕ
highest_number = 4294967295

-- "Kinds: 1 query, 2 its answer, 3 pre-write, 4 its answer, 5 write finalise, 6 its answer, 7 read finalise, 8 its answer." And "a record of kind 9,
-- which repeats client, operation number and tag and has no element", where the element was cleared.
abbrev pub kind_number : Kind → ℕ
kind_number Query = 1
kind_number QueryAnswer = 2
kind_number PreWrite = 3
kind_number PreWriteAnswer = 4
kind_number WriteFinalise = 5
kind_number WriteFinaliseAnswer = 6
kind_number ReadFinalise = 7
kind_number ReadFinaliseAnswer = 8
kind_number Cleared = 9

-- a number is a kind's
abbrev pub is_kind : ℕ → Bool
is_kind n = within 1 9 n

-- the kind of a number, 1 to 9
unfoldable pub kind_of : ℕ → Kind
kind_of n =
    cond (eqb n 1) Query
    (cond (eqb n 2) QueryAnswer
    (cond (eqb n 3) PreWrite
    (cond (eqb n 4) PreWriteAnswer
    (cond (eqb n 5) WriteFinalise
    (cond (eqb n 6) WriteFinaliseAnswer
    (cond (eqb n 7) ReadFinalise
    (cond (eqb n 8) ReadFinaliseAnswer
    Cleared)))))))

-- "Offset 0 kind, 1 client, 2 server, 3 element present (0 or 1), 4 to 7 operation number (at least 1), 8 to 11 tag number, 12 tag's
-- client, 13 to 15 zero, 16 to 79 element, zero past E and zero when absent." Of these, "offsets 13 and 14 hold the length in kind 3, and in
-- kind 8 with an element, and are zero elsewhere".
abbrev pub kind_at : List ℕ → ℕ
kind_at bs = get_or bs 0 0

abbrev pub client_at : List ℕ → ℕ
client_at bs = get_or bs 1 0

abbrev pub server_at : List ℕ → ℕ
server_at bs = get_or bs 2 0

abbrev pub present_at : List ℕ → Bool
present_at bs = eqb (get_or bs 3 0) 1

abbrev pub operation_at : List ℕ → ℕ
operation_at bs = number_at 4 bs

abbrev pub tag_at : List ℕ → Tag
tag_at bs = record { number = number_at 8 bs; client = get_or bs 12 0 }

abbrev pub length_at : List ℕ → ℕ
length_at bs = little_two (get_or bs 13 0) (get_or bs 14 0)

-- the E bytes from 16
abbrev pub element_in : Config → List ℕ → List ℕ
element_in cfg bs = take cfg.e (drop 16 bs)

-- where the element ends, if one is present, and the zeros begin
abbrev pub element_end : Config → Bool → ℕ
element_end cfg present = 16 + cond present cfg.e 0

-- "Kind 1 has tag (0, 0)."
abbrev pub query_tag : ℕ → Tag → Bool
query_tag kind t = cond (eqb kind 1) (same t start) true

-- "Kinds 3 to 6 carry a tag of the record's own client."
abbrev pub own_tag : ℕ → ℕ → Tag → Bool
own_tag kind client t = cond (within 3 6 kind) (eqb t.client client) true

-- "Offset 3 is 1 for kind 3, either for 8, 0 otherwise."
abbrev pub presence : ℕ → Bool → Bool
presence kind present = cond (eqb kind 3) present (cond (eqb kind 8) true (not present))

-- With an element, a "length above V makes a record ill formed"; without one it is zero.
abbrev pub length_fits : Config → Bool → ℕ → Bool
length_fits cfg present length = cond present (leb length (board_length cfg)) (eqb length 0)

-- The section, clause by clause.
unfoldable pub clauses : Config → List ℕ → List Bool
clauses cfg bs =
    eqb (length bs) record_length
    ∷ is_kind (kind_at bs)
    ∷ leb (get_or bs 3 0) 1
    ∷ leb 1 (operation_at bs)
    ∷ length_fits cfg (present_at bs) (length_at bs)
    ∷ eqb (get_or bs 15 0) 0
    ∷ all_zero (drop (element_end cfg (present_at bs)) bs)
    ∷ query_tag (kind_at bs) (tag_at bs)
    ∷ own_tag (kind_at bs) (client_at bs) (tag_at bs)
    ∷ presence (kind_at bs) (present_at bs)
    -- "The client is 1 to C, the server 1 to N, a tag's client at most C, and the tag one that the section above allows."
    ∷ within 1 cfg.c (client_at bs)
    ∷ within 1 cfg.n (server_at bs)
    ∷ allowed cfg.c (tag_at bs)
    ∷ []

-- "A record that breaks any of this is ill formed."
unfoldable pub well_formed : Config → List ℕ → Bool
well_formed cfg bs = all (clauses cfg bs)

-- reading: the message of a record
unfoldable pub message_of : Config → List ℕ → Message Element
message_of cfg bs =
    record {
      kind = kind_of (kind_at bs);
      client = client_at bs;
      server = server_at bs;
      operation = operation_at bs;
      tag = tag_at bs;
      element = cond (present_at bs) (some (element_with (length_at bs) (element_in cfg bs))) none;
    }

-- whether an element is present
abbrev pub is_present : Option Element → Bool
is_present none = Bool.false
is_present (some e) = true

-- its length, zero when absent
abbrev pub length_of : Option Element → ℕ
length_of none = 0
length_of (some e) = e.length

-- an element has E bytes, and a length of at most V
abbrev pub sized : Config → Option Element → Bool
sized cfg none = true
sized cfg (some e) = eqb (length e.bytes) cfg.e && leb e.length (board_length cfg)

-- the 64 bytes from 16: "zero past E and zero when absent"
unfoldable pub element_bytes : Config → Option Element → List ℕ
element_bytes cfg none = replicate most_width 0
element_bytes cfg (some e) = e.bytes ++ replicate (most_width - cfg.e) 0

-- the first 16 bytes
unfoldable pub header_bytes : Kind → ℕ → ℕ → Bool → ℕ → Tag → ℕ → List ℕ
header_bytes kind client server present operation t length =
    kind_number kind
    ∷ client
    ∷ server
    ∷ cond present 1 0
    ∷ four_bytes operation ++ four_bytes t.number ++ t.client ∷ two_bytes length ++ 0 ∷ []

-- writing: the record of a message
unfoldable pub record_of : Config → Message Element → List ℕ
record_of cfg m =
    header_bytes m.kind m.client m.server (is_present m.element) m.operation m.tag (length_of m.element)
    ++ element_bytes cfg m.element

-- The messages of a configuration: the section's clauses on what a message says, whose numbers have four bytes and whose element E, with a
-- length of at most V.
unfoldable pub message_clauses : Config → Message Element → List Bool
message_clauses cfg m =
    within 1 highest_number m.operation
    ∷ leb m.tag.number highest_number
    ∷ sized cfg m.element
    ∷ query_tag (kind_number m.kind) m.tag
    ∷ own_tag (kind_number m.kind) m.client m.tag
    ∷ presence (kind_number m.kind) (is_present m.element)
    ∷ within 1 cfg.c m.client
    ∷ within 1 cfg.n m.server
    ∷ allowed cfg.c m.tag
    ∷ []

unfoldable pub of_config : Config → Message Element → Bool
of_config cfg m = all (message_clauses cfg m)
