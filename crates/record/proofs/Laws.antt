-- The record's theorems: what is written reads back as the same message; a record is well formed exactly if it is what writing some
-- message of the configuration gives; it is zero past E, and where no element is present. Assumes nothing.
use mathlib.Core.Path.{◌≡◌, refl, sym, ◌∙◌, ap, ap₂, subst}
use mathlib.Core.Bool.{Bool, true, false, cond}
use mathlib.Core.List.{List, [], ◌∷◌, ◌++◌}
use mathlib.Core.Logic.{◌↔◌}
use mathlib.Core.Option.{Option, none, some}
use Prim.Native.Nat.{ℕ, zero, suc, ◌+◌, ◌-◌, ◌*◌, ◌/◌, ◌%◌, ◌≤◌, ◌<◌}
use native.Mathlib.Nat.{div-add-mod', div-div-eq-div-mul, mod-eq_of_lt}
use native.Mathlib.Omega.{arith}
use borrow.Author.Tests.{eq-eqb, eqb-true, le-leb, leb-true}
use lib.Arith.{digits_div, digits_mod}
use lib.Dec.{eqb, leb}
use lib.ListN.{length, get_or, take, drop, replicate, length-append, length-drop, length-replicate, take-append-drop}
use lib.Seq.{drop-cons, drop-drop, get_or-drop, take_at, drop_at}
use Rattle.config.specs.declared.Config.{Config}
use Rattle.config.specs.Config.{Valid, board_length}
use Rattle.config.proofs.Sizes.{board_small}
use Rattle.config.proofs.Questions.{within_high}
use Rattle.laws.specs.Bytes.{Bytes}
use Rattle.laws.proofs.Bools.{and_left, and_right}
use Rattle.record.specs.declared.Kind.{Kind}
use Rattle.record.specs.declared.Kind.TheVariants.{Query, QueryAnswer, PreWrite, PreWriteAnswer, WriteFinalise, WriteFinaliseAnswer, ReadFinalise, ReadFinaliseAnswer, Cleared}
use Rattle.record.specs.Element.{Element, element_with}
use Rattle.record.specs.Message.{Message}
use Rattle.record.specs.Record.{all, all_zero, clauses, client_at, element_in, element_bytes, element_end, four_bytes, header_bytes, highest_number, is_kind, is_present, kind_at, kind_number, kind_of, length_at, length_fits, length_of, little_endian, little_two, message_clauses, message_of, number_at, of_config, operation_at, present_at, record_of, server_at, sized, tag_at, two_bytes, well_formed}
use Rattle.record.proofs.Clauses.{all_at, clause, its_fit, its_length, kind-number}
use Rattle.record.proofs.Written.{its_length_is, present_is, sized_is}

-- the number of a kind names it, and is 1 to 9
kind_is : (k : Kind) → (kind_of (kind_number k) ≡ k) × (is_kind (kind_number k) ≡ true)
unfolding kind_of
kind_is Query = (refl, refl)
kind_is QueryAnswer = (refl, refl)
kind_is PreWrite = (refl, refl)
kind_is PreWriteAnswer = (refl, refl)
kind_is WriteFinalise = (refl, refl)
kind_is WriteFinaliseAnswer = (refl, refl)
kind_is ReadFinalise = (refl, refl)
kind_is ReadFinaliseAnswer = (refl, refl)
kind_is Cleared = (refl, refl)

-- a number's four bytes give it back, and four bytes are those of their number
joined : (n p q r a b c d : ℕ) → p * 256 + a ≡ n → q * 256 + b ≡ p → r * 256 + c ≡ q → d ≡ r → little_endian a b c d ≡ n
joined n p q r a b c d e f g h = omega arith

low_digit : (q r x : ℕ) → r < 256 → x ≡ q * 256 + r → (x % 256 ≡ r) × (x / 256 ≡ q)
low_digit q r x h e = (ap (λ (y : ℕ). y % 256) e ∙ digits_mod q h, ap (λ (y : ℕ). y / 256) e ∙ digits_div q h)

pub four_number : (n : ℕ) → n ≤ highest_number → little_endian (n % 256) (n / 256 % 256) (n / 65536 % 256) (n / 16777216 % 256) ≡ n
four_number n h =
    let p = n / 256 in
    let q = n / 65536 in
    let r = n / 16777216 in
    let eq : p / 256 ≡ q = div-div-eq-div-mul n 256 256 in
    let er : q / 256 ≡ r = div-div-eq-div-mul n 65536 256 in
    let high : r < 256 = omega arith in
    joined n p q r (n % 256) (p % 256) (q % 256) (r % 256) (div-add-mod' n 256)
    (ap (λ (x : ℕ). x * 256 + p % 256) (sym eq) ∙ div-add-mod' p 256)
    (ap (λ (x : ℕ). x * 256 + q % 256) (sym er) ∙ div-add-mod' q 256)
    (mod-eq_of_lt high)

number_four : (a b c d : ℕ) → a < 256 → b < 256 → c < 256 → d < 256 → four_bytes (little_endian a b c d) ≡ a ∷ b ∷ c ∷ d ∷ []
unfolding four_bytes
number_four a b c d ha hb hc hd =
    let n = little_endian a b c d in
    let p = low_digit (b + 256 * c + 65536 * d) a n ha (omega arith) in
    let q = low_digit (c + 256 * d) b (n / 256) hb (p.1 ∙ omega arith) in
    let eq : n / 65536 ≡ c + 256 * d = sym (div-div-eq-div-mul n 256 256) ∙ q.1 in
    let r = low_digit d c (n / 65536) hc (eq ∙ omega arith) in
    let er : n / 16777216 ≡ d = sym (div-div-eq-div-mul n 65536 256) ∙ r.1 in
    let e3 : n / 16777216 % 256 ≡ d = ap (λ (x : ℕ). x % 256) er ∙ mod-eq_of_lt hd in
    λ i. p.0 i ∷ q.0 i ∷ r.0 i ∷ e3 i ∷ []

number_high : (a b c d : ℕ) → a < 256 → b < 256 → c < 256 → d < 256 → little_endian a b c d ≤ highest_number
number_high a b c d ha hb hc hd = omega arith

-- the same of two
pub two_number : (n : ℕ) → n < 65536 → little_two (n % 256) (n / 256 % 256) ≡ n
two_number n h =
    let high : n / 256 < 256 = omega arith in
    rw (mod-eq_of_lt high) (omega (arith, div-add-mod' n 256))

number_two : (a b : ℕ) → a < 256 → b < 256 → two_bytes (little_two a b) ≡ a ∷ b ∷ []
unfolding two_bytes
number_two a b ha hb =
    let p = low_digit b a (little_two a b) ha (omega arith) in
    let q : little_two a b / 256 % 256 ≡ b = ap (λ (x : ℕ). x % 256) p.1 ∙ mod-eq_of_lt hb in
    λ i. p.0 i ∷ q i ∷ []

-- zeros
all_zeros : (n : ℕ) → all_zero (replicate n 0) ≡ true
unfolding all_zero
all_zeros zero = refl
all_zeros (suc n) = all_zeros n

zero_at : (bs : List ℕ) → all_zero bs ≡ true → (i : ℕ) → get_or bs i 0 ≡ 0
unfolding all_zero
zero_at [] h i = refl
zero_at (b ∷ bs) h zero = eqb-true b 0 (and_left (eqb b 0) (all_zero bs) h)
zero_at (b ∷ bs) h (suc i) = zero_at bs (and_right (eqb b 0) (all_zero bs) h) i

zero_list : (bs : List ℕ) → all_zero bs ≡ true → bs ≡ replicate (length bs) 0
unfolding all_zero
zero_list [] h = refl
zero_list (b ∷ bs) h =
    ap₂ {A = ℕ} (λ (x : ℕ) (l : List ℕ). x ∷ l) (eqb-true b 0 (and_left (eqb b 0) (all_zero bs) h)) (zero_list bs (and_right (eqb b 0) (all_zero bs) h))

-- whether an element is present, as offset 3 has it
pub flag_back : (b : Bool) → eqb (cond b 1 0) 1 ≡ b
flag_back true = refl
flag_back false = refl

flag_low : (b : Bool) → leb (cond b 1 0) 1 ≡ true
flag_low true = refl
flag_low false = refl

flag_at : (n : ℕ) → n ≤ 1 → cond (eqb n 1) 1 0 ≡ n
flag_at zero h = refl
flag_at (suc zero) h = refl
flag_at (suc (suc n)) h = absurd (omega arith)

-- the element's 64 bytes
module _ (cfg : Config) (high : cfg.e ≤ 64) where
  element_wide : (e : Element) → sized cfg (some e) ≡ true → length e.bytes ≡ cfg.e
  element_wide e h = eqb-true (length e.bytes) cfg.e (and_left (eqb (length e.bytes) cfg.e) (leb e.length (board_length cfg)) h)

  element_long : (o : Option Element) → sized cfg o ≡ true → length (element_bytes cfg o) ≡ 64
  unfolding element_bytes
  element_long none h = refl
  element_long (some e) h =
      length-append e.bytes (replicate (64 - cfg.e) 0) ∙ omega (arith, length-replicate {A = ℕ} (64 - cfg.e) 0, element_wide e h)

  element_back : (o : Option Element) → sized cfg o ≡ true → cond (is_present o) (some (element_with (length_of o) (take cfg.e (element_bytes cfg o)))) none ≡ o
  unfolding element_bytes
  element_back none h = refl
  element_back (some e) h =
      ap {B = Option Element} (λ (bs : List ℕ). some (element_with e.length bs)) (take_at e.bytes (replicate (64 - cfg.e) 0) cfg.e (element_wide e h))

  element_zero : (o : Option Element) → sized cfg o ≡ true → all_zero (drop (cond (is_present o) cfg.e 0) (element_bytes cfg o)) ≡ true
  unfolding element_bytes
  element_zero none h = all_zeros 64
  element_zero (some e) h =
      ap all_zero (drop_at e.bytes (replicate (64 - cfg.e) 0) cfg.e (element_wide e h)) ∙ all_zeros (64 - cfg.e)

-- the length of a message's element fits, and has two bytes
length-fits : (cfg : Config) (o : Option Element) → sized cfg o ≡ true → length_fits cfg (is_present o) (length_of o) ≡ true
length-fits cfg none h = refl
length-fits cfg (some e) h = and_right (eqb (length e.bytes) cfg.e) (leb e.length (board_length cfg)) h

length_small : (cfg : Config) → Valid cfg → (b : Bool) (n : ℕ) → length_fits cfg b n ≡ true → n < 65536
length_small cfg v true n h = omega (arith, board_small cfg v, leb-true n (board_length cfg) h)
length_small cfg v false n h = omega (arith, eqb-true n 0 h)

-- what is written: it has 80 bytes, reads back as the message, and is well formed
module _ (cfg : Config) (high : cfg.e ≤ 64) (m : Message Element) (h : of_config cfg m ≡ true) where
  -- a clause of the message
  rule : (i : ℕ) → get_or (message_clauses cfg m) i true ≡ true
  unfolding of_config
  rule i = all_at (message_clauses cfg m) h i

  element_sized : sized cfg m.element ≡ true
  unfolding message_clauses
  element_sized = rule 2

  pub record_long : length (record_of cfg m) ≡ 80
  unfolding record_of header_bytes four_bytes two_bytes
  record_long = ap (λ (n : ℕ). suc (suc (suc (suc (suc (suc (suc (suc (suc (suc (suc (suc (suc (suc (suc (suc n)))))))))))))))) (element_long cfg high m.element element_sized)

  kind_back : kind_at (record_of cfg m) ≡ kind_number m.kind
  unfolding record_of header_bytes four_bytes two_bytes
  kind_back = refl

  client_back : client_at (record_of cfg m) ≡ m.client
  unfolding record_of header_bytes four_bytes two_bytes
  client_back = refl

  server_back : server_at (record_of cfg m) ≡ m.server
  unfolding record_of header_bytes four_bytes two_bytes
  server_back = refl

  three_back : get_or (record_of cfg m) 3 0 ≡ cond (is_present m.element) 1 0
  unfolding record_of header_bytes four_bytes two_bytes
  three_back = refl

  present_back : present_at (record_of cfg m) ≡ is_present m.element
  present_back = rw three_back (flag_back (is_present m.element))

  operation_back : operation_at (record_of cfg m) ≡ m.operation
  unfolding record_of header_bytes four_bytes two_bytes message_clauses
  operation_back = four_number m.operation (within_high 1 highest_number m.operation (rule 0))

  number_back : number_at 8 (record_of cfg m) ≡ m.tag.number
  unfolding record_of header_bytes four_bytes two_bytes message_clauses
  number_back = four_number m.tag.number (leb-true m.tag.number highest_number (rule 1))

  tag_client_back : get_or (record_of cfg m) 12 0 ≡ m.tag.client
  unfolding record_of header_bytes four_bytes two_bytes
  tag_client_back = refl

  tag_back : tag_at (record_of cfg m) ≡ m.tag
  tag_back = λ i. record { number = number_back i; client = tag_client_back i }

  zero_back : get_or (record_of cfg m) 15 0 ≡ 0
  unfolding record_of header_bytes four_bytes two_bytes
  zero_back = refl

  body_back : drop 16 (record_of cfg m) ≡ element_bytes cfg m.element
  unfolding record_of header_bytes four_bytes two_bytes
  body_back = refl

  past_zero : all_zero (drop (16 + cond (is_present m.element) cfg.e 0) (record_of cfg m)) ≡ true
  past_zero =
      ap all_zero (sym (drop-drop (cond (is_present m.element) cfg.e 0) 16 (record_of cfg m)) ∙ ap (λ (l : List ℕ). drop (cond (is_present m.element) cfg.e 0) l) body_back)
      ∙ element_zero cfg high m.element element_sized

module _ (cfg : Config) (v : Valid cfg) (m : Message Element) (h : of_config cfg m ≡ true) where
  high : cfg.e ≤ 64
  high = v.e_high

  length_back : length_at (record_of cfg m) ≡ length_of m.element
  unfolding record_of header_bytes four_bytes two_bytes
  length_back =
      two_number (length_of m.element)
      (length_small cfg v (is_present m.element) (length_of m.element) (length-fits cfg m.element (element_sized cfg high m h)))

  pub reads_back : message_of cfg (record_of cfg m) ≡ m
  unfolding message_of
  reads_back =
      let e : cond (present_at (record_of cfg m)) (some (element_with (length_at (record_of cfg m)) (element_in cfg (record_of cfg m)))) none ≡ m.element =
      rw (present_back cfg high m h, length_back, body_back cfg high m h) (element_back cfg high m.element (element_sized cfg high m h)) in
      let k : kind_of (kind_at (record_of cfg m)) ≡ m.kind = rw (kind_back cfg high m h) (kind_is m.kind).0 in
      λ i.
      record {
        kind = k i;
        client = client_back cfg high m h i;
        server = server_back cfg high m h i;
        operation = operation_back cfg high m h i;
        tag = tag_back cfg high m h i;
        element = e i;
      }

  pub written_well_formed : well_formed cfg (record_of cfg m) ≡ true
  unfolding well_formed clauses all message_clauses
  written_well_formed =
      rw (
        eq-eqb (length (record_of cfg m)) 80 (record_long cfg high m h),
        kind_back cfg high m h,
        (kind_is m.kind).1,
        present_back cfg high m h,
        three_back cfg high m h,
        flag_low (is_present m.element),
        operation_back cfg high m h,
        length_back,
        length-fits cfg m.element (element_sized cfg high m h),
        zero_back cfg high m h,
        past_zero cfg high m h,
        client_back cfg high m h,
        server_back cfg high m h,
        number_back cfg high m h,
        tag_client_back cfg high m h,
        and_left (leb 1 m.operation) (leb m.operation highest_number) (rule cfg high m h 0),
        rule cfg high m h 3,
        rule cfg high m h 4,
        rule cfg high m h 5,
        rule cfg high m h 6,
        rule cfg high m h 7,
        rule cfg high m h 8,
      )

-- the bytes from j on, n of them
unfoldable from : ℕ → ℕ → List ℕ → List ℕ
from zero j bs = []
from (suc n) j bs = get_or bs j 0 ∷ from n (suc j) bs

from_split : (n j : ℕ) (bs : List ℕ) → n + j ≤ length bs → drop j bs ≡ from n j bs ++ drop (n + j) bs
unfolding from
from_split zero j bs h = let e : j ≡ 0 + j = omega arith in ap (λ (i : ℕ). drop i bs) e
from_split (suc n) j bs h =
    let e : n + suc j ≡ suc n + j = omega arith in
    drop-cons bs j 0 (omega arith)
    ∙ ap {B = List ℕ} (λ l. get_or bs j 0 ∷ l) (from_split n (suc j) bs (omega arith) ∙ ap (λ (i : ℕ). from n (suc j) bs ++ drop i bs) e)

-- a well-formed record is what its message writes, and its message is one of the configuration
module _ (cfg : Config) (high : cfg.e ≤ 64) (bs : List ℕ) (bytes : Bytes bs) (w : well_formed cfg bs ≡ true) where
  long : length bs ≡ 80
  long = its_length cfg bs w

  kind_again : kind_number (kind_of (kind_at bs)) ≡ kind_at bs
  unfolding clauses
  kind_again = kind-number (kind_at bs) (clause cfg bs 1 w)

  flag_again : cond (present_at bs) 1 0 ≡ get_or bs 3 0
  unfolding clauses
  flag_again = flag_at (get_or bs 3 0) (leb-true (get_or bs 3 0) 1 (clause cfg bs 2 w))

  four_again : (i : ℕ) → four_bytes (number_at i bs) ≡ get_or bs i 0 ∷ get_or bs (i + 1) 0 ∷ get_or bs (i + 2) 0 ∷ get_or bs (i + 3) 0 ∷ []
  four_again i = number_four (get_or bs i 0) (get_or bs (i + 1) 0) (get_or bs (i + 2) 0) (get_or bs (i + 3) 0) (bytes i) (bytes (i + 1)) (bytes (i + 2)) (bytes (i + 3))

  two_again : two_bytes (length_at bs) ≡ get_or bs 13 0 ∷ get_or bs 14 0 ∷ []
  two_again = number_two (get_or bs 13 0) (get_or bs 14 0) (bytes 13) (bytes 14)

  zero_again : get_or bs 15 0 ≡ 0
  unfolding clauses
  zero_again = eqb-true (get_or bs 15 0) 0 (clause cfg bs 5 w)

  head_again : header_bytes (kind_of (kind_at bs)) (client_at bs) (server_at bs) (present_at bs) (operation_at bs) (tag_at bs) (length_at bs) ≡ from 16 0 bs
  unfolding header_bytes from
  head_again =
      rw (kind_again, flag_again, four_again 4, four_again 8, two_again)
      (λ i. get_or bs 0 0 ∷ get_or bs 1 0 ∷ get_or bs 2 0 ∷ get_or bs 3 0 ∷ get_or bs 4 0 ∷ get_or bs 5 0 ∷ get_or bs 6 0 ∷ get_or bs 7 0 ∷ get_or bs 8 0 ∷ get_or bs 9 0 ∷ get_or bs 10 0
      ∷ get_or bs 11 0 ∷ get_or bs 12 0 ∷ get_or bs 13 0 ∷ get_or bs 14 0 ∷ sym zero_again i ∷ [])

  body_long : length (drop 16 bs) ≡ 64
  body_long = length-drop 16 bs ∙ omega (arith, long)

  body_by : (b : Bool) → all_zero (drop (element_end cfg b) bs) ≡ true → element_bytes cfg (cond b (some (element_with (length_at bs) (element_in cfg bs))) none) ≡ drop 16 bs
  unfolding element_bytes
  body_by true z =
      let l : length (drop (16 + cfg.e) bs) ≡ 64 - cfg.e = omega (arith, long, length-drop (16 + cfg.e) bs) in
      let d : drop cfg.e (drop 16 bs) ≡ replicate (64 - cfg.e) 0 =
      drop-drop cfg.e 16 bs ∙ zero_list (drop (16 + cfg.e) bs) z ∙ ap (λ (n : ℕ). replicate n 0) l in
      rw (← d) (take-append-drop cfg.e (drop 16 bs))
  body_by false z = sym (zero_list (drop 16 bs) z ∙ ap (λ (n : ℕ). replicate n 0) body_long)

  body_again : element_bytes cfg (cond (present_at bs) (some (element_with (length_at bs) (element_in cfg bs))) none) ≡ drop 16 bs
  unfolding clauses
  body_again = body_by (present_at bs) (clause cfg bs 6 w)

  pub writes_again : record_of cfg (message_of cfg bs) ≡ bs
  unfolding record_of message_of
  writes_again =
      rw (
        present_is (present_at bs) (element_with (length_at bs) (element_in cfg bs)),
        its_length_is (present_at bs) (length_at bs) cfg (element_in cfg bs) (its_fit cfg bs w),
        head_again,
        body_again,
      )
      (sym (from_split 16 0 bs (omega (arith, long))))

  number_fits : (i : ℕ) → number_at i bs ≤ highest_number
  number_fits i = number_high (get_or bs i 0) (get_or bs (i + 1) 0) (get_or bs (i + 2) 0) (get_or bs (i + 3) 0) (bytes i) (bytes (i + 1)) (bytes (i + 2)) (bytes (i + 3))

  pub message_of_config : of_config cfg (message_of cfg bs) ≡ true
  unfolding of_config message_clauses message_of clauses all
  message_of_config =
      rw (
        clause cfg bs 3 w,
        le-leb (operation_at bs) highest_number (number_fits 4),
        le-leb (number_at 8 bs) highest_number (number_fits 8),
        sized_is cfg (present_at bs) (length_at bs) bs long high (its_fit cfg bs w),
        present_is (present_at bs) (element_with (length_at bs) (element_in cfg bs)),
        kind_again,
        clause cfg bs 7 w,
        clause cfg bs 8 w,
        clause cfg bs 9 w,
        clause cfg bs 10 w,
        clause cfg bs 11 w,
        clause cfg bs 12 w,
      )

-- a record is well formed exactly if it is what writing some message of the configuration gives
abbrev pub Writes : Config → List ℕ → Type 0
Writes cfg bs = (m : Message Element) × (of_config cfg m ≡ true) × (record_of cfg m ≡ bs)

pub exactly : (cfg : Config) → Valid cfg → (bs : List ℕ) → Bytes bs → well_formed cfg bs ≡ true ↔ Writes cfg bs
exactly cfg v bs bytes = (
  λ w. (message_of cfg bs, message_of_config cfg v.e_high bs bytes w, writes_again cfg v.e_high bs bytes w),
  λ m. subst (λ (l : List ℕ). well_formed cfg l ≡ true) m.2 (written_well_formed cfg v m.0 m.1),
)

-- a well-formed record is zero past E, and past 16 where no element is present
pub zero_past : (cfg : Config) (bs : List ℕ) → well_formed cfg bs ≡ true → (i : ℕ) → element_end cfg (present_at bs) ≤ i → get_or bs i 0 ≡ 0
unfolding clauses
zero_past cfg bs w i h =
    let end = element_end cfg (present_at bs) in
    let e : end + (i - end) ≡ i = omega arith in
    ap (λ (j : ℕ). get_or bs j 0) (sym e) ∙ sym (get_or-drop end bs (i - end) 0) ∙ zero_at (drop end bs) (clause cfg bs 6 w) (i - end)
