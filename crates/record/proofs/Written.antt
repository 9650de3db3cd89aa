-- What writing leaves: the header, the element as it stood, zeros. Assumes nothing.
use mathlib.Core.Path.{◌≡◌, refl, sym, ◌∙◌, ap}
use mathlib.Core.Bool.{Bool, true, false, cond, ◌&&◌, and-true}
use mathlib.Core.List.{List, [], ◌∷◌, ◌++◌, append_assoc, append-nil}
use mathlib.Core.Option.{none, some}
use Prim.Native.Nat.{ℕ, ◌+◌, ◌-◌, ◌/◌, ◌%◌, ◌≤◌, ◌<◌}
use native.Mathlib.Nat.{mod-eq_of_lt}
use native.Mathlib.Omega.{arith}
use borrow.Author.Tests.{eq-eqb, eqb-true, le-leb}
use lib.Dec.{leb}
use lib.ListN.{length, get_or, take, drop, replicate, length-append, length-drop, length-take, drop_of_length-le}
use lib.Seq.{take-append-add}
use Rattle.config.specs.declared.Config.{Config}
use Rattle.config.specs.Questions.{within}
use Rattle.tag.specs.Tag.{allowed}
use Rattle.laws.proofs.Bools.{and_left, and_right}
use Rattle.config.specs.Number.{client_number, server_number}
use Rattle.record.specs.declared.Header.{Header}
use Rattle.record.specs.Element.{Element, element_with}
use Rattle.record.specs.Calls.{is_header, is_sound, limits, with_element}
use Rattle.record.specs.Record.{all, element_in, element_bytes, element_end, four_bytes, header_bytes, highest_number, is_present, kind_number, length_fits, length_of, message_clauses, of_config, presence, record_of, sized, two_bytes}
use Rattle.record.proofs.Clauses.{all_at}

-- what is cleared from a place on is zeros
zeros_over : (bs : List ℕ) (end : ℕ) → length bs ≡ 80 → end ≤ 80
    → replicate (length (take (length bs - end) (drop end bs))) 0 ++ drop (length bs - end) (drop end bs) ≡ replicate (80 - end) 0
zeros_over bs end long h =
    let t : length (take (length bs - end) (drop end bs)) ≡ 80 - end = length-take (length bs - end) (drop end bs) ∙ omega (arith, length-drop end bs) in
    ap (λ (n : ℕ). replicate n 0 ++ drop (length bs - end) (drop end bs)) t
    ∙ ap (λ (l : List ℕ). replicate (80 - end) 0 ++ l) (drop_of_length-le (drop end bs) {i = length bs - end} (omega (arith, length-drop end bs)))
    ∙ append-nil (replicate (80 - end) 0)

module _ (cfg : Config) (bs head : List ℕ) (sixteen : length head ≡ 16) (eighty : length bs ≡ 80) where
  -- the header over the first 16 bytes
  abbrev headed : List ℕ
  headed = head ++ drop 16 bs

  headed_long : length headed ≡ 80
  headed_long = length-append head (drop 16 bs) ∙ omega (arith, length-drop 16 bs)

  -- zeros from the element's end on
  zeros_from : (end : ℕ) → end ≤ 80 → replicate (length (take (length headed - end) (drop end headed))) 0 ++ drop (length headed - end) (drop end headed) ≡ replicate (80 - end) 0
  zeros_from end h = zeros_over headed end headed_long h

  taken : (n : ℕ) → take (16 + n) headed ≡ head ++ take n (drop 16 bs)
  taken n = ap (λ (m : ℕ). take (m + n) headed) (sym sixteen) ∙ take-append-add head (drop 16 bs) n

  pub record_bytes : (p : Bool) (n : ℕ) → cfg.e ≤ 64 → (end : ℕ) → end ≡ element_end cfg p
      → take end headed ++ (replicate (length (take (length headed - end) (drop end headed))) 0 ++ drop (length headed - end) (drop end headed))
      ≡ head ++ element_bytes cfg (cond p (some (element_with n (element_in cfg bs))) none)
  unfolding element_bytes
  record_bytes true n high end e =
      let rest : 80 - (16 + cfg.e) ≡ 64 - cfg.e = omega arith in
      rw (zeros_from end (omega arith), e, taken cfg.e, rest) (append_assoc head (element_in cfg bs) (replicate (64 - cfg.e) 0))
  record_bytes false n high end e =
      rw (zeros_from end (omega arith), e, taken 0) (append_assoc head [] (replicate 64 0))

  pub put_bytes : (p : Bool) (n : ℕ) → cfg.e ≤ 64 → (l z : List ℕ) (end : ℕ) → l ≡ headed → z ≡ replicate (length (take (length l - end) (drop end l))) 0
      → end ≡ element_end cfg p → take end l ++ (z ++ drop (length l - end) (drop end l)) ≡ head ++ element_bytes cfg (cond p (some (element_with n (element_in cfg bs))) none)
  put_bytes p n high l z end el ez ee = rw (ez, el) (record_bytes p n high end ee)

-- of a message made of a header: whether an element is present, and its length
pub present_is : (b : Bool) (e : Element) → is_present (cond b (some e) none) ≡ b
present_is true e = refl
present_is false e = refl

pub sized_is : (cfg : Config) (b : Bool) (n : ℕ) (bs : List ℕ) → length bs ≡ 80 → cfg.e ≤ 64 → length_fits cfg b n ≡ true
    → sized cfg (cond b (some (element_with n (element_in cfg bs))) none) ≡ true
sized_is cfg true n bs e high fits =
    rw (eq-eqb (length (element_in cfg bs)) cfg.e (length-take cfg.e (drop 16 bs) ∙ omega (arith, length-drop 16 bs))) fits
sized_is cfg false n bs e high fits = refl

pub its_length_is : (b : Bool) (n : ℕ) (cfg : Config) (e : List ℕ) → length_fits cfg b n ≡ true → length_of (cond b (some (element_with n e)) none) ≡ n
its_length_is true n cfg e fits = refl
its_length_is false n cfg e fits = sym (eqb-true n 0 fits)

-- the numbers of a message that breaks no rule are within their limits; where a header's are, the other rules decide
message_limits : (cfg : Config) (h : Header) (bs : List ℕ) → of_config cfg (with_element cfg h bs) ≡ true → limits cfg h ≡ true
unfolding of_config message_clauses with_element
message_limits cfg h bs m =
    let cs = message_clauses cfg (with_element cfg h bs) in
    rw (all_at cs m 6, all_at cs m 7, all_at cs m 8)

message_sound : (cfg : Config) (h : Header) (bs : List ℕ) → of_config cfg (with_element cfg h bs) ≡ true → is_sound h ≡ true
unfolding of_config message_clauses with_element is_sound all
message_sound cfg h bs m =
    let cs = message_clauses cfg (with_element cfg h bs) in
    let there = present_is h.present (element_with h.length (element_in cfg bs)) in
    let suits : presence (kind_number h.kind) h.present ≡ true =
    ap (λ (b : Bool). presence (kind_number h.kind) b) (sym there) ∙ all_at cs m 5 in
    rw (and_left (leb 1 h.operation) (leb h.operation highest_number) (all_at cs m 0), all_at cs m 3, all_at cs m 4, suits)

header_message : (cfg : Config) (h : Header) (bs : List ℕ) → length bs ≡ 80 → cfg.e ≤ 64 → limits cfg h ≡ true → h.operation ≤ highest_number
    → h.tag.number ≤ highest_number → length_fits cfg h.present h.length ≡ true → of_config cfg (with_element cfg h bs) ≡ is_sound h
unfolding of_config message_clauses with_element is_sound all
header_message cfg h bs e high l o n fits =
    let client = within 1 cfg.c (client_number h.client) in
    let server = within 1 cfg.n (server_number h.server) in
    let parties = and_left (client && server) (allowed cfg.c h.tag) l in
    rw (
      le-leb h.operation highest_number o,
      and-true (leb 1 h.operation),
      le-leb h.tag.number highest_number n,
      sized_is cfg h.present h.length bs e high fits,
      present_is h.present (element_with h.length (element_in cfg bs)),
      and_left client server parties,
      and_right client server parties,
      and_right (client && server) (allowed cfg.c h.tag) l,
    )

-- a header without fault keeps the rules on its numbers, and the other rules
module _ (cfg : Config) (h : Header) (bs : List ℕ) (m : is_header cfg h bs ≡ true) where
  pub of-config : of_config cfg (with_element cfg h bs) ≡ true
  unfolding is_header
  of-config = and_left (of_config cfg (with_element cfg h bs)) (length_fits cfg h.present h.length) m

  pub header_limits : limits cfg h ≡ true
  header_limits = message_limits cfg h bs of-config

  pub header_sound : is_sound h ≡ true
  header_sound = message_sound cfg h bs of-config

  pub header_fits : length_fits cfg h.present h.length ≡ true
  unfolding is_header
  header_fits = and_right (of_config cfg (with_element cfg h bs)) (length_fits cfg h.present h.length) m

-- and one that keeps them all has none
pub is-header : (cfg : Config) (h : Header) (bs : List ℕ) → length bs ≡ 80 → cfg.e ≤ 64 → h.operation ≤ highest_number → h.tag.number ≤ highest_number
    → limits cfg h ≡ true → is_sound h ≡ true → length_fits cfg h.present h.length ≡ true → is_header cfg h bs ≡ true
unfolding is_header
is-header cfg h bs e high o n l s f = rw (header_message cfg h bs e high l o n f, s, f)

-- the header's bytes, as they are put together
abbrev pub head_of : ℕ → ℕ → ℕ → ℕ → List ℕ → List ℕ → ℕ → ℕ → List ℕ
head_of k c s p o t tc n =
    k
    ∷ c
    ∷ s
    ∷ p
    ∷ get_or o 0 0
    ∷ get_or o 1 0
    ∷ get_or o 2 0
    ∷ get_or o 3 0
    ∷ get_or t 0 0
    ∷ get_or t 1 0
    ∷ get_or t 2 0
    ∷ get_or t 3 0
    ∷ tc
    ∷ n % 256
    ∷ n / 256
    ∷ 0
    ∷ []

module _ (cfg : Config) (h : Header) (bs : List ℕ) (k c s p : ℕ) (o t : List ℕ) where
  pub record Parts : Type 0 where
    pub kind : k ≡ kind_number h.kind
    pub client : c ≡ client_number h.client
    pub server : s ≡ server_number h.server
    pub present : p ≡ cond h.present 1 0
    pub operation : o ≡ four_bytes h.operation
    pub number : t ≡ four_bytes h.tag.number

  head_is : Parts → h.length < 65536 → head_of k c s p o t h.tag.client h.length
      ≡ header_bytes h.kind (client_number h.client) (server_number h.server) h.present h.operation h.tag h.length
  unfolding header_bytes four_bytes two_bytes
  head_is q small =
      let high : h.length / 256 < 256 = omega arith in
      rw (q.kind, q.client, q.server, q.present, q.operation, q.number, mod-eq_of_lt high)

  pub put_record : Parts → h.length < 65536 → length_fits cfg h.present h.length ≡ true → length bs ≡ 80 → cfg.e ≤ 64 → (l z : List ℕ) (end : ℕ)
      → l ≡ head_of k c s p o t h.tag.client h.length ++ drop 16 bs
      → z ≡ replicate (length (take (length l - end) (drop end l))) 0 → end ≡ element_end cfg h.present
      → take end l ++ (z ++ drop (length l - end) (drop end l)) ≡ record_of cfg (with_element cfg h bs)
  unfolding record_of with_element
  put_record q small fits eighty high l z end el ez ee =
      let e = element_with h.length (element_in cfg bs) in
      put_bytes cfg bs (head_of k c s p o t h.tag.client h.length) refl eighty h.present h.length high l z end el ez ee
      ∙ ap (λ (head : List ℕ). head ++ element_bytes cfg (cond h.present (some e) none)) (head_is q small)
      ∙ rw (present_is h.present e, its_length_is h.present h.length cfg (element_in cfg bs) fits)
