-- Gathering the elements of the k lowest servers: one server more, how many there are, and the board that they decode to. Assumes
-- nothing.
use mathlib.Core.Path.{◌≡◌, refl, sym, ap, ap₂, ◌∙◌, subst}
use mathlib.Core.Bool.{Bool, true, false, cond, ◌&&◌, and-false, and-true}
use mathlib.Core.Option.{Option, none, some, some-injective}
use mathlib.Core.List.{List, [], ◌∷◌, ◌++◌, map, append_assoc, append-nil, map-append, map-map}
use Prim.Native.Nat.{ℕ, zero, suc, ◌+◌, ◌-◌, ◌*◌, ◌≤◌, ◌<◌}
use native.Mathlib.Omega.{arith}
use borrow.Author.Tests.{eq-eqb, leb-true, ltb-true, ltb-false}
use lib.Dec.{leb, ltb}
use lib.ListN.{length, get_or, take, drop, set, length-append, length-map, length-take, get_or-append}
use lib.Seq.{take-append-le, take_all, take_at}
use Rattle.laws.specs.Parts.{over, part}
use Rattle.laws.proofs.Bools.{and_left, and_right}
use Rattle.laws.proofs.Parts.{part_length}
use Rattle.config.specs.declared.Config.{Config}
use Rattle.config.specs.Refusal.{Verdict}
use Rattle.config.specs.Questions.{first_no}
use Rattle.config.proofs.Valid.{valid_asked}
use Rattle.code.specs.Decode.{DecodePost, decode_questions}
use Rattle.code.specs.Decoded.{decoded, decoded_pairs, rising, rising_above}
use Rattle.laws.specs.Bytes.{joined}
use Rattle.code.proofs.Decodable.{accepted}
use Rattle.record.specs.Element.{Element}
use Rattle.protocol.specs.Boards.{bytes_sent, lowest_length}
use Rattle.protocol.specs.Laws.{ElementsOf}
use Rattle.protocol.specs.Number.{count, pair_of, present}
use Rattle.protocol.proofs.Boards.{rises}
use Rattle.protocol.proofs.Present.{elements_take, present_elements, present_rising, rising_take}
use Rattle.client.specs.Servers.{member, sent_by}
use Rattle.client.specs.State.{Slots, received, slot_at}
use Rattle.client.specs.inner.Gather.{GatherPost, PickPost, ShowPre, bytes_at, elements_of, lowest, numbers_of}
use Rattle.client.proofs.Fronts.{over_front, set_front}

-- ---- as many have something as the set has members

-- there is something
abbrev pub has : {A : Type 0} → Option A → Bool
has none = false
has (some a) = true

pub present_count : {A : Type 0} (f : ℕ → Option A) (g : ℕ → Bool) → ((s : ℕ) → has (f s) ≡ g s) → (n : ℕ) → length (present n f) ≡ count g n
unfolding present count pair_of
present_count f g h zero = refl
present_count {A} f g h (suc n) =
    length-append (present n f) (pair_of (suc n) (f (suc n))) ∙ ap₂ (λ (a b : ℕ). a + b) (present_count f g h n) (go (f (suc n)) (h (suc n)))
  where
    go : (o : Option A) → has o ≡ g (suc n) → length (pair_of (suc n) o) ≡ cond (g (suc n)) 1 0
    go none e = rw (sym e)
    go (some a) e = rw (sym e)

module _ {A : Type 0} (f : ℕ → A) (sent : ℕ) where
  -- a server in the set sent something
  pub sent_has : (s : ℕ) → has (sent_by f sent s) ≡ member sent s
  unfolding sent_by
  sent_has s = go (member sent s)
    where
      go : (b : Bool) → has (cond b (some (f s)) none) ≡ b
      go true = refl
      go false = refl

  pub length_present : (n : ℕ) → length (present n (sent_by f sent)) ≡ count (member sent) n
  length_present n = present_count (sent_by f sent) (member sent) sent_has n

-- what is made of what each sent
module _ {A B : Type 0} (g : A → B) (f : ℕ → A) (sent : ℕ) where
  abbrev with : ℕ × A → ℕ × B
  with p = (p.0, g p.1)

  pub present_map : (n : ℕ) → map with (present n (sent_by f sent)) ≡ present n (sent_by (λ s. g (f s)) sent)
  unfolding present sent_by pair_of
  present_map zero = refl
  present_map (suc n) =
      map-append with (present n (sent_by f sent)) (pair_of (suc n) (sent_by f sent (suc n)))
      ∙ ap₂ (λ (a b : List (ℕ × B)). a ++ b) (present_map n) one
    where
      one : map with (pair_of (suc n) (sent_by f sent (suc n))) ≡ pair_of (suc n) (sent_by (λ s. g (f s)) sent (suc n))
      one = go (member sent (suc n))
        where
          go : (b : Bool) → map with (pair_of (suc n) (cond b (some (f (suc n))) none)) ≡ pair_of (suc n) (cond b (some (g (f (suc n)))) none)
          go true = refl
          go false = refl

-- ---- one server more

-- the first k of a list, and of one with x at its end
take_next : {A : Type 0} (k : ℕ) (xs : List A) (x : A) → take k (xs ++ x ∷ []) ≡ cond (ltb (length (take k xs)) k) (take k xs ++ x ∷ []) (take k xs)
take_next {A} k xs x = go (ltb (length (take k xs)) k) refl
  where
    go : (b : Bool) → ltb (length (take k xs)) k ≡ b → take k (xs ++ x ∷ []) ≡ cond b (take k xs ++ x ∷ []) (take k xs)
    go true h =
        let short : length xs < k = omega (arith, ltb-true (length (take k xs)) k h, length-take k xs) in
        take_all k (xs ++ x ∷ []) (omega (arith, length-append xs (x ∷ []))) ∙ ap (λ (l : List A). l ++ x ∷ []) (sym (take_all k xs (omega arith)))
    go false h = take-append-le k xs (x ∷ []) (omega (arith, ltb-false (length (take k xs)) k h, length-take k xs))

joined_more : (ls : List (List ℕ)) (l : List ℕ) → joined (ls ++ l ∷ []) ≡ joined ls ++ l
unfolding joined
joined_more [] l = append-nil l
joined_more (x ∷ ls) l = ap (λ (r : List ℕ). x ++ r) (joined_more ls l) ∙ sym (append_assoc x (joined ls) l)

module _ (cfg : Config) (es : List ℕ) (sent : ℕ) where
  abbrev pair : ℕ → ℕ × List ℕ
  pair s = (s, part cfg.e (s - 1) es)

  lowest_next : (i : ℕ) → lowest cfg es sent (suc i)
      ≡ cond (ltb (length (lowest cfg es sent i)) cfg.k && member sent (suc i)) (lowest cfg es sent i ++ pair (suc i) ∷ []) (lowest cfg es sent i)
  unfolding present sent_by pair_of
  lowest_next i = go (member sent (suc i))
    where
      go : (b : Bool) → take cfg.k (present i (sent_by (bytes_at cfg es) sent) ++ pair_of (suc i) (cond b (some (part cfg.e (suc i - 1) es)) none))
          ≡ cond (ltb (length (lowest cfg es sent i)) cfg.k && b) (lowest cfg es sent i ++ pair (suc i) ∷ []) (lowest cfg es sent i)
      go true = rw (and-true (ltb (length (lowest cfg es sent i)) cfg.k)) (take_next cfg.k (present i (sent_by (bytes_at cfg es) sent)) (pair (suc i)))
      go false = rw (and-false (ltb (length (lowest cfg es sent i)) cfg.k), append-nil)

-- ---- what is gathered

module _ (cfg : Config) (sent : ℕ) (es numbers packed : List ℕ) (i found r : ℕ) (numbers₁ numbers₂ packed₁ packed₂ : List ℕ)
    (sofar : GatherPost cfg (lowest cfg es sent i) numbers numbers₁ packed packed₁ found)
    (pick : PickPost cfg sent (suc i) found es numbers₁ numbers₂ packed₁ packed₂ r) where
  abbrev pairs : List (ℕ × List ℕ)
  pairs = lowest cfg es sent i

  abbrev e : List ℕ
  e = part cfg.e (suc i - 1) es

  -- one pair more
  more : length e ≡ cfg.e → found < length numbers
      → GatherPost cfg (pairs ++ (suc i, e) ∷ []) numbers (set numbers₁ found (suc i)) packed (over (found * cfg.e) cfg.e e packed₁) (found + 1)
  more long room =
      let next : found * cfg.e + cfg.e ≡ (found + 1) * cfg.e = omega arith in
      let names : numbers_of (pairs ++ (suc i, e) ∷ []) ≡ numbers_of pairs ++ suc i ∷ [] = rw map-append in
      let all : elements_of (pairs ++ (suc i, e) ∷ []) ≡ elements_of pairs ++ e = rw map-append (joined_more (map (λ p. p.1) pairs) e) in
      record {
        count = ap (λ (n : ℕ). n + 1) sofar.count ∙ sym (length-append pairs ((suc i, e) ∷ []));
        numbered =
            ap (λ (l : List ℕ). set l found (suc i)) sofar.numbered
            ∙ set_front (numbers_of pairs) numbers found (length-map pairs (λ p. p.0) ∙ sym sofar.count) (suc i) room
            ∙ ap (λ (l : List ℕ). l ++ drop (found + 1) numbers) (sym names);
        joint =
            ap (over (found * cfg.e) cfg.e e) sofar.joint
            ∙ over_front (elements_of pairs) packed (found * cfg.e) sofar.long cfg.e e
            ∙ ap₂ (λ (l : List ℕ) (n : ℕ). l ++ drop n packed) (sym all) next;
        long = ap length all ∙ length-append (elements_of pairs) e ∙ omega (arith, sofar.long);
      }

  pub gathered_more : length es ≡ cfg.n * cfg.e → i < cfg.n → cfg.k ≤ length numbers
      → GatherPost cfg (lowest cfg es sent (suc i)) numbers numbers₂ packed packed₂ r
  gathered_more whole high room =
      rw (lowest_next cfg es sent i, pick.numbered, pick.joint, pick.count, sym sofar.count) (go (ltb found cfg.k && member sent (suc i)) refl)
    where
      go : (b : Bool) → (ltb found cfg.k && member sent (suc i)) ≡ b
          → GatherPost cfg (cond b (pairs ++ (suc i, e) ∷ []) pairs) numbers (cond b (set numbers₁ found (suc i)) numbers₁) packed
          (cond b (over (found * cfg.e) cfg.e e packed₁) packed₁) (cond b (found + 1) found)
      go true h =
          more (part_length cfg.e (suc i - 1) cfg.n es (omega arith) whole)
          (omega (arith, ltb-true found cfg.k (and_left (ltb found cfg.k) (member sent (suc i)) h)))
      go false h = sofar

-- ---- what it decodes to

-- all servers done, there are k
pub gathered_all : (cfg : Config) (sent : ℕ) (es : List ℕ) {numbers numbers' packed packed' : List ℕ} {i found : ℕ} → i ≡ cfg.n → cfg.k ≤ count (member sent) cfg.n
    → GatherPost cfg (lowest cfg es sent i) numbers numbers' packed packed' found → GatherPost cfg (lowest cfg es sent cfg.n) numbers numbers' packed packed' cfg.k
gathered_all cfg sent es {numbers} {numbers'} {packed} {packed'} {i} {found} end enough got =
    let all : GatherPost cfg (lowest cfg es sent cfg.n) numbers numbers' packed packed' found =
    subst (λ (j : ℕ). GatherPost cfg (lowest cfg es sent j) numbers numbers' packed packed' found) end got in
    let many : found ≡ cfg.k =
    all.count ∙ omega (arith, length-take cfg.k (present cfg.n (sent_by (bytes_at cfg es) sent)), length_present (bytes_at cfg es) sent cfg.n) in
    subst (GatherPost cfg (lowest cfg es sent cfg.n) numbers numbers' packed packed') many all

-- the first of numbers that rise within 1 to n
head_rising : (n : ℕ) (ss : List ℕ) → 1 ≤ length ss → rising n ss ≡ true → (1 ≤ get_or ss 0 0) × (get_or ss 0 0 ≤ n)
unfolding rising_above
head_rising n [] more h = absurd (omega (arith, more))
head_rising n (s ∷ ss) more h =
    let both = and_left (ltb 0 s && leb s n) (rising_above n s ss) h in
    (ltb-true 0 s (and_left (ltb 0 s) (leb s n) both), leb-true s n (and_right (ltb 0 s) (leb s n) both))

module _ (cfg : Config) (sent : ℕ) (es board : List ℕ) (ok : ShowPre cfg sent es board) (numbers numbers' packed packed' : List ℕ)
    (got : GatherPost cfg (lowest cfg es sent cfg.n) numbers numbers' packed packed' cfg.k) where
  abbrev ps : List (ℕ × List ℕ)
  ps = lowest cfg es sent cfg.n

  names_long : length (numbers_of ps) ≡ cfg.k
  names_long = length-map ps (λ p. p.0) ∙ sym got.count

  up : rising cfg.n (numbers_of ps) ≡ true
  up =
      rises cfg.n 0 ps
      (rising_take cfg.k 0 cfg.n (present cfg.n (sent_by (bytes_at cfg es) sent)) (present_rising cfg.n (sent_by (bytes_at cfg es) sent)))

  -- the questions of decoding them are all answered yes
  passes : first_no (decode_questions cfg (numbers_of ps) (length (elements_of ps)) (length board)) ≡ 0
  passes =
      sym (accepted cfg (numbers_of ps) (length (elements_of ps)) (length board) (valid_asked cfg ok.valid)
      (eq-eqb (length (elements_of ps)) (length (numbers_of ps) * cfg.e) (got.long ∙ ap (λ (n : ℕ). n * cfg.e) (sym names_long)))
      ok.board-length up (omega (arith, names_long)))

  -- the first of them is one of 1 to N
  pub first_in : (1 ≤ get_or numbers' 0 0) × (get_or numbers' 0 0 ≤ cfg.n)
  first_in =
      let first : get_or numbers' 0 0 ≡ get_or (numbers_of ps) 0 0 =
      ap (λ (l : List ℕ). get_or l 0 0) got.numbered ∙ get_or-append (numbers_of ps) (drop cfg.k numbers) 0 0 (omega (arith, names_long, ok.valid.k_low)) in
      let in-range = head_rising cfg.n (numbers_of ps) (omega (arith, names_long, ok.valid.k_low)) up in
      (omega (arith, first, in-range.0), omega (arith, first, in-range.1))

  pub shows : (after : List ℕ) (r : Verdict) → DecodePost cfg (take cfg.k numbers') (take (cfg.k * cfg.e) packed') board after r → after ≡ decoded_pairs cfg ps
  unfolding decoded_pairs
  shows after r post =
      let p : DecodePost cfg (numbers_of ps) (elements_of ps) board after r =
      subst (λ (l : List ℕ). DecodePost cfg (numbers_of ps) l board after r)
      (ap (take (cfg.k * cfg.e)) got.joint ∙ take_at (elements_of ps) (drop (cfg.k * cfg.e) packed) (cfg.k * cfg.e) got.long)
      (subst (λ (l : List ℕ). DecodePost cfg l (take (cfg.k * cfg.e) packed') board after r)
      (ap (take cfg.k) got.numbered ∙ take_at (numbers_of ps) (drop cfg.k numbers) cfg.k names_long) post) in
      p.buffer ∙ ap (λ (b : Bool). cond b (decoded cfg (numbers_of ps) (elements_of ps)) board) (eq-eqb _ 0 passes)

take_map : {A B : Type 0} (f : A → B) (k : ℕ) (xs : List A) → map f (take k xs) ≡ take k (map f xs)
take_map f zero xs = refl
take_map f (suc k) [] = refl
take_map f (suc k) (x ∷ xs) = ap (λ ys. f x ∷ ys) (take_map f k xs)

-- ---- the board that a read shows, by its bytes and by its lowest server's length

module _ (cfg : Config) (sent : ℕ) (es : Slots) where
  abbrev sends : List (ℕ × Element)
  sends = take cfg.k (present cfg.n (received cfg es sent))

  bytes_are : map bytes_sent sends ≡ lowest cfg es.bytes sent cfg.n
  unfolding received
  bytes_are =
      take_map bytes_sent cfg.k (present cfg.n (sent_by (slot_at cfg es) sent))
      ∙ ap (take cfg.k) (present_map (λ (e : Element). e.bytes) (slot_at cfg es) sent cfg.n)

  pub bytes_shown : decoded_pairs cfg (map bytes_sent sends) ≡ decoded_pairs cfg (lowest cfg es.bytes sent cfg.n)
  bytes_shown = ap (decoded_pairs cfg) bytes_are

  -- each is what its server sent
  theirs : ElementsOf (slot_at cfg) es sends
  unfolding received sent_by
  theirs =
      elements_take (slot_at cfg) es cfg.k (present cfg.n (sent_by (slot_at cfg es) sent))
      (present_elements (slot_at cfg) es cfg.n (sent_by (slot_at cfg es) sent) each)
    where
      each : (s : ℕ) (e : Element) → sent_by (slot_at cfg es) sent s ≡ some e → e ≡ slot_at cfg es s
      each s e h = go (member sent s) h
        where
          go : (b : Bool) → cond b (some (slot_at cfg es s)) none ≡ some e → e ≡ slot_at cfg es s
          go true i = sym (some-injective (slot_at cfg es s) e i)
          go false i = let z : ◌≡◌ {A = ℕ} 0 1 = cc in absurd (omega arith)

  lowest_is : (xs : List (ℕ × Element)) → ElementsOf (slot_at cfg) es xs → 1 ≤ length xs
      → lowest_length xs ≡ get_or es.lengths (get_or (map (λ x. x.0) xs) 0 0 - 1) 0
  unfolding ElementsOf
  lowest_is [] h more = absurd (omega arith)
  lowest_is (x ∷ xs) h more = ap (λ (e : Element). e.length) h.0

  -- the length shown is that of the first server gathered
  pub length_shown : {numbers numbers' packed packed' : List ℕ} → GatherPost cfg (lowest cfg es.bytes sent cfg.n) numbers numbers' packed packed' cfg.k
      → 1 ≤ cfg.k → lowest_length sends ≡ get_or es.lengths (get_or numbers' 0 0 - 1) 0
  length_shown {numbers} {numbers'} got more =
      let few : length sends ≡ cfg.k = sym (length-map sends bytes_sent) ∙ ap length bytes_are ∙ sym got.count in
      let names : map (λ x. x.0) sends ≡ numbers_of (lowest cfg es.bytes sent cfg.n) =
      sym (map-map (λ (x : ℕ × List ℕ). x.0) bytes_sent sends) ∙ ap numbers_of bytes_are in
      let first : get_or numbers' 0 0 ≡ get_or (map (λ x. x.0) sends) 0 0 =
      ap (λ (l : List ℕ). get_or l 0 0) (got.numbered ∙ ap (λ (l : List ℕ). l ++ drop cfg.k numbers) (sym names))
      ∙ get_or-append (map (λ x. x.0) sends) (drop cfg.k numbers) 0 0 (omega (arith, few, length-map sends (λ (x : ℕ × Element). x.0))) in
      lowest_is sends theirs (omega (arith, few)) ∙ ap (λ (n : ℕ). get_or es.lengths (n - 1) 0) (sym first)
