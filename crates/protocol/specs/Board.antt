-- The single board, and which histories are its own: document 01, "History and the single board", clause by clause. Nothing that
-- the rig keeps appears here: a history is taken from calls and answers only.
use Rattle.std.specs.Prelude.{ℕ, ◌+◌, ◌<◌, ◌≡◌, Bool, true, false, cond, ◌&&◌, ◌⊎◌, eqb, drop}
use Rattle.std.proofs.Math.Option.{Option, none, some}
use mathlib.Core.List.{List, [], ◌∷◌, Memᴰ}
use Rattle.std.proofs.Math.ListN.{get_elem?}
use Rattle.tag.specs.declared.Tag.{Tag}

-- A call: "events of any code, party and position, with any board handed in".
pub record Call (Value : Type 0) : Type 0 where
  pub code : ℕ
  pub party : ℕ
  pub position : ℕ
  pub board : Value

-- "An event's answer is nothing ended or, each naming the client whose operation ended, written with tag, spent, or read with tag and
-- V bytes", and a length; or it is refused with a number.
pub data Answer (Value : Type 0) : Type 0 where
  refused : ℕ → Answer Value
  nothing_ended : Answer Value
  written_by : ℕ → Tag → Answer Value
  spent_by : ℕ → Answer Value
  read_by : ℕ → Tag → Value → Answer Value

-- an event of the list: the call and its answer
pub record Event (Value : Type 0) : Type 0 where
  pub call : Call Value
  pub answer : Answer Value

-- What the event at a place of the list begins. Operations are known by that place: it says when they began.
pub data Operation (Value : Type 0) : Type 0 where
  -- no operation
  no_operation : Operation Value
  -- "An operation that no event ends is unended."
  unended_write : Value → Operation Value
  unended_read : Operation Value
  -- a write of these bytes that the event at that place ends
  wrote : Value → ℕ → Operation Value
  -- a read of these bytes that the event at that place ends
  showed : Value → ℕ → Operation Value
  -- "A spent one is left out."
  left_out : Operation Value
  -- a write that the answer of a read ends, or a read that the answer of a write ends: no order has a place for it
  mismatched : Operation Value

module _ {Value : Type 0} where
  -- "A refused event begins and ends nothing."
  unfoldable pub is_accepted : Answer Value → Bool
  is_accepted (refused n) = false
  is_accepted nothing_ended = true
  is_accepted (written_by c t) = true
  is_accepted (spent_by c) = true
  is_accepted (read_by c t v) = true

  -- the answer names that client
  unfoldable pub names : ℕ → Answer Value → Bool
  names c (refused n) = false
  names c nothing_ended = false
  names c (written_by c' t) = eqb c' c
  names c (spent_by c') = eqb c' c
  names c (read_by c' t v) = eqb c' c

  -- the first of the events given whose answer names that client: its place, where the first of them stands at place p, and its
  -- answer
  unfoldable pub first_naming : ℕ → ℕ → List (Event Value) → Option (ℕ × Answer Value)
  first_naming c p [] = none
  first_naming c p (x ∷ xs) = cond (names c x.answer) (some (p, x.answer)) (first_naming c (p + 1) xs)

  -- a write of these bytes that the event at place p ends, by its answer
  unfoldable pub ended_write : Value → ℕ → Answer Value → Operation Value
  ended_write v p (refused n) = mismatched
  ended_write v p nothing_ended = mismatched
  ended_write v p (written_by c t) = wrote v p
  ended_write v p (spent_by c) = left_out
  ended_write v p (read_by c t w) = mismatched

  -- a read that the event at place p ends: its bytes "are those in the lent buffer when its ending event returns"
  unfoldable pub ended_read : ℕ → Answer Value → Operation Value
  ended_read p (refused n) = mismatched
  ended_read p nothing_ended = mismatched
  ended_read p (written_by c t) = mismatched
  ended_read p (spent_by c) = left_out
  ended_read p (read_by c t v) = showed v p

  -- a write, given what ends it, if anything does: "A write's bytes are those handed in at its begin"
  unfoldable pub write_of : Value → Option (ℕ × Answer Value) → Operation Value
  write_of v none = unended_write v
  write_of v (some e) = ended_write v e.0 e.1

  -- a read, given what ends it, if anything does
  unfoldable pub read_of : Option (ℕ × Answer Value) → Operation Value
  read_of none = unended_read
  read_of (some e) = ended_read e.0 e.1

  -- "An accepted event 1 or 2 begins an operation of its client": what one event begins, given what ends that client's operation
  unfoldable pub begun_by : Event Value → Option (ℕ × Answer Value) → Operation Value
  begun_by x end =
      cond (is_accepted x.answer && eqb x.call.code 1) (write_of x.call.board end)
      (cond (is_accepted x.answer && eqb x.call.code 2) (read_of end) no_operation)

  -- what stands at a place, if anything does, begins
  unfoldable pub operation_of : Option (Event Value) → Option (ℕ × Answer Value) → Operation Value
  operation_of none end = no_operation
  operation_of (some x) end = begun_by x end

  -- what ends an operation of the client of an event at place p, among the later events
  unfoldable pub end_of : Option (Event Value) → ℕ → List (Event Value) → Option (ℕ × Answer Value)
  end_of none p later = none
  end_of (some x) p later = first_naming x.call.party (p + 1) later

  -- "the first later event whose answer names that client ends it": for the operation that the event at place p begins
  unfoldable pub end_at : List (Event Value) → ℕ → Option (ℕ × Answer Value)
  end_at events p = end_of (get_elem? events p) p (drop (p + 1) events)

  -- The history of a list of events: what each place begins. "Before and later go by the list."
  unfoldable pub history : List (Event Value) → ℕ → Operation Value
  history events p = operation_of (get_elem? events p) (end_at events p)

  -- "A write: its bytes become the state. A read: the state is shown and stays."
  unfoldable pub after : Operation Value → Value → Value
  after no_operation state = state
  after (unended_write v) state = v
  after unended_read state = state
  after (wrote v e) state = v
  after (showed v e) state = state
  after left_out state = state
  after mismatched state = state

  -- "every read's bytes are those shown"
  unfoldable pub ShowsState : Operation Value → Value → Type 0
  ShowsState no_operation state = Unit {0}
  ShowsState (unended_write v) state = Unit {0}
  ShowsState unended_read state = Unit {0}
  ShowsState (wrote v e) state = Unit {0}
  ShowsState (showed v e) state = v ≡ state
  ShowsState left_out state = Unit {0}
  ShowsState mismatched state = Unit {0}

  -- The single board is fed the operations in an order: "Its state is V bytes, at first the starting board." A value is whatever it keeps and
  -- shows.
  unfoldable pub Shown : (ℕ → Operation Value) → Value → List ℕ → Type 0
  Shown operations state [] = Unit {0}
  Shown operations state (p ∷ ps) = ShowsState (operations p) state × Shown operations (after (operations p) state) ps

  -- what may stand in an order: an ended read, an ended write or an unended write, "and nothing else"
  unfoldable pub MayStand : Operation Value → Type 0
  MayStand no_operation = ⊥
  MayStand (unended_write v) = Unit {0}
  MayStand unended_read = ⊥
  MayStand (wrote v e) = Unit {0}
  MayStand (showed v e) = Unit {0}
  MayStand left_out = ⊥
  MayStand mismatched = ⊥

  -- "each ended read and each ended write": these must stand in it, and so must an operation with an end that is none of its own
  unfoldable pub MustStand : Operation Value → Type 0
  MustStand no_operation = ⊥
  MustStand (unended_write v) = ⊥
  MustStand unended_read = ⊥
  MustStand (wrote v e) = Unit {0}
  MustStand (showed v e) = Unit {0}
  MustStand left_out = ⊥
  MustStand mismatched = Unit {0}

  -- the operation ended before the one begun at place r began
  unfoldable pub EndedBefore : Operation Value → ℕ → Type 0
  EndedBefore no_operation r = ⊥
  EndedBefore (unended_write v) r = ⊥
  EndedBefore unended_read r = ⊥
  EndedBefore (wrote v e) r = e < r
  EndedBefore (showed v e) r = e < r
  EndedBefore left_out r = ⊥
  EndedBefore mismatched r = ⊥

-- no place stands twice
unfoldable pub Once : List ℕ → Type 0
Once [] = Unit {0}
Once (p ∷ ps) = (Memᴰ p ps → ⊥) × Once ps

-- p stands in the order, and r behind it
unfoldable pub StandsFirst : ℕ → ℕ → List ℕ → Type 0
StandsFirst p r [] = ⊥
StandsFirst p r (x ∷ xs) = ((p ≡ x) × Memᴰ r xs) ⊎ StandsFirst p r xs

-- An order of operations, each by the place of its begin, that fits a history and a starting board.
pub record Fits {Value : Type 0} (operations : ℕ → Operation Value) (start : Value) (order : List ℕ) : Type 0 where
  -- "each ended read and each ended write once, each unended write at most once and nothing else"
  pub once : Once order
  pub ended : (p : ℕ) → MustStand (operations p) → Memᴰ p order
  pub nothing_else : (p : ℕ) → Memᴰ p order → MayStand (operations p)
  -- "of any two in it, one that ended before the other began stands first"
  pub in_time : (p r : ℕ) → Memᴰ p order → Memᴰ r order → EndedBefore (operations p) r → StandsFirst p r order
  -- "every read's bytes are those shown"
  pub shown : Shown operations start order

module _ {Value : Type 0} where
  -- the tag that an answer has
  unfoldable pub answer_tag : Answer Value → Option Tag
  answer_tag (refused n) = none
  answer_tag nothing_ended = none
  answer_tag (written_by c t) = some t
  answer_tag (spent_by c) = none
  answer_tag (read_by c t v) = some t

  -- the tag with which an operation ended
  unfoldable pub tag_of : Option (ℕ × Answer Value) → Option Tag
  tag_of none = none
  tag_of (some e) = answer_tag e.1

  -- "some order that fits has its ended writes in rising tag order": of two ended writes in the order, the first has the lower tag
  unfoldable pub TagsRise : (Tag → ℕ) → List (Event Value) → List ℕ → Type 0
  TagsRise key events order =
      (p r : ℕ) (v w : Value) (e f : ℕ) (t u : Tag) → StandsFirst p r order → history events p ≡ wrote v e → history events r ≡ wrote w f → tag_of (end_at events p) ≡ some t → tag_of (end_at events r) ≡ some u → key t < key u

-- What is to be shown of every list: "Every list's history has an order that fits." And: "some order that fits has its ended writes in
-- rising tag order".
pub record Atomic {Value : Type 0} (key : Tag → ℕ) (start : Value) (events : List (Event Value)) : Type 0 where
  pub order : List ℕ
  pub fits : Fits (history events) start order
  pub tags_rise : TagsRise key events order
