-- What an answer that names a client ends: "the first later event whose answer names that client ends it", read from the end.
use Rattle.std.specs.Prelude.{ℕ, ◌<◌, ◌≡◌, true, ◌⊎◌, List}
use Rattle.std.proofs.Math.Option.{some}
use Rattle.std.proofs.Math.ListN.{get_elem?}
use Rattle.protocol.specs.Board.{Answer, Event, refused, nothing_ended, written_by, spent_by, read_by, is_accepted, names, end_at}

-- an accepted event of this code
abbrev pub Begins : {Value : Type 0} → ℕ → Event Value → Type 0
Begins code x = (is_accepted x.answer ≡ true) × (x.call.code ≡ code)

-- what the answer ends began with this event: written ends a write, read ends a read, spent ends either
abbrev pub BeganWith : {Value : Type 0} → Answer Value → Event Value → Type 0
BeganWith (refused n) x = ⊥
BeganWith nothing_ended x = ⊥
BeganWith (written_by c t) x = Begins 1 x
BeganWith (spent_by c) x = Begins 1 x ⊎ Begins 2 x
BeganWith (read_by c t v) x = Begins 2 x

-- the answer of the event at place q ends the operation of client c that was begun at place p
pub record Ends {Value : Type 0} (events : List (Event Value)) (c q : ℕ) (answer : Answer Value) (p : ℕ) : Type 0 where
  pub begin : Event Value
  pub stands : get_elem? events p ≡ some begin
  pub client : begin.call.party ≡ c
  pub kind : BeganWith answer begin
  pub before : p < q
  pub first : end_at events p ≡ some (q, answer)

-- Each answer that names a client ends exactly one operation of that client.
pub record EndsOne {Value : Type 0} (events : List (Event Value)) : Type 0 where
  pub one : (c q : ℕ) (x : Event Value) → get_elem? events q ≡ some x → names c x.answer ≡ true → (p : ℕ) × Ends events c q x.answer p
  pub only : (c q : ℕ) (answer : Answer Value) (p r : ℕ) → Ends events c q answer p → Ends events c q answer r → p ≡ r
