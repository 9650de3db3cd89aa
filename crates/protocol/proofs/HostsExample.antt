-- A run of hosts, evaluated in the model, with messages that are doubled, late or lost: N 3, k 1, D 0, two clients, starting board 0. A message is named
-- by its place among all that were sent, from 0.
use Prim.Native.Nat.{ℕ}
use mathlib.Core.Path.{◌≡◌, refl, subst}
use mathlib.Core.Bool.{Bool, true, false, cond}
use mathlib.Core.Option.{Option, none, some}
use mathlib.Core.List.{List, [], ◌∷◌, ◌++◌, Memᴰ, map}
use native.Mathlib.Decide.{ℕ_discrete}
use native.Mathlib.Omega.{arith}
use borrow.Author.Tests.{eq-eqb, ne_eqb}
use lib.Dec.{eqb}
use lib.ListN.{get_elem?, replicate}
use Rattle.config.specs.Questions.{first_no}
use Rattle.tag.specs.Tag.{key}
use Rattle.record.specs.Message.{Message}
use Rattle.protocol.specs.Board.{Answer, Atomic, Event, StandsFirst, history, nothing_ended, read_by, refused, showed, written_by, wrote}
use Rattle.protocol.specs.Hosts.{Hosted, call_by, fresh, reads, refuses, served, serves, stepped, steps, then, writes}
use Rattle.protocol.specs.Parties.{Parties, begin, fresh_parties, questions_to_begin}
use Rattle.protocol.proofs.Evaluate.{answers_to, computed}
use Rattle.protocol.proofs.Example.{coding, config, decode, encode, tags}
use Rattle.protocol.proofs.Flight.{at_mem}
use Rattle.protocol.proofs.Theorem.{hosted_atomic}

-- a client begins to write or to read; a server, or a client, is handed the message at a place
pub data Act : Type 0 where
  write : ℕ → ℕ → Act
  read : ℕ → Act
  to_server : ℕ → Act
  to_client : ℕ → Act

pub record Hosts : Type 0 where
  pub parties : Parties ℕ ℕ
  pub sent : List (Message ℕ)
  pub events : List (Event ℕ)

abbrev pub Runs : Hosts → Type 0
Runs h = Hosted (key config) encode decode config (λ (v : ℕ). Unit {0}) 0 h.parties h.sent h.events

abbrev pub serving : Hosts → Message ℕ → Hosts
serving h m =
    let x = served (key config) encode decode config h.parties m in
    record { parties = x.parties; sent = h.sent ++ x.sends; events = h.events }

abbrev pub stepping : Hosts → Message ℕ → Hosts
stepping h m =
    let x = stepped (key config) encode decode config h.parties m in
    record { parties = x.parties; sent = h.sent ++ x.sends; events = then h.events (call_by 3 m.client 0) x.answer }

abbrev pub beginning : Hosts → ℕ → ℕ → ℕ → Option ℕ → Hosts
beginning h code c v board =
    let no = first_no (questions_to_begin config h.parties c) in
    let x = begin config h.parties c board in
    cond (eqb no 0) (record { parties = x.parties; sent = h.sent ++ x.sends; events = then h.events (call_by code c v) x.answer })
    (record { parties = h.parties; sent = h.sent; events = then h.events (call_by code c v) (refused no) })

-- what is done with a message, if there is one
abbrev pub with_it : Hosts → (Message ℕ → Hosts) → Option (Message ℕ) → Hosts
with_it h f none = h
with_it h f (some m) = f m

abbrev pub act : Hosts → Act → Hosts
act h (write c v) = beginning h 1 c v (some v)
act h (read c) = beginning h 2 c 0 none
act h (to_server i) = with_it h (serving h) (get_elem? h.sent i)
act h (to_client i) = with_it h (stepping h) (get_elem? h.sent i)

unfoldable pub after : Hosts → List Act → Hosts
after h [] = h
after h (a ∷ rest) = after (act h a) rest

-- every act is a step of a run
module _ (h : Hosts) (runs : Runs h) where
  by_message : (f : Message ℕ → Hosts) → ((m : Message ℕ) → Memᴰ m h.sent → Runs (f m)) → (i : ℕ) (o : Option (Message ℕ)) → get_elem? h.sent i ≡ o → Runs (with_it h f o)
  by_message f go i none e = runs
  by_message f go i (some m) e = go m (at_mem h.sent i m e)

  by_begin : (code c v : ℕ) (board : Option ℕ) → (first_no (questions_to_begin config h.parties c) ≡ 0
      → Hosted (key config) encode decode config (λ (w : ℕ). Unit {0}) 0 (begin config h.parties c board).parties (h.sent ++ (begin config h.parties c board).sends) (then h.events (call_by code c v) (begin config h.parties c board).answer))
      → Runs (beginning h code c v board)
  by_begin code c v board go = elim (ℕ_discrete (first_no (questions_to_begin config h.parties c)) 0) as (λ _. Runs (beginning h code c v board)) [
    | yes e ↦ rw (eq-eqb (first_no (questions_to_begin config h.parties c)) 0 e) (go e)
    | no n ↦ rw (ne_eqb (first_no (questions_to_begin config h.parties c)) 0 n) (refuses runs (call_by code c v) (first_no (questions_to_begin config h.parties c)))
  ]

  act_runs : (a : Act) → Runs (act h a)
  act_runs (write c v) = by_begin 1 c v (some v) (λ e. writes runs c v e tt)
  act_runs (read c) = by_begin 2 c 0 none (λ e. reads runs c 0 e)
  act_runs (to_server i) = by_message (serving h) (λ m j. serves runs m j) i (get_elem? h.sent i) refl
  act_runs (to_client i) = by_message (stepping h) (λ m j. steps runs m j 0) i (get_elem? h.sent i) refl

after_runs : (acts : List Act) (h : Hosts) → Runs h → Runs (after h acts)
unfolding after
after_runs [] h runs = runs
after_runs (a ∷ rest) h runs = after_runs rest (act h a) (act_runs h runs a)

abbrev pub begun : Hosts
begun = record { parties = fresh_parties config encode 0; sent = []; events = [] }

-- Client 1 writes 7. Its query to server 1 comes twice, and so does the answer; that to server 3 is late, and so is the pre-write to server 3: both come
-- while client 2 reads. Three of the messages to servers never come. Client 2 is told the element of server 3 twice.
pub acts : List Act
acts =
    write 1 7 ∷
    to_server 0 ∷
    to_server 0 ∷
    to_client 3 ∷
    to_client 4 ∷
    to_server 1 ∷
    to_client 5 ∷
    to_server 6 ∷
    to_server 7 ∷
    to_client 9 ∷
    to_client 10 ∷
    to_server 11 ∷
    to_server 12 ∷
    to_client 14 ∷
    to_client 15 ∷
    read 2 ∷
    write 2 9 ∷
    to_server 2 ∷
    to_client 19 ∷
    to_server 8 ∷
    to_server 16 ∷
    to_server 18 ∷
    to_client 21 ∷ to_client 22 ∷ to_server 25 ∷ to_server 24 ∷ to_client 26 ∷ to_client 26 ∷ to_client 27 ∷ []

pub answers : List (Answer ℕ)
answers =
    replicate 7 nothing_ended
    ++ written_by 1 (record { number = 1; client = 1 })
    ∷ nothing_ended
    ∷ refused 10
    ∷ replicate 5 nothing_ended
    ++ read_by 2 (record { number = 1; client = 1 }) 7
    ∷ []

pub example : map (λ x. x.answer) (after begun acts).events ≡ answers
unfolding answers_to after acts answers
example = refl

-- the theorem, for this run
pub example_atomic : Atomic (key config) 0 (after begun acts).events
example_atomic =
    hosted_atomic config (key config) tags (λ v. Unit {0}) encode decode coding (omega arith) 0 tt (after_runs acts begun fresh)

-- the event at place 7 ends the write, and that at place 15 the read, of what was written; in the order that the theorem finds the write stands first
pub example_history : (history (after begun acts).events 0 ≡ wrote 7 7) × (history (after begun acts).events 8 ≡ showed 7 15)
unfolding answers_to computed after acts
example_history = (refl, refl)

pub write_stands_first : StandsFirst 0 8 example_atomic.order
unfolding answers_to computed after acts
write_stands_first =
    let fits = example_atomic.fits in
    fits.in_time 0 8 (fits.ended 0 tt) (fits.ended 8 tt) (omega arith)
