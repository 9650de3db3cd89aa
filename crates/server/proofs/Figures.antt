-- Document 01's figures of a server, of its calls: "D 0, fresh: pre-write (1, 1) gives floor (0, 0); then (2, 1) gives floor (1, 1); then
-- (1, 2) gives floor (1, 2), not stored, acknowledged; a read finalise of (1, 1) gets 15; one of (3, 1) is answered without an element."
-- "Where a server step gave 15 it now sends a record of kind 9".
use Rattle.std.proofs.Common.{◌≡◌, ℕ, true, List, [], ◌∷◌, length, sym, refl, ap, ◌∙◌, subst, ap₂}
use mathlib.Core.Option.{Option, none, some}
use Rattle.config.specs.declared.Config.{Config}
use Rattle.config.specs.declared.Server.{Server as ServerNumber}
use Rattle.config.specs.Config.{no_ranks, rank}
use Rattle.config.specs.Number.{server_number}
use Rattle.config.specs.Refusal.{verdict_number}
use Rattle.tag.specs.declared.Tag.{Tag}
use Rattle.tag.specs.Tag.{key, start}
use Rattle.record.specs.declared.Kind.{Kind}
use Rattle.record.specs.declared.Kind.TheVariants.{Cleared, PreWrite, PreWriteAnswer, ReadFinalise, ReadFinaliseAnswer}
use Rattle.record.specs.Element.{Element, element_with}
use Rattle.record.specs.Message.{Message}
use Rattle.record.specs.Record.{all, message_clauses, of_config, record_of}
use Rattle.protocol.specs.Server.{Served, Server, answer_to, at_or_below_floor, drop_smallest, element_of, finalised, fresh_server, in_place_of, is_stored, others, pre_write, read_answer, read_finalise, server_step, server_step_of, smallest, store, store_element}
use Rattle.protocol.specs.Tags.{higher, lower}
use Rattle.protocol.proofs.Basics.{some-injective}
use Rattle.server.specs.declared.State.{State}
use Rattle.server.specs.declared.Stepped.{Stepped}
use Rattle.server.specs.Calls.{FreshPost, StepPost, for_server, fresh_state}
use Rattle.server.specs.Within.{ValidState}
use Rattle.server.specs.View.{view}
use Rattle.server.proofs.Laws.{fresh_valid, fresh_view, on_message}

-- two clients of equal rank, and elements of one byte
abbrev pub cfg : Config
cfg = record { n = 1; k = 1; d = 0; e = 1; c = 2; ranks = no_ranks }

abbrev pub tag : ℕ → ℕ → Tag
tag z c = record { number = z; client = c }

-- an element of one byte, of a board of length V
abbrev pub full : ℕ → Element
full e = element_with 1 (e ∷ [])

-- a message of client c to server 1 in its operation 1
abbrev pub message : Kind → ℕ → ℕ → Option Element → Message Element
message kind z c e = record { kind = kind; client = c; server = 1; operation = 1; tag = tag z c; element = e }

-- one tag is stored, with one byte, and there is a floor
abbrev pub holding : Tag → Tag → ℕ → Tag → Server Element
holding h t e floor = record { highest = h; floor = some floor; stored = record { tag = t; element = full e } ∷ [] }

-- one step from a known view
record Known (s : State) (store : List ℕ) (v : Server Element) : Type 0 where
  held : ValidState cfg s store
  me : server_number s.me ≡ 1
  seen : view cfg s store ≡ v

record After (v : Server Element) (m : Message Element) (after storeAfter : List ℕ) (r : Stepped) : Type 0 where
  number : verdict_number r.verdict ≡ 0
  answer : (x : Message Element) → (server_step (key cfg) 0 1 v m).answer ≡ some x → after ≡ record_of cfg x
  known : Known r.state storeAfter (server_step (key cfg) 0 1 v m).server

step_known : (s : State) (store : List ℕ) (v : Server Element) → Known s store v → (m : Message Element) → of_config cfg m ≡ true → for_server 1 m ≡ true
    → (answer storeAfter answerAfter : List ℕ) (r : Stepped) → length answer ≡ 80 → StepPost cfg s (record_of cfg m) store answer storeAfter answerAfter r
    → After v m answerAfter storeAfter r
step_known s store v k m ok mine answer storeAfter answerAfter r eighty post =
    let p = on_message cfg s m store answer storeAfter answerAfter r k.held ok (ap (λ (n : ℕ). for_server n m) k.me ∙ mine) eighty post in
    let o : server_step (key cfg) 0 (server_number s.me) (view cfg s store) m ≡ server_step (key cfg) 0 1 v m =
    ap₂ {A = ℕ} (λ (n : ℕ) (w : Server Element). server_step (key cfg) 0 n w m) k.me k.seen in
    record {
      number = p.number;
      answer = λ x e. p.answer ∙ ap (record_of cfg) (some-injective (sym p.sends ∙ ap (λ (y : Served Element). y.answer) o ∙ e));
      known =
          record {
            held = p.held;
            me = ap server_number p.me ∙ k.me;
            seen = p.seen ∙ ap (λ (x : Served Element). x.server) o;
          };
    }

fresh_known : (me : ServerNumber) (element before after : List ℕ) (r : Stepped) → server_number me ≡ 1 → FreshPost cfg me element before after r
    → verdict_number r.verdict ≡ 0 → Known r.state after (fresh_server (element_with 1 element))
unfolding fresh_state
fresh_known me element before after r is post accepted =
    record {
      held = fresh_valid cfg me element before after r post accepted;
      me = ap (λ (x : State). server_number x.me) post.state ∙ is;
      seen = fresh_view cfg me element before after r post accepted;
    }

-- the messages are of the configuration
of-config : (of_config cfg (message PreWrite 1 1 (some (full 8))) ≡ true) × (of_config cfg (message PreWrite 2 1 (some (full 9))) ≡ true)
    × (of_config cfg (message PreWrite 1 2 (some (full 5))) ≡ true) × (of_config cfg (message ReadFinalise 1 1 none) ≡ true)
    × (of_config cfg (message ReadFinalise 3 1 none) ≡ true)
unfolding of_config message_clauses all
of-config = (refl, refl, refl, refl, refl)

-- what the protocol makes of them
one : (server_step (key cfg) 0 1 (fresh_server (full 7)) (message PreWrite 1 1 (some (full 8)))).server ≡ holding start (tag 1 1) 8 (tag 0 0)
unfolding server_step server_step_of pre_write store_element store is_stored at_or_below_floor drop_smallest others smallest in_place_of lower fresh_server key rank
one = refl

two : (server_step (key cfg) 0 1 (holding start (tag 1 1) 8 (tag 0 0)) (message PreWrite 2 1 (some (full 9)))).server ≡ holding start (tag 2 1) 9 (tag 1 1)
unfolding server_step server_step_of pre_write store_element store is_stored at_or_below_floor drop_smallest others smallest in_place_of lower key rank
two = refl

three : server_step (key cfg) 0 1 (holding start (tag 2 1) 9 (tag 1 1)) (message PreWrite 1 2 (some (full 5)))
    ≡ record { server = holding start (tag 2 1) 9 (tag 1 2); answer = some (message PreWriteAnswer 1 2 none) }
unfolding server_step server_step_of pre_write store_element store is_stored at_or_below_floor drop_smallest others smallest in_place_of lower answer_to key rank
three = refl

four : server_step (key cfg) 0 1 (holding start (tag 2 1) 9 (tag 1 2)) (message ReadFinalise 1 1 none)
    ≡ record { server = holding (tag 1 1) (tag 2 1) 9 (tag 1 2); answer = some (message Cleared 1 1 none) }
unfolding server_step server_step_of read_finalise read_answer element_of at_or_below_floor finalised higher answer_to key rank
four = refl

five : server_step (key cfg) 0 1 (holding (tag 1 1) (tag 2 1) 9 (tag 1 2)) (message ReadFinalise 3 1 none)
    ≡ record { server = holding (tag 3 1) (tag 2 1) 9 (tag 1 2); answer = some (message ReadFinaliseAnswer 3 1 none) }
unfolding server_step server_step_of read_finalise read_answer element_of at_or_below_floor finalised higher answer_to key rank
five = refl

-- The table, of a fresh server 1 with element 7 and five calls of `step`, each on what the one before left.
pub record Table (r1 r2 r3 r4 r5 : Stepped) (store1 store2 store3 answer3 answer4 answer5 : List ℕ) : Type 0 where
  pub first : view cfg r1.state store1 ≡ holding start (tag 1 1) 8 (tag 0 0)
  pub second : view cfg r2.state store2 ≡ holding start (tag 2 1) 9 (tag 1 1)
  pub third : view cfg r3.state store3 ≡ holding start (tag 2 1) 9 (tag 1 2)
  pub acknowledged : answer3 ≡ record_of cfg (message PreWriteAnswer 1 2 none)
  pub accepted : verdict_number r4.verdict ≡ 0
  pub cleared : answer4 ≡ record_of cfg (message Cleared 1 1 none)
  pub answered : answer5 ≡ record_of cfg (message ReadFinaliseAnswer 3 1 none)

pub table : (me : ServerNumber) → server_number me ≡ 1 → (before store0 store1 store2 store3 store4 store5 answer answer1 answer2 answer3 answer4 answer5 : List ℕ)
    → length answer ≡ 80 → (r0 r1 r2 r3 r4 r5 : Stepped) → FreshPost cfg me (7 ∷ []) before store0 r0 → verdict_number r0.verdict ≡ 0
    → StepPost cfg r0.state (record_of cfg (message PreWrite 1 1 (some (full 8)))) store0 answer store1 answer1 r1
    → StepPost cfg r1.state (record_of cfg (message PreWrite 2 1 (some (full 9)))) store1 answer store2 answer2 r2
    → StepPost cfg r2.state (record_of cfg (message PreWrite 1 2 (some (full 5)))) store2 answer store3 answer3 r3
    → StepPost cfg r3.state (record_of cfg (message ReadFinalise 1 1 none)) store3 answer store4 answer4 r4
    → StepPost cfg r4.state (record_of cfg (message ReadFinalise 3 1 none)) store4 answer store5 answer5 r5
    → Table r1 r2 r3 r4 r5 store1 store2 store3 answer3 answer4 answer5
table me is before store0 store1 store2 store3 store4 store5 answer answer1 answer2 answer3 answer4 answer5 eighty r0 r1 r2 r3 r4 r5 fresh accepted p1 p2 p3 p4 p5 =
    let k0 = fresh_known me (7 ∷ []) before store0 r0 is fresh accepted in
    let a1 = step_known r0.state store0 _ k0 (message PreWrite 1 1 (some (full 8))) of-config.0 refl answer store1 answer1 r1 eighty p1 in
    let k1 = subst (Known r1.state store1) one a1.known in
    let a2 = step_known r1.state store1 _ k1 (message PreWrite 2 1 (some (full 9))) of-config.1 refl answer store2 answer2 r2 eighty p2 in
    let k2 = subst (Known r2.state store2) two a2.known in
    let a3 = step_known r2.state store2 _ k2 (message PreWrite 1 2 (some (full 5))) of-config.2 refl answer store3 answer3 r3 eighty p3 in
    let k3 = subst (Known r3.state store3) (ap (λ (x : Served Element). x.server) three) a3.known in
    let a4 = step_known r3.state store3 _ k3 (message ReadFinalise 1 1 none) of-config.3 refl answer store4 answer4 r4 eighty p4 in
    let k4 = subst (Known r4.state store4) (ap (λ (x : Served Element). x.server) four) a4.known in
    let a5 = step_known r4.state store4 _ k4 (message ReadFinalise 3 1 none) of-config.4 refl answer store5 answer5 r5 eighty p5 in
    record {
      first = k1.seen;
      second = k2.seen;
      third = k3.seen;
      acknowledged = a3.answer _ (ap (λ (x : Served Element). x.answer) three);
      accepted = a4.number;
      cleared = a4.answer _ (ap (λ (x : Served Element). x.answer) four);
      answered = a5.answer _ (ap (λ (x : Served Element). x.answer) five);
    }
