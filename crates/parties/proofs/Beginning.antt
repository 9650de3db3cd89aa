-- A client begins.
use Prim.Native.Nat.{ℕ, ◌<◌}
use mathlib.Core.Path.{◌≡◌, refl, sym, ap, ◌∙◌}
use mathlib.Core.Bool.{Bool, true, false, cond, ◌&&◌}
use mathlib.Core.List.{List, [], ◌∷◌}
use mathlib.Core.Option.{Option, some}
use native.Mathlib.Omega.{arith}
use native.Mathlib.Decide.{ℕ_discrete}
use borrow.Author.Tests.{eq-eqb, ne_eqb, eqb-true, ltb-true}
use lib.Dec.{eqb, leb, ltb}
use lib.ListN.{length}
use Rattle.laws.proofs.Bools.{and_left, and_right}
use Rattle.config.specs.declared.Config.{Config}
use Rattle.config.specs.Config.{board_length, questions}
use Rattle.config.specs.Number.{client_number, server_number}
use Rattle.config.specs.Questions.{Question, ask, first_no, within}
use Rattle.config.proofs.Questions.{none_rest, questions_numbered, yes_next}
use Rattle.record.specs.Record.{highest_number}
use Rattle.server.specs.View as serverView
use Rattle.client.specs.declared.Ended.{Ended}
use Rattle.client.specs.declared.Moved.{Moved}
use Rattle.client.specs.declared.State as client
use Rattle.client.specs.Calls.{BeginPost, ended_of, keeping, shown, unless_no}
use Rattle.client.specs.Questions.{begin_write_questions, call_questions, is_board, is_sends, write_sized}
use Rattle.client.specs.State as clientView
use Rattle.client.specs.State.{bare, state_within}
use Rattle.client.proofs.Asked.{call_passed}
use Rattle.client.proofs.Phases.{self_in}
use Rattle.protocol.specs.Boards.{Board, BoardClient, BoardMoved, board_of, cut}
use Rattle.protocol.specs.Client as protocol
use Rattle.protocol.specs.Client.{begin_client, begin_questions}
use Rattle.protocol.specs.Parties.{answer_of}
use Rattle.protocol.proofs.Cut.{length_cut}
use Rattle.protocol.proofs.Pairs.{begin_pair}
use Rattle.parties.specs.declared.Acted.{Acted}
use Rattle.parties.specs.declared.Pair.{Pair}
use Rattle.parties.specs.Acts.{ActPost, begins, parts}
use Rattle.protocol.specs.Sound.{Sound}
use Rattle.parties.specs.inner.Acted.{moved_on}
use Rattle.parties.proofs.Acts.{client_act}
use Rattle.protocol.proofs.Formed.{begun_sound}

-- what it shows that no question of a beginning is answered no, 9 to 11 among them
module _ (cfg : Config) (sized : Bool) (x : client.State) (others : List Question) (h : first_no (call_questions cfg sized x others) ≡ 0)
    (idle : first_no (begin_questions (bare cfg x)) ≡ 0) where
  six : (sized && state_within cfg x ≡ true) × (first_no others ≡ 0)
  unfolding call_questions
  six =
      yes_next 6 (sized && state_within cfg x) others (omega arith)
      (none_rest (questions cfg) (ask 6 (sized && state_within cfg x) ∷ others) (questions_numbered cfg) h)

  its_number : within 1 cfg.c (client_number x.me) ≡ true
  its_number = self_in cfg x (and_right sized (state_within cfg x) six.0)

  below : x.operation < highest_number
  unfolding begin_questions clientView.view
  below =
      let nine = yes_next 9 (protocol.is_up (bare cfg x).phase) _ (omega arith) idle in
      let ten = yes_next 10 (protocol.is_idle (bare cfg x).phase) _ (omega arith) nine.1 in
      ltb-true x.operation highest_number (yes_next 11 (ltb x.operation highest_number) [] (omega arith) ten.1).0

  -- the queries are messages of the configuration
  queries_sound : (board : Option Board) (kept es : List ℕ) → Sound cfg (begin_client cfg (client_number x.me) (clientView.view cfg x kept es) board).sends
  unfolding clientView.view
  queries_sound board kept es = begun_sound cfg (client_number x.me) its_number (clientView.view cfg x kept es) below board

module _ (cfg : Config) (sized : Bool) (x : Pair) (others : List Question)
    (idle : first_no (call_questions cfg sized x.client others) ≡ 0 → first_no (begin_questions (bare cfg x.client)) ≡ 0)
    (board : Option Board) (store kept kept' es sends sends' read : List ℕ) (y : Moved) where
  abbrev number : ℕ
  number = first_no (call_questions cfg sized x.client others)

  abbrev c : ℕ
  c = client_number x.client.me

  abbrev before : BoardClient
  before = clientView.view cfg x.client kept es

  abbrev move : BoardMoved
  move = begin_client cfg c before board

  nothing_ends : (b : Bool) → protocol.nothing ≡ (cond b move (protocol.stays before)).ended
  unfolding begin_client protocol.stays
  nothing_ends true = refl
  nothing_ends false = refl

  module _ (post : BeginPost cfg number x.client board kept kept' es sends sends' y) (long : length kept' ≡ length kept) where
    ended : ended_of y.ended read ≡ (unless_no number before move).ended
    ended = ap (λ (e : Ended). ended_of e read) post.nothing ∙ nothing_ends (eqb number 0)

    pub begin_act : (r : Acted) → r ≡ moved_on y.verdict x y
        → ActPost cfg number (begins cfg x board) x (parts store kept es) sends read r (parts store kept' es) sends' read
    unfolding begin_client answer_of
    begin_act =
        client_act cfg number (begins cfg x board) x (parts store kept es) (parts store kept' es) sends sends' read read move y
        (λ _ p. begin_pair p (server_number x.node.state.me) (serverView.view cfg x.node.state store) x.node.up c before cfg board)
        (λ z. queries_sound cfg sized x.client others z (idle z) board kept es)
        post.answered ended (ap (λ o. shown o read) (nothing_ends (eqb number 0))) refl
        (λ some_no. ap (λ w. parts store w es) (post.keeps ∙ ap (λ (b : Bool). cond b (keeping board kept) kept) (ne_eqb number 0 some_no)))
        (long, refl)

-- what it shows of a write's length that no question is answered no, and then 9 to 11
pub fits_idle : (cfg : Config) (sized : Bool) (x : client.State) (n : ℕ)
    → first_no (call_questions cfg sized x (ask 19 (leb n (board_length cfg)) ∷ begin_questions (bare cfg x))) ≡ 0
    → (leb n (board_length cfg) ≡ true) × (first_no (begin_questions (bare cfg x)) ≡ 0)
fits_idle cfg sized x n h =
    yes_next 19 (leb n (board_length cfg)) (begin_questions (bare cfg x)) (omega arith)
    (call_passed cfg x sized (ask 19 (leb n (board_length cfg)) ∷ begin_questions (bare cfg x)) h).3

-- the bytes kept are as many
pub kept_long : (cfg : Config) (x : client.State) (n : ℕ) (board kept kept' es sends sends' : List ℕ) (y : Moved)
    → BeginPost cfg (first_no (begin_write_questions cfg x n board kept sends)) x (some (board_of n board)) kept kept' es sends sends' y → length kept' ≡ length kept
kept_long cfg x n board kept kept' es sends sends' y post = elim (ℕ_discrete first 0) as (λ _. length kept' ≡ length kept) [
  | yes e ↦
      let w = (call_passed cfg x (write_sized cfg (length board) (length kept) (length sends)) _ e).1 in
      ap length (post.keeps ∙ ap (λ (b : Bool). cond b (cut n board) kept) (eq-eqb first 0 e))
      ∙ length_cut n board
      ∙ eqb-true (length board) (board_length cfg) (and_left (is_board cfg (length board)) (is_board cfg (length kept) && is_sends cfg (length sends)) w)
      ∙ sym (eqb-true (length kept) (board_length cfg) (and_left (is_board cfg (length kept)) (is_sends cfg (length sends))
      (and_right (is_board cfg (length board)) (is_board cfg (length kept) && is_sends cfg (length sends)) w)))
  | no ne ↦ ap length (post.keeps ∙ ap (λ (b : Bool). cond b (cut n board) kept) (ne_eqb first 0 ne))
]
  where
    first : ℕ
    first = first_no (begin_write_questions cfg x n board kept sends)
