-- Events 4 and 5: what is left of the records in flight. Assumes nothing.
use Prim.Native.Nat.{ℕ, ◌+◌, ◌*◌, ◌≤◌, ◌<◌}
use mathlib.Core.Path.{◌≡◌, refl, sym, ap, ap₂, subst, ◌∙◌}
use mathlib.Core.Bool.{false≢true}
use mathlib.Core.Option.{some}
use mathlib.Core.List.{List, ◌++◌, append-nil, map-append}
use native.Mathlib.Omega.{arith}
use lib.ListN.{length, get_elem?, length-append}
use Rattle.laws.specs.Lists.{to_list, without}
use Rattle.laws.proofs.Lists.{length_at, map_at, map_without}
use Rattle.config.specs.declared.Config.{Config}
use Rattle.config.specs.declared.Refusal.{Refusal}
use Rattle.record.specs.Record.{message_of}
use Rattle.flight.specs.Flight as flights
use Rattle.flight.specs.Flight.{RemovePost, records}
use Rattle.flight.proofs.Laws.{double_count, double_long, double_records, length_records, remove_count, remove_long, remove_records}
use Rattle.protocol.specs.Network.{names_board}
use Rattle.protocol.specs.Parties.{quiet}
use Rattle.protocol.specs.Rig as rig
use Rattle.protocol.specs.Rig.{code_of, doubled, lose, double, leaves, questions_to11, write_fits}
use Rattle.parties.specs.declared.Answer.{Answer}
use Rattle.events.specs.declared.Call.{Call}
use Rattle.events.specs.declared.Change.{Change}
use Rattle.events.specs.declared.Part.{Part}
use Rattle.events.specs.declared.Rig.{Rig}
use Rattle.events.specs.View.{Lent, flight, lent, messages_of, parties_of, view}
use Rattle.events.specs.Questions.{formed_for}
use Rattle.events.specs.Calls.{called, records_after}
use Rattle.events.specs.inner.Message.{DoublePost, LosePost}
use Rattle.events.specs.inner.Part.{counting, refusing}
use Rattle.events.proofs.Numbers.{missing, position_there}
use Rattle.events.proofs.Pairs.{back_same, parts_of}
use Rattle.events.proofs.Ready.{count_below, count_fits, messages_long}
use Rattle.events.proofs.outcome.Laws.{Moves, acted_on, acted_yes, full-no, quiet_act, refused_on}

is_lose : (a : Call) → a.code ≡ 4 → code_of a.code ≡ some lose
unfolding code_of
is_lose a e = ap code_of e

is_double : (a : Call) → a.code ≡ 5 → code_of a.code ≡ some double
unfolding code_of
is_double a e = ap code_of e

-- what the protocol's events do, where the position is one of the messages'
module _ (cfg : Config) (r : Rig) (l : Lent) (a : Call) (board : List ℕ) (inside : a.position < r.count) where
  abbrev i : ℕ
  i = a.position

  lose_moves : a.code ≡ 4 → Moves cfg r l (called a board) lose quiet (without a.position (flight r l))
  unfolding rig.move questions_to11 formed_for records_after view quiet write_fits
  lose_moves e =
      record {
        code = is_lose a e;
        fits = refl;
        pass = position_there cfg r l i inside;
        formed = refl;
        moves = ap (λ ms. leaves ms (quiet (parties_of cfg r l))) (sym (map_without (message_of cfg) i (flight r l)));
        after = sym (append-nil (without i (flight r l)));
      }

  double_moves : a.code ≡ 5 → Moves cfg r l (called a board) double quiet (flight r l ++ to_list (get_elem? (flight r l) a.position))
  unfolding rig.move questions_to11 formed_for records_after view quiet doubled write_fits
  double_moves e =
      record {
        code = is_double a e;
        fits = refl;
        pass = position_there cfg r l i inside;
        formed = refl;
        moves = ap (λ ms. leaves ms (quiet (parties_of cfg r l)))
            (sym (map-append (message_of cfg) (flight r l) (to_list (get_elem? (flight r l) i))
            ∙ ap (λ x. messages_of cfg (flight r l) ++ x) (map_at (message_of cfg) (flight r l) i)));
        after = sym (append-nil (flight r l ++ to_list (get_elem? (flight r l) i)));
      }

module _ (p : Part) (a : Call) (messages : List ℕ) (x : Change) where
  pub lose_missing : x ≡ refusing Refusal.Missing p → p.count ≤ a.position → LosePost p a messages x messages
  unfolding questions_to11 write_fits
  lose_missing refuses past cfg m board read stores boards elements e =
      refused_on Refusal.Missing refuses (missing cfg m p a board read (lent messages stores boards elements) lose (is_lose a e) refl past (λ r. refl))

  pub lost : (n : ℕ) (messages' : List ℕ) → x ≡ counting n p → a.position < p.count → RemovePost p.count a.position messages n messages'
      → LosePost p a messages x messages'
  unfolding quiet
  lost n messages' counts inside post cfg m board read stores boards elements e =
      let l = lent messages stores boards elements in
      acted_on (record { answer = Answer.Nothing; pair = p.pair; sent = 0 }) n read (lent messages' stores boards elements) counts
      (λ r ready.
      let there : a.position < r.count = subst (λ k. a.position < k) (sym ready.part.count) inside in
      acted_yes ready (quiet_act cfg p.pair (parts_of cfg p l) read) (back_same cfg p l messages') n refl (lose_moves cfg r l a board there e)
      (omega (arith, remove_count post inside (count_fits ready), count_below ready))
      (remove_long post)
      (remove_records post (count_fits ready)
      ∙ ap (λ k. without a.position (records k messages)) (sym ready.part.count)
      ∙ sym (append-nil (without a.position (flight r l))))
      (λ none_named. absurd (false≢true (unfold names_board in sym none_named))))

  module _ (m : ℕ) where
    pub double_missing : x ≡ refusing Refusal.Missing p → p.count ≤ a.position → DoublePost m p a messages x messages
    unfolding questions_to11 write_fits
    double_missing refuses past cfg board read stores boards elements e =
        refused_on Refusal.Missing refuses (missing cfg m p a board read (lent messages stores boards elements) double (is_double a e) refl past (λ r. refl))

    -- there would be one more
    one_more : (r : Rig) (l : Lent) → a.position < r.count
        → length (flight r l ++ to_list (get_elem? (flight r l) a.position)) ≡ r.count + 1
    one_more r l there =
        length-append (flight r l) (to_list (get_elem? (flight r l) a.position))
        ∙ ap₂ ◌+◌ (length_records r.count l.messages)
        (length_at (flight r l) a.position (omega (arith, there, length_records r.count l.messages)))

    -- 13
    pub double_full : x ≡ refusing Refusal.Full p → a.position < p.count → m ≤ p.count → DoublePost m p a messages x messages
    unfolding quiet
    double_full refuses inside full cfg board read stores boards elements e =
        let l = lent messages stores boards elements in
        refused_on Refusal.Full refuses
        (λ r ready.
        let there : a.position < r.count = subst (λ k. a.position < k) (sym ready.part.count) inside in
        full-no ready (double_moves cfg r l a board there e) (omega (arith, one_more r l there, full, ready.part.count)))

    pub twice : (n : ℕ) (messages' : List ℕ) → x ≡ counting n p → a.position < p.count → p.count < m
        → flights.DoublePost p.count a.position messages n messages' → DoublePost m p a messages x messages'
    unfolding quiet
    twice n messages' counts inside room post cfg board read stores boards elements e =
        let l = lent messages stores boards elements in
        acted_on (record { answer = Answer.Nothing; pair = p.pair; sent = 0 }) n read (lent messages' stores boards elements) counts
        (λ r ready.
        let there : a.position < r.count = subst (λ k. a.position < k) (sym ready.part.count) inside in
        let fits : 80 * (p.count + 1) ≤ length messages = omega (arith, room, messages_long ready) in
        acted_yes ready (quiet_act cfg p.pair (parts_of cfg p l) read) (back_same cfg p l messages') n refl (double_moves cfg r l a board there e)
        (omega (arith, double_count post inside fits, room))
        (double_long post)
        (double_records post fits
        ∙ ap (λ k. records k messages ++ to_list (get_elem? (records k messages) a.position)) (sym ready.part.count)
        ∙ sym (append-nil (flight r l ++ to_list (get_elem? (flight r l) a.position))))
        (λ none_named. absurd (false≢true (unfold names_board in sym none_named))))
