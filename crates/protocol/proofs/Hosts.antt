-- Demand 3 for hosts, over the model: the history of the clients' calls has an order that fits. What is in flight is all that was ever sent, and a step
-- takes nothing out of it.
use mathlib.Core.Path.{refl, subst}
use mathlib.Core.Option.{none, some}
use mathlib.Core.List.{List}
use Rattle.record.specs.Message.{Message}
use Rattle.protocol.specs.Board.{Event}
use Rattle.protocol.specs.Parties.{Parties, client_acts, server_acts}
use Rattle.protocol.specs.Rig.{code_of, fresh_rig, handOver, leaves}
use Rattle.protocol.specs.Hosts.{Hosted, call_by, fresh, refuses, serves, writes, reads, stepped, steps}
use Rattle.protocol.proofs.Basics.{none≢some, some-injective}
use Rattle.protocol.proofs.World.{Setting}
use Rattle.protocol.proofs.ServerMove.{server_good}
use Rattle.protocol.proofs.Settle.{client_good}
use Rattle.protocol.proofs.Move.{Invariant, begin_asked, begun_invariant, code_number, fresh_invariant, refused_invariant, turned}

module _ (S : Setting) where
  open S use {Value, Element, cfg, key, encode, decode, IsBoard, start}

  abbrev Holds : Parties Value Element → List (Message Element) → List (Event Value) → Type 0
  Holds p sent events = Invariant S (record { parties = p; in_flight = sent }) events

  pub hosted_invariant : {p : Parties Value Element} {sent : List (Message Element)} {events : List (Event Value)} → Hosted key encode decode cfg IsBoard start p sent events → Holds p sent events
  unfolding leaves server_acts fresh_rig code_of code_number client_acts
  hosted_invariant fresh = fresh_invariant S
  hosted_invariant (refuses runs a number) = refused_invariant S _ _ (hosted_invariant runs) a number
  hosted_invariant (serves {p} {sent} {events} runs m i) =
      let a = hosted_invariant runs in
      record { ghost = a.ghost; good = server_good S a.good m (a.good.messages m i); recorded = a.recorded }
  hosted_invariant (writes {p} {sent} {events} runs c v asked board) =
      let yes_both = begin_asked S p c asked in
      begun_invariant S (record { parties = p; in_flight = sent }) events (hosted_invariant runs) (call_by 1 c v) (some v) (refl, refl) (λ w e. subst IsBoard (some-injective e) board) yes_both.0 yes_both.1
  hosted_invariant (reads {p} {sent} {events} runs c v asked) =
      let yes_both = begin_asked S p c asked in
      begun_invariant S (record { parties = p; in_flight = sent }) events (hosted_invariant runs) (call_by 2 c v) none refl (λ w e. absurd (none≢some e)) yes_both.0 yes_both.1
  hosted_invariant (steps {p} {sent} {events} runs m i v) =
      let a = hosted_invariant runs in
      turned S a (call_by 3 m.client v) handOver refl refl refl sent (stepped key encode decode cfg p m)
      (client_good S a.good m (a.good.messages m i))
