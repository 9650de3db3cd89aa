-- A part whose questions are all answered yes is a part of some rig whose parties pass question 6: with fresh parties in the other places. So
-- what `ChangePost` says of every such rig is said of one. Assumes nothing.
use Prim.Native.Nat.{ℕ, zero, suc, ◌+◌, ◌<◌}
use mathlib.Core.Path.{◌≡◌, refl, ap, ap₂, ◌∙◌}
use mathlib.Core.Bool.{true, ◌&&◌}
use mathlib.Core.Option.{some}
use mathlib.Core.List.{List, []}
use native.Mathlib.Omega.{arith}
use borrow.Author.Tests.{eq-eqb, leb-true, le-leb}
use lib.Dec.{leb}
use lib.ListN.{length, get_elem?}
use Rattle.laws.proofs.Bools.{and_left, and_right}
use Rattle.laws.proofs.Lists.{at_set}
use Rattle.config.specs.declared.Config.{Config}
use Rattle.config.specs.Config.{Valid, board_length, rig_questions}
use Rattle.config.proofs.Questions.{last_all, last_yes, rig_questions_numbered, within_true}
use Rattle.record.specs.Element.{element_with}
use Rattle.server.specs.Calls as server
use Rattle.server.specs.View as serverView
use Rattle.server.specs.View.{each}
use Rattle.protocol.specs.Server.{fresh_server}
use Rattle.events.specs.declared.Call.{Call}
use Rattle.events.specs.declared.Part.{Part}
use Rattle.events.specs.declared.Rig.{Rig}
use Rattle.events.specs.View.{Lent}
use Rattle.parties.specs.Within.{client_in_place, server_in_place}
use Rattle.events.specs.Questions.{all_sized, has_places, part_questions, part_within, places_of, rig_within}
use Rattle.events.specs.Calls.{PartOf, part_no, with_part}
use Rattle.parties.specs.Fresh.{fresh_node, fresh_state}
use Rattle.laws.proofs.Below.{below_all}
use Rattle.events.proofs.Entry.{client_low, lent_valid, server_low}
use Rattle.parties.proofs.Making.{client_within, node_within}
use Rattle.events.proofs.RigWithin.{part-within}

each_at : {A : Type 0} (f : ℕ → A) (i n j : ℕ) → j < n → get_elem? (each f i n) j ≡ some (f (i + j))
unfolding each
each_at f i zero j h = absurd (omega (arith, h))
each_at f i (suc n) zero h = let e : i ≡ i + 0 = omega arith in ap (λ k. some (f k)) e
each_at f i (suc n) (suc j) h =
    let e : suc i + j ≡ i + suc j = omega arith in
    each_at f (suc i) n j (omega (arith, h)) ∙ ap (λ k. some (f k)) e

each_length : {A : Type 0} (f : ℕ → A) (i n : ℕ) → length (each f i n) ≡ n
unfolding each
each_length f i zero = refl
each_length f i (suc n) = ap suc (each_length f (suc i) n)

-- fresh parties in all places
abbrev pub others : Config → Rig
others cfg = record { servers = each (λ i. fresh_node (board_length cfg) (i + 1)) 0 16; clients = each (λ i. fresh_state (i + 1)) 0 16; count = 0 }

module _ (cfg : Config) (valid : Valid cfg) where
  server-at : (i : ℕ) → i < cfg.n → server_in_place cfg i (get_elem? (others cfg).servers i) ≡ true
  unfolding server_in_place serverView.view each fresh_server server.fresh_state
  server-at i h =
      let e : 0 + i ≡ i = omega arith in
      ap (server_in_place cfg i) (each_at (λ j. fresh_node (board_length cfg) (j + 1)) 0 16 i (omega (arith, h, valid.n_high)))
      ∙ ap (λ k. server_in_place cfg i (some (fresh_node (board_length cfg) (k + 1)))) e
      ∙ ap₂ ◌&&◌ (eq-eqb (i + 1) (i + 1) refl)
      (node_within cfg (i + 1) [] (element_with (board_length cfg) (serverView.element_at cfg [] 0)) (omega arith) (within_true 1 cfg.n (i + 1) (omega arith) (omega (arith, h))) refl)

  client-at : (i : ℕ) → i < cfg.c → client_in_place cfg i (get_elem? (others cfg).clients i) ≡ true
  unfolding client_in_place
  client-at i h =
      let e : 0 + i ≡ i = omega arith in
      ap (client_in_place cfg i) (each_at (λ j. fresh_state (j + 1)) 0 16 i (omega (arith, h, valid.c_high)))
      ∙ ap (λ k. client_in_place cfg i (some (fresh_state (k + 1)))) e
      ∙ ap₂ ◌&&◌ (eq-eqb (i + 1) (i + 1) refl) (client_within cfg (i + 1) valid (within_true 1 cfg.c (i + 1) (omega arith) (omega (arith, h))))

  others_within : (m : ℕ) → rig_within cfg m (others cfg) ≡ true
  unfolding rig_within
  others_within m =
      ap₂ ◌&&◌ (le-leb 0 m (omega arith))
      (ap₂ ◌&&◌ (below_all cfg.n (λ i. server_in_place cfg i (get_elem? (others cfg).servers i)) server-at)
      (below_all cfg.c (λ i. client_in_place cfg i (get_elem? (others cfg).clients i)) client-at))

pub some_rig : (cfg : Config) (m : ℕ) (p : Part) (a : Call) (board read : List ℕ) (l : Lent) → part_no cfg m p a board read l ≡ 0
    → PartOf (with_part (others cfg) p) p × (rig_within cfg m (with_part (others cfg) p) ≡ true)
unfolding part_questions part_within
some_rig cfg m p a board read l e =
    let long = all_sized cfg m board read l in
    let few = leb p.count m in
    let its = has_places p (places_of cfg p.count a l.messages) in
    let all = last_all (rig_questions cfg m) 6 (long && few && its && part_within cfg p) (rig_questions_numbered cfg m) (omega arith) e in
    let six = all.1 in
    let three : (long && few && its) ≡ true = and_left (long && few && its) (part_within cfg p) six in
    let two : (long && few) ≡ true = and_left (long && few) its three in
    let own : its ≡ true = and_right (long && few) its three in
    let pair : part_within cfg p ≡ true = and_right (long && few && its) (part_within cfg p) six in
    let passed = last_yes (rig_questions cfg m) 6 (long && few) (rig_questions_numbered cfg m) all.0 two in
    let valid = lent_valid cfg m p a board read l passed in
    let server = server_low cfg m p a board read l passed own in
    let client = client_low cfg m p a board read l passed own in
    let nodes = each_length (λ i. fresh_node (board_length cfg) (i + 1)) 0 16 in
    let states = each_length (λ i. fresh_state (i + 1)) 0 16 in (
      record {
        node = at_set (others cfg).servers p.server p.pair.node (omega (arith, server, valid.n_high, nodes));
        client = at_set (others cfg).clients p.client p.pair.client (omega (arith, client, valid.c_high, states));
        count = refl;
      },
      part-within cfg m (others cfg) (others_within cfg valid m) p (leb-true p.count m (and_right long few two)) server client
          (and_left (server_in_place cfg p.server (some p.pair.node)) (client_in_place cfg p.client (some p.pair.client)) pair)
          (and_right (server_in_place cfg p.server (some p.pair.node)) (client_in_place cfg p.client (some p.pair.client)) pair),
    )
