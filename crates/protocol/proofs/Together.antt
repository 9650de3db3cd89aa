-- "a party is down on all boards or none": every event of a network leaves it so, and each message with its board beside it.
use Prim.Native.Nat.{ℕ, ◌+◌}
use mathlib.Core.Path.{◌≡◌, refl, sym, ap, subst, ◌∙◌}
use mathlib.Core.Bool.{Bool, true, false, cond, false≢true}
use mathlib.Core.Option.{Option, none, some}
use mathlib.Core.List.{List}
use native.Mathlib.Omega.{arith}
use native.Mathlib.Decide.{ℕ_discrete}
use lib.Dec.{eqb, ltb}
use lib.ListN.{length, get_elem?}
use Rattle.config.specs.declared.Config.{Config}
use Rattle.config.specs.declared.Room.{Room}
use Rattle.config.specs.Questions.{first_no, within}
use Rattle.config.proofs.Questions.{yes_next}
use Rattle.tag.specs.declared.Tag.{Tag}
use Rattle.record.specs.Kinds.{is_for_server}
use Rattle.record.specs.Message.{Message}
use Rattle.protocol.specs.Number.{upd}
use Rattle.protocol.specs.Client.{Client, Moved, Phase, asked, asking, ask_again, awaited, awaits, begin_client, begin_questions, client_step, counted, counting, down, end_read, ends, enough, enough_to_read, finalising_read, finalising_write, idle, is_cleared, is_up, highest_number, next_tag, pre_writing, receives, send_pre_writes, send_queries, send_read_finalises, send_write_finalises, settle, settling, spent, stays}
use Rattle.protocol.specs.Board.{Call}
use Rattle.protocol.specs.Parties as parties
use Rattle.protocol.specs.Parties.{Acted, Parties, begin, client_acts, deliver, fresh_parties, questions_to_begin, quiet, server_acts, with_client, with_server}
use Rattle.protocol.specs.Rig as rig
use Rattle.protocol.specs.Rig.{Code, Rig, begin_write, begin_read, crash_client, crash_server, deliver_at, double, handOver, leaves, lose, questions_to11, restart_server}
use Rattle.protocol.specs.Network.{Network, asked_board, fresh_network, names_board, network_move, network_to11, no_parties, rig_of}
use Rattle.protocol.proofs.Basics.{cond_elim, upd_elim}
use Rattle.protocol.proofs.Judged.{awaits_it}
use Rattle.protocol.proofs.NetworkMoves.{every_elim, every_flight, every_move, every_owners, lengths_stay, other_stays, own_move}

module _ {Value Element : Type 0} where
  -- who is up
  abbrev pub alive : Parties Value Element → ℕ → Bool
  alive p c = is_up (p.clients c).phase

  -- the same parties are up
  pub record SameUp (p q : Parties Value Element) : Type 0 where
    pub servers : (s : ℕ) → p.up s ≡ q.up s
    pub clients : (c : ℕ) → alive p c ≡ alive q c

  same_sym : {p q : Parties Value Element} → SameUp p q → SameUp q p
  same_sym h = record { servers = λ s. sym (h.servers s); clients = λ c. sym (h.clients c) }

  same_trans : {p q r : Parties Value Element} → SameUp p q → SameUp q r → SameUp p r
  same_trans h k = record { servers = λ s. h.servers s ∙ k.servers s; clients = λ c. h.clients c ∙ k.clients c }

  -- each message has its board beside it, and the same parties are up on each board that there is
  pub record Together (room : Room) (n : Network Value Element) : Type 0 where
    pub lengths : length n.owners ≡ length n.in_flight
    pub up : (b c : ℕ) → within 1 room.boards b ≡ true → within 1 room.boards c ≡ true → SameUp (n.parties b) (n.parties c)

-- ---- a board's own events leave a party up or down

module _ {Value Element : Type 0} (key : Tag → ℕ) (encode : Value → ℕ → Element) (decode : List (ℕ × Element) → Value) (cfg : Config) where
  abbrev Alive : Moved Value Element → Type 0
  Alive x = is_up x.client.phase ≡ true

  asked_alive : (c o : ℕ) (board : Option Value) (t : Tag) → Alive (asked encode cfg c o board t)
  unfolding asked send_read_finalises send_pre_writes ends is_up
  asked_alive c o none t = refl
  asked_alive c o (some v) t = cond_elim Alive (ltb t.number highest_number) (send_pre_writes encode cfg c o v (next_tag t c)) (ends o spent) (λ _. refl) (λ _. refl)

  again_alive : (c o : ℕ) → Alive (ask_again cfg c o)
  unfolding ask_again ends is_up
  again_alive c o = cond_elim Alive (ltb o highest_number) (send_queries cfg c (o + 1) none) (ends o spent) (λ _. refl) (λ _. refl)

  settled_alive : (c o : ℕ) (p : Phase Value Element) → is_up p ≡ true → Alive (settling encode decode cfg c o p)
  unfolding settling stays ends end_read send_write_finalises is_up
  settled_alive c o idle h = refl
  settled_alive c o (asking b t cs) h = cond_elim Alive (enough cfg cs) _ _ (λ _. asked_alive c o b t) (λ _. refl)
  settled_alive c o (pre_writing t cs) h = cond_elim Alive (enough cfg cs) _ _ (λ _. refl) (λ _. refl)
  settled_alive c o (finalising_write t cs) h = cond_elim Alive (enough cfg cs) _ _ (λ _. refl) (λ _. refl)
  settled_alive c o (finalising_read t cs es) h = cond_elim Alive (enough_to_read cfg cs es) _ _ (λ _. refl) (λ _. refl)
  settled_alive c o down h = absurd (false≢true h)

  counting_up : (p : Phase Value Element) (m : Message Element) → is_up (counting key p m) ≡ is_up p
  unfolding counting is_up
  counting_up idle m = refl
  counting_up (asking b t cs) m = refl
  counting_up (pre_writing t cs) m = refl
  counting_up (finalising_write t cs) m = refl
  counting_up (finalising_read t cs es) m = refl
  counting_up down m = refl

  -- a client that is down awaits nothing
  awaits_up : (p : Phase Value Element) (m : Message Element) → awaits key p m ≡ true → is_up p ≡ true
  unfolding awaits is_up
  awaits_up idle m h = refl
  awaits_up (asking b t cs) m h = refl
  awaits_up (pre_writing t cs) m h = refl
  awaits_up (finalising_write t cs) m h = refl
  awaits_up (finalising_read t cs es) m h = refl
  awaits_up down m h = h

  step_alive : (c : ℕ) (x : Client Value Element) (m : Message Element) → is_up (client_step key encode decode cfg c x m).client.phase ≡ is_up x.phase
  unfolding client_step receives settle counted stays
  step_alive c x m =
      cond_elim (λ (z : Moved Value Element). is_up z.client.phase ≡ is_up x.phase) (awaited key x m) (receives key encode decode cfg c x m) (stays x)
      (λ a.
      let u = awaits_up x.phase m (awaits_it key m x a) in
      cond_elim Alive (is_cleared m.kind) (ask_again cfg c x.operation) (settling encode decode cfg c x.operation (counting key x.phase m))
      (λ _. again_alive c x.operation)
      (λ _. settled_alive c x.operation (counting key x.phase m) (counting_up x.phase m ∙ u))
      ∙ sym u)
      (λ _. refl)

  module _ (p : Parties Value Element) where
    quiet_up : SameUp (quiet p).parties p
    unfolding quiet
    quiet_up = record { servers = λ s. refl; clients = λ c. refl }

    client_acts_up : (c : ℕ) (x : Moved Value Element) → is_up x.client.phase ≡ alive p c → SameUp (client_acts p c x).parties p
    unfolding client_acts with_client
    client_acts_up c x h =
        record {
          servers = λ s. refl;
          clients = λ d.
              upd_elim (λ (y : Client Value Element). is_up y.phase ≡ alive p d) p.clients c x.client d (λ e. h ∙ ap (alive p) (sym e)) (λ _. refl);
        }

    deliver_up : (m : Message Element) → SameUp (deliver key encode decode cfg p m).parties p
    unfolding deliver server_acts with_server
    deliver_up m =
        cond_elim (λ (z : Acted Value Element). SameUp z.parties p) (is_for_server m.kind) _ _
        (λ _.
        cond_elim (λ (z : Acted Value Element). SameUp z.parties p) (p.up m.server) _ _ (λ _. record { servers = λ s. refl; clients = λ c. refl })
        (λ _. quiet_up))
        (λ _. client_acts_up m.client _ (step_alive m.client (p.clients m.client) m))

    deliver_at_up : (o : Option (Message Element)) → SameUp (deliver_at key encode decode cfg p o).parties p
    unfolding deliver_at
    deliver_at_up none = quiet_up
    deliver_at_up (some m) = deliver_up m

    begin_up : (c : ℕ) (board : Option Value) → first_no (questions_to_begin cfg p c) ≡ 0 → SameUp (begin cfg p c board).parties p
    unfolding begin begin_client questions_to_begin begin_questions is_up
    begin_up c board h =
        let eight = yes_next 8 (within 1 cfg.c c) _ (omega arith) h in
        let nine = yes_next 9 (alive p c) _ (omega arith) eight.1 in
        client_acts_up c _ (sym nine.0)

  -- events 1 to 5 of a board
  move_up : (r : Rig Value Element) (a : Call Value) (w : Code) → names_board (some w) ≡ true → first_no (questions_to11 cfg r a w) ≡ 0
      → SameUp (rig.move key encode decode cfg r a w).rig.parties r.parties
  unfolding rig.move leaves questions_to11 names_board
  move_up r a begin_write named h = begin_up r.parties a.party (some a.board) h
  move_up r a begin_read named h = begin_up r.parties a.party none h
  move_up r a handOver named h = deliver_at_up r.parties (get_elem? r.in_flight a.position)
  move_up r a lose named h = quiet_up r.parties
  move_up r a double named h = quiet_up r.parties
  move_up r a crash_server named h = absurd (false≢true named)
  move_up r a crash_client named h = absurd (false≢true named)
  move_up r a restart_server named h = absurd (false≢true named)

  -- a crash, or a restart, on two boards
  every_up : (r q : Rig Value Element) (a : Call Value) → SameUp r.parties q.parties → (w : Code) → names_board (some w) ≡ false
      → SameUp (rig.move key encode decode cfg r a w).rig.parties (rig.move key encode decode cfg q a w).rig.parties
  unfolding rig.move leaves parties.crash_server parties.crash_client parties.restart_server quiet with_client upd
  every_up r q a same =
      every_elim (λ w. SameUp (rig.move key encode decode cfg r a w).rig.parties (rig.move key encode decode cfg q a w).rig.parties)
      (record { servers = λ s. ap (cond (eqb s a.party) false) (same.servers s); clients = same.clients })
      (record { servers = same.servers; clients = λ c. by (eqb c a.party) c })
      (record { servers = λ s. ap (cond (eqb s a.party) true) (same.servers s); clients = same.clients })
    where
      by : (t : Bool) (c : ℕ)
          → is_up (cond t (record { operation = (r.parties.clients a.party).operation; phase = down }) (r.parties.clients c)).phase
          ≡ is_up (cond t (record { operation = (q.parties.clients a.party).operation; phase = down }) (q.parties.clients c)).phase
      by true c = refl
      by false c = same.clients c

  -- ---- every event of a network

  module _ (room : Room) where
    fresh_up : (starts : ℕ → Value) (b : ℕ) → SameUp ((fresh_network cfg room encode starts).parties b) no_parties
    unfolding fresh_network fresh_parties no_parties
    fresh_up starts b =
        cond_elim (λ p. SameUp p no_parties) (within 1 room.boards b) (fresh_parties cfg encode (starts b)) no_parties
        (λ _. record { servers = λ s. refl; clients = λ c. refl })
        (λ _. record { servers = λ s. refl; clients = λ c. refl })

    pub fresh_together : (starts : ℕ → Value) → Together room (fresh_network cfg room encode starts)
    fresh_together starts =
        record { lengths = unfold fresh_network in refl; up = λ b c _ _. same_trans (fresh_up starts b) (same_sym (fresh_up starts c)) }

    module _ (n : Network Value Element) (together : Together room n) (b : ℕ) (a : Call Value) (w : Code) where
      abbrev after : Network Value Element
      after = (network_move key encode decode cfg room n b a w).network

      -- on each board the same parties are up as before an event that names a board
      named_up : names_board (some w) ≡ true → first_no (questions_to11 cfg (rig_of b n) a w) ≡ 0 → (o : ℕ) → SameUp (after.parties o) (n.parties o)
      unfolding rig_of
      named_up named h o = elim (ℕ_discrete o b) as (λ _. SameUp (after.parties o) (n.parties o)) [
        | yes e ↦
            subst (λ z. SameUp (after.parties z) (n.parties z)) (sym e)
            (subst (λ (r : Rig Value Element). SameUp r.parties (n.parties b)) (sym (own_move key encode decode cfg room n together.lengths b a w named))
            (move_up (rig_of b n) a w named h))
        | no other ↦
            subst (λ (r : Rig Value Element). SameUp r.parties (n.parties o)) (sym (other_stays key encode decode cfg room n together.lengths b a w named o other))
            (record { servers = λ s. refl; clients = λ c. refl })
      ]

      every_together : names_board (some w) ≡ false → (o c : ℕ) → within 1 room.boards o ≡ true → within 1 room.boards c ≡ true
          → SameUp (after.parties o) (after.parties c)
      unfolding rig_of
      every_together everywhere o c eo ec =
          subst (λ (r : Rig Value Element). SameUp r.parties (after.parties c)) (sym (every_move key encode decode cfg room n b a o eo w everywhere))
          (subst (λ (r : Rig Value Element). SameUp (rig.move key encode decode cfg (rig_of o n) a w).rig.parties r.parties) (sym (every_move key encode decode cfg room n b a c ec w everywhere))
          (every_up (rig_of o n) (rig_of c n) a (together.up o c eo ec) w everywhere))

      pub move_together : first_no (network_to11 cfg n b a w) ≡ 0 → Together room after
      unfolding network_to11 asked_board
      move_together h = by (names_board (some w)) refl h
        where
          by : (named : Bool) → names_board (some w) ≡ named → first_no (questions_to11 cfg (rig_of (cond named b 1) n) a w) ≡ 0 → Together room after
          by true e asked =
              record {
                lengths = lengths_stay key encode decode cfg room n together.lengths b a w e;
                up = λ o c eo ec. same_trans (named_up e asked o) (same_trans (together.up o c eo ec) (same_sym (named_up e asked c)));
              }
          by false e asked =
              record {
                lengths =
                    ap length (every_owners key encode decode cfg room n b a w e) ∙ together.lengths
                    ∙ sym (ap length (every_flight key encode decode cfg room n b a w e));
                up = every_together e;
              }
