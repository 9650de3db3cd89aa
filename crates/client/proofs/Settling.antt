-- The second half of a client's step: what the code is to do next is what the protocol does, and what it does is that. Assumes nothing.
use mathlib.Core.Path.{◌≡◌, refl, sym, ap, ap₂, ◌∙◌, subst, fun_ext}
use mathlib.Core.Bool.{Bool, true, false, cond, ◌&&◌}
use mathlib.Core.Option.{none, some}
use mathlib.Core.List.{List}
use Prim.Native.Nat.{ℕ, ◌+◌}
use native.Mathlib.Omega.{arith}
use borrow.Author.Tests.{leb-true, ne_eqb}
use lib.Dec.{leb, ltb}
use lib.ListN.{length, get_or}
use lib.Pow.{pow_pos}
use Rattle.laws.proofs.Below.{below_all}
use Rattle.laws.proofs.Bools.{and_right}
use Rattle.config.specs.declared.Config.{Config}
use Rattle.config.specs.Config.{board_length}
use Rattle.config.specs.Number.{client_number}
use Rattle.tag.specs.declared.Tag.{Tag}
use Rattle.tag.specs.Tag.{allowed}
use Rattle.protocol.specs.Boards.{BoardEnded, BoardMoved, BoardPhase, cut, decode, encode}
use Rattle.protocol.specs.Client as protocol
use Rattle.protocol.specs.Number.{count, nobody, nothing_yet}
use Rattle.protocol.proofs.Basics.{cond_elim, length_to_each}
use Rattle.client.specs.declared.Ended.{Ended}
use Rattle.client.specs.declared.Ended.TheVariants.{Nothing, Written, Spent, Read}
use Rattle.client.specs.declared.Moved.{Moved}
use Rattle.client.specs.declared.next.Move.{Move}
use Rattle.client.specs.declared.next.Move.TheVariants.{Waits, Begins, Ends, Shows}
use Rattle.client.specs.declared.Phase.{Phase}
use Rattle.client.specs.declared.Phase.TheVariants.{Idle, Asking, PreWriting, FinalisingWrite, FinalisingRead, Down}
use Rattle.client.specs.declared.State.{State}
use Rattle.client.specs.Calls.{ended_of, in_phase, shown}
use Rattle.client.specs.Quorum.{OwnTag}
use Rattle.client.specs.Send.{records_of}
use Rattle.client.specs.Servers.{member, sent_by, within_servers}
use Rattle.client.specs.State.{Lent, Slots, lengths_within, phase_of, phase_within, received, slot_at, slots, state_within, tag_within, to_write, view}
use Rattle.client.specs.inner.Gather.{ShowPost, ShowPre, board_shown}
use Rattle.client.specs.inner.Next.{after_of, asked_of, is_enough, next_of}
use Rattle.client.specs.inner.Outcome.{accepted_of}
use Rattle.client.specs.inner.Send.{AnnouncePost, AnnouncePre, Opens, broadcast, opening_of}
use Rattle.client.specs.inner.Settle.{Moves, SettlePre, settle_of}
use Rattle.client.proofs.Gathering.{length_present}
use Rattle.client.proofs.Onward.{enough_in, onward, settling_is}
use Rattle.client.proofs.Phases.{all_in, lengths-in, phase_in, self_in, tag_in, tag-within}
use Rattle.client.proofs.Sets.{member_zero, within_true}

-- ---- empty sets

pub nobody_within : (n : ℕ) → within_servers n 0 ≡ true
nobody_within n = within_true n 0 refl (pow_pos (n + 1))

nothing_received : (cfg : Config) (es : Slots) → received cfg es 0 ≡ nothing_yet
unfolding received sent_by
nothing_received cfg es = fun_ext (λ s. rw (ap (λ (f : ℕ → Bool). f s) member_zero))

-- ---- what the code is to do, as a move of the protocol

-- a phase begins
abbrev pub opens : Config → State → List ℕ → List ℕ → BoardMoved
opens cfg x kept es =
    record {
      client = view cfg x kept es;
      sends = broadcast cfg (opening_of x x.phase) (cut x.length kept);
      ended = protocol.nothing;
    }

-- how an operation ends that is no read
abbrev pub end_of : Ended → BoardEnded
end_of Nothing = protocol.nothing
end_of (Written t) = protocol.written t
end_of Spent = protocol.spent
end_of (Read t length) = protocol.nothing

abbrev pub move_of : Config → State → List ℕ → List ℕ → Move → BoardMoved
move_of cfg x kept es Waits = protocol.stays (view cfg x kept es)
move_of cfg x kept es (Begins phase) = opens cfg (in_phase x phase) kept es
move_of cfg x kept es (Ends how) = protocol.ends x.operation (end_of how)
move_of cfg x kept es (Shows t sent) = protocol.ends x.operation (protocol.read t (board_shown cfg (slots x es) sent))

module _ (cfg : Config) (x : State) (kept es : List ℕ) where
  abbrev c : ℕ
  c = client_number x.me

  -- the phase as it is seen
  abbrev seen_as : Phase → BoardPhase
  seen_as p = phase_of cfg p (to_write x kept) (slots x es)

  -- a phase begins with nobody counted
  begins : (q : Phase) (later : BoardPhase) → seen_as q ≡ later
      → record { client = record { operation = x.operation; phase = later }; sends = broadcast cfg (opening_of (in_phase x q) q) (cut x.length kept); ended = protocol.nothing }
      ≡ opens cfg (in_phase x q) kept es
  unfolding view
  begins q later e =
      ap (λ (p : BoardPhase). record { client = record { operation = x.operation; phase = p }; sends = broadcast cfg (opening_of (in_phase x q) q) (cut x.length kept); ended = protocol.nothing })
      (sym e)

  asked_is : (p : Phase) (writes : Bool) (best : Tag)
      → protocol.asked (encode cfg) cfg c x.operation (cond writes (some (to_write x kept)) none) best ≡ move_of cfg (in_phase x p) kept es (asked_of x.me writes best)
  unfolding protocol.asked protocol.send_read_finalises protocol.send_pre_writes protocol.send_each asked_of phase_of opening_of
  asked_is p false best =
      begins (FinalisingRead best 0 0) (protocol.finalising_read best nobody nothing_yet) (ap₂ (protocol.finalising_read best) member_zero (nothing_received cfg (slots x es)))
  asked_is p true best = go (ltb best.number protocol.highest_number)
    where
      t : Tag
      t = protocol.next_tag best c

      go : (b : Bool) → cond b (protocol.send_pre_writes (encode cfg) cfg c x.operation (to_write x kept) t) (protocol.ends x.operation protocol.spent)
          ≡ move_of cfg (in_phase x p) kept es (cond b (Begins (PreWriting t 0)) (Ends Spent))
      go true = begins (PreWriting t 0) (protocol.pre_writing t nobody) (ap (protocol.pre_writing t) member_zero)
      go false = refl

  -- with enough answers
  enough_is : (p : Phase) → enough_in (encode cfg) (decode cfg) cfg c x.operation (seen_as p) ≡ is_enough cfg p
  unfolding protocol.enough_to_read is_enough phase_of received
  enough_is Idle = refl
  enough_is (Asking writes best counted) = refl
  enough_is (PreWriting tag counted) = refl
  enough_is (FinalisingWrite tag counted) = refl
  enough_is (FinalisingRead tag counted sent) =
      ap (λ (n : ℕ). protocol.enough cfg (member counted) && leb cfg.k n) (length_present (slot_at cfg (slots x es)) sent cfg.n)
  enough_is Down = refl

  after_is : (p : Phase) → onward (encode cfg) (decode cfg) cfg c x.operation (seen_as p) ≡ move_of cfg (in_phase x p) kept es (after_of x.me p)
  unfolding protocol.send_write_finalises protocol.send_each protocol.end_read after_of view phase_of opening_of
  after_is Idle = refl
  after_is (Asking writes best counted) = asked_is (Asking writes best counted) writes best
  after_is (PreWriting tag counted) = begins (FinalisingWrite tag 0) (protocol.finalising_write tag nobody) (ap (protocol.finalising_write tag) member_zero)
  after_is (FinalisingWrite tag counted) = refl
  after_is (FinalisingRead tag counted sent) = refl
  after_is Down = refl

  next_is : (p : Phase) → protocol.settling (encode cfg) (decode cfg) cfg c x.operation (seen_as p) ≡ move_of cfg (in_phase x p) kept es (next_of cfg x.me p)
  unfolding view
  next_is p =
      settling_is (encode cfg) (decode cfg) cfg c x.operation (seen_as p)
      ∙ ap₂ (λ (b : Bool) (m : BoardMoved). cond b m (protocol.stays (view cfg (in_phase x p) kept es))) (enough_is p) (after_is p) ∙ go (is_enough cfg p)
    where
      go : (b : Bool) → cond b (move_of cfg (in_phase x p) kept es (after_of x.me p)) (protocol.stays (view cfg (in_phase x p) kept es))
          ≡ move_of cfg (in_phase x p) kept es (cond b (after_of x.me p) Waits)
      go true = refl
      go false = refl

  pub settle_is : protocol.settle (encode cfg) (decode cfg) cfg c (view cfg x kept es) ≡ move_of cfg x kept es (next_of cfg x.me x.phase)
  unfolding protocol.settle view
  settle_is = next_is x.phase

-- ---- what it asks is given

-- it is the end of no read
abbrev IsEnd : Ended → Type 0
IsEnd Nothing = Unit {0}
IsEnd (Written t) = Unit {0}
IsEnd Spent = Unit {0}
IsEnd (Read t length) = ⊥

module _ (cfg : Config) (x : State) (l : Lent) (ok : SettlePre cfg x l) where
  -- by what is to be done: a phase that may begin, or a board that may be shown
  abbrev pub Ready : Move → Type 0
  Ready Waits = Unit {0}
  Ready (Begins phase) = AnnouncePre cfg (in_phase x phase) l.kept l.sends
  Ready (Ends how) = IsEnd how
  Ready (Shows t sent) = ShowPre cfg sent l.elements l.board

  later : (q : Phase) → phase_within cfg q ≡ true → lengths_within cfg q x.length x.lengths ≡ true → OwnTag x.me q
      → Opens cfg q x.length l.kept → Ready (Begins q)
  later q w lengths own opens =
      record {
        valid = ok.valid;
        within = all_in cfg (in_phase x q) (self_in cfg x ok.within) w lengths;
        operation = ok.operation;
        own = own;
        opens = opens;
        room = ok.sends-length;
      }

  nobody_sent : lengths_within cfg (FinalisingRead (record { number = 0; client = 0 }) 0 0) x.length x.lengths ≡ true
  unfolding lengths_within
  nobody_sent =
      below_all cfg.n _ (λ i below. ap (λ (f : ℕ → Bool). cond (f (i + 1)) (leb (get_or x.lengths i 0) (board_length cfg)) true) member_zero)

  asked_ready : (writes : Bool) (best : Tag) → allowed cfg.c best ≡ true → cond writes (leb x.length (board_length cfg)) true ≡ true
      → Ready (asked_of x.me writes best)
  unfolding asked_of phase_within lengths_within protocol.next_tag
  asked_ready false best a fits =
      later (FinalisingRead best 0 0) (rw (tag-within cfg best 0 a (nobody_within cfg.n)) (nobody_within cfg.n)) nobody_sent tt tt
  asked_ready true best a fits = go (ltb best.number protocol.highest_number)
    where
      t : Tag
      t = protocol.next_tag best (client_number x.me)

      allows : allowed cfg.c t ≡ true
      allows = rw (ne_eqb (best.number + 1) 0 (λ e. omega arith)) (self_in cfg x ok.within)

      go : (b : Bool) → Ready (cond b (Begins (PreWriting t 0)) (Ends Spent))
      go true = later (PreWriting t 0) (tag-within cfg t 0 allows (nobody_within cfg.n)) refl refl (ok.kept-length, leb-true x.length (board_length cfg) fits)
      go false = tt

  after_ready : (p : Phase) → phase_within cfg p ≡ true → lengths_within cfg p x.length x.lengths ≡ true → OwnTag x.me p → is_enough cfg p ≡ true
      → Ready (after_of x.me p)
  unfolding is_enough after_of phase_within lengths_within
  after_ready Idle w fits own h = tt
  after_ready (Asking writes best counted) w fits own h = asked_ready writes best (tag_in cfg best counted w) fits
  after_ready (PreWriting tag counted) w fits own h =
      later (FinalisingWrite tag 0) (tag-within cfg tag 0 (tag_in cfg tag counted w) (nobody_within cfg.n)) refl own tt
  after_ready (FinalisingWrite tag counted) w fits own h = tt
  after_ready (FinalisingRead tag counted sent) w fits own h =
      record {
        valid = ok.valid;
        within = and_right (tag_within cfg tag counted) (within_servers cfg.n sent) w;
        elements = ok.elements-length;
        board-length = ok.board-length;
        enough = leb-true cfg.k (count (member sent) cfg.n) (and_right (protocol.enough cfg (member counted)) (leb cfg.k (count (member sent) cfg.n)) h);
      }
  after_ready Down w fits own h = tt

  next_ready : Ready (next_of cfg x.me x.phase)
  next_ready = cond_elim Ready (is_enough cfg x.phase) (after_of x.me x.phase) Waits (after_ready x.phase (phase_in cfg x ok.within) (lengths-in cfg x ok.within) ok.own) (λ h. tt)

  -- of what the code found
  pub ready : {m : Move} → m ≡ next_of cfg x.me x.phase → {found : Move} → m ≡ found → Ready found
  ready e f = subst Ready (sym e ∙ f) next_ready

  -- ---- what is done is that

  pub as_found : {m : Move} → m ≡ next_of cfg x.me x.phase → {found : Move} → m ≡ found → settle_of cfg x l ≡ move_of cfg x l.kept l.elements found
  as_found e f = settle_is cfg x l.kept l.elements ∙ ap (move_of cfg x l.kept l.elements) (sym e ∙ f)

-- a move of a client is one of another with its number and lengths
pub of_state : {cfg : Config} {x y : State} {move : BoardMoved} {kept es sends sends' board board' : List ℕ} {r : Moved} → x.me ≡ y.me → x.length ≡ y.length
    → x.lengths ≡ y.lengths → Moves cfg x move kept es sends sends' board board' r → Moves cfg y move kept es sends sends' board board' r
of_state a b c m =
    record {
      verdict = m.verdict;
      self = m.self ∙ a;
      same_length = m.same_length ∙ b;
      same_lengths = m.same_lengths ∙ c;
      client = m.client;
      count = m.count;
      out = m.out;
      ended = m.ended;
      lent = m.lent;
      within = m.within;
    }

module _ (cfg : Config) (x : State) (kept es sends board : List ℕ) (within : state_within cfg x ≡ true) where
  pub waits : Moves cfg x (move_of cfg x kept es Waits) kept es sends sends board board (accepted_of x 0 Nothing)
  unfolding protocol.stays records_of
  waits = record { verdict = refl; self = refl; same_length = refl; same_lengths = refl; client = refl; count = refl; out = refl; ended = refl; lent = refl; within = within }

  pub announced : {sends' : List ℕ} {r : Moved} → AnnouncePost cfg x kept sends sends' r → Moves cfg x (opens cfg x kept es) kept es sends sends' board board r
  announced {sends'} post =
      subst (λ (r : Moved). Moves cfg x (opens cfg x kept es) kept es sends sends' board board r) (sym post.move)
      (record {
        verdict = refl;
        self = refl;
        same_length = refl;
        same_lengths = refl;
        client = refl;
        count = sym (length_to_each cfg.n _);
        out = post.out;
        ended = refl;
        lent = refl;
        within = within;
      })

  -- an end that is no read's leaves the lent board
  ended_is : (how : Ended) → IsEnd how → (ended_of how board ≡ end_of how) × (board ≡ shown (end_of how) board)
  ended_is Nothing h = (refl, refl)
  ended_is (Written t) h = (refl, refl)
  ended_is Spent h = (refl, refl)
  ended_is (Read t length) h = absurd h

  pub ends : (how : Ended) → IsEnd how → Moves cfg x (move_of cfg x kept es (Ends how)) kept es sends sends board board (accepted_of (in_phase x Idle) 0 how)
  unfolding protocol.ends records_of view phase_of state_within phase_within lengths_within
  ends how h =
      record {
        verdict = refl;
        self = refl;
        same_length = refl;
        same_lengths = refl;
        client = refl;
        count = refl;
        out = refl;
        ended = (ended_is how h).0;
        lent = (ended_is how h).1;
        within = rw (self_in cfg x within);
      }

  pub ends_shown : (t : Tag) (sent n : ℕ) {board' : List ℕ} → ShowPost cfg (slots x es) sent board' n
      → Moves cfg x (move_of cfg x kept es (Shows t sent)) kept es sends sends board board' (accepted_of (in_phase x Idle) 0 (Read t n))
  unfolding protocol.ends records_of view phase_of state_within phase_within lengths_within
  ends_shown t sent n post =
      record {
        verdict = refl;
        self = refl;
        same_length = refl;
        same_lengths = refl;
        client = refl;
        count = refl;
        out = refl;
        ended = λ i. protocol.read t (record { length = post.length i; bytes = post.bytes i });
        lent = post.bytes;
        within = rw (self_in cfg x within);
      }
