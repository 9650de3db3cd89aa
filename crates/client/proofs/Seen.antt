-- The phase of the code that the protocol sees: a phase is seen as no other is, nor is an end, and two states that are seen alike pass
-- question 6 or fail it alike. Assumes nothing.
use mathlib.Core.Path.{◌≡◌, refl, sym, ap, ap₂, ◌∙◌}
use mathlib.Core.Bool.{Bool, true, false, cond, ◌&&◌}
use mathlib.Core.Option.{Option, none, some}
use mathlib.Core.List.{List}
use Prim.Native.Nat.{ℕ, ◌+◌, ◌-◌, ◌<◌}
use native.Mathlib.Omega.{arith}
use lib.Dec.{leb}
use lib.ListN.{get_or}
use Rattle.laws.proofs.Below.{below_same}
use Rattle.config.specs.declared.Client.{Client}
use Rattle.config.specs.declared.Config.{Config}
use Rattle.config.specs.Config.{board_length}
use Rattle.config.specs.Number.{client_number}
use Rattle.config.specs.Questions.{within}
use Rattle.tag.specs.declared.Tag.{Tag}
use Rattle.record.specs.Element.{Element}
use Rattle.protocol.specs.Boards.{Board, BoardClient, BoardPhase}
use Rattle.protocol.specs.Client as protocol
use Rattle.client.specs.declared.Ended.{Ended}
use Rattle.client.specs.declared.Ended.TheVariants.{Nothing, Written, Spent, Read}
use Rattle.client.specs.declared.Phase.{Phase}
use Rattle.client.specs.declared.Phase.TheVariants.{Idle, Asking, PreWriting, FinalisingWrite, FinalisingRead, Down}
use Rattle.client.specs.declared.State.{State}
use Rattle.client.specs.Calls.{ended_of}
use Rattle.client.specs.Quorum.{phase_number}
use Rattle.client.specs.Servers.{member, sent_by}
use Rattle.client.specs.State.{Slots, lengths_within, phase_of, phase_within, received, slot_at, slots, state_within, to_write, view}
use Rattle.client.proofs.Gathering.{has, sent_has}
use Rattle.client.proofs.Sets.{member_one}

-- ---- a phase is seen as no other is

module _ (cfg : Config) (board : Board) (es : Slots) where
  other : {p q : BoardPhase} → p ≡ q → (phase_number p ≡ phase_number q → ⊥) → ⊥
  other e n = n (ap phase_number e)

  pub idle_is : (p : Phase) → phase_of cfg p board es ≡ protocol.idle → p ≡ Idle
  unfolding phase_of
  idle_is Idle e = refl
  idle_is (Asking writes best counted) e = absurd (other e (λ z. omega arith))
  idle_is (PreWriting tag counted) e = absurd (other e (λ z. omega arith))
  idle_is (FinalisingWrite tag counted) e = absurd (other e (λ z. omega arith))
  idle_is (FinalisingRead tag counted sent) e = absurd (other e (λ z. omega arith))
  idle_is Down e = absurd (other e (λ z. omega arith))

  pub asks_is : (p : Phase) (v : Option Board) (t : Tag) (cs : ℕ → Bool) → phase_of cfg p board es ≡ protocol.asking v t cs
      → (writes : Bool) × (counted : ℕ) × (p ≡ Asking writes t counted) × (member counted ≡ cs) × (cond writes (some board) none ≡ v)
  unfolding phase_of
  asks_is Idle v t cs e = absurd (other e (λ z. omega arith))
  asks_is (Asking writes best counted) v t cs e =
      let same : best ≡ t = cc in (writes, counted, ap (λ (u : Tag). Asking writes u counted) same, (cc), (cc))
  asks_is (PreWriting tag counted) v t cs e = absurd (other e (λ z. omega arith))
  asks_is (FinalisingWrite tag counted) v t cs e = absurd (other e (λ z. omega arith))
  asks_is (FinalisingRead tag counted sent) v t cs e = absurd (other e (λ z. omega arith))
  asks_is Down v t cs e = absurd (other e (λ z. omega arith))

  pre_writes_is : (p : Phase) (t : Tag) (cs : ℕ → Bool) → phase_of cfg p board es ≡ protocol.pre_writing t cs
      → (counted : ℕ) × (p ≡ PreWriting t counted) × (member counted ≡ cs)
  unfolding phase_of
  pre_writes_is Idle t cs e = absurd (other e (λ z. omega arith))
  pre_writes_is (Asking writes best counted) t cs e = absurd (other e (λ z. omega arith))
  pre_writes_is (PreWriting tag counted) t cs e = let same : tag ≡ t = cc in (counted, ap (λ (u : Tag). PreWriting u counted) same, (cc))
  pre_writes_is (FinalisingWrite tag counted) t cs e = absurd (other e (λ z. omega arith))
  pre_writes_is (FinalisingRead tag counted sent) t cs e = absurd (other e (λ z. omega arith))
  pre_writes_is Down t cs e = absurd (other e (λ z. omega arith))

  pub writes_is : (p : Phase) (t : Tag) (cs : ℕ → Bool) → phase_of cfg p board es ≡ protocol.finalising_write t cs
      → (counted : ℕ) × (p ≡ FinalisingWrite t counted) × (member counted ≡ cs)
  unfolding phase_of
  writes_is Idle t cs e = absurd (other e (λ z. omega arith))
  writes_is (Asking writes best counted) t cs e = absurd (other e (λ z. omega arith))
  writes_is (PreWriting tag counted) t cs e = absurd (other e (λ z. omega arith))
  writes_is (FinalisingWrite tag counted) t cs e = let same : tag ≡ t = cc in (counted, ap (λ (u : Tag). FinalisingWrite u counted) same, (cc))
  writes_is (FinalisingRead tag counted sent) t cs e = absurd (other e (λ z. omega arith))
  writes_is Down t cs e = absurd (other e (λ z. omega arith))

  pub reads_is : (p : Phase) (t : Tag) (cs : ℕ → Bool) (got : ℕ → Option Element) → phase_of cfg p board es ≡ protocol.finalising_read t cs got
      → (counted sent : ℕ) × (p ≡ FinalisingRead t counted sent) × (member counted ≡ cs) × (received cfg es sent ≡ got)
  unfolding phase_of
  reads_is Idle t cs got e = absurd (other e (λ z. omega arith))
  reads_is (Asking writes best counted) t cs got e = absurd (other e (λ z. omega arith))
  reads_is (PreWriting tag counted) t cs got e = absurd (other e (λ z. omega arith))
  reads_is (FinalisingWrite tag counted) t cs got e = absurd (other e (λ z. omega arith))
  reads_is (FinalisingRead tag counted sent) t cs got e =
      let same : tag ≡ t = cc in (counted, sent, ap (λ (u : Tag). FinalisingRead u counted sent) same, (cc), (cc))
  reads_is Down t cs got e = absurd (other e (λ z. omega arith))

  down_is : (p : Phase) → phase_of cfg p board es ≡ protocol.down → p ≡ Down
  unfolding phase_of
  down_is Idle e = absurd (other e (λ z. omega arith))
  down_is (Asking writes best counted) e = absurd (other e (λ z. omega arith))
  down_is (PreWriting tag counted) e = absurd (other e (λ z. omega arith))
  down_is (FinalisingWrite tag counted) e = absurd (other e (λ z. omega arith))
  down_is (FinalisingRead tag counted sent) e = absurd (other e (λ z. omega arith))
  down_is Down e = refl

-- ---- an end is seen as no other is

pub nothing_is : (how : Ended) (bytes : List ℕ) → ended_of how bytes ≡ protocol.nothing → how ≡ Nothing
nothing_is Nothing bytes e = refl
nothing_is (Written t) bytes e = let z : ◌≡◌ {A = ℕ} 0 1 = cc in absurd (omega arith)
nothing_is Spent bytes e = let z : ◌≡◌ {A = ℕ} 0 1 = cc in absurd (omega arith)
nothing_is (Read t length) bytes e = let z : ◌≡◌ {A = ℕ} 0 1 = cc in absurd (omega arith)

pub spent_is : (how : Ended) (bytes : List ℕ) → ended_of how bytes ≡ protocol.spent → how ≡ Spent
spent_is Nothing bytes e = let z : ◌≡◌ {A = ℕ} 0 1 = cc in absurd (omega arith)
spent_is (Written t) bytes e = let z : ◌≡◌ {A = ℕ} 0 1 = cc in absurd (omega arith)
spent_is Spent bytes e = refl
spent_is (Read t length) bytes e = let z : ◌≡◌ {A = ℕ} 0 1 = cc in absurd (omega arith)

-- ---- two phases that are seen alike

-- it writes or it doesn't
pub writes_one : (v w : Board) (a b : Bool) → cond a (some v) none ≡ cond b (some w) none → a ≡ b
writes_one v w true true e = refl
writes_one v w true false e = let z : ◌≡◌ {A = ℕ} 0 1 = cc in absurd (omega arith)
writes_one v w false true e = let z : ◌≡◌ {A = ℕ} 0 1 = cc in absurd (omega arith)
writes_one v w false false e = refl

-- the servers that sent an element are those of whom there is one
sent_one : (cfg : Config) (es fs : Slots) (sent set : ℕ) → received cfg es sent ≡ received cfg fs set → sent ≡ set
unfolding received
sent_one cfg es fs sent set e =
    member_one sent set
    (λ i s. (sym (sent_has (slot_at cfg es) sent s) ∙ ap (λ (f : ℕ → Option Element). has (f s)) e ∙ sent_has (slot_at cfg fs) set s) i)

module _ (cfg : Config) (a b : Board) (es fs : Slots) where
  pub phase_one : (p q : Phase) → phase_of cfg p a es ≡ phase_of cfg q b fs → p ≡ q
  unfolding phase_of
  phase_one Idle q e = sym (idle_is cfg b fs q (sym e))
  phase_one (Asking writes best counted) q e =
      let i = asks_is cfg b fs q (cond writes (some a) none) best (member counted) (sym e) in
      ap₂ (λ (w : Bool) (c : ℕ). Asking w best c) (sym (writes_one b a i.0 writes i.4)) (sym (member_one i.1 counted i.3)) ∙ sym i.2
  phase_one (PreWriting tag counted) q e =
      let i = pre_writes_is cfg b fs q tag (member counted) (sym e) in
      ap (λ (c : ℕ). PreWriting tag c) (sym (member_one i.0 counted i.2)) ∙ sym i.1
  phase_one (FinalisingWrite tag counted) q e =
      let i = writes_is cfg b fs q tag (member counted) (sym e) in
      ap (λ (c : ℕ). FinalisingWrite tag c) (sym (member_one i.0 counted i.2)) ∙ sym i.1
  phase_one (FinalisingRead tag counted sent) q e =
      let i = reads_is cfg b fs q tag (member counted) (received cfg es sent) (sym e) in
      ap₂ (λ (c s : ℕ). FinalisingRead tag c s) (sym (member_one i.0 counted i.3)) (sym (sent_one cfg fs es i.1 sent i.4)) ∙ sym i.2
  phase_one Down q e = sym (down_is cfg b fs q (sym e))

-- ---- question 6

-- the length of the board to write, and the elements received, of a phase that has them
abbrev length_in : BoardPhase → ℕ
length_in protocol.idle = 0
length_in (protocol.asking none t cs) = 0
length_in (protocol.asking (some v) t cs) = v.length
length_in (protocol.pre_writing t cs) = 0
length_in (protocol.finalising_write t cs) = 0
length_in (protocol.finalising_read t cs es) = 0
length_in protocol.down = 0

abbrev received_in : BoardPhase → ℕ → Option Element
received_in protocol.idle = λ s. none
received_in (protocol.asking v t cs) = λ s. none
received_in (protocol.pre_writing t cs) = λ s. none
received_in (protocol.finalising_write t cs) = λ s. none
received_in (protocol.finalising_read t cs es) = es
received_in protocol.down = λ s. none

abbrev length_is : Option Element → ℕ
length_is none = 0
length_is (some e) = e.length

module _ (cfg : Config) (a b : Board) (es fs : Slots) where
  lengths_one : (p : Phase) → phase_of cfg p a es ≡ phase_of cfg p b fs
      → lengths_within cfg p a.length es.lengths ≡ lengths_within cfg p b.length fs.lengths
  unfolding phase_of lengths_within received sent_by
  lengths_one Idle e = refl
  lengths_one (Asking true best counted) e = ap (λ (v : BoardPhase). leb (length_in v) (board_length cfg)) e
  lengths_one (Asking false best counted) e = refl
  lengths_one (PreWriting tag counted) e = refl
  lengths_one (FinalisingWrite tag counted) e = refl
  lengths_one (FinalisingRead tag counted sent) e = below_same cfg.n (fits es.lengths) (fits fs.lengths) at
    where
      fits : List ℕ → ℕ → Bool
      fits lengths i = cond (member sent (i + 1)) (leb (get_or lengths i 0) (board_length cfg)) true

      at : (i : ℕ) → i < cfg.n → fits es.lengths i ≡ fits fs.lengths i
      at i l =
          let here : i + 1 - 1 ≡ i = omega arith in
          go (member sent (i + 1)) here (ap (λ (v : BoardPhase). length_is (received_in v (i + 1))) e)
        where
          go : (m : Bool) → i + 1 - 1 ≡ i
              → length_is (cond m (some (slot_at cfg es (i + 1))) none) ≡ length_is (cond m (some (slot_at cfg fs (i + 1))) none)
              → cond m (leb (get_or es.lengths i 0) (board_length cfg)) true ≡ cond m (leb (get_or fs.lengths i 0) (board_length cfg)) true
          go true h same =
              ap (λ (n : ℕ). leb n (board_length cfg))
              (ap (λ (j : ℕ). get_or es.lengths j 0) (sym h) ∙ same ∙ ap (λ (j : ℕ). get_or fs.lengths j 0) h)
          go false h same = refl
  lengths_one Down e = refl

-- two states of one client that are seen alike pass it or fail it alike
pub within_alike : (cfg : Config) (x y : State) (ka kb ea eb : List ℕ) → x.me ≡ y.me → view cfg x ka ea ≡ view cfg y kb eb
    → state_within cfg x ≡ state_within cfg y
unfolding view state_within
within_alike cfg x y ka kb ea eb me same =
    let phases : phase_of cfg x.phase (to_write x ka) (slots x ea) ≡ phase_of cfg y.phase (to_write y kb) (slots y eb) = ap (λ (c : BoardClient). c.phase) same in
    let one = phase_one cfg (to_write x ka) (to_write y kb) (slots x ea) (slots y eb) x.phase y.phase phases in
    let lengths : lengths_within cfg x.phase x.length x.lengths ≡ lengths_within cfg x.phase y.length y.lengths =
    lengths_one cfg (to_write x ka) (to_write y kb) (slots x ea) (slots y eb) x.phase
    (phases ∙ ap (λ (p : Phase). phase_of cfg p (to_write y kb) (slots y eb)) (sym one)) in
    ap₂ (λ (c : Client) (b : Bool). within 1 cfg.c (client_number c) && phase_within cfg x.phase && b) me lengths
    ∙ ap (λ (p : Phase). within 1 cfg.c (client_number y.me) && phase_within cfg p && lengths_within cfg p y.length y.lengths) one
