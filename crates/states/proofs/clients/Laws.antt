-- Laws of a client's state as bytes: what is not in use does not show, a state that is packed is one that unpacks, and bytes that unpack are what
-- packing gives. Assumes nothing.
use mathlib.Core.Path.{◌≡◌, refl, sym, ap, ap₂, ◌∙◌, fun_ext}
use mathlib.Core.Bool.{Bool, true, false, cond, ◌&&◌}
use mathlib.Core.List.{List, ◌++◌}
use mathlib.Core.Option.{Option, none, some}
use Prim.Native.Nat.{ℕ, ◌+◌, ◌-◌, ◌≤◌, ◌<◌}
use native.Mathlib.Omega.{arith}
use borrow.Author.Tests.{eq-eqb}
use lib.Dec.{eqb, leb}
use lib.ListN.{length, get_or}
use Rattle.laws.specs.Bytes.{joined, tabulate}
use Rattle.laws.specs.Parts.{part}
use Rattle.laws.proofs.Below.{below_same}
use Rattle.laws.proofs.Bools.{and_left, and_right}
use Rattle.laws.proofs.Bytes.{get_d_tabulate, tabulate_cong}
use Rattle.config.specs.declared.Config.{Config}
use Rattle.config.specs.Config.{board_length}
use Rattle.config.specs.Number.{client_number}
use Rattle.config.specs.Questions.{within}
use Rattle.record.specs.Element.{Element, element_with}
use Rattle.record.specs.Record.{four_bytes, two_bytes}
use Rattle.protocol.specs.Boards.{board_of}
use Rattle.protocol.specs.Client as protocol
use Rattle.client.specs.declared.Phase.{Phase}
use Rattle.client.specs.declared.Phase.TheVariants.{Idle, Asking, PreWriting, FinalisingWrite, FinalisingRead, Down}
use Rattle.client.specs.declared.State.{State}
use Rattle.client.specs.Servers.{member, sent_by, within_servers}
use Rattle.client.specs.State.{lengths_within, phase_of, phase_within, received, slot_at, slots_of, state_within, tag_within, view}
use Rattle.client.proofs.Sets.{within_members}
use Rattle.states.specs.Bytes.{tag_row}
use Rattle.states.specs.Clients.{PackPost, head_row, is_state, numbers_of, packed, packed_length, packed_with, sent_length, state_of, tidy}
use Rattle.states.proofs.Bytes.{last_same, same_self}
use Rattle.states.proofs.clients.Packed.{packed_long}

-- ---- what is not in use does not show

-- the lengths that tidying leaves, and that of a server that sent an element
abbrev tidied : List ℕ → ℕ → List ℕ
tidied lengths sent = tabulate 16 (sent_length lengths sent)

kept-length : (lengths : List ℕ) (sent i : ℕ) → i < 16 → member sent (i + 1) ≡ true → get_or (tidied lengths sent) i 0 ≡ get_or lengths i 0
unfolding sent_length
kept-length lengths sent i h there = get_d_tabulate 16 _ i 0 h ∙ rw there

module _ (cfg : Config) (high : cfg.n ≤ 16) where
  same_received : (lengths es : List ℕ) (sent : ℕ) → within_servers cfg.n sent ≡ true
      → received cfg (slots_of (tidied lengths sent) es) sent ≡ received cfg (slots_of lengths es) sent
  unfolding received sent_by
  same_received lengths es sent w = fun_ext (λ s. go s (member sent s) refl)
    where
      go : (s : ℕ) (b : Bool) → member sent s ≡ b
          → cond b (some (slot_at cfg (slots_of (tidied lengths sent) es) s)) none ≡ cond b (some (slot_at cfg (slots_of lengths es) s)) none
      go s true there =
          let one = within_members cfg.n sent s w there in
          let at : s ≡ s - 1 + 1 = omega (arith, one.0) in
          ap {B = Option Element} (λ (n : ℕ). some (element_with n (part cfg.e (s - 1) es)))
          (kept-length lengths sent (s - 1) (omega (arith, one.1)) (ap (member sent) (sym at) ∙ there))
      go s false there = refl

  same_phase : (p : Phase) (n : ℕ) (lengths kept es : List ℕ) → phase_within cfg p ≡ true
      → phase_of cfg p (board_of (cond (numbers_of p).writes n 0) kept) (slots_of (tidied lengths (numbers_of p).sent) es)
      ≡ phase_of cfg p (board_of n kept) (slots_of lengths es)
  unfolding phase_of numbers_of phase_within
  same_phase Idle n lengths kept es w = refl
  same_phase (Asking true best counted) n lengths kept es w = refl
  same_phase (Asking false best counted) n lengths kept es w = refl
  same_phase (PreWriting tag counted) n lengths kept es w = refl
  same_phase (FinalisingWrite tag counted) n lengths kept es w = refl
  same_phase (FinalisingRead tag counted sent) n lengths kept es w =
      ap (protocol.finalising_read tag (member counted))
      (same_received lengths es sent (and_right (tag_within cfg tag counted) (within_servers cfg.n sent) w))
  same_phase Down n lengths kept es w = refl

  same_lengths : (p : Phase) (n : ℕ) (lengths : List ℕ)
      → lengths_within cfg p (cond (numbers_of p).writes n 0) (tidied lengths (numbers_of p).sent) ≡ lengths_within cfg p n lengths
  unfolding lengths_within numbers_of
  same_lengths Idle n lengths = refl
  same_lengths (Asking true best counted) n lengths = refl
  same_lengths (Asking false best counted) n lengths = refl
  same_lengths (PreWriting tag counted) n lengths = refl
  same_lengths (FinalisingWrite tag counted) n lengths = refl
  same_lengths (FinalisingRead tag counted sent) n lengths = below_same cfg.n _ _ (λ i l. go i l (member sent (i + 1)) refl)
    where
      go : (i : ℕ) → i < cfg.n → (b : Bool) → member sent (i + 1) ≡ b
          → cond b (leb (get_or (tidied lengths sent) i 0) (board_length cfg)) true ≡ cond b (leb (get_or lengths i 0) (board_length cfg)) true
      go i l true there = ap (λ (m : ℕ). leb m (board_length cfg)) (kept-length lengths sent i (omega arith) there)
      go i l false there = refl
  same_lengths Down n lengths = refl

pub tidy_me : (x : State) → (tidy x).me ≡ x.me
unfolding tidy
tidy_me x = refl

pub tidy_view : (cfg : Config) (x : State) (kept es : List ℕ) → state_within cfg x ≡ true → cfg.n ≤ 16 → view cfg (tidy x) kept es ≡ view cfg x kept es
unfolding view tidy state_within
tidy_view cfg x kept es w high =
    let me = within 1 cfg.c (client_number x.me) in
    let phase = and_right me (phase_within cfg x.phase) (and_left (me && phase_within cfg x.phase) (lengths_within cfg x.phase x.length x.lengths) w) in
    λ i. record { operation = x.operation; phase = same_phase cfg high x.phase x.length x.lengths kept es phase i }

pub tidy_within : (cfg : Config) (x : State) → cfg.n ≤ 16 → state_within cfg (tidy x) ≡ state_within cfg x
unfolding state_within tidy
tidy_within cfg x high =
    ap (λ (b : Bool). within 1 cfg.c (client_number x.me) && phase_within cfg x.phase && b)
    (same_lengths cfg high x.phase x.length x.lengths)

-- ---- packing

-- what is left out twice is left out
twice : (b : Bool) (n : ℕ) → cond b (cond b n 0) 0 ≡ cond b n 0
twice true n = refl
twice false n = refl

pub packed_tidy : (x : State) → packed (tidy x) ≡ packed x
unfolding packed_with head_row sent_length tidy
packed_tidy x =
    let n = numbers_of x.phase in
    ap₂ (λ (l : ℕ) (ls : List (List ℕ)). head_row x n ++ tag_row n.tag l ++ (four_bytes n.counted ++ four_bytes n.sent) ++ joined ls)
    (twice n.writes x.length)
    (tabulate_cong 16 _ _ (λ i h. ap two_bytes (rw (get_d_tabulate {A = ℕ} 16 _ i 0 h) (twice (member n.sent (i + 1)) (get_or x.lengths i 0)))))

packed_first : (x : State) → get_or (packed x) 0 0 ≡ client_number x.me
unfolding packed_with head_row four_bytes
packed_first x = refl

-- a state that is packed is one that unpacks
pub packed_state : (cfg : Config) {x : State} {out : List ℕ} → PackPost x out → within 1 cfg.c (client_number x.me) ≡ true → is_state cfg out ≡ true
unfolding is_state
packed_state cfg {x} {out} p there =
    let again : packed (state_of out) ≡ out = ap packed p.back ∙ packed_tidy x ∙ sym p.bytes in
    let first : get_or out 0 0 ≡ client_number x.me = ap (λ (l : List ℕ). get_or l 0 0) p.bytes ∙ packed_first x in
    rw (eq-eqb (length out) packed_length (ap length p.bytes ∙ packed_long x (numbers_of x.phase)), again, first, there) (same_self out)

-- bytes that unpack are what packing gives
pub is_packed : (cfg : Config) (bs : List ℕ) → is_state cfg bs ≡ true → bs ≡ packed (state_of bs)
unfolding is_state
is_packed cfg bs h = last_same (eqb (length bs) packed_length) (within 1 cfg.c (get_or bs 0 0)) (packed (state_of bs)) bs h
