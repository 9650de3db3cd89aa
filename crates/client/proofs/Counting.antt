-- An answer counted, phase by phase: what the code makes of a phase is what the protocol does, and stays within its limits. Assumes
-- nothing.
use mathlib.Core.Path.{◌≡◌, refl, sym, ap, ap₂, ◌∙◌}
use mathlib.Core.Bool.{Bool, true, false, cond, ◌&&◌}
use mathlib.Core.Option.{none, some}
use mathlib.Core.List.{List}
use Prim.Native.Nat.{ℕ, ◌+◌, ◌-◌, ◌≤◌, ◌<◌}
use native.Mathlib.Omega.{arith}
use lib.Dec.{leb}
use lib.ListN.{length, get_or, drop, set, length-drop}
use lib.Seq.{get_or-set_other, get_or-set_same, length-take-le}
use native.Mathlib.Decide.{ℕ_discrete}
use Rattle.laws.proofs.Below.{below_all, below_at}
use Rattle.laws.proofs.Bools.{and_left, and_right}
use Rattle.config.specs.declared.Config.{Config}
use Rattle.config.specs.Config.{Valid, board_length}
use Rattle.config.specs.Number.{server_number}
use Rattle.config.specs.Questions.{within}
use Rattle.config.proofs.Questions.{within_low, within_high}
use Rattle.tag.specs.declared.Tag.{Tag}
use Rattle.tag.specs.Tag.{allowed, key, same}
use Rattle.tag.proofs.Order.{same_eqb, small}
use Rattle.record.specs.declared.Header.{Header}
use Rattle.record.specs.Calls.{with_element}
use Rattle.record.specs.Element.{element_with}
use Rattle.record.specs.Record.{element_in}
use Rattle.protocol.specs.Boards.{Board}
use Rattle.protocol.specs.Client as protocol
use Rattle.protocol.specs.Number.{upd}
use Rattle.protocol.specs.Tags.{higher, same_key}
use Rattle.protocol.proofs.Basics.{upd_other, upd_same}
use Rattle.protocol.proofs.Store.{higher_elim}
use Rattle.client.specs.declared.Phase.{Phase}
use Rattle.client.specs.declared.Phase.TheVariants.{Idle, Asking, PreWriting, FinalisingWrite, FinalisingRead, Down}
use Rattle.client.specs.Servers.{member, within_servers}
use Rattle.client.specs.State.{Slots, length_placed, length_placed_at, lengths_within, phase_of, phase_within, placed, slots_of, tag_within}
use Rattle.client.specs.inner.Count.{awaits_of, counting_of, first_of, put_of}
use Rattle.client.proofs.Elements.{Roomy, received_put}
use Rattle.client.proofs.Phases.{set_in, tag_in, tag-within}
use Rattle.client.proofs.Sets.{member_put, put_within}

module _ (cfg : Config) (v : Valid cfg) (h : Header) (server_in : within 1 cfg.n (server_number h.server) ≡ true)
    (tag_ok : allowed cfg.c h.tag ≡ true) where
  abbrev s : ℕ
  s = server_number h.server

  low : 1 ≤ s
  low = within_low 1 cfg.n s server_in

  high : s ≤ cfg.n
  high = within_high 1 cfg.n s server_in

  -- ---- awaited

  same_is : (first : Bool) (t : Tag) (counted : ℕ) → tag_within cfg t counted ≡ true → (first && same_key (key cfg) h.tag t) ≡ (first && same h.tag t)
  same_is first t counted w =
      ap (λ (b : Bool). first && b) (sym (same_eqb cfg v h.tag t (small cfg v h.tag tag_ok) (small cfg v t (tag_in cfg t counted w))))

  pub awaits_is : (p : Phase) → phase_within cfg p ≡ true → (board : Board) (es : Slots) (bs : List ℕ)
      → protocol.awaits (key cfg) (phase_of cfg p board es) (with_element cfg h bs) ≡ awaits_of p h
  unfolding protocol.awaits protocol.is_first phase_of phase_within with_element awaits_of
  awaits_is Idle w board es bs = refl
  awaits_is (Asking writes best counted) w board es bs = refl
  awaits_is (PreWriting tag counted) w board es bs = same_is (first_of 4 counted h) tag counted w
  awaits_is (FinalisingWrite tag counted) w board es bs = same_is (first_of 6 counted h) tag counted w
  awaits_is (FinalisingRead tag counted sent) w board es bs =
      same_is (first_of 8 counted h) tag counted (and_left (tag_within cfg tag counted) (within_servers cfg.n sent) w)
  awaits_is Down w board es bs = refl

  -- ---- counted

  put_in : (set : ℕ) (b : Bool) → within_servers cfg.n set ≡ true → within_servers cfg.n (put_of set s b) ≡ true
  put_in set b w = put_within cfg.n set s b w low high

  one_more : (t u : Tag) (counted : ℕ) → tag_within cfg t counted ≡ true → allowed cfg.c u ≡ true → tag_within cfg u (put_of counted s true) ≡ true
  one_more t u counted w a = tag-within cfg u (put_of counted s true) a (put_in counted true (set_in cfg t counted w))

  pub counting_within : (p : Phase) → phase_within cfg p ≡ true → phase_within cfg (counting_of cfg p h) ≡ true
  unfolding phase_within counting_of
  counting_within Idle w = refl
  counting_within (Asking writes best counted) w =
      one_more best (higher (key cfg) best h.tag) counted w (higher_elim (key cfg) (λ (t : Tag). allowed cfg.c t ≡ true) best h.tag (tag_in cfg best counted w) tag_ok)
  counting_within (PreWriting tag counted) w = one_more tag tag counted w (tag_in cfg tag counted w)
  counting_within (FinalisingWrite tag counted) w = one_more tag tag counted w (tag_in cfg tag counted w)
  counting_within (FinalisingRead tag counted sent) w =
      let t = and_left (tag_within cfg tag counted) (within_servers cfg.n sent) w in
      rw (one_more tag tag counted t (tag_in cfg tag counted t))
      (put_in sent h.present (and_right (tag_within cfg tag counted) (within_servers cfg.n sent) w))
  counting_within Down w = refl

  -- the lengths with that of the record, if it has an element
  abbrev lengths_after : List ℕ → List ℕ
  lengths_after ns = cond h.present (set ns (s - 1) h.length) ns

  pub counting_lengths : (p : Phase) (n : ℕ) (ns : List ℕ) → cfg.n ≤ length ns → (h.present ≡ true → leb h.length (board_length cfg) ≡ true)
      → phase_within cfg p ≡ true → lengths_within cfg p n ns ≡ true → lengths_within cfg (counting_of cfg p h) n (lengths_after ns) ≡ true
  unfolding lengths_within counting_of phase_within
  counting_lengths Idle n ns long fits w l = refl
  counting_lengths (Asking writes best counted) n ns long fits w l = l
  counting_lengths (PreWriting tag counted) n ns long fits w l = refl
  counting_lengths (FinalisingWrite tag counted) n ns long fits w l = refl
  counting_lengths (FinalisingRead tag counted sent) n ns long fits w l =
      below_all cfg.n _ (λ i below. here i below h.present fits (below_at cfg.n _ l i below))
    where
      -- what is asked of place i, of a set and lengths
      asked : (ℕ → Bool) → List ℕ → ℕ → Bool
      asked set ls i = cond (set (i + 1)) (leb (get_or ls i 0) (board_length cfg)) true

      own : (i : ℕ) → i ≡ s - 1 → (there : Bool) → (there ≡ true → leb h.length (board_length cfg) ≡ true)
          → cond there (leb (get_or (cond there (set ns (s - 1) h.length) ns) i 0) (board_length cfg)) true ≡ true
      own i e true f = rw (e, get_or-set_same ns (s - 1) h.length 0 (omega (arith, high, low, long))) (f refl)
      own i e false f = refl

      kept : (i : ℕ) → (i ≡ s - 1 → ⊥) → (there : Bool) → get_or (cond there (set ns (s - 1) h.length) ns) i 0 ≡ get_or ns i 0
      kept i ne true = get_or-set_other ns (s - 1) i h.length 0 ne
      kept i ne false = refl

      here : (i : ℕ) → i < cfg.n → (there : Bool) → (there ≡ true → leb h.length (board_length cfg) ≡ true) → asked (member sent) ns i ≡ true
          → asked (member (put_of sent s there)) (cond there (set ns (s - 1) h.length) ns) i ≡ true
      here i below there f old =
          ap (λ (g : ℕ → Bool). asked g (cond there (set ns (s - 1) h.length) ns) i) (member_put sent s there)
          ∙ elim (ℕ_discrete (i + 1) s) as (λ _. asked (upd (member sent) s there) (cond there (set ns (s - 1) h.length) ns) i ≡ true) [
            | yes e ↦ rw (e, upd_same (member sent) s there) (own i (omega arith) there f)
            | no ne ↦ rw (upd_other (member sent) s there (i + 1) ne, kept i (λ z. ne (omega (arith, low))) there) old
          ]
  counting_lengths Down n ns long fits w l = refl

  -- where the code puts the length is where the protocol has it
  pub lengths_are : (bs ns : List ℕ) → lengths_after ns ≡ length_placed (with_element cfg h bs) ns
  unfolding with_element length_placed_at
  lengths_are bs ns = go h.present
    where
      go : (there : Bool) → cond there (set ns (s - 1) h.length) ns
          ≡ length_placed_at s (cond there (some (element_with h.length (element_in cfg bs))) none) ns
      go true = refl
      go false = refl

  -- the elements received, with that of the record
  abbrev more : Slots → List ℕ → Slots
  more es bs = slots_of (length_placed (with_element cfg h bs) es.lengths) (placed cfg (with_element cfg h bs) es.bytes)

  pub counting_is : (p : Phase) → phase_within cfg p ≡ true → (board : Board) (es : Slots) (bs : List ℕ) → Roomy cfg es → 16 + cfg.e ≤ length bs
      → protocol.counting (key cfg) (phase_of cfg p board es) (with_element cfg h bs) ≡ phase_of cfg (counting_of cfg p h) board (more es bs)
  unfolding protocol.counting phase_of phase_within with_element counting_of
  counting_is Idle w board es bs whole room = refl
  counting_is (Asking writes best counted) w board es bs whole room =
      ap (protocol.asking (cond writes (some board) none) (higher (key cfg) best h.tag)) (sym (member_put counted s true))
  counting_is (PreWriting tag counted) w board es bs whole room = ap (protocol.pre_writing tag) (sym (member_put counted s true))
  counting_is (FinalisingWrite tag counted) w board es bs whole room = ap (protocol.finalising_write tag) (sym (member_put counted s true))
  counting_is (FinalisingRead tag counted sent) w board es bs whole room =
      ap₂ (protocol.finalising_read tag) (sym (member_put counted s true))
      (sym (received_put cfg es sent s whole low high (and_right (tag_within cfg tag counted) (within_servers cfg.n sent) w) (element_with h.length (element_in cfg bs))
      (length-take-le cfg.e (drop 16 bs) (omega (arith, length-drop 16 bs))) h.present))
  counting_is Down w board es bs whole room = refl
