-- The numbers of a phase that are within their limits. Assumes nothing.
use mathlib.Core.Path.{◌≡◌, sym, ap, ◌∙◌}
use mathlib.Core.Bool.{Bool, true, ◌&&◌}
use mathlib.Core.List.{[], ◌∷◌}
use Prim.Native.Nat.{ℕ}
use denote.Enum.Declared.{tag_of}
use types.Run.{OneOf, miss}
use Rattle.laws.proofs.Bools.{and_left, and_right}
use Rattle.config.specs.declared.Config.{Config}
use Rattle.config.specs.Number.{client_number}
use Rattle.config.specs.Questions.{within}
use Rattle.tag.specs.declared.Tag.{Tag}
use Rattle.tag.specs.Tag.{allowed}
use Rattle.client.specs.declared.Phase.{Phase}
use Rattle.client.specs.declared.Phase.TheVariants.{Idle, Asking, PreWriting, FinalisingWrite, FinalisingRead, Down}
use Rattle.client.specs.declared.State.{State}
use Rattle.client.specs.Servers.{within_servers}
use Rattle.client.specs.State.{lengths_within, phase_within, state_within, tag_within}
use Rattle.client.specs.contracts.Phase as phase

-- of a phase that a match left for last: idle or down
pub at_rest : (P : Phase → Type 0) → P Idle → P Down → (p : Phase) → OneOf (0 ∷ 5 ∷ []) (tag_of phase.the_type p) → P p
at_rest P a b Idle h = a
at_rest P a b (Asking writes best counted) h = absurd (miss (0 ∷ 5 ∷ []) 1 tt h)
at_rest P a b (PreWriting tag counted) h = absurd (miss (0 ∷ 5 ∷ []) 2 tt h)
at_rest P a b (FinalisingWrite tag counted) h = absurd (miss (0 ∷ 5 ∷ []) 3 tt h)
at_rest P a b (FinalisingRead tag counted sent) h = absurd (miss (0 ∷ 5 ∷ []) 4 tt h)
at_rest P a b Down h = b

module _ (cfg : Config) where
  -- a tag that is allowed
  abbrev pub Tag-in : Tag → Type 0
  Tag-in t = allowed cfg.c t ≡ true

  -- servers of 1 to N
  abbrev pub Set-in : ℕ → Type 0
  Set-in set = within_servers cfg.n set ≡ true

  pub tag_in : (t : Tag) (set : ℕ) → tag_within cfg t set ≡ true → Tag-in t
  tag_in t set h = and_left (allowed cfg.c t) (within_servers cfg.n set) h

  pub set_in : (t : Tag) (set : ℕ) → tag_within cfg t set ≡ true → Set-in set
  set_in t set h = and_right (allowed cfg.c t) (within_servers cfg.n set) h

  pub tag-within : (t : Tag) (set : ℕ) → Tag-in t → Set-in set → tag_within cfg t set ≡ true
  tag-within t set a b = rw (a, b)

  -- the sets of a phase
  abbrev pub SetsIn : Phase → Type 0
  SetsIn Idle = Unit {0}
  SetsIn (Asking writes best counted) = Set-in counted
  SetsIn (PreWriting tag counted) = Set-in counted
  SetsIn (FinalisingWrite tag counted) = Set-in counted
  SetsIn (FinalisingRead tag counted sent) = Set-in counted × Set-in sent
  SetsIn Down = Unit {0}

  sets_in : (p : Phase) → phase_within cfg p ≡ true → SetsIn p
  unfolding phase_within
  sets_in Idle h = tt
  sets_in (Asking writes best counted) h = set_in best counted h
  sets_in (PreWriting tag counted) h = set_in tag counted h
  sets_in (FinalisingWrite tag counted) h = set_in tag counted h
  sets_in (FinalisingRead tag counted sent) h = (
    set_in tag counted (and_left (tag_within cfg tag counted) (within_servers cfg.n sent) h),
    and_right (tag_within cfg tag counted) (within_servers cfg.n sent) h,
  )
  sets_in Down h = tt

  -- of a phase that a match found
  pub sets : {p q : Phase} → p ≡ q → phase_within cfg p ≡ true → SetsIn q
  sets {p} {q} e h = sets_in q (ap (phase_within cfg) (sym e) ∙ h)

  -- the state's own number, its phase and its lengths
  module _ (x : State) (h : state_within cfg x ≡ true) where
    abbrev self : Bool
    self = within 1 cfg.c (client_number x.me)

    abbrev lengths : Bool
    lengths = lengths_within cfg x.phase x.length x.lengths

    both_in : (self && phase_within cfg x.phase) ≡ true
    unfolding state_within
    both_in = and_left (self && phase_within cfg x.phase) lengths h

    pub self_in : within 1 cfg.c (client_number x.me) ≡ true
    self_in = and_left self (phase_within cfg x.phase) both_in

    pub phase_in : phase_within cfg x.phase ≡ true
    phase_in = and_right self (phase_within cfg x.phase) both_in

    pub lengths-in : lengths_within cfg x.phase x.length x.lengths ≡ true
    unfolding state_within
    lengths-in = and_right (self && phase_within cfg x.phase) lengths h

  -- and all that is asked of a state
  pub all_in : (x : State) → within 1 cfg.c (client_number x.me) ≡ true → phase_within cfg x.phase ≡ true
      → lengths_within cfg x.phase x.length x.lengths ≡ true → state_within cfg x ≡ true
  unfolding state_within
  all_in x me phase lengths = rw (me, phase, lengths)
