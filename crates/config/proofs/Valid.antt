-- What a configuration's questions say: they are all answered yes exactly of a valid one. Assumes nothing.
use mathlib.Core.Path.{◌≡◌, refl, sym, subst, ◌∙◌}
use mathlib.Core.Bool.{Bool, true, false}
use mathlib.Core.List.{[], ◌∷◌}
use Prim.Native.Nat.{ℕ, ◌+◌, ◌-◌, ◌≤◌, ◌<◌}
use native.Mathlib.Omega.{arith}
use native.Mathlib.Nat.{add-sub_cancel}
use borrow.Author.Tests.{leb-true, le-leb}
use lib.Dec.{leb}
use lib.ListN.{get_or}
use Rattle.laws.specs.Below.{all_below}
use Rattle.laws.proofs.Below.{below_all, below_at}
use Rattle.laws.specs.Servers.{count, shared}
use Rattle.laws.proofs.Servers.{count_both}
use Rattle.config.specs.declared.Config.{Config}
use Rattle.config.specs.Config.{Valid, highest_rank, least, most_clients, most_depth, most_messages, most_servers, most_width, questions, questions_to5, quorum_of, rank, ranks_within, rig_questions}
use Rattle.config.specs.Questions.{ask, first_no, numbered, within}
use Rattle.config.proofs.Questions.{last_all, none_rest, within_low, within_high, within_true, yes_next}

-- the rank of a client stands in its place
pub rank_at : (cfg : Config) (i : ℕ) → i < cfg.c → rank cfg (i + 1) ≡ get_or cfg.ranks i 0
unfolding rank
rank_at cfg i l = rw (within_true 1 cfg.c (i + 1) (omega arith) (omega (arith, l)), add-sub_cancel i 1)

-- every rank is in range where those of the clients are
ranks-within : (cfg : Config) → ranks_within cfg ≡ true → (c : ℕ) → rank cfg c ≤ highest_rank
unfolding rank ranks_within
ranks-within cfg h c = go (within 1 cfg.c c) refl
  where
    go : (b : Bool) → within 1 cfg.c c ≡ b → rank cfg c ≤ highest_rank
    go true e =
        let i : c - 1 + 1 ≡ c = omega (arith, within_low 1 cfg.c c e) in
        let l : c - 1 < cfg.c = omega (arith, within_low 1 cfg.c c e, within_high 1 cfg.c c e) in
        subst (λ x. rank cfg x ≤ highest_rank) i
        (leb-true (rank cfg (c - 1 + 1)) highest_rank (below_at cfg.c (λ j. leb (rank cfg (j + 1)) highest_rank) h (c - 1) l))
    go false e = rw e (omega arith)

-- questions 1 to 5 tell that C is in range
pub five_clients : (cfg : Config) → first_no (questions_to5 cfg) ≡ 0 → cfg.c ≤ most_clients
unfolding numbered
five_clients cfg h =
    within_high 1 most_clients cfg.c (last_all (ask 1 _ ∷ ask 2 _ ∷ ask 3 _ ∷ ask 4 _ ∷ []) 5 (within 1 most_clients cfg.c) refl (omega arith) h).1

pub valid : (cfg : Config) → first_no (questions cfg) ≡ 0 → Valid cfg
unfolding questions
valid cfg h =
    let n = yes_next 1 (within 1 most_servers cfg.n) _ (omega arith) h in
    let k = yes_next 2 (within 1 cfg.n cfg.k) _ (omega arith) n.1 in
    let d = yes_next 3 (leb cfg.d most_depth) _ (omega arith) k.1 in
    let e = yes_next 4 (within 1 most_width cfg.e) _ (omega arith) d.1 in
    let c = yes_next 5 (within 1 most_clients cfg.c) _ (omega arith) e.1 in
    let ranks = yes_next 21 (ranks_within cfg) _ (omega arith) c.1 in
    record {
      n_low = within_low 1 most_servers cfg.n n.0;
      n_high = within_high 1 most_servers cfg.n n.0;
      k_low = within_low 1 cfg.n cfg.k k.0;
      k_high = within_high 1 cfg.n cfg.k k.0;
      d_high = leb-true cfg.d most_depth d.0;
      e_low = within_low 1 most_width cfg.e e.0;
      e_high = within_high 1 most_width cfg.e e.0;
      c_low = within_low 1 most_clients cfg.c c.0;
      c_high = within_high 1 most_clients cfg.c c.0;
      ranks_high = ranks-within cfg ranks.0;
    }

pub least_valid : Valid least
unfolding all_below first_no questions rank ranks_within
least_valid = valid least refl

-- a configuration that was asked questions 1 to 5 and 21, and not refused
pub asked_valid : (cfg : Config) {asked : ℕ} → asked ≡ first_no (questions cfg) → asked ≡ 0 → Valid cfg
asked_valid cfg e none = valid cfg (sym e ∙ none)

-- where M is in range, a rig is asked what the configuration is
pub rig_in_range : (cfg : Config) (m : ℕ) → within 1 most_messages m ≡ true → first_no (rig_questions cfg m) ≡ first_no (questions cfg)
unfolding first_no questions rig_questions
rig_in_range cfg m h = rw h

-- a rig's that was asked them, and not refused
pub rig_most : (cfg : Config) (m : ℕ) {asked : ℕ} → asked ≡ first_no (rig_questions cfg m) → asked ≡ 0 → (1 ≤ m) × (m ≤ most_messages)
unfolding rig_questions numbered
rig_most cfg m e none =
    let w = (yes_next 5 (within 1 most_messages m) (ask 21 (ranks_within cfg) ∷ []) (omega arith)
    (none_rest (questions_to5 cfg) (ask 5 (within 1 most_messages m) ∷ ask 21 (ranks_within cfg) ∷ []) refl (sym e ∙ none))).0 in
    (within_low 1 most_messages m w, within_high 1 most_messages m w)

pub rig_valid : (cfg : Config) (m : ℕ) {asked : ℕ} → asked ≡ first_no (rig_questions cfg m) → asked ≡ 0 → Valid cfg
rig_valid cfg m e none =
    let most = rig_most cfg m e none in
    valid cfg (sym (rig_in_range cfg m (within_true 1 most_messages m most.0 most.1)) ∙ sym e ∙ none)

-- a valid configuration is asked nothing in vain: every question of it is answered yes
pub valid_asked : (cfg : Config) → Valid cfg → first_no (questions cfg) ≡ 0
unfolding first_no questions ranks_within
valid_asked cfg v =
    rw (
      within_true 1 most_servers cfg.n v.n_low v.n_high,
      within_true 1 cfg.n cfg.k v.k_low v.k_high,
      le-leb cfg.d most_depth v.d_high,
      within_true 1 most_width cfg.e v.e_low v.e_high,
      within_true 1 most_clients cfg.c v.c_low v.c_high,
      below_all cfg.c (λ i. leb (rank cfg (i + 1)) highest_rank) (λ i l. le-leb (rank cfg (i + 1)) highest_rank (v.ranks_high (i + 1))),
    )

-- the quorum of a valid configuration is at least 1 and at most N
pub quorum_low : (cfg : Config) → Valid cfg → 1 ≤ quorum_of cfg
quorum_low cfg v = omega arith

pub quorum_high : (cfg : Config) → Valid cfg → quorum_of cfg ≤ cfg.n
quorum_high cfg v = omega arith

-- "two quorums share at least k servers"
pub quorums_share : (cfg : Config) (f g : ℕ → Bool) → quorum_of cfg ≤ count f cfg.n → quorum_of cfg ≤ count g cfg.n
    → cfg.k ≤ count (shared f g) cfg.n
quorums_share cfg f g hf hg = omega (arith, count_both f g cfg.n)
