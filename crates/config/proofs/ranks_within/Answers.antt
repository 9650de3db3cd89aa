use mathlib.Core.Path.{◌≡◌, refl, sym, ap, ◌∙◌}
use Prim.Native.Nat.{ℕ, ◌+◌, ◌<◌}
use native.Mathlib.Omega.{arith}
use borrow.Author.Tests.{le-leb, lt-leb}
use lib.Dec.{leb}
use lib.ListN.{get_or, take}
use Rattle.std.proofs.lemmas.List.{get_or-take}
use Rattle.config.specs.declared.Config.{Config}
use Rattle.laws.specs.Below.{all_below}
use Rattle.laws.proofs.Below.{below_next, below_no}
use Rattle.config.specs.Config.{highest_rank, rank, ranks_within}
use Rattle.config.proofs.Valid.{rank_at}
use Rattle.config.proofs.ranks_within.Invariants.{here}
use Rattle.config.proofs.ranks_within.Goals as goal

pub loop-rank-init : goal.loop-rank-init
unfolding all_below
loop-rank-init c = (omega arith, refl)

-- the rank read in a turn of the loop is that of the client in its place
read : (cfg : Config) (i : ℕ) → i < cfg.c → rank cfg (i + 1) ≡ get_or (take cfg.c cfg.ranks) i 0
read cfg i l = rank_at cfg i l ∙ sym (get_or-take cfg.c cfg.ranks i 0 l)

pub returns-then-rank-gt-HIGHEST_RANK : goal.returns-then-rank-gt-HIGHEST_RANK
unfolding ranks_within
returns-then-rank-gt-HIGHEST_RANK c =
    let l = c.loop-rank in
    let cfg = c.args.cfg in
    let below : l.rank-index < cfg.c = omega (arith, c.loop-rank-test.true) in
    sym (below_no cfg.c (here cfg) l.rank-index below
    (ap (λ (r : ℕ). leb r highest_rank) (read cfg l.rank-index below) ∙ lt-leb _ highest_rank c.if-rank-gt-HIGHEST_RANK.true))

pub loop-rank-preserved : goal.loop-rank-preserved
loop-rank-preserved c =
    let l = c.loop-rank in
    let cfg = c.args.cfg in
    let below : l.rank-index < cfg.c = omega (arith, c.loop-rank-test.true) in (
      omega arith,
      below_next l.rank-index (here cfg) l.invariant.1
          (ap (λ (r : ℕ). leb r highest_rank) (read cfg l.rank-index below) ∙ le-leb _ highest_rank c.if-rank-gt-HIGHEST_RANK.false),
    )

pub returns : goal.returns
unfolding ranks_within
returns c =
    let l = c.loop-rank in
    let end : l.rank-index ≡ c.args.cfg.c = omega (arith, l.invariant.0) in
    sym l.invariant.1 ∙ ap (λ (n : ℕ). all_below n (here c.args.cfg)) end
