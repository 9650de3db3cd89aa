-- The end of asking. At a quorum of servers the best tag is at least what they had at the begin, and at a quorum what they had was at least the
-- tag of an operation that ended before. The two meet: the best tag is at least that tag. A write takes a tag above it, and so one that no
-- write has.
use Prim.Native.Nat.{ℕ, ◌≤◌, ◌<◌}
use mathlib.Core.Path.{◌≡◌, sym, ◌∙◌, ap}
use mathlib.Core.Bool.{Bool, true}
use mathlib.Core.Logic.{⊎_elim}
use mathlib.Core.Option.{Option, some}
use native.Mathlib.Omega.{arith}
use borrow.Author.Tests.{leb-true}
use Rattle.config.specs.Config.{quorum_of}
use Rattle.tag.specs.declared.Tag.{Tag}
use Rattle.protocol.specs.Number.{count}
use Rattle.protocol.specs.Client.{enough, next_tag}
use Rattle.protocol.specs.Board.{Answer}
use Rattle.protocol.proofs.Basics.{none≢some}
use Rattle.protocol.proofs.Quorum.{Quorum, quorums_meet}
use Rattle.protocol.proofs.World.{Setting, Ghost, Knowledge, Wrote, Asking, GoodLog}

module _ (S : Setting) where
  open S use {Value, cfg, key, IsBoard, tags, positive}

  module _ {k : Knowledge S} {g : Ghost S} {now : ℕ} {c : ℕ} {board : Option Value} {best : Tag} {cs : ℕ → Bool} (asks : Asking S k g c board best cs) (q : enough cfg cs ≡ true) (a : GoodLog S k g now) where
    -- the counted servers are a quorum
    answered : Quorum cfg (λ s. k.base c s ≤ key best)
    unfolding enough
    answered = record { members = cs; enough = leb-true (quorum_of cfg) (count cs cfg.n) q; each = asks.answers }

    -- the best tag is at or above that of each operation that ended before the begin
    pub best_above : (p : ℕ) (x : ℕ × Answer Value) (u : Tag) → g.ending p ≡ some x → g.chosen p ≡ some u → x.0 < g.latest c → key u ≤ key best
    best_above p x u e f h =
        let met = quorums_meet {P = λ s. k.base c s ≤ key best} {Q = λ s. key u ≤ k.base c s} positive answered (asks.earlier p x u e f h) in
        omega (arith, met.1, met.2)

    -- the tag that a write takes is above it
    pub next_above : key best < key (next_tag best c)
    unfolding next_tag
    next_above = tags.next best c asks.known.within asks.current.low asks.current.high

    -- and no write has it
    pub next_new : (p : ℕ) (v : Value) (u : Tag) → Wrote S g p v u → key u ≡ key (next_tag best c) → ⊥
    unfolding next_tag
    next_new p v u w e =
        let equal : u ≡ next_tag best c = tags.injective u (next_tag best c) (a.chosen_known p u w.chosen).within asks.current.high e in
        let mine : w.client ≡ c = sym (a.wrote_client p v u w) ∙ ap (λ (t : Tag). t.client) equal in
        ⊎_elim
        (λ h. none≢some (sym asks.current.chosen ∙ ap g.chosen (sym h) ∙ w.chosen))
        (λ h. let low = best_above p h.0 u h.1 w.chosen h.2 in omega (arith, low, next_above, e))
        (a.past p c (some v) (w.begun ∙ ap (λ (d : ℕ). some (d, some v)) mine))
