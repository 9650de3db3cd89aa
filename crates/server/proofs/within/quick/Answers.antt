use Rattle.std.proofs.Common.{◌≡◌, ℕ, ◌+◌, ◌≤◌, Bool, true, false, not, ◌&&◌, eqb, List, length, sym, refl, ◌∙◌, true≢false, arith, ltb-true, le-leb}
use Rattle.std.specs.Prelude.{None, Some}
use mathlib.Core.Option.{Option, none, some}
use borrow.Author.Tests.{not-false}
use Rattle.config.specs.declared.Config.{Config}
use Rattle.config.specs.Number.{server_number}
use Rattle.config.specs.Questions.{within}
use Rattle.tag.specs.declared.Tag.{Tag}
use Rattle.tag.specs.Tag.{above, allowed}
use Rattle.tag.proofs.Order.{number_above}
use Rattle.record.specs.Record.{all}
use mathlib.Core.Bool.{and-true}
use Rattle.server.specs.declared.State.{State}
use Rattle.server.specs.inner.Spread.{SpreadPost, floor_full, over_floor}
use Rattle.server.specs.Within.{every, floor_within, tags_within, numbers_within}
use Rattle.server.specs.View.{each, floor_of, tag_at, tags_used}
use Rattle.server.proofs.Each.{length_each}
use Rattle.server.proofs.Tags.{every_in, in_every}
use Rattle.server.proofs.within.quick.Goals as goal

-- a tag of a higher number is above the floor
over-above : (cfg : Config) (f : Tag) (ts : List Tag) → every (over_floor (some f)) ts ≡ true → every (λ (t : Tag). above cfg t f) ts ≡ true
over-above cfg f ts h =
    in_every (λ (t : Tag). above cfg t f) ts
    (λ t i. number_above cfg t f (ltb-true f.number t.number (every_in (over_floor (some f)) ts t h i)))

-- the floor's clauses, where each tag has a higher number
full : (cfg : Config) (floor : Option Tag) (ts : List Tag) (n : ℕ) → length ts ≡ n → every (over_floor floor) ts ≡ true → floor_full cfg floor n ≡ floor_within cfg floor ts
unfolding floor_within
full cfg none ts n e h = refl
full cfg (some f) ts n e h = rw (e, over-above cfg f ts h) (sym (and-true (allowed cfg.c f && eqb n (cfg.d + 1))))

-- the state's clauses, where those of the tags hold
by-full : (cfg : Config) (s : State) {me highest full : Bool}
    → me ≡ within 1 cfg.n (server_number s.me) → (not me ≡ false) → highest ≡ allowed cfg.c s.highest → (not highest ≡ false) → s.count ≤ cfg.d + 1
    → full ≡ floor_full cfg (floor_of s.floor) s.count → (not full ≡ false)
    → (b : Bool) → SpreadPost cfg.c (floor_of s.floor) (tags_used s) b → b ≡ true → numbers_within cfg s ≡ true
unfolding numbers_within tags_within all
by-full cfg s me me-yes highest highest-yes count floor floor-yes b h e =
    let long : length (tags_used s) ≡ s.count = length_each (tag_at s.tags) 0 s.count in
    rw (sym me ∙ not-false _ me-yes, sym highest ∙ not-false _ highest-yes, long, le-leb s.count (cfg.d + 1) count, h.limits e, h.differ e)
    (and-true (floor_within cfg (floor_of s.floor) (tags_used s))
    ∙ sym (full cfg (floor_of s.floor) (tags_used s) s.count long (h.over e)) ∙ sym floor ∙ not-false _ floor-yes)

-- the state's tags, where there is a floor
above_floor : (cfg : Config) (s : State) (f : Tag) (n : ℕ) (b : Bool) → s.floor ≡ Some f → s.count ≡ n
    → SpreadPost cfg.c (some f) (each (tag_at s.tags) 0 n) b → SpreadPost cfg.c (floor_of s.floor) (tags_used s) b
above_floor cfg s f n b floor count h = rw (floor, count) h

-- the same, where there is none
no-floor : (cfg : Config) (s : State) (b : Bool) → s.floor ≡ None → SpreadPost cfg.c none (tags_used s) b → SpreadPost cfg.c (floor_of s.floor) (tags_used s) b
no-floor cfg s b floor h = rw floor h

pub returns-then-not-server_within : goal.returns-then-not-server_within
returns-then-not-server_within c = λ e. absurd (true≢false (sym e))

pub returns-then-not-allowed : goal.returns-then-not-allowed
returns-then-not-allowed c = λ e. absurd (true≢false (sym e))

pub returns-then-cfg-count : goal.returns-then-cfg-count
returns-then-cfg-count c = λ e. absurd (true≢false (sym e))

pub returns-then-not-floor_full : goal.returns-then-not-floor_full
returns-then-not-floor_full c = λ e. absurd (true≢false (sym e))

pub returns-in_default : goal.returns-in_default
returns-in_default c e =
    let h = c in
    let a = h.args in
    by-full _ _ h.server_within.ensures h.if-not-server_within.false-raw
    h.allowed.ensures h.if-not-allowed.false-raw h.if-cfg-count.false
    h.floor_full.ensures h.if-not-floor_full.false-raw _
    (no-floor a.cfg a.s _ c.in_default.is c.spread.ensures) e

pub risen-requires : goal.risen-requires
risen-requires c =
    let p = c.requires in
    (p.c_high, omega (arith, p.d_high, c.if-cfg-count.false))

pub returns : goal.returns
returns c e =
    let h = c in
    let a = h.args in
    by-full _ _ h.server_within.ensures h.if-not-server_within.false-raw
    h.allowed.ensures h.if-not-allowed.false-raw h.if-cfg-count.false
    h.floor_full.ensures h.if-not-floor_full.false-raw _
    (above_floor a.cfg a.s _ a.s.count _ c.in-Some.is refl (c.risen.ensures _ (omega (arith, c.past.ensures)))) e
