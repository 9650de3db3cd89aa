use Rattle.std.proofs.Common.{◌≡◌, ◌+◌, ◌<◌, ◌≤◌, true, false, length, sym, ◌∙◌, le-leb}
use borrow.Author.Tests.{lt-leb, not-true, not-false}
use Rattle.config.specs.declared.Config.{Config}
use Rattle.config.specs.Number.{server_number}
use Rattle.config.specs.Questions.{within}
use Rattle.tag.specs.Tag.{allowed}
use Rattle.record.specs.Record.{all}
use mathlib.Core.Bool.{and-true}
use Rattle.server.specs.declared.State.{State}
use Rattle.server.specs.Within.{every, floor_within, tags_within, once, numbers_within}
use Rattle.server.specs.View.{floor_of, tag_at, tags_used}
use Rattle.server.proofs.Each.{length_each}
use Rattle.server.proofs.within.each_number.Goals as goal

-- the state's clauses, by the one that fails
module _ (cfg : Config) (s : State) where
  long : length (tags_used s) ≡ s.count
  long = length_each (tag_at s.tags) 0 s.count

  no-server : within 1 cfg.n (server_number s.me) ≡ false → false ≡ numbers_within cfg s
  unfolding numbers_within
  no-server h = rw h

  module _ (me : within 1 cfg.n (server_number s.me) ≡ true) where
    no-highest : allowed cfg.c s.highest ≡ false → false ≡ numbers_within cfg s
    unfolding numbers_within tags_within all
    no-highest h = rw (me, h)

    module _ (highest : allowed cfg.c s.highest ≡ true) where
      no-count : cfg.d + 1 < s.count → false ≡ numbers_within cfg s
      unfolding numbers_within tags_within all
      no-count h = rw (me, highest, long, lt-leb s.count (cfg.d + 1) h)

      module _ (count : s.count ≤ cfg.d + 1) where
        no-tags : every (allowed cfg.c) (tags_used s) ≡ false → false ≡ numbers_within cfg s
        unfolding numbers_within tags_within all
        no-tags h = rw (me, highest, long, le-leb s.count (cfg.d + 1) count, h)

        module _ (tags : every (allowed cfg.c) (tags_used s) ≡ true) where
          no-once : once (tags_used s) ≡ false → false ≡ numbers_within cfg s
          unfolding numbers_within tags_within all
          no-once h = rw (me, highest, long, le-leb s.count (cfg.d + 1) count, tags, h)

          by-floor : once (tags_used s) ≡ true → floor_within cfg (floor_of s.floor) (tags_used s) ≡ numbers_within cfg s
          unfolding numbers_within tags_within all
          by-floor h =
              rw (me, highest, long, le-leb s.count (cfg.d + 1) count, tags, h) (sym (and-true (floor_within cfg (floor_of s.floor) (tags_used s))))

pub returns-then-not-server_within : goal.returns-then-not-server_within
returns-then-not-server_within c = no-server _ _ (sym c.server_within.ensures ∙ not-true _ c.if-not-server_within.true-raw)

pub returns-then-not-allowed : goal.returns-then-not-allowed
returns-then-not-allowed c =
    no-highest _ _ (sym c.server_within.ensures ∙ not-false _ c.if-not-server_within.false-raw) (sym c.allowed.ensures ∙ not-true _ c.if-not-allowed.true-raw)

pub returns-then-cfg-count : goal.returns-then-cfg-count
returns-then-cfg-count c =
    no-count _ _ (sym c.server_within.ensures ∙ not-false _ c.if-not-server_within.false-raw) (sym c.allowed.ensures ∙ not-false _ c.if-not-allowed.false-raw)
    c.if-cfg-count.true

pub returns-then-not-each_allowed : goal.returns-then-not-each_allowed
returns-then-not-each_allowed c =
    no-tags _ _ (sym c.server_within.ensures ∙ not-false _ c.if-not-server_within.false-raw) (sym c.allowed.ensures ∙ not-false _ c.if-not-allowed.false-raw)
    c.if-cfg-count.false (sym c.each_allowed.ensures ∙ not-true _ c.if-not-each_allowed.true-raw)

pub returns-then-not-once : goal.returns-then-not-once
returns-then-not-once c =
    no-once _ _ (sym c.server_within.ensures ∙ not-false _ c.if-not-server_within.false-raw) (sym c.allowed.ensures ∙ not-false _ c.if-not-allowed.false-raw)
    c.if-cfg-count.false (sym c.each_allowed.ensures ∙ not-false _ c.if-not-each_allowed.false-raw) (sym c.once.ensures ∙ not-true _ c.if-not-once.true-raw)

pub returns : goal.returns
returns c =
    c.floor_within.ensures
    ∙ by-floor _ _ (sym c.server_within.ensures ∙ not-false _ c.if-not-server_within.false-raw) (sym c.allowed.ensures ∙ not-false _ c.if-not-allowed.false-raw)
    c.if-cfg-count.false (sym c.each_allowed.ensures ∙ not-false _ c.if-not-each_allowed.false-raw) (sym c.once.ensures ∙ not-false _ c.if-not-once.false-raw)
