use mathlib.Core.Path.{◌≡◌, refl, sym, ◌∙◌}
use mathlib.Core.Bool.{true, false, and-true}
use Prim.Native.Nat.{ℕ}
use native.Mathlib.Omega.{arith}
use borrow.Author.Tests.{le-leb, lt-leb, not-true, not-false}
use Rattle.config.specs.Number.{client_number}
use Rattle.record.specs.declared.Header.{Header}
use Rattle.record.specs.Calls.{is_sound}
use Rattle.record.specs.Record.{all, kind_number, own_tag, presence, query_tag}
use Rattle.record.proofs.rules.sound.Goals as goal

module _ (h : Header) where
  no-operation : h.operation ≡ 0 → false ≡ is_sound h
  unfolding is_sound all
  no-operation z = rw (lt-leb 1 h.operation (omega arith))

  module _ (k c : ℕ) (kind : k ≡ kind_number h.kind) (client : c ≡ client_number h.client) (some : h.operation ≡ 0 → ⊥) where
    query : query_tag k h.tag ≡ false → false ≡ is_sound h
    unfolding is_sound all
    query q = rw (le-leb 1 h.operation (omega arith), ← kind, q)

    own : query_tag k h.tag ≡ true → own_tag k c h.tag ≡ false → false ≡ is_sound h
    unfolding is_sound all
    own q o = rw (le-leb 1 h.operation (omega arith), ← kind, ← client, q, o)

    rest : query_tag k h.tag ≡ true → own_tag k c h.tag ≡ true → presence k h.present ≡ is_sound h
    unfolding is_sound all
    rest q o =
        rw (le-leb 1 h.operation (omega arith), ← kind, ← client, q, o) (sym (and-true (presence k h.present)))

pub returns-then-h-eq0 : goal.returns-then-h-eq0
returns-then-h-eq0 c = no-operation c.args.h c.if-h-eq0.true

pub returns-then-not-query_tag : goal.returns-then-not-query_tag
returns-then-not-query_tag c =
    let b = c in
    query b.args.h _ _ b.number-number.ensures refl b.if-h-eq0.false
    (sym c.query_tag.ensures ∙ not-true _ c.if-not-query_tag.true-raw)

pub returns-then-not-own_tag : goal.returns-then-not-own_tag
returns-then-not-own_tag c =
    let d = c in
    let b = d in
    own b.args.h _ _ b.number-number.ensures c.number.ensures b.if-h-eq0.false
    (sym d.query_tag.ensures ∙ not-false _ d.if-not-query_tag.false-raw)
    (sym c.own_tag.ensures ∙ not-true _ c.if-not-own_tag.true-raw)

pub returns : goal.returns
returns c =
    let e = c in
    let d = e in
    let b = d in
    c.presence.ensures ∙ rest b.args.h _ _ b.number-number.ensures e.number.ensures
    b.if-h-eq0.false
    (sym d.query_tag.ensures ∙ not-false _ d.if-not-query_tag.false-raw)
    (sym e.own_tag.ensures ∙ not-false _ e.if-not-own_tag.false-raw)
