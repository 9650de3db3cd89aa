use mathlib.Core.Path.{◌≡◌, sym, ◌∙◌}
use mathlib.Core.Bool.{true, false}
use mathlib.Core.List.{List, ◌∷◌}
use Prim.Native.Nat.{ℕ}
use borrow.Author.Tests.{eq-eqb, ne_eqb, not-false, not-true}
use lib.ListN.{length, get_or, replicate}
use Rattle.config.specs.declared.Config.{Config}
use Rattle.config.specs.declared.Refusal.{Refusal}
use Rattle.config.specs.Config.{questions}
use Rattle.config.specs.Questions.{first_no, within}
use Rattle.config.proofs.Valid.{valid}
use Rattle.record.proofs.Parties.{no_client, some_client}
use Rattle.client.specs.declared.State.{State}
use Rattle.states.specs.declared.clients.Unpacked.{Unpacked}
use Rattle.states.specs.Bytes.{same_bytes}
use Rattle.states.specs.Clients.{UnpackPost, is_state, packed, packed_length, state_of, unpack_questions}
use Rattle.states.specs.inner.Clients.{RefusedPost}
use Rattle.states.proofs.Answers.{not_asked, not-state, state_told}
use Rattle.states.proofs.clients.unpack.Goals as goal

-- the state that zeros tell
abbrev blank : State
blank = state_of (1 ∷ replicate 55 0)

-- question 6 is answered no
six : (cfg : Config) (bs : List ℕ) (r : Unpacked) → first_no (questions cfg) ≡ 0 → RefusedPost Refusal.Shape r → is_state cfg bs ≡ false → UnpackPost cfg bs r
unfolding unpack_questions
six cfg bs r passed p h =
    let a = not-state cfg (is_state cfg bs) (state_of bs) blank passed h in record { number = p.number ∙ a.0; state = p.state ∙ a.1 }

-- it is answered by the bytes that the state told is packed to
by_bytes : (cfg : Config) (bs : List ℕ) {s : State} {again : List ℕ} → length bs ≡ packed_length → within 1 cfg.c (get_or bs 0 0) ≡ true
    → s ≡ state_of bs → again ≡ packed s → is_state cfg bs ≡ same_bytes again bs
unfolding is_state
by_bytes cfg bs long there told e = rw (eq-eqb (length bs) packed_length long, there, e, told)

pub returns-in-Err : goal.returns-in-Err
unfolding unpack_questions
returns-in-Err c =
    let s = c in
    let bs = s.args.bytes.now in
    let a = not_asked s.args.cfg (is_state s.args.cfg bs) (state_of bs) blank _ c.in-Err.ensures c.refused.ensures.number in
    record { number = a.0; state = c.refused.ensures.state ∙ a.1 }

pub returns-then-bytes-ne-LENGTH : goal.returns-then-bytes-ne-LENGTH
unfolding is_state
returns-then-bytes-ne-LENGTH c =
    let a = c.args in
    six a.cfg _ _ (sym c.in_default.ensures) c.refused-then-bytes-ne-LENGTH.ensures (rw (ne_eqb _ packed_length c.if-bytes-ne-LENGTH.true))

pub returns-in_default-new : goal.returns-in_default-new
unfolding is_state
returns-in_default-new c =
    let a = c.args in
    let passed = sym c.in_default.ensures in
    let none = no_client a.cfg _ (valid a.cfg passed) _ _ c.new.ensures c.in_default-new.is in
    six a.cfg _ _ passed c.refused-in_default-new.ensures (rw (eq-eqb _ packed_length c.if-bytes-ne-LENGTH.false, none))

pub told-state-requires : goal.told-state-requires
told-state-requires c =
    let a = c.args in
    record { long = c.if-bytes-ne-LENGTH.false; number = (some_client a.cfg _ _ _ c.new.ensures c.in-Ok.is).1 }

pub returns-then-not-same : goal.returns-then-not-same
returns-then-not-same c =
    let a = c.args in
    let d = c in
    six a.cfg _ _ (sym c.in_default.ensures) c.refused-then-not-same.ensures
    (by_bytes a.cfg _ c.if-bytes-ne-LENGTH.false (some_client a.cfg _ _ _ c.new.ensures c.in-Ok.is).0 c.told-state.ensures c.pack-again.ensures.bytes ∙ sym c.same.ensures ∙ not-true _ c.if-not-same.true-raw)

pub returns : goal.returns
unfolding unpack_questions
returns c =
    let s = c in
    let bs = s.args.bytes.now in
    let passed = sym c.in_default.ensures in
    let holds = by_bytes s.args.cfg _ c.if-bytes-ne-LENGTH.false (some_client s.args.cfg _ _ _ c.new.ensures c.in-Ok.is).0 c.told-state.ensures c.pack-again.ensures.bytes ∙ sym c.same.ensures ∙ not-false _ c.if-not-same.false-raw in
    let a = state_told s.args.cfg (is_state s.args.cfg bs) (state_of bs) blank passed holds in
    record { number = a.0; state = c.told-state.ensures ∙ a.1 }
