use Rattle.std.proofs.Common.{◌≡◌, ℕ, ◌+◌, ◌-◌, ◌≤◌, List, length, take, drop, refl, ap, ◌∙◌, subst, arith, length-drop, length-take}
use Rattle.config.specs.declared.Config.{Config}
use Rattle.tag.specs.declared.Tag.{Tag}
use Rattle.record.specs.declared.Kind.TheVariants.{Cleared, PreWriteAnswer, QueryAnswer, ReadFinaliseAnswer, WriteFinaliseAnswer}
use Rattle.record.specs.Record.{element_in, highest_number}
use Rattle.server.specs.declared.State.{State}
use Rattle.server.specs.inner.Keep.{KeepPost}
use Rattle.server.proofs.Answering.{bare_post, raised_me}
use Rattle.server.proofs.Stepping.{finalising, pre_write_reply, query_reply, serve_pre_write, serve_query, serve_read, serve_write, steps_misdirected, tag_in, write_reply}
use Rattle.server.proofs.serve.request.Goals as goal

-- the part of the record that is the element
element-is : (cfg : Config) (bs : List ℕ) → take ((16 + cfg.e) - 16) (drop 16 bs) ≡ element_in cfg bs
element-is cfg bs = let n : (16 + cfg.e) - 16 ≡ cfg.e = omega arith in ap (λ (k : ℕ). take k (drop 16 bs)) n

element-long : (cfg : Config) (bs : List ℕ) → length bs ≡ 80 → cfg.e ≤ 64 → length (take ((16 + cfg.e) - 16) (drop 16 bs)) ≡ cfg.e
element-long cfg bs e high = length-take ((16 + cfg.e) - 16) (drop 16 bs) ∙ omega (arith, length-drop 16 bs)

keep-element : (cfg : Config) (s : State) (t : Tag) (n : ℕ) (bs store after : List ℕ) (r : State)
    → KeepPost cfg s t n (take ((16 + cfg.e) - 16) (drop 16 bs)) store after r → KeepPost cfg s t n (element_in cfg bs) store after r
keep-element cfg s t n bs store after r k = subst (λ (l : List ℕ). KeepPost cfg s t n l store after r) (element-is cfg bs) k

pub respond-requires : goal.respond-requires
respond-requires c =
    let s = c in
    let n : s.args.s.highest.number ≤ highest_number = omega (arith, s.well_formed.1.0) in
    query_reply c.args.cfg c.args.s c.args.h c.args.handed.now c.args.store.now c.args.answer.now s.requires _ refl n _ c.bare.ensures _ s.requires.answer_eighty

pub keep-after-requires : goal.keep-after-requires
keep-after-requires c =
    let s = c in
    record {
      held = s.requires.held;
      sized = element-long s.args.cfg s.args.handed.now s.requires.eighty s.requires.held.valid.e_high;
      allowed = tag_in c.args.cfg c.args.s c.args.h c.args.handed.now c.args.store.now c.args.answer.now s.requires;
    }

pub respond-requires-in-PreWrite : goal.respond-requires-in-PreWrite
respond-requires-in-PreWrite c =
    let s = c in
    pre_write_reply c.args.cfg c.args.s c.args.h c.args.handed.now c.args.store.now c.args.answer.now s.requires _ c.keep-after.ensures.me c.in-PreWrite.is _ c.bare-in-PreWrite.ensures _ s.requires.answer_eighty

pub respond-requires-in-WriteFinalise : goal.respond-requires-in-WriteFinalise
respond-requires-in-WriteFinalise c =
    let s = c in
    write_reply c.args.cfg c.args.s c.args.h c.args.handed.now c.args.store.now c.args.answer.now s.requires _ (raised_me s.args.cfg s.args.s s.args.h.tag c.raise-after.ensures) c.in-WriteFinalise.is _ c.bare-in-WriteFinalise.ensures _ s.requires.answer_eighty

pub read_finalise-requires : goal.read_finalise-requires
read_finalise-requires c = let s = c in finalising c.args.cfg c.args.s c.args.h c.args.handed.now c.args.store.now c.args.answer.now s.requires

pub returns-in-Query : goal.returns-in-Query
returns-in-Query c = serve_query c.args.cfg c.args.s c.args.h c.args.handed.now c.args.store.now c.args.answer.now c.requires c.in-Query.is _ _ (bare_post c.args.cfg c.args.s.me c.args.h QueryAnswer c.args.s.highest _ c.bare.ensures c.args.answer.now c.args.s _ _ c.respond.ensures)

pub returns-in-PreWrite : goal.returns-in-PreWrite
returns-in-PreWrite c =
    let s = c in
    serve_pre_write c.args.cfg c.args.s c.args.h c.args.handed.now c.args.store.now c.args.answer.now s.requires c.in-PreWrite.is _ _
    (keep-element s.args.cfg s.args.s s.args.h.tag s.args.h.length s.args.handed.now _ _ _ c.keep-after.ensures) _ _ (bare_post c.args.cfg c.keep-after.result.me c.args.h PreWriteAnswer c.args.h.tag _ c.bare-in-PreWrite.ensures c.args.answer.now c.keep-after.result _ _ c.respond-in-PreWrite.ensures)

pub returns-in-WriteFinalise : goal.returns-in-WriteFinalise
returns-in-WriteFinalise c =
    serve_write c.args.cfg c.args.s c.args.h c.args.handed.now c.args.store.now c.args.answer.now c.requires c.in-WriteFinalise.is _ c.raise-after.ensures _ _ (bare_post c.args.cfg c.raise-after.result.me c.args.h WriteFinaliseAnswer c.args.h.tag _ c.bare-in-WriteFinalise.ensures c.args.answer.now c.raise-after.result _ _ c.respond-in-WriteFinalise.ensures)

pub returns-in-ReadFinalise : goal.returns-in-ReadFinalise
returns-in-ReadFinalise c = serve_read c.args.cfg c.args.s c.args.h c.args.handed.now c.args.store.now c.args.answer.now c.requires c.in-ReadFinalise.is _ _ c.read_finalise.ensures

pub returns-in-QueryAnswer : goal.returns-in-QueryAnswer
returns-in-QueryAnswer c =
    steps_misdirected c.args.cfg c.args.s c.args.h c.args.handed.now c.args.store.now c.args.answer.now QueryAnswer c.in-QueryAnswer.is refl _ c.refused.ensures

pub returns-in-PreWriteAnswer : goal.returns-in-PreWriteAnswer
returns-in-PreWriteAnswer c =
    steps_misdirected c.args.cfg c.args.s c.args.h c.args.handed.now c.args.store.now c.args.answer.now PreWriteAnswer c.in-PreWriteAnswer.is refl _ c.refused-in-PreWriteAnswer.ensures

pub returns-in-WriteFinaliseAnswer : goal.returns-in-WriteFinaliseAnswer
returns-in-WriteFinaliseAnswer c =
    steps_misdirected c.args.cfg c.args.s c.args.h c.args.handed.now c.args.store.now c.args.answer.now WriteFinaliseAnswer c.in-WriteFinaliseAnswer.is refl _ c.refused-in-WriteFinaliseAnswer.ensures

pub returns-in-ReadFinaliseAnswer : goal.returns-in-ReadFinaliseAnswer
returns-in-ReadFinaliseAnswer c =
    steps_misdirected c.args.cfg c.args.s c.args.h c.args.handed.now c.args.store.now c.args.answer.now ReadFinaliseAnswer c.in-ReadFinaliseAnswer.is refl _ c.refused-in-ReadFinaliseAnswer.ensures

pub returns-in-Cleared : goal.returns-in-Cleared
returns-in-Cleared c =
    steps_misdirected c.args.cfg c.args.s c.args.h c.args.handed.now c.args.store.now c.args.answer.now Cleared c.in-Cleared.is refl _ c.refused-in-Cleared.ensures
