use mathlib.Core.Path.{◌≡◌, refl, sym, ◌∙◌, ap}
use mathlib.Core.Bool.{true, false}
use borrow.Author.Tests.{not-true, not-false}
use Prim.Native.Nat.{ℕ}
use lib.ListN.{get_or}
use Rattle.tag.specs.Tag.{allowed}
use Rattle.record.specs.declared.Header.{Header}
use Rattle.record.specs.Record.{length_at, length_fits, present_at, tag_at}
use Rattle.record.proofs.Clauses.{Says, its_client, its_fit, its_header, its_layout, its_server, its_tag, not_so, well-formed}
use Rattle.record.proofs.Parties.{no_client, no-server, some_client, some_server}
use Rattle.record.proofs.Answers.{accepted, refused}
use Rattle.record.proofs.parse.Goals as goal
use Rattle.record.proofs.parse.Goals.{After-sound}

-- the header that is made
abbrev made : After-sound → Header
made c =
    record {
      kind = c.of-kind.result;
      client = c.in-Ok.client;
      server = c.in-Ok-new.server;
      operation = c.number_at-operation.result;
      tag = record { number = c.number_at-number.result; client = get_or c.args.buf.now 12 0 };
      length = c.length-length.result;
      present = present_at c.args.buf.now;
    }

-- it says what the record says
says : (c : After-sound) → Says c.args.cfg c.args.buf.now (made c)
says c =
    let s = c in
    record {
      kind = c.of-kind.ensures;
      client = (some_client s.args.cfg _ _ _ c.new.ensures c.in-Ok.is).1;
      server = (some_server s.args.cfg _ _ _ c.new-2.ensures c.in-Ok-new.is).1;
      operation = c.number_at-operation.ensures;
      tag = λ i. record { number = c.number_at-number.ensures i; client = get_or s.args.buf.now 12 0 };
      present = refl;
      length = c.length-length.ensures;
    }

pub returns-then-not-laid_out : goal.returns-then-not-laid_out
returns-then-not-laid_out c =
    let s = c in
    refused s.args.cfg _ (not_so _ _ (its_layout s.args.cfg _) (sym c.laid_out.ensures ∙ not-true _ c.if-not-laid_out.true-raw))

pub returns-in_default : goal.returns-in_default
returns-in_default c =
    let n = c in
    let s = n in
    refused s.args.cfg _ (not_so _ _ (its_client s.args.cfg _) (no_client s.args.cfg _ s.requires.valid _ _ n.new.ensures c.in_default.is))

pub returns-in_default-new : goal.returns-in_default-new
returns-in_default-new c =
    let n = c in
    let s = n in
    refused s.args.cfg _ (not_so _ _ (its_server s.args.cfg _) (no-server s.args.cfg _ s.requires.valid _ _ n.new-2.ensures c.in_default-new.is))

pub returns-then-not-allowed : goal.returns-then-not-allowed
returns-then-not-allowed c =
    let n = c in
    let s = n in
    let t : allowed s.args.cfg.c (tag_at s.args.buf.now) ≡ false =
    ap (λ (z : ℕ). allowed s.args.cfg.c (record { number = z; client = get_or s.args.buf.now 12 0 })) (sym n.number_at-number.ensures)
    ∙ sym c.allowed.ensures ∙ not-true _ c.if-not-allowed.true-raw in
    refused s.args.cfg _ (not_so _ _ (its_tag s.args.cfg _) t)

pub returns-then-not-length_fits : goal.returns-then-not-length_fits
returns-then-not-length_fits c =
    let d = c in
    let s = d in
    let f : length_fits s.args.cfg (present_at s.args.buf.now) (length_at s.args.buf.now) ≡ false =
    ap (λ (z : ℕ). length_fits s.args.cfg (present_at s.args.buf.now) z) (sym d.length-length.ensures)
    ∙ sym d.length_fits.ensures ∙ not-true _ c.if-not-length_fits.true-raw in
    refused s.args.cfg _ (not_so _ _ (its_fit s.args.cfg _) f)

pub returns-then-not-sound : goal.returns-then-not-sound
returns-then-not-sound c =
    let d = c in
    let s = d in
    refused s.args.cfg _ (not_so _ _ (its_header s.args.cfg _ _ (says (goal.at.returns-then-not-sound c).After-sound)) (sym d.sound.ensures ∙ not-true _ c.if-not-sound.true-raw))

pub returns : goal.returns
returns c =
    let d = c in
    let s = d in
    let t : allowed s.args.cfg.c (tag_at s.args.buf.now) ≡ true =
    ap (λ (z : ℕ). allowed s.args.cfg.c (record { number = z; client = get_or s.args.buf.now 12 0 })) (sym d.number_at-number.ensures)
    ∙ sym d.allowed.ensures ∙ not-false _ d.if-not-allowed.false-raw in
    let f : length_fits s.args.cfg (present_at s.args.buf.now) (length_at s.args.buf.now) ≡ true =
    ap (λ (z : ℕ). length_fits s.args.cfg (present_at s.args.buf.now) z) (sym d.length-length.ensures)
    ∙ sym d.length_fits.ensures ∙ not-false _ d.if-not-length_fits.false-raw in
    accepted s.args.cfg _ _ (says (goal.at.returns c).After-sound)
    (well-formed s.args.cfg _ _ (says (goal.at.returns c).After-sound) s.requires.eighty
    (sym d.laid_out.ensures ∙ not-false _ d.if-not-laid_out.false-raw)
    (some_client s.args.cfg _ _ _ d.new.ensures d.in-Ok.is).0
    (some_server s.args.cfg _ _ _ d.new-2.ensures d.in-Ok-new.is).0
    t
    f
    (sym d.sound.ensures ∙ not-false _ c.if-not-sound.false-raw))
