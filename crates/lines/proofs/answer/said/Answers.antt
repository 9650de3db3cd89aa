-- `lines::answer::said` meets its contract, by cases on the answer. Assumes nothing.
use Rattle.std.proofs.Common.{sym, refl, ap, ◌∙◌, arith, rules}
use Rattle.parties.specs.Acts.{answer_of}
use Rattle.lines.specs.Line.{refused_of, said_of}
use Rattle.lines.proofs.Texts.{recast}
use Rattle.lines.proofs.answer.said.Goals as goal

pub returns-in-Nothing : goal.returns-in-Nothing
unfolding said_of
returns-in-Nothing c = (
  recast (sym (ap (λ x. said_of (answer_of x c.args.read.now)) c.in-Nothing.is)) refl c.word.ensures,
  omega (arith, c.word.ensures.place),
)

pub returns-in-Written : goal.returns-in-Written
unfolding said_of
returns-in-Written c = (
  recast (sym (ap (λ x. said_of (answer_of x c.args.read.now)) c.in-Written.is)) refl c.written.ensures.0,
  omega (arith, c.written.ensures.1),
)

pub returns-in-Spent : goal.returns-in-Spent
unfolding said_of
returns-in-Spent c = (
  recast (sym (ap (λ x. said_of (answer_of x c.args.read.now)) c.in-Spent.is)) refl c.word-in-Spent.ensures,
  omega (arith, c.word-in-Spent.ensures.place),
)

pub returns-in-Read : goal.returns-in-Read
unfolding said_of
returns-in-Read c = (
  recast (sym (ap (λ x. said_of (answer_of x c.args.read.now)) c.in-Read.is)) refl c.shown.ensures.0,
  omega (arith, c.shown.ensures.1),
)

pub returns-in-No : goal.returns-in-No
unfolding said_of
returns-in-No c = (
  recast (ap refused_of c.number.ensures ∙ sym (ap (λ x. said_of (answer_of x c.args.read.now)) c.in-No.is)) refl c.refused.ensures.0,
  omega (arith, c.refused.ensures.1),
)
