-- `draws::Generator::new` meets its contract. Assumes nothing.
use mathlib.Core.Path.{refl}
use borrow.Author.Tests.{eq-eqb, ne_eqb}
use Rattle.config.specs.Questions.{first_no}
use Rattle.draws.proofs.Generator.new.Goals as goal

pub returns-then-seed-eq0 : goal.returns-then-seed-eq0
unfolding first_no
returns-then-seed-eq0 c = rw (eq-eqb c.args.seed 0 c.if-seed-eq0.true) (record { number = refl; made = refl })

pub returns : goal.returns
unfolding first_no
returns c = rw (ne_eqb c.args.seed 0 c.if-seed-eq0.false) (record { number = refl; made = refl })
