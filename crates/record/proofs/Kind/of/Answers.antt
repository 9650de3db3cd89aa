use mathlib.Core.Path.{◌≡◌, sym, ap}
use Prim.Native.Nat.{ℕ}
use borrow.Author.Tests.{ne_eqb}
use Rattle.record.specs.Record.{kind_of}
use Rattle.record.proofs.Kind.of.Goals as goal

-- the kind of a number that is known
known : (n : ℕ) {m : ℕ} → n ≡ m → kind_of m ≡ kind_of n
known n e = sym (ap kind_of e)

pub returns-in-1 : goal.returns-in-1
unfolding kind_of
returns-in-1 c = known _ c.in-1.is

pub returns-in-2 : goal.returns-in-2
unfolding kind_of
returns-in-2 c = known _ c.in-2.is

pub returns-in-3 : goal.returns-in-3
unfolding kind_of
returns-in-3 c = known _ c.in-3.is

pub returns-in-4 : goal.returns-in-4
unfolding kind_of
returns-in-4 c = known _ c.in-4.is

pub returns-in-5 : goal.returns-in-5
unfolding kind_of
returns-in-5 c = known _ c.in-5.is

pub returns-in-6 : goal.returns-in-6
unfolding kind_of
returns-in-6 c = known _ c.in-6.is

pub returns-in-7 : goal.returns-in-7
unfolding kind_of
returns-in-7 c = known _ c.in-7.is

pub returns-in-8 : goal.returns-in-8
unfolding kind_of
returns-in-8 c = known _ c.in-8.is

pub returns-in_default : goal.returns-in_default
unfolding kind_of
returns-in_default c =
    let n = c.args.number in
    let r = c.in_default.in_default-own.rest in
    rw (
      ne_eqb n 1 r.0.0.0.0.0.0.0.1,
      ne_eqb n 2 r.0.0.0.0.0.0.1,
      ne_eqb n 3 r.0.0.0.0.0.1,
      ne_eqb n 4 r.0.0.0.0.1,
      ne_eqb n 5 r.0.0.0.1,
      ne_eqb n 6 r.0.0.1,
      ne_eqb n 7 r.0.1,
      ne_eqb n 8 r.1,
    )
