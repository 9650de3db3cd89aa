use mathlib.Core.Path.{◌≡◌, sym, ◌∙◌}
use Prim.Native.Nat.{ℕ, ◌*◌, ◌%◌, ◌^◌, ◌<◌}
use native.Mathlib.Nat.{one-mul}
use native.Mathlib.Omega.{arith}
use lib.Pow.{shl_exact}
use lib.Dec.{lit<}
use borrow.Author.Rules.{rules}
use Rattle.client.specs.inner.Count.{put_of}
use Rattle.client.proofs.Sets.{member_le, put_lt}
use Rattle.client.proofs.servers.put.Goals as goal

-- the machine's shift
one_bit : (s : ℕ) → s < 32 → (1 * 2 ^ s) % 4294967296 ≡ 2 ^ s
one_bit s h = shl_exact {a = 1} 1 s 32 (lit< tt) (omega arith) ∙ one-mul (2 ^ s)

pub overflow_shl-bit : goal.overflow_shl-bit
unfolding put_of
overflow_shl-bit c = search rules

pub has-requires : goal.has-requires
unfolding put_of
has-requires c = search rules

pub returns-then-there : goal.returns-then-there
unfolding put_of
returns-then-there c = rw (sym c.has.ensures ∙ c.if-has.true, c.if-there.true)

pub overflow_sub-result : goal.overflow_sub-result
overflow_sub-result c =
    let a = c.args in
    rw (one_bit a.s c.requires)
    (member_le a.s a.set (sym c.has.ensures ∙ c.if-has.true))

pub returns-then-has : goal.returns-then-has
unfolding put_of
returns-then-has c = rw (one_bit _ c.requires, sym c.has.ensures ∙ c.if-has.true, c.if-there.false)

pub overflow_add-result : goal.overflow_add-result
overflow_add-result c =
    let a = c.args in
    rw (one_bit a.s c.requires)
    (record { fits = put_lt 32 a.s a.set c.requires c.ranges.set.fits (sym c.has.ensures ∙ c.if-has.false) })

pub returns-then-there-2 : goal.returns-then-there-2
unfolding put_of
returns-then-there-2 c = rw (one_bit _ c.requires, sym c.has.ensures ∙ c.if-has.false, c.if-there-2.true)

pub returns : goal.returns
unfolding put_of
returns c = rw (sym c.has.ensures ∙ c.if-has.false, c.if-there-2.false)
