-- A refusal is told from what the protocol accepts. Assumes nothing.
use Prim.Native.Nat.{ℕ}
use mathlib.Core.Path.{◌≡◌, refl, ap}
use mathlib.Core.Bool.{true, false, not, false≢true, true≢false}
use mathlib.Core.List.{List}
use Rattle.protocol.specs.Board.{is_accepted, refused}
use Rattle.parties.specs.declared.Answer.{Answer}
use Rattle.parties.specs.Acts.{answer_of, is_read, is_refusal}

pub told_refusal : (x : Answer) (read : List ℕ) → is_accepted (answer_of x read) ≡ not (is_refusal x)
unfolding is_accepted
told_refusal Answer.Nothing read = refl
told_refusal (Answer.Written c t) read = refl
told_refusal (Answer.Spent c) read = refl
told_refusal (Answer.Read c t length) read = refl
told_refusal (Answer.No why) read = refl

pub refusal_told : (x : Answer) (read : List ℕ) → is_accepted (answer_of x read) ≡ true → is_refusal x ≡ false
unfolding is_accepted
refusal_told Answer.Nothing read h = refl
refusal_told (Answer.Written c t) read h = refl
refusal_told (Answer.Spent c) read h = refl
refusal_told (Answer.Read c t n) read h = refl
refusal_told (Answer.No why) read h = absurd (false≢true h)

-- it is no read
pub refusal_is : (x : Answer) (read : List ℕ) (k : ℕ) → answer_of x read ≡ refused k → (is_refusal x ≡ true) × (is_read x ≡ false)
unfolding is_accepted
refusal_is Answer.Nothing read k h = absurd (true≢false (ap is_accepted h))
refusal_is (Answer.Written c t) read k h = absurd (true≢false (ap is_accepted h))
refusal_is (Answer.Spent c) read k h = absurd (true≢false (ap is_accepted h))
refusal_is (Answer.Read c t n) read k h = absurd (true≢false (ap is_accepted h))
refusal_is (Answer.No why) read k h = (refl, refl)
