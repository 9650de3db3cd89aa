-- A list of questions. In order: the test `within`; a question that is answered yes or no; a list and then another; questions 1 to 5 and 21
-- and then the rest; the last question; a number that none of the questions has. Assumes nothing.
use mathlib.Core.Path.{◌≡◌, refl, sym, ◌∙◌, ap}
use mathlib.Core.Bool.{Bool, true, false, not, ◌&&◌, false≢true}
use mathlib.Core.List.{List, [], ◌∷◌, ◌++◌, append-nil}
use Prim.Native.Nat.{ℕ, ◌≤◌}
use native.Mathlib.Omega.{arith}
use borrow.Author.Tests.{eq-eqb, eqb-false, leb-true, le-leb, not-true}
use lib.Dec.{eqb, leb}
use Rattle.laws.proofs.Bools.{and_left, and_right}
use Rattle.config.specs.declared.Config.{Config}
use Rattle.config.specs.Config.{questions, rig_questions}
use Rattle.config.specs.Questions.{Question, ask, within, first_no, is_question, last_question, numbered}

-- ---- within

pub within_low : (low high x : ℕ) → within low high x ≡ true → low ≤ x
within_low low high x h = leb-true low x (and_left (leb low x) (leb x high) h)

pub within_high : (low high x : ℕ) → within low high x ≡ true → x ≤ high
within_high low high x h = leb-true x high (and_right (leb low x) (leb x high) h)

pub within_true : (low high x : ℕ) → low ≤ x → x ≤ high → within low high x ≡ true
within_true low high x a b = rw (le-leb low x a, le-leb x high b)

-- ---- one question

-- a question that is answered yes is passed over
pub first_no_yes : (number : ℕ) (holds : Bool) (rest : List Question) → holds ≡ true → first_no (ask number holds ∷ rest) ≡ first_no rest
unfolding first_no
first_no_yes number true rest h = refl
first_no_yes number false rest h = cc

-- a question that is answered no is the refusal
pub first_no_no : (number : ℕ) (holds : Bool) (rest : List Question) → holds ≡ false → first_no (ask number holds ∷ rest) ≡ number
unfolding first_no
first_no_no number true rest h = cc
first_no_no number false rest h = refl

-- where there is no refusal, a question is answered yes, and so are those behind it
pub yes_next : (number : ℕ) (holds : Bool) (rest : List Question) → 1 ≤ number → first_no (ask number holds ∷ rest) ≡ 0
    → (holds ≡ true) × (first_no rest ≡ 0)
unfolding first_no
yes_next number true rest low h = (refl, h)
yes_next number false rest low h = absurd (omega arith)

-- ---- a list of questions, and then another

-- the numbers of a list's first question and of the others
numbered_first : (number : ℕ) (first : List Question) → (is_question number && numbered first) ≡ true → is_question number ≡ true
numbered_first number first = and_left (is_question number) (numbered first)

numbered_rest : (number : ℕ) (first : List Question) → (is_question number && numbered first) ≡ true → numbered first ≡ true
numbered_rest number first = and_right (is_question number) (numbered first)

-- a question's number is 1 to the last, and not 15
pub question_within : (number : ℕ) → is_question number ≡ true → within 1 last_question number ≡ true
question_within number = and_left (within 1 last_question number) (not (eqb number 15))

pub question_not_15 : (number : ℕ) → is_question number ≡ true → number ≡ 15 → ⊥
question_not_15 number known e =
    false≢true (ap not (sym (eq-eqb number 15 e)) ∙ and_right (within 1 last_question number) (not (eqb number 15)) known)

-- where the first questions are all answered yes, the refusal is that of the rest
pub first_no_pass : (first rest : List Question) → numbered first ≡ true → first_no first ≡ 0 → first_no (first ++ rest) ≡ first_no rest
unfolding first_no numbered
first_no_pass [] rest known none = refl
first_no_pass (ask number true ∷ first) rest known none = first_no_pass first rest (numbered_rest number first known) none
first_no_pass (ask number false ∷ first) rest known none = absurd (omega (arith, within_low 1 last_question number (question_within number (numbered_first number first known))))

-- where one of the first is answered no, it is that one's
pub first_no_stop : (first rest : List Question) → (first_no first ≡ 0 → ⊥) → first_no (first ++ rest) ≡ first_no first
unfolding first_no
first_no_stop [] rest some = absurd (some refl)
first_no_stop (ask number true ∷ first) rest some = first_no_stop first rest some
first_no_stop (ask number false ∷ first) rest some = refl

-- what stands behind a question tells nothing where that one, or one before it, is answered no
pub first_no_behind : (first : List Question) (number : ℕ) (holds : Bool) (xs ys : List Question)
    → (first_no first ≡ 0 → holds ≡ true → first_no xs ≡ first_no ys) → first_no (first ++ ask number holds ∷ xs) ≡ first_no (first ++ ask number holds ∷ ys)
unfolding first_no
first_no_behind [] number true xs ys h = h refl refl
first_no_behind [] number false xs ys h = refl
first_no_behind (ask n true ∷ first) number holds xs ys h = first_no_behind first number holds xs ys h
first_no_behind (ask n false ∷ first) number holds xs ys h = refl

-- where all are answered yes, the first are, and the rest
pub none_first : (first rest : List Question) → first_no (first ++ rest) ≡ 0 → first_no first ≡ 0
unfolding first_no
none_first [] rest h = refl
none_first (ask number true ∷ first) rest h = none_first first rest h
none_first (ask number false ∷ first) rest h = h

pub none_rest : (first rest : List Question) → numbered first ≡ true → first_no (first ++ rest) ≡ 0 → first_no rest ≡ 0
none_rest first rest known h = sym (first_no_pass first rest known (none_first first rest h)) ∙ h

-- what is given for questions: 0, or the number of one of them
abbrev pub Given : ℕ → Type 0
Given n = (n ≤ last_question) × (n ≡ 15 → ⊥)

pub first_no_given : (qs : List Question) → numbered qs ≡ true → Given (first_no qs)
unfolding first_no numbered
first_no_given [] known = (omega arith, λ e. omega arith)
first_no_given (ask number true ∷ qs) known = first_no_given qs (numbered_rest number qs known)
first_no_given (ask number false ∷ qs) known =
    let question = numbered_first number qs known in
    (within_high 1 last_question number (question_within number question), question_not_15 number question)

pub numbered_both : (first rest : List Question) → numbered first ≡ true → numbered rest ≡ true → numbered (first ++ rest) ≡ true
unfolding numbered
numbered_both [] rest known h = h
numbered_both (ask number holds ∷ first) rest known h =
    rw (numbered_first number first known, numbered_both first rest (numbered_rest number first known) h)

-- ---- questions 1 to 5 and 21, and then the rest: `asked` is what `Config::ask` or `Config::ask_rig` gave

pub questions_numbered : (cfg : Config) → numbered (questions cfg) ≡ true
unfolding numbered questions
questions_numbered cfg = refl

pub rig_questions_numbered : (cfg : Config) (m : ℕ) → numbered (rig_questions cfg m) ≡ true
unfolding numbered rig_questions
rig_questions_numbered cfg m = refl

pub stops : (first rest : List Question) (asked : ℕ) → asked ≡ first_no first → (asked ≡ 0 → ⊥) → asked ≡ first_no (first ++ rest)
stops first rest asked e some = e ∙ sym (first_no_stop first rest (λ z. some (e ∙ z)))

pub passes : (first rest : List Question) (asked n : ℕ) → numbered first ≡ true → asked ≡ first_no first → asked ≡ 0 → n ≡ first_no rest
    → n ≡ first_no (first ++ rest)
passes first rest asked n known e none h = h ∙ sym (first_no_pass first rest known (sym e ∙ none))

-- one of these is answered no: it is the refusal
pub early : (cfg : Config) {asked : ℕ} → asked ≡ first_no (questions cfg) → (asked ≡ 0 → ⊥) → (rest : List Question)
    → asked ≡ first_no (questions cfg ++ rest)
early cfg {asked} e some rest = stops (questions cfg) rest asked e some

-- none is: the refusal is that of the rest
pub later : (cfg : Config) {asked n : ℕ} → asked ≡ first_no (questions cfg) → asked ≡ 0 → (rest : List Question) → n ≡ first_no rest
    → n ≡ first_no (questions cfg ++ rest)
later cfg {asked} {n} e none rest h = passes (questions cfg) rest asked n (questions_numbered cfg) e none h

pub rig_early : (cfg : Config) (m : ℕ) {asked : ℕ} → asked ≡ first_no (rig_questions cfg m) → (asked ≡ 0 → ⊥) → (rest : List Question)
    → asked ≡ first_no (rig_questions cfg m ++ rest)
rig_early cfg m {asked} e some rest = stops (rig_questions cfg m) rest asked e some

pub rig_later : (cfg : Config) (m : ℕ) {asked n : ℕ} → asked ≡ first_no (rig_questions cfg m) → asked ≡ 0 → (rest : List Question)
    → n ≡ first_no rest → n ≡ first_no (rig_questions cfg m ++ rest)
rig_later cfg m {asked} {n} e none rest h = passes (rig_questions cfg m) rest asked n (rig_questions_numbered cfg m) e none h

-- ---- the last question, after others that are all answered yes

pub last_yes : (first : List Question) (number : ℕ) (holds : Bool) → numbered first ≡ true → first_no first ≡ 0 → holds ≡ true
    → first_no (first ++ ask number holds ∷ []) ≡ 0
unfolding first_no
last_yes first number holds known none h = first_no_pass first (ask number holds ∷ []) known none ∙ first_no_yes number holds [] h

pub last_no : (first : List Question) (number : ℕ) (holds : Bool) → numbered first ≡ true → first_no first ≡ 0 → holds ≡ false
    → first_no (first ++ ask number holds ∷ []) ≡ number
last_no first number holds known none h = first_no_pass first (ask number holds ∷ []) known none ∙ first_no_no number holds [] h

-- all yes, and the last too
pub last_all : (first : List Question) (number : ℕ) (holds : Bool) → numbered first ≡ true → 1 ≤ number
    → first_no (first ++ ask number holds ∷ []) ≡ 0 → (first_no first ≡ 0) × (holds ≡ true)
last_all first number holds known low h =
    (none_first first (ask number holds ∷ []) h, (yes_next number holds [] low (none_rest first (ask number holds ∷ []) known h)).0)

-- ---- a number that none of the questions has is not the refusal

unfoldable pub lacks : ℕ → List Question → Bool
lacks n [] = true
lacks n (ask k holds ∷ qs) = not (eqb k n) && lacks n qs

-- it is that of those behind them
pub skip : (n : ℕ) (first rest : List Question) → lacks n first ≡ true → first_no (first ++ rest) ≡ n → first_no rest ≡ n
unfolding lacks first_no
skip n [] rest h e = e
skip n (ask k true ∷ first) rest h e = skip n first rest (and_right (not (eqb k n)) (lacks n first) h) e
skip n (ask k false ∷ first) rest h e =
    absurd (eqb-false k n (not-true (eqb k n) (and_left (not (eqb k n)) (lacks n first) h)) e)

pub no_such : (n : ℕ) (qs : List Question) → lacks n qs ≡ true → 1 ≤ n → first_no qs ≡ n → ⊥
unfolding first_no
no_such n qs h low e = omega (arith, low, skip n qs [] h (ap first_no (append-nil qs) ∙ e))
