-- The answers of the maker's calls, from what their parts show. Assumes nothing.
use Rattle.std.proofs.Common.{Result, Ok, Err}
use Prim.Native.Nat.{ℕ}
use mathlib.Core.Path.{◌≡◌, refl, sym, ap, ◌∙◌}
use mathlib.Core.Bool.{Bool, true, false, cond, ◌&&◌}
use mathlib.Core.List.{List}
use native.Mathlib.Omega.{arith}
use borrow.Author.Tests.{eq-eqb, eqb-true}
use lib.Dec.{eqb}
use lib.ListN.{length}
use Rattle.laws.proofs.Bools.{and_left}
use Rattle.config.specs.declared.Refusal.TheVariants.{Seed, Shape}
use Rattle.config.specs.Refusal.{Verdict}
use Rattle.laws.specs.Below.{all_below}
use Rattle.config.specs.Config.{rank, ranks_within, rig_questions}
use Rattle.config.specs.Questions.{first_no}
use Rattle.events.specs.View.{Lent}
use Rattle.events.specs.Questions.{rig_within, sized, sized_by}
use Rattle.rig.specs.Calls as rig
use Rattle.rig.proofs.Always.{always_sized, always_within}
use Rattle.lines.specs.Program.{program, program_messages, program_start}
use Rattle.draws.specs.declared.Generator.{Generator}
use Rattle.draws.specs.Draws.{NewGenerator}
use Rattle.draws.specs.Draws.{NewGeneratorPost}
use Rattle.draws.proofs.Seeds.{its_seed, some_seed}
use Rattle.maker.specs.declared.Load.{Load}
use Rattle.maker.specs.declared.Loaded.{Loaded}
use Rattle.maker.specs.Calls.{BeginPost, MakePost, RecordsPost, bytes_for, make_no, records_no}
use Rattle.maker.specs.Load as load
use Rattle.maker.specs.Steps.{Along, MadeSo, Steps}
use Rattle.maker.proofs.Made.{all_made, begins, made_so}

-- ---- records

-- the number of question 6
abbrev six : Bool → ℕ
six b = cond b 0 6

module _ (x : Load) (count : ℕ) (out : List ℕ) (l : Lent) {yes : Bool}
    (is : yes ≡ (eqb (length out) (bytes_for count) && sized program program_messages l && rig_within program program_messages x.rig))
  where
    no-is : records_no x count out l ≡ six yes
    unfolding first_no
    no-is = ap six (sym is)

    pub records-no : yes ≡ false → RecordsPost x count out l (record { verdict = Err Shape; load = x }) out l
    records-no h =
        let is-six : records_no x count out l ≡ 6 = no-is ∙ ap six h in
        record {
          number = sym is-six;
          steps = λ z. absurd (omega (arith, is-six, z));
          held = λ _. (refl, refl, refl);
        }

    module _ (h : yes ≡ true) where
      none_no : records_no x count out l ≡ 0
      none_no = no-is ∙ ap six h

      pub records-long : length out ≡ bytes_for count
      records-long =
          let long = eqb (length out) (bytes_for count) in
          let both = sized program program_messages l in
          let kept = rig_within program program_messages x.rig in
          eqb-true (length out) (bytes_for count) (and_left long both (and_left (long && both) kept (sym is ∙ h)))

      pub records-yes : {y : Load} {out' : List ℕ} {l' : Lent} → Steps x l count out' y l'
          → RecordsPost x count out l (record { verdict = (Ok tt); load = y }) out' l'
      records-yes steps = record { number = sym none_no; steps = λ _. steps; held = λ ne. absurd (ne none_no) }

-- ---- the maker

-- no seed
pub make-no : {seed count : ℕ} {out : List ℕ} → seed ≡ 0 → MakePost seed count out (Err Seed) out
unfolding first_no
make-no {seed} {count} {out} z =
    let twenty : make_no seed count out ≡ 20 = rw (eq-eqb seed 0 z) in
    record { number = sym twenty; records = λ e. absurd (omega (arith, twenty, e)); held = λ _. refl }

-- the buffers that it lends to its rig have their lengths
pub lends : (l : Lent) → length l.messages ≡ 5120 → length l.stores ≡ 3 → length l.boards ≡ 2 → length l.elements ≡ 6
    → rig.make_no program program_messages program_start l ≡ 0
unfolding all_below first_no rank ranks_within rig_questions rig.make_questions sized_by
lends l m s b e =
    rw (eq-eqb (length l.messages) 5120 m, eq-eqb (length l.stores) 3 s, eq-eqb (length l.boards) 2 b, eq-eqb (length l.elements) 6 e)

module _ {seed count : ℕ} {out : List ℕ} {n : NewGenerator} (new : NewGeneratorPost seed n) {g : Generator} (is : n ≡ Ok g)
    {l : Lent} {b : Loaded} {begun : Lent} (post : BeginPost g l b begun) (no : rig.make_no program program_messages program_start l ≡ 0)
    {r : Loaded} {out' : List ℕ} {l' : Lent} (made : RecordsPost b.load count out begun r out' l')
  where
    abbrev long : Bool
    long = eqb (length out) (bytes_for count)

    same-no : records_no b.load count out begun ≡ make_no seed count out
    unfolding first_no
    same-no =
        let runs = (begins post no).runs in
        rw (always_sized program program_messages program_start runs, always_within program program_messages program_start runs, some_seed new is) (by long)
      where
        by : (x : Bool) → six (x && true && true) ≡ six x
        by true = refl
        by false = refl

    pub make_done : MakePost seed count out r.verdict out'
    make_done =
        record {
          number = made.number ∙ same-no;
          records = λ z. all_made post no (made.steps (same-no ∙ z)) ∙ ap (λ x. load.made count x) (its_seed new is);
          held = λ ne. (made.held (λ z. ne (sym same-no ∙ z))).1;
        }

-- ---- the next records of a load whose rig a list of events came to: they are not refused where their bytes have the length, and they are the
-- definition's

module _ (x : Load) (l : Lent) (along : Along x.rig l) (count : ℕ) (out : List ℕ) (long : length out ≡ bytes_for count) where
  pub next-accepted : records_no x count out l ≡ 0
  unfolding first_no
  next-accepted =
      let runs = along.runs in
      rw (eq-eqb (length out) (bytes_for count) long, always_sized program program_messages program_start runs, always_within program program_messages program_start runs)

  pub records-made : {r : Loaded} {out' : List ℕ} {l' : Lent} → RecordsPost x count out l r out' l' → MadeSo x l count out' r.load l'
  records-made post = made_so along (post.steps next-accepted)
