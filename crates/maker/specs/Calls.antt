-- What the maker's calls ask, answer and leave.
use Rattle.std.specs.Prelude.{ℕ, ◌*◌, ◌&&◌, ◌≡◌, List, [], ◌∷◌, ◌++◌, eqb, length}
use Rattle.config.specs.Refusal.{Verdict}
use Rattle.config.specs.Config.{board_length}
use Rattle.config.specs.Questions.{Question, ask, first_no}
use Rattle.config.specs.Refusal.{verdict_number}
use Rattle.events.specs.View.{Lent}
use Rattle.events.specs.Questions.{rig_within, sized}
use Rattle.rig.specs.Calls as rig
use Rattle.draws.specs.declared.Generator.{Generator}
use Rattle.draws.specs.Draws.{seed_questions}
use Rattle.lines.specs.Event.{event_length}
use Rattle.lines.specs.Program.{program, program_messages, program_start}
use Rattle.maker.specs.declared.Load.{Load}
use Rattle.maker.specs.declared.Loaded.{Loaded}
use Rattle.maker.specs.Load.{made}
use Rattle.maker.specs.Steps.{Steps}

-- "lent 7 bytes for each"
abbrev pub bytes_for : ℕ → ℕ
bytes_for count = count * event_length (board_length program)

-- A load that begins: the program's fresh rig, and the generator. 6 is asked of the buffers lent to the rig.
pub record BeginPost (g : Generator) (l : Lent) (r : Loaded) (l' : Lent) : Type 0 where
  pub rig : rig.MakePost program program_messages program_start l (record { verdict = r.verdict; rig = r.load.rig }) l'
  pub generator : r.load.generator ≡ g

-- The next records of a load: 6 is asked of the bytes lent for them, of the buffers lent to the rig, and of the rig.
abbrev pub records_questions : Load → ℕ → List ℕ → Lent → List Question
records_questions x count out l =
    ask 6 (eqb (length out) (bytes_for count) && sized program program_messages l && rig_within program program_messages x.rig) ∷ []

abbrev pub records_no : Load → ℕ → List ℕ → Lent → ℕ
records_no x count out l = first_no (records_questions x count out l)

pub record RecordsPost (x : Load) (count : ℕ) (out : List ℕ) (l : Lent) (r : Loaded) (out' : List ℕ) (l' : Lent) : Type 0 where
  pub number : verdict_number r.verdict ≡ records_no x count out l
  -- each is a step, and their bytes fill what was lent for them
  pub steps : records_no x count out l ≡ 0 → Steps x l count out' r.load l'
  -- "The first "no" is returned; state and buffers hold their old content"
  pub held : (records_no x count out l ≡ 0 → ⊥) → (r.load ≡ x) × (out' ≡ out) × (l' ≡ l)

-- The maker: "20, is the seed other than 0, placed first", and 6, of the bytes lent.
abbrev pub make_questions : ℕ → ℕ → List ℕ → List Question
make_questions seed count out = seed_questions seed ++ ask 6 (eqb (length out) (bytes_for count)) ∷ []

abbrev pub make_no : ℕ → ℕ → List ℕ → ℕ
make_no seed count out = first_no (make_questions seed count out)

pub record MakePost (seed count : ℕ) (out : List ℕ) (r : Verdict) (out' : List ℕ) : Type 0 where
  pub number : verdict_number r ≡ make_no seed count out
  pub records : make_no seed count out ≡ 0 → out' ≡ made count seed
  pub held : (make_no seed count out ≡ 0 → ⊥) → out' ≡ out
