-- The numbers of refusals: documents 01's and 02's questions, by number.
use Rattle.std.specs.Prelude.{ℕ, min, max, cond, eqb, Result, Ok, Err}
use Rattle.config.specs.declared.Refusal.{Refusal}
use Rattle.config.specs.declared.Refusal.TheVariants.{Servers, Threshold, Depth, Width, Clients, Shape, Event, Missing, UpOrDown, Busy, Exhausted, IllFormed, Full, NotAwaited, Misdirected, NotRising, Elements, Length, Seed, Rank, Boards, Contradiction, Saved, Sources, Right, Errors, Uncorrectable}
use Rattle.config.specs.Questions.{last_question}

-- the number of a refusal
abbrev pub refusal_number : Refusal → ℕ
refusal_number Servers = 1
refusal_number Threshold = 2
refusal_number Depth = 3
refusal_number Width = 4
refusal_number Clients = 5
refusal_number Shape = 6
refusal_number Event = 7
refusal_number Missing = 8
refusal_number UpOrDown = 9
refusal_number Busy = 10
refusal_number Exhausted = 11
refusal_number IllFormed = 12
refusal_number Full = 13
refusal_number NotAwaited = 14
refusal_number Misdirected = 16
refusal_number NotRising = 17
refusal_number Elements = 18
refusal_number Length = 19
refusal_number Seed = 20
refusal_number Rank = 21
refusal_number Boards = 22
refusal_number Contradiction = 23
refusal_number Saved = 24
refusal_number Sources = 25
refusal_number Right = 26
refusal_number Errors = 27
refusal_number Uncorrectable = 28

-- 15, which no refusal has, is taken for the next number
abbrev pub passing15 : ℕ → ℕ
passing15 x = cond (eqb x 15) 16 x

-- a number past either end is taken for that end
abbrev pub clamped : ℕ → ℕ
clamped x = max 1 (min (passing15 x) last_question)

-- the answer of a call that gives nothing else back
abbrev pub Verdict : Type 0
Verdict = Result (Unit {0}) Refusal

-- the number of an answer that may be a refusal: 0 where nothing was refused
abbrev pub verdict_number : {T : Type 0} → Result T Refusal → ℕ
verdict_number (Ok given) = 0
verdict_number (Err why) = refusal_number why
