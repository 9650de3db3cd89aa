-- Ties, evaluated in the model with ranks 1 0 and with ranks 0 0: N 3, k 1, D 0, E 1, C 2, boards of one byte, as in the example.
use Prim.Native.Nat.{ℕ, ◌<◌}
use mathlib.Core.Path.{◌≡◌, refl}
use mathlib.Core.Bool.{true}
use mathlib.Core.Option.{some}
use mathlib.Core.List.{List, [], ◌∷◌, ◌++◌}
use native.Mathlib.Omega.{arith}
use lib.ListN.{replicate}
use Rattle.config.specs.declared.Config.{Config}
use Rattle.config.specs.Config.{no_ranks}
use Rattle.tag.specs.declared.Tag.{Tag}
use Rattle.tag.specs.Tag.{key}
use Rattle.record.specs.declared.Kind.TheVariants.{PreWrite}
use Rattle.protocol.specs.Board.{Answer, Call, Event, StandsFirst, TagsRise, answer_tag, nothing_ended, written_by, read_by, tag_of}
use Rattle.protocol.specs.Rig
use Rattle.protocol.specs.Server.{Server, fresh_server, server_step}
use Rattle.protocol.proofs.Evaluate.{answers_to, computed}
use Rattle.protocol.proofs.Example.{decode, encode}

abbrev tag : ℕ → ℕ → Tag
tag number client = record { number = number; client = client }

abbrev ranked : List ℕ → Config
ranked ranks = record { n = 3; k = 1; d = 0; e = 1; c = 2; ranks = ranks }

-- client 1 is a clinician, client 2 a patient
abbrev clinician : List ℕ
clinician = 1 ∷ replicate 15 0

abbrev call : ℕ → ℕ → ℕ → Call ℕ
call code client byte = record { code = code; party = client; position = 0; board = byte }

-- Client 1 begins to write 17 and client 2 to write 34; what is first in flight is handed over until both have ended, with tags of the same
-- number, (1, 1) and (1, 2); then client 2 reads.
abbrev tied : List (Call ℕ)
tied = call 1 1 17 ∷ call 1 2 34 ∷ replicate 36 (call 3 0 0) ++ call 2 2 0 ∷ replicate 12 (call 3 0 0)

abbrev answers : List ℕ → List (Answer ℕ)
answers ranks = answers_to (key (ranked ranks)) encode decode (ranked ranks) (λ v. true) 64 0 tied

-- the answers up to the read's
abbrev before : List (Answer ℕ)
before = replicate 33 nothing_ended ++ written_by 1 (tag 1 1) ∷ nothing_ended ∷ nothing_ended ∷ written_by 2 (tag 1 2) ∷ replicate 12 nothing_ended

-- "the clinician's change is the later one"; without ranks the patient's is
pub clinician_later : answers clinician ≡ before ++ read_by 2 (tag 1 1) 17 ∷ nothing_ended ∷ []
unfolding answers_to
clinician_later = refl

pub patient_later : answers no_ranks ≡ before ++ read_by 2 (tag 1 2) 34 ∷ nothing_ended ∷ []
unfolding answers_to
patient_later = refl

-- ---- the order of the two writes

abbrev events : List ℕ → List (Event ℕ)
events ranks = Rig.run (key (ranked ranks)) encode decode (ranked ranks) (λ v. true) 64 (Rig.fresh_rig (ranked ranks) encode 0) tied

-- "some order that fits has its ended writes in rising tag order": no such order has the clinician's write first, and without ranks none has
-- the patient's
pub clinician_behind : (order : List ℕ) → TagsRise (key (ranked clinician)) (events clinician) order → StandsFirst 0 1 order → ⊥
unfolding answers_to computed TagsRise tag_of answer_tag
clinician_behind order rise first =
    let l : key (ranked clinician) (tag 1 1) < key (ranked clinician) (tag 1 2) = rise 0 1 17 34 33 36 (tag 1 1) (tag 1 2) first refl refl refl refl in
    omega (arith, l)

pub patient_behind : (order : List ℕ) → TagsRise (key (ranked no_ranks)) (events no_ranks) order → StandsFirst 1 0 order → ⊥
unfolding answers_to computed TagsRise tag_of answer_tag
patient_behind order rise first =
    let l : key (ranked no_ranks) (tag 1 2) < key (ranked no_ranks) (tag 1 1) = rise 1 0 34 17 36 33 (tag 1 2) (tag 1 1) first refl refl refl refl in
    omega (arith, l)

-- ---- a server, fresh, and then handed pre-writes of (1, 1) and (1, 2)

abbrev pre_written : List ℕ → ℕ → Server ℕ → Server ℕ
pre_written ranks c v =
    (server_step (key (ranked ranks)) 0 1 v (record { kind = PreWrite; client = c; server = 1; operation = 1; tag = tag 1 c; element = some c })).server

abbrev twice : List ℕ → Server ℕ
twice ranks = pre_written ranks 2 (pre_written ranks 1 (fresh_server 0))

-- the lower of the two becomes the floor, and the other is stored
abbrev kept : Tag → Tag → Server ℕ
kept floor stored = record { highest = tag 0 0; floor = some floor; stored = record { tag = stored; element = stored.client } ∷ [] }

pub dropped : (twice clinician ≡ kept (tag 1 2) (tag 1 1)) × (twice no_ranks ≡ kept (tag 1 1) (tag 1 2))
unfolding answers_to
dropped = (refl, refl)
