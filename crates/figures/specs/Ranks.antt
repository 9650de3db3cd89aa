-- Document 02, L5: figures of ranks. `proofs/Ranks.antt` proves them.
use Rattle.std.specs.Prelude.{ℕ, ◌≡◌, true, false, List, [], ◌∷◌, replicate}
use Rattle.config.specs.declared.Config.{Config}
use Rattle.config.specs.Config.{questions, rank, rig_questions}
use Rattle.config.specs.Questions.{first_no}
use Rattle.tag.specs.declared.Tag.{Tag}
use Rattle.tag.specs.Tag.{above, key, start}
use Rattle.record.specs.Element.{Element}
use Rattle.protocol.specs.Server.{Server, server_step}
use Rattle.std.specs.Prelude.{Some}
use Rattle.server.specs.declared.State.{State}
use Rattle.server.specs.Calls.{state_questions}
use Rattle.server.specs.View.{view}
use Rattle.figures.specs.Figures.{pre_write, server_0, tag}

-- N 1, k 1, D 0, E 1, and two clients of these ranks; the third rank is nobody's
abbrev pub ranked : ℕ → ℕ → ℕ → Config
ranked first second third =
    record { n = 1; k = 1; d = 0; e = 1; c = 2; ranks = first ∷ second ∷ third ∷ replicate 13 0 }

-- client 1 is a clinician and client 2 a patient; and all are equal
abbrev pub clinician : Config
clinician = ranked 1 0 0

abbrev pub equal : Config
equal = ranked 0 0 0

-- "D 0, fresh": pre-writes of (1, 1) and then of (1, 2)
abbrev pub after : Config → Server Element
after cfg = (server_step (key cfg) 0 1 (server_step (key cfg) 0 1 server_0 (pre_write 1 1)).server (pre_write 1 2)).server

-- a state with this floor, and this tag stored
abbrev pub holding : Tag → Tag → State
holding floor stored =
    record {
      me = record { 0 = 1 };
      highest = start;
      floor = Some floor;
      count = 1;
      tags = replicate 8 stored;
      lengths = replicate 8 1;
    }

abbrev pub store : List ℕ
store = 1 ∷ []

-- the number that such a state gets
abbrev pub gets : Config → Tag → Tag → ℕ
gets cfg floor stored = first_no (state_questions cfg (holding floor stored) 1)

pub record Ranks : Type 0 where
  -- "Tags now compare by number, then by the rank of the tag's client, then by client number."
  pub number_first : above clinician (tag 2 2) (tag 1 1) ≡ true
  pub rank_next : above clinician (tag 1 1) (tag 1 2) ≡ true
  pub not_lower : above clinician (tag 1 2) (tag 1 1) ≡ false
  pub client_last : above equal (tag 1 2) (tag 1 1) ≡ true
  -- "the starting tag has rank 0"; every other is above it by its number
  pub starting : rank clinician 0 ≡ 0
  pub above_starting : above (ranked 0 0 0) (tag 1 1) start ≡ true
  -- "the clinician's change is the later one": the other is dropped
  pub ranks_1_0 : view clinician (holding (tag 1 2) (tag 1 1)) store ≡ after clinician
  pub ranks_0_0 : view equal (holding (tag 1 1) (tag 1 2)) store ≡ after equal
  -- "everywhere, 6 included"
  pub own_1_0 : gets clinician (tag 1 2) (tag 1 1) ≡ 0
  pub own_0_0 : gets equal (tag 1 1) (tag 1 2) ≡ 0
  pub other_1_0 : gets clinician (tag 1 1) (tag 1 2) ≡ 6
  pub other_0_0 : gets equal (tag 1 2) (tag 1 1) ≡ 6
  -- "21, is each rank at most 3, placed after 5"
  pub rank_3 : first_no (questions (ranked 3 3 0)) ≡ 0
  pub rank_4 : first_no (questions (ranked 0 4 0)) ≡ 21
  pub nobodys : first_no (questions (ranked 0 0 4)) ≡ 0
  pub after_5 : first_no (rig_questions (ranked 4 0 0) 513) ≡ 5
  pub of_a_rig : first_no (rig_questions (ranked 4 0 0) 512) ≡ 21
  pub before_6 : gets (ranked 4 0 0) (tag 1 1) (tag 1 1) ≡ 21
