-- The figures of ranks hold: each is computed. Assumes nothing.
use mathlib.Core.Path.{refl}
use Rattle.laws.specs.Below.{all_below}
use Rattle.config.specs.Config.{questions, rank, ranks_within, rig_questions}
use Rattle.config.specs.Questions.{first_no}
use Rattle.record.specs.Record.{all}
use Rattle.protocol.proofs.Evaluate.{answers_to}
use Rattle.server.specs.Calls.{state_questions}
use Rattle.server.specs.Within.{among, every, floor_within, lengths_within, numbers_within, once, state_within, tags_within}
use Rattle.server.specs.View.{each, view}
use Rattle.figures.specs.Ranks.{Ranks}

pub ranks : Ranks
unfolding answers_to all all_below among each every first_no floor_within lengths_within numbers_within once questions rank ranks_within rig_questions state_questions state_within tags_within view
ranks =
    record {
      number_first = refl;
      rank_next = refl;
      not_lower = refl;
      client_last = refl;
      starting = refl;
      above_starting = refl;
      ranks_1_0 = refl;
      ranks_0_0 = refl;
      own_1_0 = refl;
      own_0_0 = refl;
      other_1_0 = refl;
      other_0_0 = refl;
      rank_3 = refl;
      rank_4 = refl;
      nobodys = refl;
      after_5 = refl;
      of_a_rig = refl;
      before_6 = refl;
    }
