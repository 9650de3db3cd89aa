-- The table of document 01's figures holds: each is computed. Assumes nothing.
use mathlib.Core.Path.{refl}
use Rattle.figures.specs.Figures.{Figures}
use Rattle.laws.specs.Below.{all_below}
use Rattle.laws.specs.Bytes.{tabulate}
use Rattle.field.specs.Field.{times, partial_product, doubled, double, power, inverse_of, inverse_below}
use Rattle.code.specs.Element.{element, element_byte}
use Rattle.code.specs.Decoded.{decoded, decoded_byte}
use Rattle.code.specs.Polynomial as polynomial
use Rattle.config.specs.Config.{questions, ranks_within}
use Rattle.config.specs.Questions.{first_no}
use Rattle.record.specs.Record.{all, all_zero, clauses, element_bytes, four_bytes, header_bytes, kind_of, message_clauses, message_of, of_config, record_of, two_bytes, well_formed}
use Rattle.protocol.proofs.Evaluate.{answers_to}
use Rattle.server.specs.Calls.{step_questions}
use Rattle.server.specs.Within.{among, every, floor_within, lengths_within, numbers_within, tags_within, once, state_within}
use Rattle.server.specs.View.{each, view}

pub figures : Figures
unfolding times partial_product doubled double power inverse_of inverse_below element element_byte decoded decoded_byte tabulate polynomial.sum polynomial.value polynomial.carried polynomial.rooted polynomial.roots polynomial.divided polynomial.scaled polynomial.lagrange polynomial.interpolated answers_to questions ranks_within all_below first_no all all_zero clauses element_bytes four_bytes header_bytes kind_of message_clauses message_of of_config record_of two_bytes well_formed step_questions among every floor_within tags_within lengths_within numbers_within once state_within each view
figures =
    record {
      quorum_5_3 = refl;
      quorum_5_5 = refl;
      quorum_6_3 = refl;
      quorum_16_1 = refl;
      product_2_128 = refl;
      product_3_7 = refl;
      element_1 = refl;
      element_2 = refl;
      element_3 = refl;
      element_4 = refl;
      element_5 = refl;
      decoded_2_4_5 = refl;
      two_1 = refl;
      two_2 = refl;
      two_3 = refl;
      tag_by_number = refl;
      tag_by_client = refl;
      floor_1 = refl;
      floor_2 = refl;
      floor_3 = refl;
      not_stored = refl;
      acknowledged = refl;
      seen_3 = refl;
      accepted_1_1 = refl;
      read_1_1 = refl;
      accepted_3_1 = refl;
      read_3_1 = refl;
      formed = refl;
    }
