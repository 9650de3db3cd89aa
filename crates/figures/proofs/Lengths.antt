-- The figures of boards shorter than the block hold: each is computed. Assumes nothing.
use mathlib.Core.Path.{refl}
use Rattle.figures.specs.Lengths.{Lengths}
use Rattle.laws.specs.Bytes.{joined, tabulate}
use Rattle.field.specs.Field.{times, partial_product, doubled, double, power, inverse_of, inverse_below}
use Rattle.code.specs.Element.{element, element_byte}
use Rattle.code.specs.Decoded.{decoded, decoded_byte, decoded_pairs}
use Rattle.code.specs.Polynomial as polynomial
use Rattle.record.specs.Record.{all, all_zero, clauses, element_bytes, four_bytes, header_bytes, record_of, two_bytes, well_formed}
use Rattle.protocol.specs.Boards.{cut}

pub lengths : Lengths
unfolding times partial_product doubled double power inverse_of inverse_below element element_byte decoded decoded_byte decoded_pairs joined tabulate polynomial.sum polynomial.value polynomial.carried polynomial.rooted polynomial.roots polynomial.divided polynomial.scaled polynomial.lagrange polynomial.interpolated all all_zero clauses element_bytes four_bytes header_bytes record_of two_bytes well_formed cut
lengths =
    record {
      zeros = refl;
      element_1 = refl;
      element_2 = refl;
      element_3 = refl;
      element_4 = refl;
      element_5 = refl;
      decoded_2_4_5 = refl;
      lowest = refl;
      pre-write = refl;
      formed_3 = refl;
      formed_8 = refl;
      thousand = refl;
      formed_4 = refl;
      length_of_4 = refl;
      absent_8 = refl;
      length_of_absent_8 = refl;
      length_v = refl;
      above_v = refl;
      offset_14 = refl;
      offset_15 = refl;
    }
