-- The figures of a record of kind 9 hold: each is computed. Assumes nothing.
use mathlib.Core.Path.{refl}
use Rattle.figures.specs.Cleared.{Kind9}
use Rattle.record.specs.Record.{all, all_zero, clauses, element_bytes, four_bytes, header_bytes, kind_of, record_of, two_bytes, well_formed}

pub kind_9 : Kind9
unfolding all all_zero clauses element_bytes four_bytes header_bytes kind_of record_of two_bytes well_formed
kind_9 =
    record {
      written = refl;
      formed = refl;
      element_of_9 = refl;
      length_of_9 = refl;
      byte_of_9 = refl;
      other_client = refl;
      starting = refl;
      not_allowed = refl;
      for_client = refl;
      tenth = refl;
    }
