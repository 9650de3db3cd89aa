-- The figures of the load hold: each is computed. Assumes nothing.
use mathlib.Core.Path.{refl}
use Rattle.laws.specs.Bytes.{joined}
use Rattle.record.specs.Record.{two_bytes}
use Rattle.protocol.specs.Boards.{cut}
use Rattle.protocol.proofs.Evaluate.{answers_to}
use Rattle.draws.specs.Draws.{draw}
use Rattle.maker.specs.Load.{drawn, drawn_from}
use Rattle.figures.specs.Load.{Load}

pub load : Load
unfolding answers_to cut draw drawn drawn_from joined two_bytes
load =
    record {
      draw_1 = refl;
      draw_2 = refl;
      draw_3 = refl;
      draw_4 = refl;
      default_1 = refl;
      default_2 = refl;
      default_3 = refl;
      records_1 = refl;
      records_default = refl;
    }
