-- What is drawn for a record, as the code has it.
use Rattle.maker.specs.declared.draw.Drawn.{Drawn}
use Rattle.maker.specs.Load as load

-- the generator wraps the last draw
abbrev pub seen : Drawn → load.Drawn
seen d = record { call = d.call; byte = d.byte; last = d.generator.0 }
