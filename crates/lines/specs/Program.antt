-- Document 01, "The program": "with N 3, k 1, D 0, E 1, C 2, M 64, starting board 0". Document 02: "The program's ranks are 0."
use Rattle.std.specs.Prelude.{ℕ, List, [], ◌∷◌}
use Rattle.config.specs.declared.Config.{Config}
use Rattle.config.specs.Config.{no_ranks}

abbrev pub program : Config
program = record { n = 3; k = 1; d = 0; e = 1; c = 2; ranks = no_ranks }

abbrev pub program_messages : ℕ
program_messages = 64

abbrev pub program_start : List ℕ
program_start = 0 ∷ []
