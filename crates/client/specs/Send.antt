-- What stands in the buffer for a client's sends.
use Rattle.std.specs.Prelude.{ℕ, List, [], ◌∷◌, ◌++◌, length, drop}
use Rattle.config.specs.declared.Config.{Config}
use Rattle.record.specs.Record.{record_of}
use Rattle.protocol.specs.Boards.{BoardMessage}

-- the records of messages, one after the other
unfoldable pub records_of : Config → List BoardMessage → List ℕ
records_of cfg [] = []
records_of cfg (m ∷ ms) = record_of cfg m ++ records_of cfg ms

-- "A result shorter than its buffer stands at the front .. the rest of the buffer stays."
abbrev pub front : List ℕ → List ℕ → List ℕ
front xs buffer = xs ++ drop (length xs) buffer
