-- The lengths that question 6 asks for, by configuration and M; 0 where a number is out of range.
use Rattle.std.specs.Prelude.{ℕ, ◌*◌, cond, eqb}
use Rattle.config.specs.declared.Config.{Config}
use Rattle.config.specs.declared.Lengths.{Lengths}
use Rattle.config.specs.Config.{board_length, elements_length, most_messages, questions, record_length, sends_length, store_length}
use Rattle.config.specs.Questions.{first_no, within}

-- "80 × M for messages"; 0 where M is out of range
abbrev pub messages_length : ℕ → ℕ
messages_length m = cond (within 1 most_messages m) (record_length * m) 0

-- of a configuration of which questions 1 to 5 and 21 are answered yes
abbrev pub valid_lengths : Config → ℕ → Lengths
valid_lengths cfg m =
    record {
      board = board_length cfg;
      store = store_length cfg;
      sends = sends_length cfg;
      elements = elements_length cfg;
      messages = messages_length m;
    }

-- of another
abbrev pub no_lengths : Lengths
no_lengths = record { board = 0; store = 0; sends = 0; elements = 0; messages = 0 }

abbrev pub lengths_of : Config → ℕ → Lengths
lengths_of cfg m = cond (eqb (first_no (questions cfg)) 0) (valid_lengths cfg m) no_lengths
