-- Lists of messages of a configuration.
use Rattle.std.specs.Prelude.{true, ◌≡◌}
use mathlib.Core.List.{List, Memᴰ}
use Rattle.config.specs.declared.Config.{Config}
use Rattle.record.specs.Record.{of_config}
use Rattle.protocol.specs.Boards.{BoardMessage}

-- each of the messages is one of the configuration
pub record Sound (cfg : Config) (ms : List BoardMessage) : Type 0 where
  pub each : (m : BoardMessage) → Memᴰ m ms → of_config cfg m ≡ true
