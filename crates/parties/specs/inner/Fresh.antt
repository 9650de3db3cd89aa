-- What the inner functions of making a server take and give.
use Rattle.std.specs.Prelude.{ℕ, true, ◌≡◌, List, length}
use Rattle.config.specs.declared.Config.{Config}
use Rattle.config.specs.Config.{Valid, board_length, store_length}
use Rattle.config.specs.Questions.{within}
use Rattle.server.specs.View as serverView
use Rattle.protocol.specs.Boards.{encode, starting_board}
use Rattle.protocol.specs.Server.{fresh_server}
use Rattle.parties.specs.declared.Node.{Node}
use Rattle.parties.specs.Fresh.{fresh_node}

-- making server s
pub record NodePre (cfg : Config) (s : ℕ) (start store : List ℕ) : Type 0 where
  pub valid : Valid cfg
  pub inside : within 1 cfg.n s ≡ true
  pub start_length : length start ≡ board_length cfg
  pub store_length : length store ≡ store_length cfg

pub record NodePost (cfg : Config) (s : ℕ) (start before after : List ℕ) (x : Node) : Type 0 where
  pub is : x ≡ fresh_node (board_length cfg) s
  pub seen : serverView.view cfg (fresh_node (board_length cfg) s).state after ≡ fresh_server (encode cfg (starting_board cfg start) s)
  pub long : length after ≡ length before
