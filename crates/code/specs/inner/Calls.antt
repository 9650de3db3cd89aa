-- What encoding and decoding take once their questions are asked.
use Rattle.std.specs.Prelude.{ℕ, ◌+◌, ◌*◌, ◌<◌, ◌≤◌, true, ◌≡◌, List, length}
use Rattle.config.specs.declared.Config.{Config}
use Rattle.config.specs.Config.{board_length, Valid}
use Rattle.code.specs.Decoded.{rising}

-- encoding: its questions are all answered yes
pub record EncodePre (cfg : Config) (board s part : ℕ) : Type 0 where
  pub valid : Valid cfg
  pub board-length : board ≡ board_length cfg
  pub part_length : part ≡ cfg.e
  pub server_low : 1 ≤ s
  pub server_high : s ≤ cfg.n

-- the same, of fewer than 8 servers and of two to four rows
pub record FewPre (cfg : Config) (board s part : ℕ) : Type 0 where
  pub asked : EncodePre cfg board s part
  pub few_servers : cfg.n < 8
  pub rows_low : 2 ≤ cfg.k
  pub rows_high : cfg.k ≤ 4

-- encoding all elements: its questions are all answered yes
pub record EncodeAllPre (cfg : Config) (board offset distance buffer : ℕ) : Type 0 where
  pub valid : Valid cfg
  pub board-length : board ≡ board_length cfg
  pub fits : offset + cfg.e ≤ distance
  pub buffer_length : buffer ≡ distance * cfg.n

-- decoding: its questions are all answered yes
pub record DecodePre (cfg : Config) (servers : List ℕ) (elements buffer : ℕ) : Type 0 where
  pub valid : Valid cfg
  pub elements-length : elements ≡ length servers * cfg.e
  pub buffer_length : buffer ≡ board_length cfg
  pub rises : rising cfg.n servers ≡ true
  pub enough : cfg.k ≤ length servers
