-- Bytes moved to a place in a buffer.
use Rattle.std.specs.Prelude.{ℕ, ◌+◌, ◌≤◌, true, ◌≡◌, List, length}
use Rattle.config.specs.declared.Config.{Config}
use Rattle.config.specs.Config.{Valid, elements_length, record_length}
use Rattle.config.specs.Number.{server_number}
use Rattle.config.specs.Questions.{within}
use Rattle.record.specs.declared.Header.{Header}

-- n bytes from one place to another, both within their buffers
pub record PlacePre (src : List ℕ) (from n : ℕ) (dst : List ℕ) (at : ℕ) : Type 0 where
  pub within_src : from + n ≤ length src
  pub within_dst : at + n ≤ length dst

-- a server of 1 to N, and buffers of their lengths
pub record TakePre (cfg : Config) (h : Header) (message es : List ℕ) : Type 0 where
  pub valid : Valid cfg
  pub server : within 1 cfg.n (server_number h.server) ≡ true
  pub message_length : length message ≡ record_length
  pub elements-length : length es ≡ elements_length cfg
