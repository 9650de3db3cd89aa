-- The messages in flight with those that are sent. Assumes nothing.
use Prim.Native.Nat.{ℕ}
use mathlib.Core.Path.{◌≡◌, ap, ◌∙◌}
use mathlib.Core.List.{List, ◌++◌, map, map-append}
use Rattle.config.specs.declared.Config.{Config}
use Rattle.config.specs.Config.{Valid}
use Rattle.record.specs.Record.{message_of, record_of}
use Rattle.protocol.specs.Boards.{BoardMessage}
use Rattle.protocol.specs.Sound.{Sound}
use Rattle.protocol.proofs.Sound.{read_sends}
use Rattle.events.specs.View.{messages_of}

-- behind others they are the messages behind those of the others
module _ (cfg : Config) (valid : Valid cfg) where
  pub messages_behind : (rs : List (List ℕ)) (ms : List BoardMessage) → Sound cfg ms
      → messages_of cfg (rs ++ map (record_of cfg) ms) ≡ messages_of cfg rs ++ ms
  messages_behind rs ms h =
      map-append (message_of cfg) rs (map (record_of cfg) ms) ∙ ap (λ x. messages_of cfg rs ++ x) (read_sends cfg valid ms h)
