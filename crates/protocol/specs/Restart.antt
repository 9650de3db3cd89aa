-- Document 02, "Bring a server back": which events of a list crash a server or start it again, and what it has then.
use Rattle.std.specs.Prelude.{ℕ, ◌≡◌, Bool, false, ◌&&◌, List, [], ◌∷◌, eqb}
use Rattle.protocol.specs.Board.{Event, is_accepted}
use Rattle.protocol.specs.Parties.{Parties}

module _ {Value : Type 0} where
  -- an accepted event of this code, of party s
  unfoldable pub is_done : ℕ → ℕ → Event Value → Bool
  is_done code s x = is_accepted x.answer && eqb x.call.code code && eqb x.call.party s

  -- server s crashes, and is started again
  abbrev pub crashes : ℕ → Event Value → Bool
  crashes = is_done 6

  abbrev pub restarts : ℕ → Event Value → Bool
  restarts = is_done 8

  -- none of these events starts it again
  unfoldable pub NoRestart : ℕ → List (Event Value) → Type 0
  NoRestart s [] = Unit {0}
  NoRestart s (x ∷ xs) = (restarts s x ≡ false) × NoRestart s xs

-- of server s "its store, highest finalised tag and floor" are "exactly" what they were, and now it is up, or down
pub record Kept {Value Element : Type 0} (s : ℕ) (now : Bool) (was is : Parties Value Element) : Type 0 where
  pub server : is.servers s ≡ was.servers s
  pub up : is.up s ≡ now
