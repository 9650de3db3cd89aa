-- A rig and a part of it.
use Rattle.std.specs.Prelude.{◌≡◌}
use Rattle.config.specs.declared.Refusal.{Refusal}
use Rattle.parties.specs.declared.Answer.{Answer}
use Rattle.events.specs.declared.Part.{Part}
use Rattle.events.specs.declared.Places.{Places}
use Rattle.events.specs.declared.Rig.{Rig}
use Rattle.events.specs.declared.Turn.{Turn}
use Rattle.events.specs.Calls.{PartOf}

-- what stands in two places of a rig
pub record PartAtPost (r : Rig) (x : Places) (p : Part) : Type 0 where
  pub part : PartOf r p
  pub server : p.server ≡ x.server
  pub client : p.client ≡ x.client

-- a refusal, with the rig as it was
abbrev pub unturned_by : Refusal → Rig → Turn
unturned_by why r = record { answer = Answer.No why; rig = r }
