-- `lines::block` meets its contract: each turn runs one record. Assumes nothing.
use Rattle.std.proofs.Common.{◌≡◌, ℕ, ◌-◌, ◌<◌, ◌≤◌, List, length, sym, refl, ◌∙◌, arith, length-set, length-take-le, rules}
use Rattle.laws.proofs.Lists.{at_get_d}
use Rattle.config.specs.declared.Config.{Config}
use Rattle.config.proofs.Valid.{rig_valid}
use Rattle.events.specs.declared.Rig.{Rig}
use Rattle.events.specs.View.{Lent, lent}
use Rattle.rig.proofs.Going.{client_places, server_places}
use Rattle.events.proofs.Inside.{named_inside}
use Rattle.lines.specs.declared.Ran.{Ran}
use Rattle.lines.specs.Block.{RanPost}
use Rattle.lines.proofs.Events.{Goes, board_few, bytes_there, called_there, can_go, cannot_go, none_ran, one_more}
use Rattle.lines.proofs.block.Given as goal

-- the events that were run, and what the types tell of lengths
pub record Inv (cfg : Config) (m first : ℕ) (rig₀ : Rig) (l₀ : Lent) (input out₀ : List ℕ) (v : ℕ) (r : Ran) (l : Lent) (out read : List ℕ) : Type 0 where
  pub ran : RanPost cfg m rig₀ l₀ first input out₀ r l out
  pub servers : length r.rig.servers ≡ 16
  pub clients : length r.rig.clients ≡ 16
  pub reads : length read ≡ v
  pub outputs : length out ≡ length out₀
  pub messages : length l.messages ≡ length l₀.messages
  pub stores : length l.stores ≡ length l₀.stores
  pub boards : length l.boards ≡ length l₀.boards
  pub elements : length l.elements ≡ length l₀.elements

abbrev pub invariant-loop-read : goal.invariant-loop-read
invariant-loop-read l =
    Inv l.cfg l.m l.initial.count l.initial.rig (lent l.initial.messages l.initial.stores l.initial.boards l.initial.elements) l.input l.initial.output l.v (record { rig = l.rig; count = l.count; taken = l.taken; used = l.used }) (lent l.messages l.stores l.boards l.elements) l.output l.read

abbrev pub decreases-loop-read : goal.decreases-loop-read
decreases-loop-read l = length l.input - l.taken
