-- What the type of a server's state tells: the numbers of its tags have four bytes, and its lengths two. Assumes nothing.
use mathlib.Core.List.{List}
use native.Mathlib.Omega.{arith}
use mir.Val.{Val}
use denote.Laws.{Is}
use Rattle.tag.specs.declared.Tag.{Tag}
use Rattle.tag.proofs.Owned.{tag_number}
use Rattle.std.proofs.Common.{Option, None, Some}
use Rattle.server.specs.declared.State.{State}
use Rattle.std.specs.contracts.option.Option as option
use Rattle.tag.specs.contracts.Tag as tag
use Rattle.server.proofs.Owned.{tags_numbers}
use Rattle.server.specs.contracts.State as state
use Rattle.states.proofs.Owned.{lengths_small}
use Rattle.states.proofs.servers.Back.{Fitting, FloorFits}

floor_fits : (f : Option Tag) (vs : List Val) → Is (option.the_row tag.the_row) f vs → FloorFits f
floor_fits None vs g = tt
floor_fits (Some t) vs g = let h = g.1.1.1.1.0 in omega (arith, h)

pub fitting : (s : State) (vs : List Val) → Is state.the_row s vs → Fitting s
fitting s vs p =
    record {
      highest = tag_number s.highest _ p.1.1.1.1.0;
      floor = floor_fits s.floor _ p.1.1.1.1.1.0;
      tags = tags_numbers 8 s.tags _ p.1.1.1.1.1.1.0;
      lengths = lengths_small 8 s.lengths _ p.1.1.1.1.1.1.1.0;
    }
