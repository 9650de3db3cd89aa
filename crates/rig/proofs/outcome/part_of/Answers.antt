use mathlib.Core.Path.{refl, sym, subst}
use native.Mathlib.Omega.{arith}
use Rattle.laws.proofs.Lists.{at_get_d}
use Rattle.events.specs.declared.Part.{Part}
use Rattle.rig.specs.inner.Turn.{PartAtPost}
use Rattle.rig.proofs.Owned.{client_places, server_places}
use Rattle.rig.proofs.outcome.part_of.Goals as goal

pub returns : goal.returns
returns c =
    let s = c in
    let r = s.args.rig in
    subst (λ (p : Part). PartAtPost r s.args.places p) (sym c.of.ensures)
    (record {
      part = record {
        node = at_get_d r.servers _ _ (omega (arith, s.requires.0, server_places r _ s.well_formed.0));
        client = at_get_d r.clients _ _ (omega (arith, s.requires.1, client_places r _ s.well_formed.0));
        count = refl;
      };
      server = refl;
      client = refl;
    })
