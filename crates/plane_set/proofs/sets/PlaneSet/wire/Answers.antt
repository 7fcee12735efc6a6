use Rattle.std.proofs.Common.{ap}
use Rattle.std.specs.Prelude.{vec_items}
use Rattle.plane_set.specs.declared.families.Family.TheVariants.{Wires}
use Rattle.plane_set.specs.Drawings.{drawing_by}
use Rattle.plane_set.specs.Standing.{PlaneTable}
use Rattle.plane_set.proofs.Standing.{plane_at, shown_at}
use Rattle.plane_set.proofs.sets.PlaneSet.wire.Goals as goal

pub returns-clause-plane : goal.returns-clause-plane
returns-clause-plane g c =
    plane_at vec_items (drawing_by g.P.Plane.region g.P.Plane.strips) c.self.inside.wires.items c.args.self.now.wires
    (ap (λ (t : PlaneTable). t.wires) c.self.view_is) c.args.l.0 c.args.c.0 c.index.result.now c.index-2.result.now
    c.requires.layer c.index.ensures c.requires.class c.index-2.ensures

pub returns-clause-shows : goal.returns-clause-shows
returns-clause-shows g c = λ b shapes h.
    shown_at b Wires shapes c.args.self.now.wires c.args.l.0 c.args.c.0 (drawing_by g.P.Plane.region g.P.Plane.strips c.index-2.result.now)
    h.wires c.requires.layer (returns-clause-plane g c)
