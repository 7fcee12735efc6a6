use Rattle.std.proofs.Common.{inl, inr}
use Rattle.geo_rect.specs.Plane.{rows}
use Rattle.flat_plane.proofs.PaintedRows.{off_rows}
use Rattle.flat_plane.proofs.outside.add_ends.Goals as goal

pub returns-clause-keeps : goal.returns-clause-keeps
returns-clause-keeps c p h = c.in_ok-both.ensures.keeps p (c.in_ok-lower.ensures.keeps p h)

pub returns-clause-adds : goal.returns-clause-adds
returns-clause-adds c p h a off =
    elim (off_rows (rows c.args.brush.area) p.y off) [
      | inl below ↦ c.in_ok-both.ensures.keeps p (c.in_ok-lower.ensures.adds p h below)
      | inr above ↦ c.in_ok-both.ensures.adds p h above
    ]
