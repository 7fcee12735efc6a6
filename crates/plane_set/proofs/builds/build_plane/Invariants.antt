use Rattle.std.proofs.Common.{take}
use Rattle.plane_set.specs.Drawings.{drawing_by, Shows}
use Rattle.plane_set.specs.Families.{rule_in}
use Rattle.plane_set.proofs.builds.build_plane.Given as goal

-- the plane shows the shapes so far
abbrev pub invariant-loop-shape : goal.invariant-loop-shape
invariant-loop-shape g l =
    Shows l.board.parts (rule_in l.board.parts l.family l.row l.c) (take l.shape-index l.shapes) (drawing_by g.P.Plane.region g.P.Plane.strips l.plane)
