use Rattle.std.proofs.Common.{◌≡◌, take}
use Rattle.plane_core.specs.Labels.{label_of, IsPlane}
use Rattle.plane_set.specs.Joins.{IsBarred}
use Rattle.plane_set.proofs.frames.bar.Given as goal

-- the pieces so far are left to no net
abbrev pub invariant-loop-piece : goal.invariant-loop-piece
invariant-loop-piece g l = record {
  region : g.P.Plane.region l.barred ≡ g.P.Plane.region l.fn.plane;
  labels : IsBarred (g.P.Plane.region l.fn.plane) l.area (take l.piece-index l.pieces) (label_of (g.P.Plane.strips l.fn.plane)) (label_of (g.P.Plane.strips l.barred));
  canonical : IsPlane (g.P.Plane.region l.barred) (g.P.Plane.strips l.barred);
}
