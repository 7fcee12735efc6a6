use Rattle.std.proofs.Common.{◌≡◌, take}
use Rattle.plane_core.specs.Labels.{label_of, IsPlane}
use Rattle.plane_set.proofs.Joining.{IsJoinedSoFar}
use Rattle.plane_set.proofs.joins.paint_shape.Given as goal

-- the strips so far have the shape's label in the area
abbrev pub invariant-loop-strip : goal.invariant-loop-strip
invariant-loop-strip g l = record {
  region : g.P.Plane.region l.painted ≡ g.P.Plane.region l.fn.plane;
  labels : IsJoinedSoFar (g.P.Plane.region l.fn.plane) l.area (take l.strip-index l.strip-items) l.owner (label_of (g.P.Plane.strips l.fn.plane)) (label_of (g.P.Plane.strips l.painted));
  canonical : IsPlane (g.P.Plane.region l.painted) (g.P.Plane.strips l.painted);
}
