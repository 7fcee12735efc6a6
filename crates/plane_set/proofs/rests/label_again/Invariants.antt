use Rattle.std.proofs.Common.{◌≡◌, take}
use Rattle.board_model.specs.Labels.{label_among}
use Rattle.plane_core.specs.Labels.{label_of, IsPlane}
use Rattle.plane_set.specs.Families.{rule_in}
use Rattle.plane_set.specs.Joins.{HasNewLabels}
use Rattle.plane_set.proofs.rests.label_again.Given as goal

-- in the area the labels are those among the shapes so far
abbrev pub invariant-loop-shape : goal.invariant-loop-shape
invariant-loop-shape g l = record {
  region : g.P.Plane.region l.labelled ≡ g.P.Plane.region l.fn.plane;
  labels : HasNewLabels (g.P.Plane.region l.fn.plane) l.area (label_among l.board.parts (rule_in l.board.parts l.family l.row l.c) (take l.shape-index l.shapes)) (label_of (g.P.Plane.strips l.fn.plane)) (label_of (g.P.Plane.strips l.labelled));
  canonical : IsPlane (g.P.Plane.region l.labelled) (g.P.Plane.strips l.labelled);
}
