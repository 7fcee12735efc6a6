-- A plane as contracts see it, and what it shows of a list of shapes.
use Rattle.std.specs.Prelude.{◌≡◌, pos, List, map}
use Rattle.geo_rect.specs.declared.shapes.Point.{Point}
use Rattle.geo_rect.specs.declared.shapes.Rect.{Rect}
use Rattle.geo_rect.specs.Plane.{HasPoint}
use Rattle.board_parts.specs.declared.parts.BoardParts.{BoardParts}
use Rattle.board_model.specs.declared.shapes.Shape.{Shape}
use Rattle.board_model.specs.Labels.{PlaneRule, with_shape, label_among}
use Rattle.plane_core.specs.declared.strips.Strip.{Strip}
use Rattle.plane_core.specs.Labels.{label_of, IsPlane}

-- a plane: the rectangle whose points have labels, and its strips
pub record Drawing : Type 0 where
  pub region : Rect
  pub strips : List Strip

-- a plane of any type, by what gives its region and its strips
abbrev pub drawing_by : {A : Type 0} → (A → Rect) → (A → List Strip) → A → Drawing
drawing_by region_of strips_of plane = record { region = region_of plane; strips = strips_of plane }

-- the planes of rows, row by row
abbrev pub drawn_rows : {R A : Type 0} → (R → List A) → (A → Drawing) → List R → List (List Drawing)
drawn_rows {R} planes_of draw rows = map (λ (row : R). map draw (planes_of row)) rows

-- the rectangle has just the points of the board
pub record IsBoardArea (b : BoardParts) (r : Rect) : Type 0 where
  pub left : r.x0 ≡ pos 0
  pub below : r.y0 ≡ pos 0
  pub right : r.x1 ≡ b.width
  pub above : r.y1 ≡ b.height

-- the plane has the points of the board, and its strips are those of its labels
pub record IsBoardPlane (b : BoardParts) (d : Drawing) : Type 0 where
  pub region : IsBoardArea b d.region
  pub canonical : IsPlane d.region d.strips

-- the plane shows the shapes: it has the points of the board, each with the label that the rule
-- gives it among these shapes, and its strips are those of its labels
pub record Shows (b : BoardParts) (rule : PlaneRule) (shapes : List Shape) (d : Drawing) : Type 0 where
  pub region : IsBoardArea b d.region
  pub labels : (p : Point) → HasPoint d.region p → label_of d.strips p ≡ label_among b rule shapes p
  pub canonical : IsPlane d.region d.strips

-- each point has the label that it gets from its old one by one more shape
pub record HasOneMore (rule : PlaneRule) (s : Shape) (old new : Drawing) : Type 0 where
  pub region : new.region ≡ old.region
  pub labels : (p : Point) → HasPoint old.region p → label_of new.strips p ≡ with_shape rule p (label_of old.strips p) s
  pub canonical : IsPlane new.region new.strips
