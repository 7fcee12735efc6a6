-- Where one rectangle borders on another.
use Rattle.std.specs.Prelude.{pos, ◌≡◌, ◌+ℤ◌, ◌-ℤ◌}
use Rattle.geo_rect.specs.declared.shapes.Point.{Point}
use Rattle.geo_rect.specs.declared.shapes.Rect.{Rect}
use Rattle.geo_rect.specs.Axis.{just}
use Rattle.geo_rect.specs.Plane.{HasPoint, columns, rows, rect_of}
use Rattle.geo_rect.specs.Distance.{apart}

-- q is one step from some point of t
pub record IsBeside (t : Rect) (q : Point) : Type 0 where
  pub point : Point
  pub here : HasPoint t point
  pub step : apart point q ≡ 1

-- r has exactly the points of u that are one step from t
pub record IsEdge (t u r : Rect) : Type 0 where
  pub in_u : (q : Point) → HasPoint r q → HasPoint u q
  pub beside_t : (q : Point) → HasPoint r q → IsBeside t q
  pub all : (q : Point) → HasPoint u q → IsBeside t q → HasPoint r q

-- no point of u is one step from t
abbrev pub HasNoEdge : Rect → Rect → Type 0
HasNoEdge t u = (q : Point) → HasPoint u q → IsBeside t q → ⊥

-- the points one step to the right of t
abbrev pub right_band : Rect → Rect
right_band t = rect_of (just (t.x1 +ℤ pos 1)) (rows t)

-- the points one step to the left of t
abbrev pub left_band : Rect → Rect
left_band t = rect_of (just (t.x0 -ℤ pos 1)) (rows t)

-- the points one step above t
abbrev pub upper_band : Rect → Rect
upper_band t = rect_of (columns t) (just (t.y1 +ℤ pos 1))

-- the points one step below t
abbrev pub lower_band : Rect → Rect
lower_band t = rect_of (columns t) (just (t.y0 -ℤ pos 1))
