-- The labels that a list of strips gives to points, and what painting does to labels.
use Rattle.std.specs.Prelude.{ℤ, pos, ◌-ℤ◌, ◌≤ℤ◌, ◌≡◌, ◌^◌, Bool, ◌&&◌, if◌then◌else◌, List, [], ◌∷◌, int_le}
use Rattle.geo_rect.specs.declared.ids.Label.{Label}
use Rattle.geo_rect.specs.declared.ids.Label.TheVariants.{Free}
use Rattle.geo_rect.specs.declared.shapes.Interval.{Interval}
use Rattle.geo_rect.specs.declared.shapes.Point.{Point}
use Rattle.geo_rect.specs.declared.shapes.Rect.{Rect}
use Rattle.geo_rect.specs.Plane.{columns, rows, HasPoint}
use Rattle.plane_core.specs.declared.strips.Strip.{Strip}
use Rattle.plane_core.specs.Strips.{AreStrips}

-- whether v is one of the numbers of the interval
abbrev pub has_number : Interval → ℤ → Bool
has_number i v = int_le i.low v && int_le v i.high

-- whether p is one of the points of r
abbrev pub has_point : Rect → Point → Bool
has_point r p = has_number (columns r) p.x && has_number (rows r) p.y

-- the label of a point: that of the first strip that has the point, and free if none has it
unfoldable pub label_of : List Strip → Point → Label
label_of [] p = Free
label_of (s ∷ ss) p = if has_point s.area p then s.label else label_of ss p

-- the labels after a rectangle was painted
unfoldable pub painted : (Point → Label) → Rect → Label → Point → Label
painted label_at area label p = if has_point area p then label else label_at p

-- each point of area has the label, and each other point of the domain has its old label
pub record IsPainted (domain area : Rect) (label : Label) (old new : Point → Label) : Type 0 where
  pub within : (p : Point) → HasPoint area p → new p ≡ label
  pub elsewhere : (p : Point) → HasPoint domain p → ¬ HasPoint area p → new p ≡ old p

-- the strips are those of the labels that they give
abbrev pub IsPlane : Rect → List Strip → Type 0
IsPlane domain strips = AreStrips domain (label_of strips) strips

-- the numbers of the interval lie between -2^24 and 2^24
pub record IsWithinReach (i : Interval) : Type 0 where
  pub from : (pos 0 -ℤ pos (2 ^ 24)) ≤ℤ i.low
  pub to : i.high ≤ℤ pos (2 ^ 24)

-- the coordinates of the rectangle lie between -2^24 and 2^24
pub record IsSmall (r : Rect) : Type 0 where
  pub across : IsWithinReach (columns r)
  pub up : IsWithinReach (rows r)
