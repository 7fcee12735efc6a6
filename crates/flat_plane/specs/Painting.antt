-- What painting adds to a draft, band of rows by band of rows.
use Rattle.std.specs.Prelude.{ℤ, pos, ◌+ℤ◌, ◌-ℤ◌, ◌≤ℤ◌, ◌<ℤ◌, ◌≡◌, List, Contains, Option, Some, None}
use Rattle.std.specs.Int.{int_min, int_max}
use Rattle.geo_rect.specs.declared.ids.Label.{Label}
use Rattle.geo_rect.specs.declared.shapes.Interval.{Interval}
use Rattle.geo_rect.specs.declared.shapes.Point.{Point}
use Rattle.geo_rect.specs.declared.shapes.Rect.{Rect}
use Rattle.geo_rect.specs.Axis.{HasNumber, LiesWithin}
use Rattle.geo_rect.specs.Plane.{columns, rows, HasPoint, LiesIn}
use Rattle.plane_core.specs.declared.strips.Strip.{Strip}
use Rattle.plane_core.specs.Labels.{label_of, painted, IsPlane, IsSmall}
use Rattle.plane_core.specs.Strips.{IsHeld}
use Rattle.flat_plane.specs.declared.brushes.Brush.{Brush}
use Rattle.flat_plane.specs.declared.brushes.Band.{Band}
use Rattle.flat_plane.specs.Draft.{IsAffected, IsDraft}

-- the labels once the strips are painted
abbrev pub new_labels : List Strip → Brush → Point → Label
new_labels strips brush = painted (label_of strips) brush.area brush.label

-- the brush paints a part of a small domain of which these are the strips
pub record CanPaint (strips : List Strip) (brush : Brush) : Type 0 where
  pub plane : IsPlane brush.domain strips
  pub small : IsSmall brush.domain
  pub inside : LiesIn brush.area brush.domain

-- a draft for the labels once the strips are painted
abbrev pub IsDraftOf : List Strip → Brush → List Strip → Type 0
IsDraftOf strips brush draft = IsDraft brush.domain (new_labels strips brush) draft

-- the numbers of i that come before those of j
pub record IsPartBefore (i j part : Interval) : Type 0 where
  pub low : part.low ≡ i.low
  pub high : part.high ≡ int_min i.high (j.low -ℤ pos 1)

-- the numbers of i that come after those of j
pub record IsPartAfter (i j part : Interval) : Type 0 where
  pub low : part.low ≡ int_max i.low (j.high +ℤ pos 1)
  pub high : part.high ≡ i.high

-- each point of an old strip that painting cannot change is held
abbrev pub HoldsUntouched : List Strip → Brush → List Strip → Type 0
HoldsUntouched strips brush draft = (s : Strip) → Contains strips s → ¬ IsAffected brush.area s.area → (p : Point) → HasPoint s.area p → IsHeld draft p

-- each point of these strips that lies below or above the area is held, if painting can change the strip
abbrev pub HoldsOutside : List Strip → Brush → List Strip → Type 0
HoldsOutside strips brush draft = (s : Strip) → Contains strips s → IsAffected brush.area s.area → (p : Point) → HasPoint s.area p → ¬ HasNumber (rows brush.area) p.y → IsHeld draft p

-- one of the strips has this column, and all these rows
pub record IsListedAt (strips : List Strip) (x : ℤ) (band : Interval) (s : Strip) : Type 0 where
  pub listed : Contains strips s
  pub column : HasNumber (columns s.area) x
  pub rows_within : LiesWithin band (rows s.area)

-- the strip that has this column and all these rows; none, if the domain does not have the column
abbrev pub IsBeyond : List Strip → Rect → ℤ → Interval → Option Strip → Type 0
IsBeyond strips domain x band None = ¬ HasNumber (columns domain) x
IsBeyond strips domain x band (Some s) = IsListedAt strips x band s

-- the strip at a point; none, if the domain does not have the point
abbrev pub IsStripAt : List Strip → Rect → Point → Option Strip → Type 0
IsStripAt strips domain p None = ¬ HasPoint domain p
IsStripAt strips domain p (Some s) = Contains strips s × HasPoint s.area p

-- the strip, if there is one, has this row
abbrev pub StartsIn : ℤ → Option Strip → Type 0
StartsIn row None = Unit {0}
StartsIn row (Some s) = HasNumber (rows s.area) row

-- the strip, if there is one, has all these rows
abbrev pub IsCapped : Interval → Option Strip → Type 0
IsCapped band None = Unit {0}
IsCapped band (Some s) = LiesWithin band (rows s.area)

-- the strip, if there is one, starts at the latest in this column
abbrev pub StartsBy : ℤ → Option Strip → Type 0
StartsBy x None = Unit {0}
StartsBy x (Some s) = s.area.x0 ≤ℤ x

-- the strip, if there is one, ends at the earliest in this column
abbrev pub EndsFrom : ℤ → Option Strip → Type 0
EndsFrom x None = Unit {0}
EndsFrom x (Some s) = x ≤ℤ s.area.x1

-- where a run of the label starts that has this column: further left, if the strip there has the label
abbrev pub IsLeftEnd : ℤ → Label → Option Strip → ℤ → Type 0
IsLeftEnd x label None end = end ≡ x
IsLeftEnd x label (Some s) end = (s.label ≡ label → end ≡ s.area.x0) × (¬ (s.label ≡ label) → end ≡ x)

-- where a run of the label ends that has this column: further right, if the strip there has the label
abbrev pub IsRightEnd : ℤ → Label → Option Strip → ℤ → Type 0
IsRightEnd x label None end = end ≡ x
IsRightEnd x label (Some s) end = (s.label ≡ label → end ≡ s.area.x1) × (¬ (s.label ≡ label) → end ≡ x)

-- rows of the area with the strips to its left and to its right, and the new label's columns
pub record IsBand (strips : List Strip) (brush : Brush) (band : Band) : Type 0 where
  pub rows_inside : LiesWithin band.rows (rows brush.area)
  pub left : IsBeyond strips brush.domain (brush.area.x0 -ℤ pos 1) band.rows band.left
  pub right : IsBeyond strips brush.domain (brush.area.x1 +ℤ pos 1) band.rows band.right
  pub left_end : IsLeftEnd brush.area.x0 brush.label band.left band.across.low
  pub right_end : IsRightEnd brush.area.x1 brush.label band.right band.across.high

-- in these rows each point of the strip to the left of the area is held, unless the strip has the label
abbrev pub HoldsLeft : Brush → Interval → Option Strip → List Strip → Type 0
HoldsLeft brush band None new = Unit {0}
HoldsLeft brush band (Some s) new = ¬ (s.label ≡ brush.label) → (p : Point) → HasPoint s.area p → p.x <ℤ brush.area.x0 → HasNumber band p.y → IsHeld new p

-- in these rows each point of the strip to the right of the area is held, unless the strip has the label
abbrev pub HoldsRight : Brush → Interval → Option Strip → List Strip → Type 0
HoldsRight brush band None new = Unit {0}
HoldsRight brush band (Some s) new = ¬ (s.label ≡ brush.label) → (p : Point) → HasPoint s.area p → brush.area.x1 <ℤ p.x → HasNumber band p.y → IsHeld new p

-- in these rows each point of the new label's columns is held
abbrev pub HoldsMiddle : Band → List Strip → Type 0
HoldsMiddle band new = (p : Point) → HasNumber band.across p.x → HasNumber band.rows p.y → IsHeld new p

-- each point of the domain in these rows is held
abbrev pub HoldsRows : Rect → Interval → List Strip → Type 0
HoldsRows domain band draft = (p : Point) → HasPoint domain p → HasNumber band p.y → IsHeld draft p
