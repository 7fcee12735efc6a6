-- Drafts: lists of strips that are right in each row, and are stacked as far as they reach.
use Rattle.std.specs.Prelude.{ℤ, pos, ◌+ℤ◌, ◌≤ℤ◌, ◌≡◌, ◌⊎◌, List, Contains}
use Rattle.std.specs.Int.{int_min, int_max}
use Rattle.geo_rect.specs.declared.ids.Label.{Label}
use Rattle.geo_rect.specs.declared.shapes.Interval.{Interval}
use Rattle.geo_rect.specs.declared.shapes.Point.{Point}
use Rattle.geo_rect.specs.declared.shapes.Rect.{Rect}
use Rattle.geo_rect.specs.Axis.{HasNumber, LiesWithin}
use Rattle.geo_rect.specs.Plane.{columns, rows}
use Rattle.plane_core.specs.declared.strips.Strip.{Strip}
use Rattle.plane_core.specs.LocalForm.{HaveSameColumns}
use Rattle.plane_core.specs.Sides.{HaveCommon}
use Rattle.plane_core.specs.Strips.{IsHeld, IsInOrder, IsRunInRow, Precedes}

-- no number lies between i and j
pub record Touch (i j : Interval) : Type 0 where
  pub first_reaches : j.low ≤ℤ (i.high +ℤ pos 1)
  pub second_reaches : i.low ≤ℤ (j.high +ℤ pos 1)

-- s and t have the same columns and label, and no row lies between them
pub record Joins (s t : Strip) : Type 0 where
  pub same_label : s.label ≡ t.label
  pub same_columns : HaveSameColumns s.area t.area
  pub rows_touch : Touch (rows s.area) (rows t.area)

-- t has the columns and the label of s, and all its rows
pub record IsPartOf (s t : Strip) : Type 0 where
  pub same_label : s.label ≡ t.label
  pub same_columns : HaveSameColumns s.area t.area
  pub rows_within : LiesWithin (rows s.area) (rows t.area)

-- the least interval that has all numbers of both
pub record IsHull (i j hull : Interval) : Type 0 where
  pub low : hull.low ≡ int_min i.low j.low
  pub high : hull.high ≡ int_max i.high j.high

-- the columns of t are a maximal run of its label in each of its rows
abbrev pub IsRunInEachRow : Rect → (Point → Label) → Strip → Type 0
IsRunInEachRow domain label_at t = (y : ℤ) → HasNumber (rows t.area) y → IsRunInRow domain label_at t y

-- no two of the strips can be joined
abbrev pub AreApart : List Strip → Type 0
AreApart ss = (s t : Strip) → Contains ss s → Contains ss t → Joins s t → s ≡ t

-- strips that are maximal runs in each of their rows, stacked as far as they reach, in order
pub record IsDraft (domain : Rect) (label_at : Point → Label) (strips : List Strip) : Type 0 where
  pub runs : (s : Strip) → Contains strips s → IsRunInEachRow domain label_at s
  pub apart : AreApart strips
  pub in_order : IsInOrder strips

-- u has the columns and the label of t, and the rows of both and what lies between
pub record IsUnion (s t u : Strip) : Type 0 where
  pub same_label : t.label ≡ u.label
  pub same_columns : HaveSameColumns t.area u.area
  pub rows_joined : IsHull (rows s.area) (rows t.area) (rows u.area)

-- new is the union of s and whole if they can be joined, and whole if not
abbrev pub IsAbsorbed : Strip → Strip → Strip → Type 0
IsAbsorbed s whole new = (Joins s whole × IsUnion s whole new) ⊎ ((¬ Joins s whole) × (new ≡ whole))

-- whole has the piece, and each of the strips that can be joined with it, and no other row
pub record IsJoinOf (strips : List Strip) (piece whole : Strip) : Type 0 where
  pub has_piece : IsPartOf piece whole
  pub has_strips : (s : Strip) → Contains strips s → Joins s whole → IsPartOf s whole
  pub runs : (domain : Rect) (label_at : Point → Label) → ((s : Strip) → Contains strips s → IsRunInEachRow domain label_at s) → IsRunInEachRow domain label_at piece → IsRunInEachRow domain label_at whole

-- s cannot be joined with whole, and comes before it
pub record StaysBefore (whole s : Strip) : Type 0 where
  pub apart : ¬ Joins s whole
  pub before : Precedes s whole

-- s cannot be joined with whole, and does not come before it
pub record StaysAfter (whole s : Strip) : Type 0 where
  pub apart : ¬ Joins s whole
  pub not_before : ¬ Precedes s whole

-- s has points in rows of the area, and in its columns or right beside them
pub record IsAffected (area s : Rect) : Type 0 where
  pub across : Touch (columns area) (columns s)
  pub up : HaveCommon (rows area) (rows s)

-- each point that old strips hold is held by the new ones
abbrev pub KeepsPoints : List Strip → List Strip → Type 0
KeepsPoints old new = (p : Point) → IsHeld old p → IsHeld new p
