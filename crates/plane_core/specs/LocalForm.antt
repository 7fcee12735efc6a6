-- The local form of a plane: what can be seen of its strips by looking at two of them at a time.
use Rattle.std.specs.Prelude.{ℤ, pos, ◌+ℤ◌, ◌≡◌, List, Contains}
use Rattle.geo_rect.specs.declared.ids.Label.{Label}
use Rattle.geo_rect.specs.declared.shapes.Point.{Point}
use Rattle.geo_rect.specs.declared.shapes.Rect.{Rect}
use Rattle.geo_rect.specs.Axis.{HasNumber}
use Rattle.geo_rect.specs.Plane.{rows, HasPoint, LiesIn}
use Rattle.plane_core.specs.declared.strips.Strip.{Strip}
use Rattle.plane_core.specs.Strips.{IsHeld, IsInOrder}

-- in some row t stands right beside s, to the right, and has the same label
pub record IsSideDefect (s t : Strip) : Type 0 where
  pub same_label : s.label ≡ t.label
  pub row : ℤ
  pub row_of_first : HasNumber (rows s.area) row
  pub row_of_second : HasNumber (rows t.area) row
  pub touch : t.area.x0 ≡ s.area.x1 +ℤ pos 1

-- s and t have the same leftmost and the same rightmost column
pub record HaveSameColumns (s t : Rect) : Type 0 where
  pub left : s.x0 ≡ t.x0
  pub right : s.x1 ≡ t.x1

-- t stands right above s, and has the same columns and label
pub record IsStackDefect (s t : Strip) : Type 0 where
  pub same_label : s.label ≡ t.label
  pub same_columns : HaveSameColumns s.area t.area
  pub touch : t.area.y0 ≡ s.area.y1 +ℤ pos 1

-- labelled rectangles that fill the domain with these labels, pairwise apart, with no defect
pub record HasLocalForm (domain : Rect) (label_at : Point → Label) (strips : List Strip) : Type 0 where
  pub inside : (s : Strip) → Contains strips s → LiesIn s.area domain
  pub labelled : (s : Strip) → Contains strips s → (p : Point) → HasPoint s.area p → label_at p ≡ s.label
  pub covered : (p : Point) → HasPoint domain p → IsHeld strips p
  pub apart : (s t : Strip) → Contains strips s → Contains strips t → (p : Point) → HasPoint s.area p → HasPoint t.area p → s ≡ t
  pub no_side_defect : (s t : Strip) → Contains strips s → Contains strips t → ¬ IsSideDefect s t
  pub no_stack_defect : (s t : Strip) → Contains strips s → Contains strips t → ¬ IsStackDefect s t
  pub in_order : IsInOrder strips
