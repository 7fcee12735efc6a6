-- The strips of a labelled rectangle: the maximal horizontal pieces of one label.
use Rattle.std.specs.Prelude.{ℤ, pos, ◌+ℤ◌, ◌-ℤ◌, ◌≤ℤ◌, ◌<ℤ◌, ◌≡◌, ◌≢◌, List, [], ◌∷◌, Contains}
use Rattle.geo_rect.specs.declared.ids.Label.{Label}
use Rattle.geo_rect.specs.declared.shapes.Interval.{Interval}
use Rattle.geo_rect.specs.declared.shapes.Point.{Point}
use Rattle.geo_rect.specs.declared.shapes.Rect.{Rect}
use Rattle.geo_rect.specs.Axis.{HasNumber, LiesWithin}
use Rattle.geo_rect.specs.Plane.{columns, rows, HasPoint}
use Rattle.plane_core.specs.declared.strips.Strip.{Strip}

-- the numbers of run all have this label, and no neighbour of run in the domain has it
pub record IsRun (domain : Interval) (label_at : ℤ → Label) (run : Interval) (label : Label) : Type 0 where
  pub inside : LiesWithin run domain
  pub same : (x : ℤ) → HasNumber run x → label_at x ≡ label
  pub ends_left : HasNumber domain (run.low -ℤ pos 1) → label_at (run.low -ℤ pos 1) ≢ label
  pub ends_right : HasNumber domain (run.high +ℤ pos 1) → label_at (run.high +ℤ pos 1) ≢ label

-- the columns of t are a maximal run of its label in this row of the domain
pub record IsRunInRow (domain : Rect) (label_at : Point → Label) (t : Strip) (y : ℤ) : Type 0 where
  pub in_domain : HasNumber (rows domain) y
  pub run : IsRun (columns domain) (λ x. label_at (record { x = x; y = y })) (columns t.area) t.label

-- the columns of t are a maximal run of its label in each of its rows, and in no row next to them
pub record IsStrip (domain : Rect) (label_at : Point → Label) (t : Strip) : Type 0 where
  pub in_each_row : (y : ℤ) → HasNumber (rows t.area) y → IsRunInRow domain label_at t y
  pub ends_below : ¬ IsRunInRow domain label_at t (t.area.y0 -ℤ pos 1)
  pub ends_above : ¬ IsRunInRow domain label_at t (t.area.y1 +ℤ pos 1)

-- s starts below t, or in the same row and further left
pub record Precedes (s t : Strip) : Type 0 where
  pub no_higher : s.area.y0 ≤ℤ t.area.y0
  pub in_one_row : t.area.y0 ≤ℤ s.area.y0 → s.area.x0 <ℤ t.area.x0

-- each strip of the list precedes all that follow it
abbrev pub IsInOrder : List Strip → Type 0
IsInOrder [] = Unit {0}
IsInOrder (s ∷ ss) = ((t : Strip) → Contains ss t → Precedes s t) × IsInOrder ss

-- one of the strips has the point
pub record IsHeld (strips : List Strip) (p : Point) : Type 0 where
  pub by : Strip
  pub is_listed : Contains strips by
  pub has_point : HasPoint by.area p

-- the list has strips of the labelled domain alone, in order, and each point lies in one
pub record AreStrips (domain : Rect) (label_at : Point → Label) (strips : List Strip) : Type 0 where
  pub each : (s : Strip) → Contains strips s → IsStrip domain label_at s
  pub covered : (p : Point) → HasPoint domain p → IsHeld strips p
  pub in_order : IsInOrder strips
