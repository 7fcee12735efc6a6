-- Two rectangles that are too close, the one and the other way round.
use Rattle.std.proofs.Common.{ℤ}
use Rattle.geo_rect.specs.declared.shapes.Rect.{Rect}
use Rattle.geo_rect.specs.Plane.{IsTooClose}

pub too_close-sym : (x y : Rect) (s : ℤ) → IsTooClose x y s → IsTooClose y x s
too_close-sym x y s t = record {
  across = record { after = t.across.before; before = t.across.after };
  up = record { after = t.up.before; before = t.up.after };
}
