use Rattle.std.proofs.Common.{◌-ℤ◌, ◌≤ℤ◌, ◌<ℤ◌, ◌≡◌}
use Rattle.std.specs.Int.RustNames.{unsigned_abs}
use Rattle.geo_rect.specs.declared.shapes.Point.{Point}
use Rattle.geo_rect.specs.Axis.{LiesWithin}
use Rattle.geo_rect.specs.Plane.{rows, HasPoint}
use Rattle.plane_core.specs.Strips.{IsHeld}
use Rattle.flat_plane.specs.Draft.{KeepsPoints}
use Rattle.flat_plane.specs.Painting.{HoldsUntouched, IsDraftOf}
use Rattle.flat_plane.proofs.pieces.add_rows.Given as goal

-- the rows below those that are left are done
abbrev pub invariant-loop-new : goal.invariant-loop-new
invariant-loop-new l = record {
  draft : IsDraftOf l.strips l.brush l.new;
  untouched : HoldsUntouched l.strips l.brush l.new;
  keeps : KeepsPoints l.fn.draft l.new;
  inside : LiesWithin l.rest (rows l.brush.area);
  last : l.rest.high ≡ l.brush.area.y1;
  so_far : (p : Point) → HasPoint l.brush.domain p → l.brush.area.y0 ≤ℤ p.y → p.y <ℤ l.rest.low → IsHeld l.new p;
}

abbrev pub decreases-loop-new : goal.decreases-loop-new
decreases-loop-new l = unsigned_abs (l.rest.high -ℤ l.rest.low)
