use Rattle.std.proofs.Common.{pos, ◌+ℤ◌, ◌-ℤ◌}
use Rattle.std.specs.Int.{int_max}
use Rattle.std.specs.Int.RustNames.{unsigned_abs}
use Rattle.tile_paint.proofs.Capping.{IsCappedBefore}
use Rattle.tile_paint.proofs.bands.first_band.Given as goal

abbrev pub invariant-loop-area : goal.invariant-loop-area
invariant-loop-area l = IsCappedBefore l.t.store l.area l.fn.at l.band l.next

abbrev pub decreases-loop-area : goal.decreases-loop-area
decreases-loop-area l = unsigned_abs (int_max ((l.area.x1 +ℤ pos 2) -ℤ l.next.x) (pos 0))
