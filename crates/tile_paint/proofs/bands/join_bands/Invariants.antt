use Rattle.std.proofs.Common.{◌≡◌, pos, ◌+ℤ◌, ◌-ℤ◌, ◌≤ℤ◌}
use Rattle.std.specs.Int.{int_max}
use Rattle.std.specs.Int.RustNames.{unsigned_abs}
use Rattle.tile_paint.specs.Changes.{HaveSameLabels}
use Rattle.tile_paint.specs.States.{IsReadyFrom}
use Rattle.tile_paint.proofs.bands.join_bands.Given as goal

abbrev pub invariant-loop-area : goal.invariant-loop-area
invariant-loop-area l = record {
  domain : l.t.domain ≡ l.fn.t.domain;
  labels : HaveSameLabels l.fn.t.store l.t.store;
  from : l.area.y0 ≤ℤ l.at.y;
  to : l.at.y ≤ℤ (l.area.y1 +ℤ pos 1);
  ready : IsReadyFrom l.t.store l.area l.label l.at.y;
}

abbrev pub decreases-loop-area : goal.decreases-loop-area
decreases-loop-area l = unsigned_abs (int_max ((l.area.y1 +ℤ pos 1) -ℤ l.at.y) (pos 0))
