use Rattle.std.proofs.Common.{◌≡◌, pos, ◌-ℤ◌}
use Rattle.std.specs.Int.{int_max}
use Rattle.std.specs.Int.RustNames.{unsigned_abs}
use Rattle.tile_paint.specs.Changes.{HaveSameLabels}
use Rattle.tile_paint.specs.States.{IsJoining}
use Rattle.tile_paint.proofs.widths.join_band.Given as goal

abbrev pub invariant-loop-area : goal.invariant-loop-area
invariant-loop-area l = record {
  domain : l.t.domain ≡ l.fn.t.domain;
  labels : HaveSameLabels l.fn.t.store l.t.store;
  joining : IsJoining l.t.store l.area l.band l.label l.wide l.joined;
}

abbrev pub decreases-loop-area : goal.decreases-loop-area
decreases-loop-area l = unsigned_abs (int_max (l.wide.x1 -ℤ l.joined.piece.area.x1) (pos 0))
