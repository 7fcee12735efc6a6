-- The walk upwards along the left side.
use Rattle.std.proofs.Common.{◌≡◌, ◌≤ℤ◌, ◌<ℤ◌, ap, ◌∙◌, w32, to_z, of_z, arith}
use Rattle.std.proofs.lemmas.Int.{ints}
use Rattle.geo_rect.specs.declared.shapes.Rect.{Rect}
use Rattle.geo_rect.specs.Plane.{rows}
use Rattle.plane_core.specs.declared.sides.Side.TheVariants.{Left}
use Rattle.plane_core.specs.Sides.{turned}
use Rattle.stitch_walk.proofs.Walking.{walking_starts, walking_steps, walking_ends_past, walking_ends_outside, row_rises, rows_left_fall}
use Rattle.stitch_walk.proofs.tilings.Tiling.left_walk.Goals as goal

pub loop-row-init : goal.loop-row-init
loop-row-init g c =
    let low : to_z w32 (of_z w32 c.rows-edge.result.low) ≡ c.rows-edge.result.low = omega (arith, ints) in
    let edge : c.rows-edge.result ≡ rows (turned Left c.tile-tile.result.area) = c.rows-edge.ensures ∙ ap (λ (r : Rect). rows r) c.turn.ensures in
    let e = c.tile-tile.ensures in
    walking_starts c.args.self.now Left c.args.id c.tile-tile.result c.rows-edge.result c.new-found.result _ _ _ e.tiling e.tile edge low c.new-found.ensures e.counted

pub returns-in_default-clause-found : goal.returns-in_default-clause-found
returns-in_default-clause-found g c =
    let more : to_z w32 c.loop-row.row-bits ≤ℤ c.rows-edge.result.high = omega (arith, ints) in
    walking_ends_outside c.args.self.now Left c.args.id c.rows-edge.result c.loop-row.found _ c.loop-row.next _ _ c.tile-tile.ensures.tiling c.loop-row.invariant c.in_default.is more

pub loop-row-smaller : goal.loop-row-smaller
loop-row-smaller g c =
    let more : to_z w32 c.loop-row.row-bits ≤ℤ c.rows-edge.result.high = omega (arith, ints) in
    let row : to_z w32 (of_z w32 c.row_past-row.result) ≡ c.row_past-row.result = omega (arith, ints) in
    rows_left_fall c.args.self.now Left c.args.id c.rows-edge.result c.loop-row.found _ c.loop-row.next _ _ c.tile-tile.ensures.tiling c.loop-row.invariant _ more
    (row_rises c.args.self.now Left c.args.id c.rows-edge.result c.loop-row.found _ c.loop-row.next _ _ c.tile-tile.ensures.tiling c.loop-row.invariant c.in-Some.neighbour c.tile-other.result _ c.tile-other.ensures.tile c.in-Some.is more (row ∙ c.row_past-row.ensures))

pub loop-row-preserved : goal.loop-row-preserved
loop-row-preserved g c =
    let more : to_z w32 c.loop-row.row-bits ≤ℤ c.rows-edge.result.high = omega (arith, ints) in
    let row : to_z w32 (of_z w32 c.row_past-row.result) ≡ c.row_past-row.result = omega (arith, ints) in
    walking_steps c.args.self.now Left c.args.id c.rows-edge.result c.loop-row.found _ c.loop-row.next _ _ c.tile-tile.ensures.tiling c.loop-row.invariant c.in-Some.neighbour c.tile-other.result _ _ _ c.tile-other.ensures.tile c.in-Some.is more (row ∙ c.row_past-row.ensures) c.in_ok-push.ensures.ok c.tile-other.ensures.counted

pub returns-clause-found : goal.returns-clause-found
returns-clause-found g c =
    let past_end : c.rows-edge.result.high <ℤ to_z w32 c.loop-row.row-bits = omega (arith, ints) in
    walking_ends_past c.args.self.now Left c.args.id c.rows-edge.result c.loop-row.found _ c.loop-row.next _ _ c.tile-tile.ensures.tiling c.loop-row.invariant past_end
