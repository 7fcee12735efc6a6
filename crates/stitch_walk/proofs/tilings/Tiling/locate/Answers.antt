-- To the row of the point in the first column of the hint's tile, and then along the row.
use Rattle.stitch_walk.proofs.Reaching.{corner_level, corner_inside, holds_level}
use Rattle.stitch_walk.proofs.tilings.Tiling.locate.Goals as goal

pub go_upright-in_row-requires-clause-column : goal.go_upright-in_row-requires-clause-column
go_upright-in_row-requires-clause-column g c =
    let e = c.tile.ensures in
    corner_level c.args.self.now.store c.args.self.now.domain e.tiling.linked c.args.hint c.tile.result e.tile c.args.p c.corner-corner.result c.requires.point c.corner-corner.ensures.column c.corner-corner.ensures.row

pub go_upright-in_row-requires-clause-point : goal.go_upright-in_row-requires-clause-point
go_upright-in_row-requires-clause-point g c =
    let e = c.tile.ensures in
    corner_inside c.args.self.now.store c.args.self.now.domain e.tiling.linked c.args.hint c.tile.result e.tile c.args.p c.corner-corner.result c.requires.point c.corner-corner.ensures.column c.corner-corner.ensures.row

pub go_level-requires-clause-row : goal.go_level-requires-clause-row
go_level-requires-clause-row g c = holds_level c.args.self.now.store c.corner-corner.result c.args.p c.go_upright-in_row.result c.go_upright-in_row.ensures c.corner-corner.ensures.row
