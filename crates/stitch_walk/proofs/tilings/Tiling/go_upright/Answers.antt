-- Upwards as far as the point, and then downwards as far as it.
use Rattle.plane_core.specs.declared.sides.Side.TheVariants.{Below, Above}
use Rattle.stitch_walk.proofs.Reaching.{level_opposite, holds_between}
use Rattle.stitch_walk.proofs.tilings.Tiling.go_upright.Goals as goal

pub go_straight-high-requires-clause-level : goal.go_straight-high-requires-clause-level
go_straight-high-requires-clause-level g c = level_opposite c.args.self.now.store Below c.args.p c.args.id c.requires.column

pub go_straight-requires-clause-level : goal.go_straight-requires-clause-level
go_straight-requires-clause-level g c = level_opposite c.args.self.now.store Above c.args.p c.go_straight-high.result c.go_straight-high.ensures.level

pub returns : goal.returns
returns g c =
    let e = c.go_straight.ensures in
    holds_between c.args.self.now.store Below c.args.p c.go_straight.result e.level e.reaches (e.kept c.go_straight-high.ensures.reaches)
