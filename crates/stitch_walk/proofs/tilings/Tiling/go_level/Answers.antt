-- To the right as far as the point, and then to the left as far as it.
use Rattle.plane_core.specs.declared.sides.Side.TheVariants.{Left, Right}
use Rattle.stitch_walk.proofs.Reaching.{level_opposite, holds_between}
use Rattle.stitch_walk.proofs.tilings.Tiling.go_level.Goals as goal

pub go_straight-right-requires-clause-level : goal.go_straight-right-requires-clause-level
go_straight-right-requires-clause-level g c = level_opposite c.args.self.now.store Left c.args.p c.args.id c.requires.row

pub go_straight-requires-clause-level : goal.go_straight-requires-clause-level
go_straight-requires-clause-level g c = level_opposite c.args.self.now.store Right c.args.p c.go_straight-right.result c.go_straight-right.ensures.level

pub returns : goal.returns
returns g c =
    let e = c.go_straight.ensures in
    holds_between c.args.self.now.store Left c.args.p c.go_straight.result e.level e.reaches (e.kept c.go_straight-right.ensures.reaches)
