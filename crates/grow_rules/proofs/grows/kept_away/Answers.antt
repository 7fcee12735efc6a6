use Rattle.std.proofs.Common.{arith}
use Rattle.std.proofs.lemmas.Int.{ints}
use Rattle.grow_rules.proofs.Grown.{grown-points, grown-bounded}
use Rattle.grow_rules.proofs.grows.kept_away.Goals as goal

pub returns-clause-points : goal.returns-clause-points
returns-clause-points c =
    grown-points c.args.area c.grown.result c.args.half c.args.gap _ c.requires.half c.requires.gap
    (omega (arith, ints)) c.grown.ensures

pub returns-clause-bounded : goal.returns-clause-bounded
returns-clause-bounded c =
    grown-bounded c.args.area c.grown.result c.args.half c.args.gap _ c.requires.half c.requires.gap
    (omega (arith, ints)) c.grown.ensures c.requires.area
