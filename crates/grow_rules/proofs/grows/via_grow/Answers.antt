use Rattle.std.proofs.Common.{arith, to_z, of_z, w32}
use Rattle.std.proofs.lemmas.Int.{ints}
use Rattle.grow_rules.proofs.Grown.{via_points}
use Rattle.grow_rules.proofs.grows.via_grow.Goals as goal

pub returns-clause-hits : goal.returns-clause-hits
returns-clause-hits c p =
    via_points c.args.board.now.parts c.args.c c.args.s.now c.kept_away.result (to_z w32 (of_z w32 c.pad_on-pad.result)) _ p (c.kept_away.ensures.points p) c.args.k c.requires.span (omega (arith, ints, c.pad_on-pad.ensures.value)) (omega (arith, ints, c.gap_to-gap.ensures.value))
