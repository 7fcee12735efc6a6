use Rattle.std.proofs.Common.{arith, ap, to_z, of_z, w32}
use Rattle.std.proofs.lemmas.Int.{ints}
use Rattle.board_parts.specs.declared.parts.Rule.{Rule}
use Rattle.grow_rules.proofs.Grown.{wire_points}
use Rattle.grow_rules.proofs.grows.wire_grow.Goals as goal

pub returns-clause-hits : goal.returns-clause-hits
returns-clause-hits c p =
    let half = ap (λ (r : Rule). r.half) c.rule-half.ensures.value in
    wire_points c.args.board.now.parts c.args.c c.args.s.now c.kept_away.result (to_z w32 (of_z w32 c.rule-half.result.half)) _ p (c.kept_away.ensures.points p) c.args.l c.requires.layer (omega (arith, ints, half)) (omega (arith, ints, c.gap_to-gap.ensures.value))
