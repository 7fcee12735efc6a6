use Rattle.std.proofs.Common.{ap, pos, to_z, of_z, w32, arith}
use Rattle.std.proofs.lemmas.Int.{ints}
use Rattle.board_parts.specs.declared.parts.Rule.{Rule}
use Rattle.board_parts.specs.Lookup.{rule_of}
use Rattle.grow_rules.proofs.Grown.{near_board, same_points}
use Rattle.grow_rules.proofs.grows.wire_keep.Goals as goal

pub kept_away-requires-clause-area : goal.kept_away-requires-clause-area
kept_away-requires-clause-area c = near_board c.args.board.now.parts c.args.area c.args.board.now.kept c.requires.area

pub returns-clause-points : goal.returns-clause-points
returns-clause-points c =
    let half = ap (λ (r : Rule). r.half) c.rule-half.ensures.value in
    same_points c.args.area c.kept_away.result (to_z w32 (of_z w32 c.rule-half.result.half)) (rule_of c.args.board.now.parts c.args.l c.args.c).half (pos 1) (omega (arith, ints, half)) c.kept_away.ensures.points
