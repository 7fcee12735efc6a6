use Rattle.std.proofs.Common.{pos, to_z, of_z, w32, arith}
use Rattle.std.proofs.lemmas.Int.{ints}
use Rattle.board_parts.specs.Lookup.{pad_on}
use Rattle.grow_rules.proofs.Grown.{near_board, same_points}
use Rattle.grow_rules.proofs.grows.via_keep.Goals as goal

pub kept_away-requires-clause-area : goal.kept_away-requires-clause-area
kept_away-requires-clause-area c = near_board c.args.board.now.parts c.args.area c.args.board.now.kept c.requires.area

pub returns-clause-points : goal.returns-clause-points
returns-clause-points c =
    same_points c.args.area c.kept_away.result (to_z w32 (of_z w32 c.pad_on-pad.result)) (pad_on c.args.board.now.parts c.args.k c.args.c c.args.l) (pos 1) (omega (arith, ints, c.pad_on-pad.ensures.value)) c.kept_away.ensures.points
