use Rattle.std.proofs.Common.{sym, subst}
use Rattle.board_parts.specs.Rules.{IsBoard}
use Rattle.board_gen.proofs.GoodBoard.{generated-is-board}
use Rattle.board_gen.proofs.generating.board.Goals as goal

pub build-requires : goal.build-requires
build-requires c = subst IsBoard (sym c.in_ok-parts.ensures) (generated-is-board c.args.n c.requires.some c.requires.few)
