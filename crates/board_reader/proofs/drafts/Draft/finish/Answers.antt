use Rattle.std.proofs.Common.{subst, sym}
use Rattle.board_parts.specs.Rules.{IsBoard}
use Rattle.board_reader.proofs.IsBoard.{is-board}
use Rattle.board_reader.proofs.drafts.Draft.finish.Goals as goal

pub build-requires : goal.build-requires
build-requires c = subst IsBoard (sym c.in_ok-fill.ensures.parts) (is-board c.args.self.now c.requires.draft c.requires.ended)
