use Rattle.std.proofs.Common.{rules}
use Rattle.std.proofs.lemmas.Bool.Decides.{same_from_decides}
use Rattle.board_model.proofs.Decisions.{Decides-keeps_outline}
use Rattle.rule_check.proofs.outlines.keeps_outline.Goals as goal

pub returns : goal.returns
returns c =
    let b = c.args.board.now.parts in
    same_from_decides _ _ (search rules) (Decides-keeps_outline b c.args.area)
