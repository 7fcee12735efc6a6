use Rattle.board_gen.proofs.GoodBoard.{spelled-generated, read-generated}
use Rattle.board_gen.proofs.generating.generate.Goals as goal

pub returns-clause-text : goal.returns-clause-text
returns-clause-text c = spelled-generated c.spell.result c.in_ok-board.board.parts c.args.n c.in_ok-board.ensures c.spell.ensures

pub returns-clause-read : goal.returns-clause-read
returns-clause-read c =
    read-generated c.spell.result c.args.n c.requires.some c.requires.few (spelled-generated c.spell.result c.in_ok-board.board.parts c.args.n c.in_ok-board.ensures c.spell.ensures)
