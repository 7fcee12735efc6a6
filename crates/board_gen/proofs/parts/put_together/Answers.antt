use Rattle.std.proofs.Common.{◌≡◌, ◌+◌, ◌*◌, pos, arith, to_z, of_z, w32}
use Rattle.std.proofs.lemmas.Int.{ints}
use Rattle.board_gen.proofs.GoodBoard.{same-board}
use Rattle.board_gen.proofs.parts.put_together.Goals as goal

pub returns : goal.returns
returns c =
    let few = c.requires.few in
    let height : to_z w32 (of_z w32 c.height.result) ≡ pos (100 * c.args.n + 200) = omega (arith, ints, c.height.ensures, few) in
    same-board c.args.n _ _ _ _ _ _ _ _ _ _ _ _ _ _ _ c.requires.name height c.requires.layers c.requires.classes c.requires.rules c.requires.gaps c.requires.kind_names c.requires.kinds c.requires.pads c.requires.inners
    c.requires.blocks c.new.ensures c.requires.net_names c.requires.net_classes c.requires.pins
