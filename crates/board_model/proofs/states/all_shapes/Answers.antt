use Rattle.std.proofs.Common.{◌≡◌, All, subst, sym, arith}
use Rattle.board_model.specs.Known.{IsKnown}
use Rattle.board_model.specs.Shapes.{state_shapes}
use Rattle.board_model.proofs.MadeShapes.{state_known, made_all}
use Rattle.board_model.proofs.states.all_shapes.Goals as goal

pub returns-clause-known : goal.returns-clause-known
returns-clause-known c =
    let b = c.args.board.now.parts in
    let lists = c.args.made.now.lists in
    let e : c.loop-net.shapes ≡ state_shapes b lists = made_all b lists c.loop-net.net c.loop-net.shapes _ (omega arith) c.loop-net.invariant in
    subst (All (IsKnown b)) (sym e) (state_known b c.args.board.now.kept lists c.requires.nets c.requires.well_formed)
