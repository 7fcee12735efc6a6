use Rattle.std.proofs.Common.{List, subst, arith}
use Rattle.std.proofs.lemmas.List.{take_all}
use Rattle.board_model.specs.declared.shapes.Shape.{Shape}
use Rattle.rip_up.proofs.Removing.{StandsSoFar, start, step_here, finish}
use Rattle.rip_up.proofs.removes.remove.Goals as goal

pub loop-shape-init : goal.loop-shape-init
loop-shape-init g c = start c.args.board.now.parts c.args.stay.now c.args.gone.now c.args.planes c.requires.planes

pub loop-shape-preserved : goal.loop-shape-preserved
loop-shape-preserved g c =
    step_here c.args.board.now.parts c.args.stay.now c.args.gone.now c.loop-shape.shape-index c.shape-item.result c.shape-item.is (omega arith)
    c.loop-shape.rested c.in_ok-rested.rested c.loop-shape.invariant c.in_ok-rested.ensures.planes c.in_ok-rested.ensures.labels

pub returns : goal.returns
returns g c =
    let b = c.args.board.now.parts in
    let gone = c.args.gone.now in
    let done : StandsSoFar b c.args.stay.now gone gone c.loop-shape.rested =
    subst (λ (ss : List Shape). StandsSoFar b c.args.stay.now gone ss c.loop-shape.rested) (take_all c.loop-shape.shape-index gone (omega arith)) c.loop-shape.invariant in
    finish b c.args.stay.now gone c.loop-shape.rested done
