use Rattle.rule_check.proofs.Skips.{close_run}
use Rattle.rule_check.proofs.later.push_later.Goals as goal

pub loop-place-preserved : goal.loop-place-preserved
loop-place-preserved c =
    close_run c.args.board.now.parts c.args.shape c.args.shapes.now c.loop-place.place c.in_ok-place.place c.loop-place.found c.push_next.new.found _ c.in_ok-place.ensures.after c.in_ok-place.ensures.added c.loop-place.invariant
