use Rattle.gerber_out.proofs.Draws.{behind_y, behind_d}
use Rattle.gerber_out.proofs.spelling.draw_of.Goals as goal

pub returns-in_default-number_before-2-clause-none : goal.returns-in_default-number_before-2-clause-none
returns-in_default-number_before-2-clause-none c = λ p k s.
    let first = c.in-Some-number_before.ensures in
    c.in_default-number_before-2.ensures.none k.y _ s.in_range.up
    (behind_y c.args.bytes.now _ _ _ p k s c.in-Some.ensures.some first.some.0 first.some.1).1

pub returns-in_default-pen_of-clause-none : goal.returns-in_default-pen_of-clause-none
returns-in_default-pen_of-clause-none c = λ p k s.
    let first = c.in-Some-number_before.ensures in
    let second = c.in-Some-number_before-2.ensures in
    c.in_default-pen_of.ensures.none p
    (behind_d c.args.bytes.now _ _ _ _ _ p k s c.in-Some.ensures.some first.some.0 first.some.1 second.some.0 second.some.1).1
