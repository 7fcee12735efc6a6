use Rattle.std.proofs.Common.{arith}
use Rattle.contour_core.proofs.Checking.{refused-few}
use Rattle.contour_core.proofs.parts.replies_behind.Goals as goal

pub overflow_add-result : goal.overflow_add-result
overflow_add-result c =
    omega (arith, c.requires.before, c.requires.short, refused-few c.args.board.now.parts c.args.bytes.now c.in-Err-Refused.field-0 c.in-Err-Refused.number c.in-Err-Refused.field-0-is c.in-Err-Refused.ensures.refused)
