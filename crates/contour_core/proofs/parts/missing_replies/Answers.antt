use Rattle.std.proofs.Common.{arith}
use Rattle.std.proofs.lemmas.List.{length-map}
use Rattle.line_words.specs.Lines.{pieces, without_return}
use Rattle.contour_core.proofs.Checking.{pieces-few}
use Rattle.contour_core.proofs.parts.missing_replies.Goals as goal

pub overflow_add-result : goal.overflow_add-result
overflow_add-result c =
    omega (arith, c.requires.short, c.count_lines.ensures, length-map (pieces c.args.bytes.now) without_return, pieces-few c.args.bytes.now)
