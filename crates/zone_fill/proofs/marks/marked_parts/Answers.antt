use Rattle.std.proofs.Common.{◌++◌, ◌∷◌, [], ap, sym, ◌∙◌}
use Rattle.zone_fill.proofs.Marked.{marked_more, marked_same}
use Rattle.zone_fill.proofs.marks.marked_parts.Goals as goal
use Rattle.zone_fill.proofs.marks.marked_parts.Goals.{then-marks-number+in_ok-push, else-marks-number}

pub loop-number-preserved : goal.loop-number-preserved
loop-number-preserved c =
    let marks = c.args.marks.now in
    let parts = c.args.parts.now in
    let i = c.loop-number.number in
    elim c.if-marks-number.branch [
      | then-marks-number+in_ok-push w ↦
          w.boxes-is ∙ w.in_ok-push.ensures.ok
          ∙ ap (λ boxes. boxes ++ w.index-parts-number.result ∷ []) c.loop-number.invariant
          ∙ sym (marked_more marks parts i c.requires c.loop-number-test.true w.index-parts-number.result w.index-parts-number.is w.if-marks-number.true)
      | else-marks-number w ↦
          w.boxes-is ∙ c.loop-number.invariant
          ∙ sym (marked_same marks parts i c.requires c.loop-number-test.true w.if-marks-number.false)
    ]
