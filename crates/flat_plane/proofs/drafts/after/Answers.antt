use Rattle.std.proofs.Common.{◌≡◌, true, false, sym, ◌∙◌, subst, List, ◌+◌, take}
use Rattle.plane_core.specs.declared.strips.Strip.{Strip}
use Rattle.plane_core.specs.Choice.{IsChoice}
use Rattle.plane_core.proofs.Choices.{choice_taken, choice_left}
use Rattle.flat_plane.specs.Draft.{StaysAfter}
use Rattle.flat_plane.proofs.drafts.after.Goals as goal
use Rattle.flat_plane.proofs.drafts.after.Goals.{then-stays_after+in_ok-push, else-stays_after}

pub loop-strip-preserved : goal.loop-strip-preserved
loop-strip-preserved c =
    let s : Strip = c.strip-item.result in
    let P : List Strip → Type 0 = λ l. IsChoice (take (c.loop-strip.strip-index + 1) c.args.draft.now) (StaysAfter c.args.whole) l in
    elim c.if-stays_after.branch [
      | then-stays_after+in_ok-push w ↦
          subst P (sym (w.found-is ∙ w.in_ok-push.ensures.ok))
          (choice_taken c.args.draft.now c.loop-strip.found (StaysAfter c.args.whole) c.loop-strip.strip-index s c.requires c.loop-strip-test.true c.strip-item.is
          (c.stays_after.ensures.0 w.if-stays_after.true) c.loop-strip.invariant)
      | else-stays_after w ↦
          subst P (sym w.found-is)
          (choice_left c.args.draft.now c.loop-strip.found (StaysAfter c.args.whole) c.loop-strip.strip-index s c.loop-strip-test.true c.strip-item.is
          (λ v. let yes' : c.stays_after.result ≡ true = c.stays_after.ensures.1 v in let no' : c.stays_after.result ≡ false = w.if-stays_after.false in cc)
          c.loop-strip.invariant)
    ]
