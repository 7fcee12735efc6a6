use Rattle.std.proofs.Common.{◌≡◌, true, false, sym, ◌∙◌, subst, List, ◌+◌, take}
use Rattle.plane_core.specs.declared.strips.Strip.{Strip}
use Rattle.plane_core.specs.Choice.{IsChoice}
use Rattle.plane_core.proofs.Choices.{choice_taken, choice_left}
use Rattle.flat_plane.specs.Draft.{StaysBefore}
use Rattle.flat_plane.proofs.drafts.before.Goals as goal
use Rattle.flat_plane.proofs.drafts.before.Goals.{then-stays_before+in_ok-push, else-stays_before}

pub loop-strip-preserved : goal.loop-strip-preserved
loop-strip-preserved c =
    let s : Strip = c.strip-item.result in
    let P : List Strip → Type 0 = λ l. IsChoice (take (c.loop-strip.strip-index + 1) c.args.draft.now) (StaysBefore c.args.whole) l in
    elim c.if-stays_before.branch [
      | then-stays_before+in_ok-push w ↦
          subst P (sym (w.found-is ∙ w.in_ok-push.ensures.ok))
          (choice_taken c.args.draft.now c.loop-strip.found (StaysBefore c.args.whole) c.loop-strip.strip-index s c.requires c.loop-strip-test.true c.strip-item.is
          (c.stays_before.ensures.0 w.if-stays_before.true) c.loop-strip.invariant)
      | else-stays_before w ↦
          subst P (sym w.found-is)
          (choice_left c.args.draft.now c.loop-strip.found (StaysBefore c.args.whole) c.loop-strip.strip-index s c.loop-strip-test.true c.strip-item.is
          (λ v. let yes' : c.stays_before.result ≡ true = c.stays_before.ensures.1 v in let no' : c.stays_before.result ≡ false = w.if-stays_before.false in cc)
          c.loop-strip.invariant)
    ]
