use Rattle.std.proofs.Common.{◌≡◌, true, false, sym, ◌∙◌, subst, List, ◌+◌, take, arith}
use Rattle.plane_core.specs.declared.strips.Strip.{Strip}
use Rattle.plane_core.specs.Choice.{IsChoice}
use Rattle.plane_core.proofs.Choices.{choice_taken, choice_left}
use Rattle.plane_core.specs.Choice.{Meets}
use Rattle.flat_plane.proofs.StartDraft.{choice_end}
use Rattle.flat_plane.proofs.queries.strips_meeting.Goals as goal
use Rattle.flat_plane.proofs.queries.strips_meeting.Goals.{then-meets+in_ok-push, else-meets}

pub loop-strip-preserved : goal.loop-strip-preserved
loop-strip-preserved c =
    let s : Strip = c.strip-item.result in
    let P : List Strip → Type 0 = λ l. IsChoice (take (c.loop-strip.strip-index + 1) c.args.strips.now) (λ s. Meets s.area c.args.area) l in
    elim c.if-meets.branch [
      | then-meets+in_ok-push w ↦
          subst P (sym (w.found-is ∙ w.in_ok-push.ensures.ok))
          (choice_taken c.args.strips.now c.loop-strip.found (λ s. Meets s.area c.args.area) c.loop-strip.strip-index s c.requires c.loop-strip-test.true c.strip-item.is
          (c.meets.ensures.0 w.if-meets.true) c.loop-strip.invariant)
      | else-meets w ↦
          subst P (sym w.found-is)
          (choice_left c.args.strips.now c.loop-strip.found (λ s. Meets s.area c.args.area) c.loop-strip.strip-index s c.loop-strip-test.true c.strip-item.is
          (λ v. let yes' : c.meets.result ≡ true = c.meets.ensures.1 v in let no' : c.meets.result ≡ false = w.if-meets.false in cc)
          c.loop-strip.invariant)
    ]

pub returns : goal.returns
returns c = choice_end c.args.strips.now c.loop-strip.found (λ s. Meets s.area c.args.area) c.loop-strip.strip-index (omega arith) c.loop-strip.invariant
