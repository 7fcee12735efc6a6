use Rattle.std.proofs.Common.{sym, subst, List, take, Contains}
use Rattle.plane_core.specs.declared.strips.Strip.{Strip}
use Rattle.plane_core.proofs.Choices.{taken_listed, taken_more}
use Rattle.flat_plane.specs.Draft.{IsJoinOf}
use Rattle.flat_plane.proofs.Joining.{join_more}
use Rattle.flat_plane.proofs.drafts.joined_with.Goals as goal

pub loop-strip-preserved : goal.loop-strip-preserved
loop-strip-preserved c =
    let s : Strip = c.strip-item.result in
    let here : Contains c.args.draft.now s = (c.loop-strip.strip-index, c.loop-strip-test.true, sym c.strip-item.is) in
    let P : List Strip → Type 0 = λ l. IsJoinOf l c.args.piece c.absorb-whole.result in
    subst P (sym (taken_more c.args.draft.now c.loop-strip.strip-index s c.loop-strip-test.true c.strip-item.is))
    (join_more (take c.loop-strip.strip-index c.args.draft.now) c.args.piece c.loop-strip.whole s c.absorb-whole.result
    (λ r h j. c.requires r s (taken_listed c.args.draft.now c.loop-strip.strip-index r h) here j)
    c.loop-strip.invariant c.absorb-whole.ensures)
