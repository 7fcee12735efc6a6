use Rattle.std.proofs.Common.{◌+◌, ◌∙◌, sym, subst, take, arith}
use Rattle.zone_fill.specs.Cuts.{AreOpenParts}
use Rattle.zone_fill.proofs.Cutting.{cut_more, cut_same}
use Rattle.zone_fill.proofs.cuts.open_parts.Goals as goal
use Rattle.zone_fill.proofs.cuts.open_parts.Goals.{in-Some+in_ok-push, in_default}

pub loop-strip-preserved : goal.loop-strip-preserved
loop-strip-preserved c =
    let strips = c.args.strips.now in
    let i = c.loop-strip.strip-index in
    let Cut = AreOpenParts c.args.net c.args.zone (take (i + 1) strips) in
    let s = c.strip-item.result in
    let parts = c.loop-strip.parts in
    elim c.match-open_part.branch [
      | in-Some+in_ok-push w ↦
          subst Cut (sym (w.parts-is ∙ w.in_ok-push.ensures.ok))
          (cut_more c.args.net c.args.zone strips i s parts (omega arith) c.strip-item.is c.loop-strip.invariant w.in-Some.part c.requires w.in-Some.ensures.some)
      | in_default w ↦
          subst Cut (sym w.parts-is)
          (cut_same c.args.net c.args.zone strips i s parts (omega arith) c.strip-item.is c.loop-strip.invariant w.in_default.ensures.none)
    ]
