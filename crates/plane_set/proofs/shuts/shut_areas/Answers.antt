use Rattle.std.proofs.Common.{◌≡◌, ◌∙◌, List, [], take, sym, subst, arith, to_z, of_z, w32}
use Rattle.std.proofs.lemmas.Int.{ints}
use Rattle.std.proofs.lemmas.List.{take_all}
use Rattle.geo_rect.specs.declared.shapes.Rect.{Rect}
use Rattle.board_parts.specs.declared.parts.Keepout.{Keepout}
use Rattle.plane_set.specs.Families.{rule_in}
use Rattle.plane_set.proofs.Shutting.{AreShutSoFar, shut_edges, shut_here, all_shut}
use Rattle.plane_set.proofs.shuts.shut_areas.Goals as goal

pub loop-keepout-init : goal.loop-keepout-init
loop-keepout-init c =
    let b = c.args.board.now.parts in
    let rule = rule_in b c.args.family c.args.row c.args.c in
    subst (λ (rs : List Rect). AreShutSoFar b rule [] rs) (sym c.in_ok-areas.ensures)
    (shut_edges b rule (to_z w32 (of_z w32 c.widest.result)) c.frame-edges.result (omega (arith, ints, c.widest.ensures.widest)) c.frame-edges.ensures.leaves c.frame-edges.ensures.others)

pub loop-keepout-preserved : goal.loop-keepout-preserved
loop-keepout-preserved c =
    let b = c.args.board.now.parts in
    shut_here b (rule_in b c.args.family c.args.row c.args.c) c.keepouts-keepout-items.result.now c.loop-keepout.keepout-index c.keepout-item.result c.keepout-item.is (omega arith)
    c.loop-keepout.areas c.push_shut.new.areas c.loop-keepout.invariant c.in_ok-push_shut.ensures

pub returns : goal.returns
returns c =
    let b = c.args.board.now.parts in
    let rule = rule_in b c.args.family c.args.row c.args.c in
    let all : take c.loop-keepout.keepout-index c.keepouts-keepout-items.result.now ≡ b.keepouts = take_all c.loop-keepout.keepout-index c.keepouts-keepout-items.result.now (omega arith) ∙ c.keepouts-keepout-items.ensures in
    all_shut b rule c.loop-keepout.areas (subst (λ (ks : List Keepout). AreShutSoFar b rule ks c.loop-keepout.areas) all c.loop-keepout.invariant)
