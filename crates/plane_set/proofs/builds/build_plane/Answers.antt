use Rattle.std.proofs.Common.{◌≡◌, ◌+◌, ◌∷◌, ◌++◌, [], List, take, ◌∙◌, sym, ap, subst, arith}
use Rattle.std.proofs.lemmas.List.{take_more}
use Rattle.board_model.specs.declared.shapes.Shape.{Shape}
use Rattle.plane_set.specs.Drawings.{drawing_by, Shows}
use Rattle.plane_set.specs.Families.{rule_in}
use Rattle.plane_set.proofs.Adding.{shows_more}
use Rattle.plane_set.proofs.builds.build_plane.Goals as goal

pub loop-shape-preserved : goal.loop-shape-preserved
loop-shape-preserved g c =
    let draw = drawing_by g.P.Plane.region g.P.Plane.strips in
    let b = c.args.board.now.parts in
    let rule = rule_in b c.args.family c.args.row c.args.c in
    let all = c.args.shapes.now in
    let i = c.loop-shape.shape-index in
    let s = c.shape-item.result in
    let new = draw c.in_ok-plane-2.plane in
    let more : take (i + 1) all ≡ take i all ++ s ∷ [] = take_more all i s (omega arith) ∙ ap (λ (t : Shape). take i all ++ t ∷ []) (sym c.shape-item.is) in
    subst (λ (ss : List Shape). Shows b rule ss new) (sym more) (shows_more b rule (take i all) s (draw c.loop-shape.plane) new c.in_ok-plane-2.ensures c.loop-shape.invariant)
