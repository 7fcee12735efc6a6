use Rattle.std.proofs.Common.{◌≡◌, ◌+◌, ◌∷◌, ◌++◌, [], List, take, sym, ◌∙◌, ap, subst, append_assoc, arith}
use Rattle.std.proofs.lemmas.List.{take_more, take_all}
use Rattle.board_model.specs.declared.shapes.Shape.{Shape}
use Rattle.plane_set.specs.Standing.{StandsFor}
use Rattle.wire_merge.proofs.merges.merge.Goals as goal

pub loop-shape-preserved : goal.loop-shape-preserved
loop-shape-preserved g c =
    let b = c.args.board.now.parts in
    let all = c.args.shapes.now in
    let i = c.loop-shape.shape-index in
    let s = c.shape-item.result in
    let more : take (i + 1) all ≡ take i all ++ s ∷ [] = take_more all i s (omega arith) ∙ ap (λ (t : Shape). take i all ++ t ∷ []) (sym c.shape-item.is) in
    record {
      planes = c.in_ok-merged.ensures.planes;
      shapes = λ old h.
          let same : (old ++ take i all) ++ s ∷ [] ≡ old ++ take (i + 1) all = append_assoc old (take i all) (s ∷ []) ∙ ap (λ (ss : List Shape). old ++ ss) (sym more) in
          subst (λ (ss : List Shape). StandsFor b ss c.in_ok-merged.merged) same
          (c.in_ok-merged.ensures.shapes (old ++ take i all) (c.loop-shape.invariant.shapes old h));
    }

pub returns-clause-shapes : goal.returns-clause-shapes
returns-clause-shapes g c =
    λ old h. subst (λ (ss : List Shape). StandsFor c.args.board.now.parts (old ++ ss) c.loop-shape.merged)
    (take_all c.loop-shape.shape-index c.args.shapes.now (omega arith)) (c.loop-shape.invariant.shapes old h)
