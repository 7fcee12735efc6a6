use Rattle.std.proofs.Common.{ℕ, ◌+◌, List, length, ◌∙◌, sym, ap, subst}
use Rattle.std.proofs.lemmas.List.{length_push}
use Rattle.plane_set.specs.Drawings.{drawing_by, Shows}
use Rattle.plane_set.specs.Families.{rule_in, class_at, IsRow}
use Rattle.plane_set.proofs.Places.{each_push}
use Rattle.plane_set.proofs.builds.build_row.Goals as goal

pub loop-class-preserved : goal.loop-class-preserved
loop-class-preserved g c =
    let draw = drawing_by g.P.Plane.region g.P.Plane.strips in
    let b = c.args.board.now.parts in
    let f = c.args.family in
    let row = c.args.row in
    let shapes = c.args.shapes.now in
    let done = c.loop-class.planes.items in
    let new = c.in_ok-build_plane.field-0 in
    let At : ℕ → Type 0 = λ n. Shows b (rule_in b f row (class_at n)) shapes (draw new) in
    let P : List g.row.P.Denot → Type 0 = IsRow draw b f row shapes in
    record {
      classes = ap length c.in_ok-push.ensures.items ∙ length_push done new ∙ ap (λ (n : ℕ). n + 1) c.loop-class.invariant.classes;
      shapes = subst P (sym c.in_ok-push.ensures.items)
          (each_push (λ n x. Shows b (rule_in b f row (class_at n)) shapes (draw x)) done new c.loop-class.invariant.shapes (subst At (sym c.loop-class.invariant.classes) c.in_ok-build_plane.ensures));
    }
