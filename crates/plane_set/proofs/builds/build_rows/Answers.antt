use Rattle.std.proofs.Common.{◌≡◌, ℕ, ◌+◌, List, Vec, Global, length, ◌∙◌, sym, ap, subst}
use Rattle.std.specs.Prelude.{vec_items}
use Rattle.std.proofs.lemmas.List.{length_push}
use Rattle.std.proofs.lemmas.List.Elements.{All-push}
use Rattle.plane_set.specs.Drawings.{drawing_by}
use Rattle.plane_set.specs.Families.{IsRow, AreRows, HaveAllClasses}
use Rattle.plane_set.proofs.Places.{each_push}
use Rattle.plane_set.proofs.builds.build_rows.Goals as goal

pub loop-row-preserved : goal.loop-row-preserved
loop-row-preserved g c =
    let draw = drawing_by g.P.Plane.region g.P.Plane.strips in
    let b = c.args.board.now.parts in
    let f = c.args.family in
    let shapes = c.args.shapes.now in
    let done = c.loop-row.rows.items in
    let new = c.in_ok-build_row.field-0 in
    let Row = Vec g.row.P.Denot Global in
    let At : ℕ → Type 0 = λ n. IsRow draw b f n shapes (vec_items new) in
    let P : List Row → Type 0 = λ rows. AreRows vec_items draw b f shapes rows in
    let Q : List Row → Type 0 = λ rows. HaveAllClasses vec_items b rows in
    record {
      rows = ap length c.in_ok-push.ensures.items ∙ length_push done new ∙ ap (λ (n : ℕ). n + 1) c.loop-row.invariant.rows;
      classes = subst Q (sym c.in_ok-push.ensures.items) (All-push (λ (r : Row). length (vec_items r) ≡ length b.classes) done new c.loop-row.invariant.classes c.in_ok-build_row.ensures.classes);
      shapes = subst P (sym c.in_ok-push.ensures.items)
          (each_push (λ n (r : Row). IsRow draw b f n shapes (vec_items r)) done new c.loop-row.invariant.shapes (subst At (sym c.loop-row.invariant.rows) c.in_ok-build_row.ensures.shapes));
    }
