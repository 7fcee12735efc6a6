use Rattle.std.proofs.Common.{◌≡◌, ℕ, ◌+◌, ◌∷◌, ◌++◌, [], List, Vec, Global, length, sym, ◌∙◌, ap, subst}
use Rattle.std.specs.Prelude.{vec_items}
use Rattle.std.proofs.lemmas.List.{length_push}
use Rattle.std.proofs.lemmas.List.Elements.{All-push}
use Rattle.std.proofs.lemmas.Iterator.Consumers.{YieldsList-turn}
use Rattle.std.proofs.lemmas.Iterator.Adapters.{YieldsList-from_vec}
use Rattle.plane_set.specs.Drawings.{drawing_by}
use Rattle.plane_set.specs.Families.{HaveAllClasses}
use Rattle.plane_set.specs.Relabelled.{IsRowRelabelled, AreRowsRelabelled}
use Rattle.plane_set.proofs.Places.{pairs_push, length_both}
use Rattle.plane_set.proofs.rests.rest_in_rows.Goals as goal

pub loop-planes-preserved : goal.loop-planes-preserved
loop-planes-preserved g c =
    let draw = drawing_by g.P.Plane.region g.P.Plane.strips in
    let b = c.args.board.now.parts in
    let f = c.args.family in
    let gone = c.args.gone.now in
    let shapes = c.args.shapes.now in
    let m = c.loop-planes.invariant in
    let gives = c.into_iter-planes-iterator.ensures.into_iter_gives in
    let all = c.args.rows.items in
    let before = c.loop-planes.yielded in
    let done = c.loop-planes.rested.items in
    let old = c.in-Some.planes in
    let new = c.in_ok-rest_in_row.field-0 in
    let Row = Vec g.row.P.Denot Global in
    let turn = YieldsList-turn (YieldsList-from_vec {s = c.into_iter-planes-iterator.result} all gives.0 (gives.1 ∙ c.args.rows.ok.0)) before c.loop-planes.planes-iterator c.loop-planes.yielded_by c.next.result c.next.new.self old c.in-Some.is c.next.ensures.steps in
    let size : length old.items ≡ length b.classes = ap (λ (r : Row). length (vec_items r)) turn.1 ∙ c.requires.classes (length before) old turn.0 in
    record {
      can_next = tt;
      is_finite = tt;
      row = ap (λ (n : ℕ). n + 1) m.row ∙ sym (length_push before old);
      rested = length_both _ _ _ _ _ c.in_ok-push.ensures.items m.rested;
      classes = subst (λ (rows : List Row). HaveAllClasses vec_items b rows) (sym c.in_ok-push.ensures.items)
          (All-push (λ (r : Row). length (vec_items r) ≡ length b.classes) done new m.classes (c.in_ok-rest_in_row.ensures.classes ∙ size));
      labels = subst (λ (news : List Row). AreRowsRelabelled vec_items draw b f gone shapes (before ++ old ∷ []) news) (sym c.in_ok-push.ensures.items)
          (pairs_push (λ n (x y : Row). IsRowRelabelled draw b f n gone shapes (vec_items x) (vec_items y)) before done old new m.rested m.labels
          (subst (λ (n : ℕ). IsRowRelabelled draw b f n gone shapes (vec_items old) (vec_items new)) m.row c.in_ok-rest_in_row.ensures.labels));
    }
