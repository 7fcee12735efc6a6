use Rattle.std.proofs.Common.{ℕ, ◌+◌, ◌∷◌, ◌++◌, [], List, sym, ◌∙◌, ap, subst}
use Rattle.std.proofs.lemmas.List.{length_push}
use Rattle.plane_set.specs.Drawings.{drawing_by}
use Rattle.plane_set.specs.Families.{rule_in, class_at}
use Rattle.plane_set.specs.Relabelled.{IsRelabelled, IsRowRelabelled}
use Rattle.plane_set.proofs.Places.{pairs_push, length_both}
use Rattle.plane_set.proofs.rests.rest_in_row.Goals as goal

pub loop-plane-preserved : goal.loop-plane-preserved
loop-plane-preserved g c =
    let draw = drawing_by g.P.Plane.region g.P.Plane.strips in
    let b = c.args.board.now.parts in
    let f = c.args.family in
    let row = c.args.row in
    let gone = c.args.gone.now in
    let shapes = c.args.shapes.now in
    let m = c.loop-plane.invariant in
    let before = c.loop-plane.yielded in
    let done = c.loop-plane.rested.items in
    let old = c.in-Some.plane in
    let new = c.in_ok-rest_in_plane.field-0 in
    record {
      can_next = tt;
      is_finite = tt;
      class = ap (λ (n : ℕ). n + 1) m.class ∙ sym (length_push before old);
      rested = length_both _ _ _ _ _ c.in_ok-push.ensures.items m.rested;
      labels = subst (λ (news : List g.row.P.Denot). IsRowRelabelled draw b f row gone shapes (before ++ old ∷ []) news) (sym c.in_ok-push.ensures.items)
          (pairs_push (λ n x y. IsRelabelled b (rule_in b f row (class_at n)) gone shapes (draw x) (draw y)) before done old new m.rested m.labels
          (subst (λ (n : ℕ). IsRelabelled b (rule_in b f row (class_at n)) gone shapes (draw old) (draw new)) m.class c.in_ok-rest_in_plane.ensures));
    }
