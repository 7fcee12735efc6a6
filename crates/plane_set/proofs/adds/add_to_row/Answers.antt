use Rattle.std.proofs.Common.{◌≡◌, ℕ, ◌+◌, ◌∷◌, ◌++◌, [], List, sym, ◌∙◌, ap, subst}
use Rattle.std.proofs.lemmas.List.{length_push, map-id}
use Rattle.std.proofs.lemmas.Iterator.Consumers.{YieldsList-end}
use Rattle.std.proofs.lemmas.Iterator.Adapters.{YieldsList-from_vec}
use Rattle.plane_set.specs.Drawings.{drawing_by, IsBoardPlane, Shows}
use Rattle.plane_set.specs.Families.{rule_in, class_at, IsRow, AreBoardPlanes}
use Rattle.plane_set.proofs.Adding.{shows_more, board_plane_more}
use Rattle.plane_set.proofs.Places.{each_more, length_both}
use Rattle.plane_set.proofs.adds.add_to_row.Goals as goal

pub loop-plane-preserved : goal.loop-plane-preserved
loop-plane-preserved g c =
    let draw = drawing_by g.P.Plane.region g.P.Plane.strips in
    let b = c.args.board.now.parts in
    let f = c.args.family in
    let row = c.args.row in
    let s = c.args.s.now in
    let m = c.loop-plane.invariant in
    let done = c.loop-plane.added.items in
    record {
      can_next = tt;
      is_finite = tt;
      class = ap (λ (n : ℕ). n + 1) m.class ∙ sym (length_push c.loop-plane.yielded c.in-Some.plane);
      added = length_both _ _ _ _ _ c.in_ok-push.ensures.items m.added;
      planes = λ h. let P : List g.row.P.Denot → Type 0 = AreBoardPlanes draw b in
          subst P (sym c.in_ok-push.ensures.items) (each_more (λ n x. IsBoardPlane b (draw x)) (λ n x. IsBoardPlane b (draw x)) c.loop-plane.yielded done c.in-Some.plane c.in_ok-add_to_plane.field-0 c.loop-plane.class m.class m.added m.planes
          (board_plane_more b (rule_in b f row (class_at c.loop-plane.class)) s (draw c.in-Some.plane) (draw c.in_ok-add_to_plane.field-0) c.in_ok-add_to_plane.ensures) h);
      shapes = λ shapes h. let P : List g.row.P.Denot → Type 0 = IsRow draw b f row (shapes ++ s ∷ []) in
          subst P (sym c.in_ok-push.ensures.items) (each_more (λ n x. Shows b (rule_in b f row (class_at n)) shapes (draw x)) (λ n x. Shows b (rule_in b f row (class_at n)) (shapes ++ s ∷ []) (draw x)) c.loop-plane.yielded done c.in-Some.plane c.in_ok-add_to_plane.field-0 c.loop-plane.class m.class m.added (m.shapes shapes)
          (shows_more b (rule_in b f row (class_at c.loop-plane.class)) shapes s (draw c.in-Some.plane) (draw c.in_ok-add_to_plane.field-0) c.in_ok-add_to_plane.ensures) h);
    }

pub returns-clause-planes : goal.returns-clause-planes
returns-clause-planes g c =
    let draw = drawing_by g.P.Plane.region g.P.Plane.strips in
    let gives = c.into_iter-plane-iterator.ensures.into_iter_gives in
    let all = c.args.planes.items in
    let end = YieldsList-end (YieldsList-from_vec {s = c.into_iter-plane-iterator.result} all gives.0 (gives.1 ∙ c.args.planes.ok.0)) c.loop-plane.yielded c.loop-plane.plane-iterator c.loop-plane.yielded_by c.next.result c.next.new.self c.in-None.is c.next.ensures.steps in
    let whole : c.loop-plane.yielded ≡ all = sym (map-id c.loop-plane.yielded) ∙ end.0 in
    λ h. let P : List g.row.P.Denot → Type 0 = AreBoardPlanes draw c.args.board.now.parts in
    c.loop-plane.invariant.planes (subst P (sym whole) h)

pub returns-clause-shapes : goal.returns-clause-shapes
returns-clause-shapes g c =
    let draw = drawing_by g.P.Plane.region g.P.Plane.strips in
    let gives = c.into_iter-plane-iterator.ensures.into_iter_gives in
    let all = c.args.planes.items in
    let end = YieldsList-end (YieldsList-from_vec {s = c.into_iter-plane-iterator.result} all gives.0 (gives.1 ∙ c.args.planes.ok.0)) c.loop-plane.yielded c.loop-plane.plane-iterator c.loop-plane.yielded_by c.next.result c.next.new.self c.in-None.is c.next.ensures.steps in
    let whole : c.loop-plane.yielded ≡ all = sym (map-id c.loop-plane.yielded) ∙ end.0 in
    λ shapes h. let P : List g.row.P.Denot → Type 0 = IsRow draw c.args.board.now.parts c.args.family c.args.row shapes in
    c.loop-plane.invariant.shapes shapes (subst P (sym whole) h)
