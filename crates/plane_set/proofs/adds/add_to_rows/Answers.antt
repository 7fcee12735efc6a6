use Rattle.std.proofs.Common.{◌≡◌, ℕ, ◌+◌, ◌∷◌, ◌++◌, [], List, Vec, Global, length, sym, ◌∙◌, ap, subst}
use Rattle.std.specs.Prelude.{vec_items}
use Rattle.std.proofs.lemmas.List.{length_push, map-id}
use Rattle.std.proofs.lemmas.List.Elements.{All-push}
use Rattle.std.proofs.lemmas.Iterator.Consumers.{YieldsList-turn, YieldsList-end}
use Rattle.std.proofs.lemmas.Iterator.Adapters.{YieldsList-from_vec}
use Rattle.plane_set.specs.Drawings.{drawing_by}
use Rattle.plane_set.specs.Families.{IsRow, AreRows, AreBoardPlanes, AreBoardRows, HaveAllClasses}
use Rattle.plane_set.proofs.Places.{each_more, length_both}
use Rattle.plane_set.proofs.adds.add_to_rows.Goals as goal

pub loop-planes-preserved : goal.loop-planes-preserved
loop-planes-preserved g c =
    let draw = drawing_by g.P.Plane.region g.P.Plane.strips in
    let b = c.args.board.now.parts in
    let f = c.args.family in
    let s = c.args.s.now in
    let m = c.loop-planes.invariant in
    let gives = c.into_iter-planes-iterator.ensures.into_iter_gives in
    let all = c.args.rows.items in
    let old = c.in-Some.planes in
    let new = c.in_ok-add_to_row.field-0 in
    let done = c.loop-planes.added.items in
    let Row = Vec g.row.P.Denot Global in
    let turn = YieldsList-turn (YieldsList-from_vec {s = c.into_iter-planes-iterator.result} all gives.0 (gives.1 ∙ c.args.rows.ok.0)) c.loop-planes.yielded c.loop-planes.planes-iterator c.loop-planes.yielded_by c.next.result c.next.new.self old c.in-Some.is c.next.ensures.steps in
    let size : length old.items ≡ length b.classes = ap (λ (r : Row). length (vec_items r)) turn.1 ∙ c.requires.classes (length c.loop-planes.yielded) old turn.0 in
    let Q : List Row → Type 0 = λ rows. HaveAllClasses vec_items b rows in
    record {
      can_next = tt;
      is_finite = tt;
      row = ap (λ (n : ℕ). n + 1) m.row ∙ sym (length_push c.loop-planes.yielded old);
      added = length_both _ _ _ _ _ c.in_ok-push.ensures.items m.added;
      classes = subst Q (sym c.in_ok-push.ensures.items) (All-push (λ (r : Row). length (vec_items r) ≡ length b.classes) done new m.classes (c.in_ok-add_to_row.ensures.classes ∙ size));
      planes = λ h.
          let P : List Row → Type 0 = λ rows. AreBoardRows vec_items draw b rows in
          subst P (sym c.in_ok-push.ensures.items) (each_more (λ n (r : Row). AreBoardPlanes draw b (vec_items r)) (λ n (r : Row). AreBoardPlanes draw b (vec_items r)) c.loop-planes.yielded done old new c.loop-planes.row m.row m.added m.planes c.in_ok-add_to_row.ensures.planes h);
      shapes = λ shapes h.
          let P : List Row → Type 0 = λ rows. AreRows vec_items draw b f (shapes ++ s ∷ []) rows in
          subst P (sym c.in_ok-push.ensures.items) (each_more (λ n (r : Row). IsRow draw b f n shapes (vec_items r)) (λ n (r : Row). IsRow draw b f n (shapes ++ s ∷ []) (vec_items r)) c.loop-planes.yielded done old new c.loop-planes.row m.row m.added (m.shapes shapes) (c.in_ok-add_to_row.ensures.shapes shapes) h);
    }

pub returns-clause-planes : goal.returns-clause-planes
returns-clause-planes g c =
    let draw = drawing_by g.P.Plane.region g.P.Plane.strips in
    let gives = c.into_iter-planes-iterator.ensures.into_iter_gives in
    let all = c.args.rows.items in
    let end = YieldsList-end (YieldsList-from_vec {s = c.into_iter-planes-iterator.result} all gives.0 (gives.1 ∙ c.args.rows.ok.0)) c.loop-planes.yielded c.loop-planes.planes-iterator c.loop-planes.yielded_by c.next.result c.next.new.self c.in-None.is c.next.ensures.steps in
    let whole : c.loop-planes.yielded ≡ all = sym (map-id c.loop-planes.yielded) ∙ end.0 in
    λ h. let P : List (Vec g.row.P.Denot Global) → Type 0 = λ rows. AreBoardRows vec_items draw c.args.board.now.parts rows in
    c.loop-planes.invariant.planes (subst P (sym whole) h)

pub returns-clause-shapes : goal.returns-clause-shapes
returns-clause-shapes g c =
    let draw = drawing_by g.P.Plane.region g.P.Plane.strips in
    let gives = c.into_iter-planes-iterator.ensures.into_iter_gives in
    let all = c.args.rows.items in
    let end = YieldsList-end (YieldsList-from_vec {s = c.into_iter-planes-iterator.result} all gives.0 (gives.1 ∙ c.args.rows.ok.0)) c.loop-planes.yielded c.loop-planes.planes-iterator c.loop-planes.yielded_by c.next.result c.next.new.self c.in-None.is c.next.ensures.steps in
    let whole : c.loop-planes.yielded ≡ all = sym (map-id c.loop-planes.yielded) ∙ end.0 in
    λ shapes h. let P : List (Vec g.row.P.Denot Global) → Type 0 = λ rows. AreRows vec_items draw c.args.board.now.parts c.args.family shapes rows in
    c.loop-planes.invariant.shapes shapes (subst P (sym whole) h)
