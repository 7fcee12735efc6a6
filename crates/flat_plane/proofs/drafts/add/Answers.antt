use Rattle.std.proofs.Common.{◌≡◌, sym, subst, List}
use Rattle.plane_core.specs.declared.strips.Strip.{Strip}
use Rattle.plane_core.specs.Strips.{IsHeld}
use Rattle.flat_plane.specs.Draft.{IsDraft}
use Rattle.flat_plane.proofs.Adding.{IsAdded, added, added_draft, added_holds, added_keeps, added_parts}
use Rattle.flat_plane.proofs.drafts.add.Goals as goal

pub returns-clause-draft : goal.returns-clause-draft
returns-clause-draft c domain f d r =
    let is : IsAdded c.args.draft.now c.args.piece c.joined_with-whole.result c.in_ok-new.new c.in_ok-rest.rest =
    record { lower = c.in_ok-new.ensures; upper = c.in_ok-rest.ensures; joined = c.joined_with-whole.ensures } in
    let e : c.append.new.list ≡ added c.in_ok-new.new c.joined_with-whole.result c.in_ok-rest.rest =
    added_parts c.append.new.list c.push.new.self c.as_slice.result.now c.in_ok-new.new c.in_ok-rest.rest c.joined_with-whole.result
    c.in_ok-append.ensures c.in_ok-push.ensures.ok c.as_slice.ensures in
    let P : List Strip → Type 0 = λ l. IsDraft domain f l in
    subst P (sym e) (added_draft domain f c.args.draft.now c.args.piece c.joined_with-whole.result c.in_ok-new.new c.in_ok-rest.rest is d r)

pub returns-clause-keeps : goal.returns-clause-keeps
returns-clause-keeps c p h =
    let is : IsAdded c.args.draft.now c.args.piece c.joined_with-whole.result c.in_ok-new.new c.in_ok-rest.rest =
    record { lower = c.in_ok-new.ensures; upper = c.in_ok-rest.ensures; joined = c.joined_with-whole.ensures } in
    let e : c.append.new.list ≡ added c.in_ok-new.new c.joined_with-whole.result c.in_ok-rest.rest =
    added_parts c.append.new.list c.push.new.self c.as_slice.result.now c.in_ok-new.new c.in_ok-rest.rest c.joined_with-whole.result
    c.in_ok-append.ensures c.in_ok-push.ensures.ok c.as_slice.ensures in
    let P : List Strip → Type 0 = λ l. IsHeld l p in
    subst P (sym e) (added_keeps c.args.draft.now c.args.piece c.joined_with-whole.result c.in_ok-new.new c.in_ok-rest.rest is p h)

pub returns-clause-adds : goal.returns-clause-adds
returns-clause-adds c p h =
    let is : IsAdded c.args.draft.now c.args.piece c.joined_with-whole.result c.in_ok-new.new c.in_ok-rest.rest =
    record { lower = c.in_ok-new.ensures; upper = c.in_ok-rest.ensures; joined = c.joined_with-whole.ensures } in
    let e : c.append.new.list ≡ added c.in_ok-new.new c.joined_with-whole.result c.in_ok-rest.rest =
    added_parts c.append.new.list c.push.new.self c.as_slice.result.now c.in_ok-new.new c.in_ok-rest.rest c.joined_with-whole.result
    c.in_ok-append.ensures c.in_ok-push.ensures.ok c.as_slice.ensures in
    let P : List Strip → Type 0 = λ l. IsHeld l p in
    subst P (sym e) (added_holds c.args.draft.now c.args.piece c.joined_with-whole.result c.in_ok-new.new c.in_ok-rest.rest is p h)
