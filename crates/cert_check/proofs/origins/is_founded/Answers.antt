use Rattle.std.proofs.Common.{subst, sym}
use Rattle.route_law.specs.declared.certs.Origin.{Origin}
use Rattle.route_law.specs.Moves.{arrival_of}
use Rattle.route_law.specs.Right.{IsFrom}
use Rattle.strip_moves.specs.Grounds.{ground_of}
use Rattle.cert_check.proofs.OnBoard.{placed_bounded, all_placed_bounded, all_apart}
use Rattle.cert_check.proofs.origins.is_founded.Goals as goal

pub is_from_step-requires-clause-bounded : goal.is_from_step-requires-clause-bounded
is_from_step-requires-clause-bounded g c =
    let b = c.args.board.now in
    all_placed_bounded b.parts c.args.planes.now c.args.net b.kept c.requires.planes c.requires.net c.args.entries.now c.requires.placed

pub is_from_step-requires-clause-here : goal.is_from_step-requires-clause-here
is_from_step-requires-clause-here g c =
    let b = c.args.board.now in
    placed_bounded b.parts c.args.planes.now c.args.net b.kept c.requires.planes c.requires.net c.args.e c.requires.here

pub is_from_step-requires-clause-apart : goal.is_from_step-requires-clause-apart
is_from_step-requires-clause-apart g c =
    let b = c.args.board.now in
    all_apart b.parts c.args.planes.now c.args.net b.kept c.requires.planes c.requires.net c.args.entries.now c.args.e c.requires.placed c.requires.here

pub is_from_via-requires-clause-bounded : goal.is_from_via-requires-clause-bounded
is_from_via-requires-clause-bounded g c =
    let b = c.args.board.now in
    all_placed_bounded b.parts c.args.planes.now c.args.net b.kept c.requires.planes c.requires.net c.args.entries.now c.requires.placed

pub is_from_via-requires-clause-here : goal.is_from_via-requires-clause-here
is_from_via-requires-clause-here g c =
    let b = c.args.board.now in
    placed_bounded b.parts c.args.planes.now c.args.net b.kept c.requires.planes c.requires.net c.args.e c.requires.here

pub returns-in-Source : goal.returns-in-Source
returns-in-Source g c =
    let ground = ground_of c.args.board.now.parts c.args.planes.now c.args.net in
    let P : Origin → Type 0 = λ o. IsFrom ground c.args.sources.now c.args.entries.now c.args.n (arrival_of c.args.e) o in
    let h = c.is_from_source.ensures ground c.requires.here.passable in
    (λ t. subst P (sym c.in-Source.is) (h.0 t), λ f. h.1 (subst P c.in-Source.is f))

pub returns-in-Step : goal.returns-in-Step
returns-in-Step g c =
    let ground = ground_of c.args.board.now.parts c.args.planes.now c.args.net in
    let P : Origin → Type 0 = λ o. IsFrom ground c.args.sources.now c.args.entries.now c.args.n (arrival_of c.args.e) o in
    let h = c.is_from_step.ensures ground c.requires.here.passable in
    (λ t. subst P (sym c.in-Step.is) (h.0 t), λ f. h.1 (subst P c.in-Step.is f))

pub returns-in-Via : goal.returns-in-Via
returns-in-Via g c =
    let ground = ground_of c.args.board.now.parts c.args.planes.now c.args.net in
    let P : Origin → Type 0 = λ o. IsFrom ground c.args.sources.now c.args.entries.now c.args.n (arrival_of c.args.e) o in
    let h = c.is_from_via.ensures in
    (λ t. subst P (sym c.in-Via.is) (h.0 t), λ f. h.1 (subst P c.in-Via.is f))
