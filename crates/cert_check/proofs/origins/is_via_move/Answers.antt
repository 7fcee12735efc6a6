use Rattle.std.proofs.Common.{subst, sym}
use Rattle.board_parts.specs.declared.parts.ViaKind.{ViaKind}
use Rattle.route_law.specs.Moves.{arrival_of}
use Rattle.strip_moves.specs.Grounds.{ground_of}
use Rattle.strip_moves.specs.Spans.{IsOtherLayer}
use Rattle.cert_check.specs.Fronts.{IsMoved}
use Rattle.cert_check.proofs.Cases.{not_true, not_both}
use Rattle.cert_check.proofs.Meets.{three_third}
use Rattle.cert_check.proofs.Moved.{via_passed, moved_by, by_via, same_common}
use Rattle.strip_moves.proofs.Bounded.{part_bounded, the_ground}
use Rattle.cert_check.proofs.origins.is_via_move.Goals as goal

pub returns-in_default : goal.returns-in_default
returns-in_default g c =
    let ground = ground_of c.args.board.now.parts c.args.planes.now c.args.net in (
      λ t. absurd (not_true t),
      λ m. absurd (c.in_default.ensures.none m.via_strip (via_passed ground c.args.k (arrival_of c.args.from) (arrival_of c.args.to) c.corner.result c.corner.ensures m)),
    )

pub returns-then-not-joins : goal.returns-then-not-joins
returns-then-not-joins g c =
    let P : ViaKind → Type 0 = λ kind. IsOtherLayer kind c.args.from.layer c.args.to.layer in
    let e = sym c.kind-kind.ensures.value in
    (λ t. absurd (not_true t), λ m. absurd (not_both (c.joins.ensures.1 (subst P e (record { from_span = m.from_span; to_span = m.to_span; other = m.other_layer }))) c.if-not-joins.true))

pub returns-in_default-meet_of_three : goal.returns-in_default-meet_of_three
returns-in_default-meet_of_three g c =
    let b = c.args.board.now in
    let ground = ground_of b.parts c.args.planes.now c.args.net in (
      λ t. absurd (not_true t),
      λ m.
          let n = moved_by ground c.args.k (arrival_of c.args.from) (arrival_of c.args.to) c.corner.result c.in-Some.pass
          (the_ground b.parts c.args.planes.now c.args.net b.kept c.requires.planes c.requires.net) c.corner.ensures c.in-Some.ensures.some m in
          absurd (c.in_default-meet_of_three.ensures.none n.common n.is_common),
    )

pub is_moved-requires-clause-door : goal.is_moved-requires-clause-door
is_moved-requires-clause-door g c =
    let own = c.in-Some-meet_of_three in
    part_bounded own.common c.args.to.strip (λ p h. three_third c.args.from.strip c.in-Some.pass c.args.to.strip own.common p own.ensures.some h) c.requires.to.strip

pub returns : goal.returns
returns g c =
    let b = c.args.board.now in
    let ground = ground_of b.parts c.args.planes.now c.args.net in
    let from = arrival_of c.args.from in
    let to = arrival_of c.args.to in
    let own = c.in-Some-meet_of_three in
    let P : ViaKind → Type 0 = λ kind. IsOtherLayer kind c.args.from.layer c.args.to.layer in
    let R : ViaKind → Type 0 = λ kind. IsMoved from own.common kind.charge to in
    let e = c.kind-kind.ensures.value in
    let j = subst P e (c.joins.ensures.0 c.if-not-joins.false) in (
      λ t.
          by_via ground c.args.k from to c.in-Some.pass own.common c.requires.placed c.in-Some.ensures.some.strip j.from_span j.to_span j.other own.ensures.some (subst R e (c.is_moved.ensures.0 t)),
      λ m.
          let n = moved_by ground c.args.k from to c.corner.result c.in-Some.pass
          (the_ground b.parts c.args.planes.now c.args.net b.kept c.requires.planes c.requires.net) c.corner.ensures c.in-Some.ensures.some m in
          c.is_moved.ensures.1 (subst R (sym e) (same_common ground c.args.k from to c.in-Some.pass own.common own.ensures.some n)),
    )
