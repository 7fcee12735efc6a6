use Rattle.std.proofs.Common.{refl}
use Rattle.std.proofs.lemmas.Result.{on_ok_weaker}
use Rattle.geo_rect.proofs.Parts.{lies_in_from, lies_in_points}
use Rattle.board_model.specs.Labels.{Admits}
use Rattle.strip_moves.specs.Ways.{IsJumpWithin, IsJumpThrough}
use Rattle.strip_moves.proofs.Boards.{points_on_board}
use Rattle.strip_moves.proofs.Found.{through_of, of_through}
use Rattle.strip_moves.proofs.Gains.{gains_as}
use Rattle.strip_moves.proofs.jumps.push_jumps_through.Goals as goal

pub push_jumps_within-requires-clause-inside : goal.push_jumps_within-requires-clause-inside
push_jumps_within-requires-clause-inside g c =
    let region = g.P.Plane.region c.args.plane.now in
    lies_in_from c.in-Some.part region (λ p h. (lies_in_points c.args.d.from.strip region).0 c.requires.inside p (c.in-Some.ensures.some.first p h))

pub push_jumps_within-requires-clause-area : goal.push_jumps_within-requires-clause-area
push_jumps_within-requires-clause-area g c = points_on_board c.in-Some.part c.args.d.from.strip c.in-Some.ensures.some.first c.requires.open.strip

pub returns-in-Some : goal.returns-in-Some
returns-in-Some g c =
    let d = c.args.d in
    let w = c.args.w in
    let strips = g.P.Plane.strips c.args.plane.now in
    let part = c.in-Some.part in
    let admitted : Admits w.label d.net = c.if-not-admits.ensures.0 refl in
    on_ok_weaker c.push_jumps_within.result
    (gains_as d.origin c.args.moves.now c.push_jumps_within.new.moves (IsJumpWithin strips d part) (IsJumpThrough strips d w)
    (through_of strips d w admitted part c.in-Some.ensures.some) (of_through strips d w admitted part c.in-Some.ensures.some))
    c.push_jumps_within.ensures
