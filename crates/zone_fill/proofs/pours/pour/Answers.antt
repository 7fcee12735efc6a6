use Rattle.std.proofs.Common.{All, ◌↔◌, sym, subst}
use Rattle.std.proofs.lemmas.Result.{IfOk-weaker}
use Rattle.geo_rect.specs.declared.shapes.Point.{Point}
use Rattle.geo_rect.specs.Plane.{IsBounded}
use Rattle.plane_set.specs.Joins.{IsInOneOf}
use Rattle.zone_fill.specs.Pour.{IsReached, IsPour}
use Rattle.zone_fill.specs.Poured.{AreFloodedParts}
use Rattle.zone_fill.specs.Rules.{KeepsRules}
use Rattle.zone_fill.proofs.Parts.{parts_bounded}
use Rattle.zone_fill.proofs.Pouring.{found_is_pour}
use Rattle.zone_fill.proofs.Reached.{pour_points, pour_keeps}
use Rattle.zone_fill.proofs.Sites.{zone_bounded}
use Rattle.zone_fill.proofs.pours.pour.Goals as goal

pub flooded_parts-requires : goal.flooded_parts-requires
flooded_parts-requires g c =
    let cut = c.in_ok-parts.ensures in
    subst (All IsBounded) (sym c.as_slice-2.ensures)
    (parts_bounded c.args.zone cut.chosen c.in_ok-parts.parts (zone_bounded c.args.board.now.parts c.args.zone c.args.board.now.kept c.requires.zone) cut.each)

pub returns-clause-pour : goal.returns-clause-pour
returns-clause-pour g c =
    let b = c.args.board.now.parts in
    let shapes = c.args.shapes.now in
    let net = c.args.net in
    let layer = c.args.layer in
    let zone = c.args.zone in
    let parts = c.as_slice-2.result.now in
    let is = found_is_pour b shapes net layer zone c.args.planes.now c.args.board.now.kept c.requires.net c.requires.layer c.requires.planes (g.P.Plane.strips c.wires_of-plane.result.now)
    c.in_ok-strips.strips c.as_slice.result.now c.in_ok-parts.parts parts c.wires_of-plane.ensures.strips c.in_ok-strips.ensures.found c.as_slice.ensures c.in_ok-parts.ensures c.as_slice-2.ensures in
    IfOk-weaker c.flooded_parts.result (AreFloodedParts shapes net layer parts) (IsPour b shapes net layer zone)
    (λ boxes flooded. is boxes flooded) c.flooded_parts.ensures

pub returns-clause-points : goal.returns-clause-points
returns-clause-points g c =
    let b = c.args.board.now.parts in
    let shapes = c.args.shapes.now in
    let net = c.args.net in
    let layer = c.args.layer in
    let zone = c.args.zone in
    let parts = c.as_slice-2.result.now in
    let is = found_is_pour b shapes net layer zone c.args.planes.now c.args.board.now.kept c.requires.net c.requires.layer c.requires.planes (g.P.Plane.strips c.wires_of-plane.result.now)
    c.in_ok-strips.strips c.as_slice.result.now c.in_ok-parts.parts parts c.wires_of-plane.ensures.strips c.in_ok-strips.ensures.found c.as_slice.ensures c.in_ok-parts.ensures c.as_slice-2.ensures in
    IfOk-weaker c.flooded_parts.result (AreFloodedParts shapes net layer parts) (λ boxes. (p : Point) → IsReached b shapes net layer zone p ↔ IsInOneOf boxes p)
    (λ boxes flooded. pour_points b shapes net layer zone boxes (is boxes flooded)) c.flooded_parts.ensures

pub returns-clause-rules : goal.returns-clause-rules
returns-clause-rules g c =
    let b = c.args.board.now.parts in
    let shapes = c.args.shapes.now in
    let net = c.args.net in
    let layer = c.args.layer in
    let zone = c.args.zone in
    let parts = c.as_slice-2.result.now in
    let is = found_is_pour b shapes net layer zone c.args.planes.now c.args.board.now.kept c.requires.net c.requires.layer c.requires.planes (g.P.Plane.strips c.wires_of-plane.result.now)
    c.in_ok-strips.strips c.as_slice.result.now c.in_ok-parts.parts parts c.wires_of-plane.ensures.strips c.in_ok-strips.ensures.found c.as_slice.ensures c.in_ok-parts.ensures c.as_slice-2.ensures in
    IfOk-weaker c.flooded_parts.result (AreFloodedParts shapes net layer parts) (λ boxes. (p : Point) → IsInOneOf boxes p → KeepsRules b shapes net layer p)
    (λ boxes flooded. pour_keeps b shapes net layer zone boxes (is boxes flooded)) c.flooded_parts.ensures
