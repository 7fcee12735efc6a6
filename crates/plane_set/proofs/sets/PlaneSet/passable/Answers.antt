use Rattle.std.proofs.Common.{◌≡◌, ◌∙◌, sym, ap, IsTrue}
use Rattle.geo_rect.specs.declared.ids.ClassId.{ClassId}
use Rattle.board_model.specs.Labels.{wire_plane, label_among}
use Rattle.board_parts.specs.Lookup.{class_of}
use Rattle.board_model.specs.Shapes.{place_of}
use Rattle.plane_set.specs.Drawings.{drawing_by}
use Rattle.plane_set.proofs.Admitting.{place_inside, admits_same}
use Rattle.plane_set.proofs.Standing.{wire_area}
use Rattle.plane_set.proofs.sets.PlaneSet.passable.Goals as goal

pub strip_at-strip-requires : goal.strip_at-strip-requires
strip_at-strip-requires g c =
    let b = c.args.board.now.parts in
    let d = drawing_by g.P.Plane.region g.P.Plane.strips c.wire-plane.result.now in
    place_inside b d.region c.place.result (place_of c.args.v) c.place.ensures
    (wire_area b c.args.self.now c.requires.planes c.args.v.layer.0 c.requires.layer c.class_of.result.0 d c.wire-plane.ensures.plane) c.requires.place

pub returns-clause-shapes : goal.returns-clause-shapes
returns-clause-shapes g c =
    let b = c.args.board.now.parts in
    let v = c.args.v in
    let p = c.place.result in
    let at = c.class_of.result in
    λ shapes h.
    let shown = c.wire-plane.ensures.shows b shapes h in
    let strip_label = sym c.strip_at-strip.ensures.label ∙ shown.labels p (place_inside b _ p (place_of v) c.place.ensures shown.region c.requires.place) in
    let own_class : label_among b (wire_plane b v.layer at) shapes p ≡ label_among b (wire_plane b v.layer (class_of b c.args.net)) shapes p =
    ap (λ (k : ClassId). label_among b (wire_plane b v.layer k) shapes p) c.class_of.ensures.class in
    let own_place : label_among b (wire_plane b v.layer (class_of b c.args.net)) shapes p ≡ label_among b (wire_plane b v.layer (class_of b c.args.net)) shapes (place_of v) =
    ap (label_among b (wire_plane b v.layer (class_of b c.args.net)) shapes) c.place.ensures in
    admits_same (IsTrue c.admits.result) _ _ c.args.net (strip_label ∙ own_class ∙ own_place) c.admits.ensures
