-- Moves of which the code knows all but the ground.
use Rattle.std.proofs.Common.{◌≡◌, ◌≢◌, ap, subst, arith}
use Rattle.geo_rect.specs.declared.ids.KindId.{KindId}
use Rattle.geo_rect.specs.declared.shapes.Point.{Point}
use Rattle.geo_rect.specs.declared.shapes.Rect.{Rect}
use Rattle.geo_rect.specs.Edges.{IsEdge}
use Rattle.geo_rect.specs.Plane.{HasPoint}
use Rattle.geo_rect.proofs.Clamps.{clamped_point}
use Rattle.geo_rect.proofs.Parts.{same_points}
use Rattle.board_model.specs.Labels.{IsInSpan}
use Rattle.route_law.specs.Ground.{Ground, IsGround, IsWireStrip, IsViaStrip}
use Rattle.route_law.specs.Moves.{Arrival, IsMeetOfThree, IsEdgeMove, IsViaMove}
use Rattle.plane_core.specs.declared.strips.Strip.{Strip}
use Rattle.plane_core.specs.Labels.{label_of, IsPlane}
use Rattle.plane_core.proofs.Alike.{strips_meet}
use Rattle.cert_check.specs.Fronts.{IsMoved}
use Rattle.cert_check.specs.Passages.{IsViaPassage}
use Rattle.cert_check.proofs.Meets.{three_second, three_one}

edge_one : (t u r s : Rect) → IsEdge t u r → IsEdge t u s → r ≡ s
edge_one t u r s a b = same_points r s (λ p h. b.all p (a.in_u p h) (a.beside_t p h)) (λ p h. a.all p (b.in_u p h) (b.beside_t p h))

-- a move through the edge is one across the edge
pub over_edge : (g : Ground) (a b : Arrival) (door : Rect) → b.layer ≡ a.layer → IsWireStrip g b.layer b.strip → b.strip ≢ a.strip → IsEdge a.strip b.strip door → IsMoved a door 0 b → IsEdgeMove g a b
over_edge g a b door l p n e m = record {
  same_layer = l;
  passable = p;
  other_strip = n;
  edge = door;
  is_edge = e;
  way = m.way;
  moved = m.moved;
  cost = omega (arith, m.cost);
}

pub edge_moved : (g : Ground) (a b : Arrival) (door : Rect) → IsEdge a.strip b.strip door → IsEdgeMove g a b → IsMoved a door 0 b
edge_moved g a b door e m =
    let P : Rect → Type 0 = λ d. IsMoved a d 0 b in
    subst P (edge_one a.strip b.strip m.edge door m.is_edge e) (record { way = m.way; moved = m.moved; cost = omega (arith, m.cost) })

-- a via strip that the net may pass and that has the point is the only one
pub one_via_passage : (g : Ground) (k : KindId) (p : Point) (t u : Rect) → IsGround g → IsViaPassage g k p t → IsViaPassage g k p u → t ≡ u
one_via_passage g k p t u ground s r =
    let plane : IsPlane g.region (g.via_strips k) = ground.vias k s.strip.of_kind in
    let a : Strip = record { area = t; label = s.strip.strip.label } in
    let b : Strip = record { area = u; label = r.strip.strip.label } in
    ap (λ (x : Strip). x.area) (strips_meet g.region (label_of (g.via_strips k)) a b p (plane.each a s.strip.strip.listed) (plane.each b r.strip.strip.listed) s.has_point r.has_point)

-- a move by a via, of which the via strip that has a point of the front is known
pub record IsMovedBy (g : Ground) (k : KindId) (a b : Arrival) (pass : Rect) : Type 0 where
  pub from_span : IsInSpan (g.kind k) a.layer
  pub to_span : IsInSpan (g.kind k) b.layer
  pub other_layer : b.layer ≢ a.layer
  pub common : Rect
  pub is_common : IsMeetOfThree a.strip pass b.strip common
  pub moved : IsMoved a common (g.kind k).charge b

pub via_passed : (g : Ground) (k : KindId) (a b : Arrival) (p : Point) → HasPoint b.front p → (m : IsViaMove g k a b) → IsViaPassage g k p m.via_strip
via_passed g k a b p h m = record {
  strip = m.via_passable;
  has_point = three_second a.strip m.via_strip b.strip m.common p m.is_common (clamped_point a.front m.common b.front p m.moved.clamped h);
}

pub moved_by : (g : Ground) (k : KindId) (a b : Arrival) (p : Point) (pass : Rect) → IsGround g → HasPoint b.front p → IsViaPassage g k p pass → IsViaMove g k a b → IsMovedBy g k a b pass
moved_by g k a b p pass ground h v m =
    let P : Rect → Type 0 = λ w. IsMeetOfThree a.strip w b.strip m.common in
    record {
      from_span = m.from_span;
      to_span = m.to_span;
      other_layer = m.other_layer;
      common = m.common;
      is_common = subst P (one_via_passage g k p m.via_strip pass ground (via_passed g k a b p h m) v) m.is_common;
      moved = record { way = m.way; moved = m.moved; cost = m.cost };
    }

pub by_via : (g : Ground) (k : KindId) (a b : Arrival) (pass common : Rect) → IsWireStrip g b.layer b.strip → IsViaStrip g k pass → IsInSpan (g.kind k) a.layer → IsInSpan (g.kind k) b.layer → b.layer ≢ a.layer → IsMeetOfThree a.strip pass b.strip common → IsMoved a common (g.kind k).charge b → IsViaMove g k a b
by_via g k a b pass common p v f t o c m = record {
  from_span = f;
  to_span = t;
  other_layer = o;
  passable = p;
  via_strip = pass;
  via_passable = v;
  common = common;
  is_common = c;
  way = m.way;
  moved = m.moved;
  cost = m.cost;
}

pub same_common : (g : Ground) (k : KindId) (a b : Arrival) (pass common : Rect) → IsMeetOfThree a.strip pass b.strip common → IsMovedBy g k a b pass → IsMoved a common (g.kind k).charge b
same_common g k a b pass common c m =
    let P : Rect → Type 0 = λ d. IsMoved a d (g.kind k).charge b in
    subst P (three_one a.strip pass b.strip m.common common m.is_common c) m.moved
