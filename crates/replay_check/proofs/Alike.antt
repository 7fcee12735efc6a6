-- Two grounds of one board with the same shapes, to one net, are alike wherever the net may walk: what is right
-- over the one is right over the other.
use Rattle.std.proofs.Common.{ℕ, ◌≡◌, ◌+◌, List, [], ◌∷◌, ap, refl, sym, ◌∙◌, subst, arith}
use Rattle.std.proofs.lemmas.List.Sums.{sum_by-cons}
use Rattle.geo_rect.specs.declared.ids.KindId.{KindId}
use Rattle.geo_rect.specs.declared.ids.LayerId.{LayerId}
use Rattle.geo_rect.specs.declared.ids.NetId.{NetId}
use Rattle.geo_rect.specs.declared.ids.Node.{Node}
use Rattle.geo_rect.specs.declared.ids.Spot.{Spot}
use Rattle.geo_rect.specs.declared.shapes.Point.{Point}
use Rattle.geo_rect.specs.declared.shapes.Rect.{Rect}
use Rattle.geo_rect.specs.Plane.{HasPoint}
use Rattle.geo_rect.proofs.Parts.{same_points}
use Rattle.board_model.specs.declared.made.Conn.{Conn}
use Rattle.board_model.specs.declared.made.Leg.{Leg}
use Rattle.board_model.specs.declared.made.Leg.TheVariants.{Wire, Via}
use Rattle.board_parts.specs.declared.parts.BoardParts.{BoardParts}
use Rattle.board_parts.specs.declared.parts.ViaKind.{ViaKind}
use Rattle.board_model.specs.declared.shapes.Shape.{Shape}
use Rattle.board_model.specs.Labels.{IsInSpan, Admits}
use Rattle.board_model.specs.Shapes.{place_of, end_of}
use Rattle.plane_core.specs.declared.strips.Strip.{Strip}
use Rattle.plane_core.specs.Labels.{label_of, IsPlane}
use Rattle.plane_core.proofs.Labelled.{strips_agree}
use Rattle.plane_core.proofs.Listed.{same_strips}
use Rattle.route_law.specs.declared.certs.Cert.{Cert}
use Rattle.route_law.specs.declared.certs.Entry.{Entry}
use Rattle.route_law.specs.declared.certs.Origin.{Origin}
use Rattle.route_law.specs.declared.certs.Origin.TheVariants as origin
use Rattle.route_law.specs.Boards.{IsGroundOf}
use Rattle.route_law.specs.Connections.{steps_of}
use Rattle.route_law.specs.Ground.{Ground, HasLayer, HasKind, IsPassableNode, IsPassableVia, IsPassableStrip, IsWireStrip, IsViaStrip}
use Rattle.route_law.specs.Joins.{IsConnection}
use Rattle.route_law.specs.Moves.{Arrival, arrival_of, IsEdgeMove, IsViaMove}
use Rattle.route_law.specs.Right.{IsFrom, IsRight, IsStart, IsWellPlaced}
use Rattle.route_law.specs.Walks.{IsStep, IsWalk, IsJoiningWalk, price_of, walk_cost}

-- both have the same points, layers and kinds, and the same strips on each layer and for each kind
pub record AreAlike (g h : Ground) : Type 0 where
  pub region : g.region ≡ h.region
  pub net : g.net ≡ h.net
  pub layers : g.layers ≡ h.layers
  pub kinds : g.kinds ≡ h.kinds
  pub wires : (l : LayerId) → HasLayer g l → g.wire_strips l ≡ h.wire_strips l
  pub kind : (k : KindId) → HasKind g k → g.kind k ≡ h.kind k
  pub vias : (k : KindId) → HasKind g k → g.via_strips k ≡ h.via_strips k

-- two planes whose labels agree have the same strips
same_plane : (r s : Rect) (ss ts : List Strip) → r ≡ s → IsPlane r ss → IsPlane s ts → ((p : Point) → HasPoint r p → label_of ss p ≡ label_of ts p) → ss ≡ ts
same_plane r s ss ts e h k agree =
    let P : Rect → Type 0 = λ q. IsPlane q ts in
    let there : IsPlane r ts = subst P (sym e) k in
    same_strips r (label_of ss) ss ts h (strips_agree r (label_of ts) (label_of ss) ts agree there)

-- two grounds of the same shapes to one net are alike
module _ (b : BoardParts) (shapes : List Shape) (n : NetId) (g h : Ground) (x : IsGroundOf b shapes n g) (y : IsGroundOf b shapes n h) where
  same_region : g.region ≡ h.region
  same_region = same_points g.region h.region (λ p k. (y.points p).1 ((x.points p).0 k)) (λ p k. (x.points p).1 ((y.points p).0 k))

  there : (p : Point) → HasPoint g.region p → HasPoint h.region p
  there p k = (y.points p).1 ((x.points p).0 k)

  pub grounds_alike : AreAlike g h
  grounds_alike = record {
    region = same_region;
    net = x.net ∙ sym y.net;
    layers = x.layers ∙ sym y.layers;
    kinds = x.kinds ∙ sym y.kinds;
    wires = λ l k.
        let m : HasLayer h l = omega (arith, k, x.layers, y.layers) in
        same_plane g.region h.region (g.wire_strips l) (h.wire_strips l) same_region (x.proper.wires l k) (y.proper.wires l m)
        (λ p i. x.wires l p k i ∙ sym (y.wires l p m (there p i)));
    kind = λ k i. let m : HasKind h k = omega (arith, i, x.kinds, y.kinds) in x.kind k i ∙ sym (y.kind k m);
    vias = λ k i.
        let m : HasKind h k = omega (arith, i, x.kinds, y.kinds) in
        same_plane g.region h.region (g.via_strips k) (h.via_strips k) same_region (x.proper.vias k i) (y.proper.vias k m)
        (λ p j. x.vias k p i j ∙ sym (y.vias k p m (there p j)));
  }

pub alike_back : (g h : Ground) → AreAlike g h → AreAlike h g
alike_back g h a = record {
  region = sym a.region;
  net = sym a.net;
  layers = sym a.layers;
  kinds = sym a.kinds;
  wires = λ l k. sym (a.wires l (omega (arith, k, a.layers)));
  kind = λ k i. sym (a.kind k (omega (arith, i, a.kinds)));
  vias = λ k i. sym (a.vias k (omega (arith, i, a.kinds)));
}

-- what holds over a ground holds over one that is alike
module _ (g h : Ground) (a : AreAlike g h) where
  layer_too : (l : LayerId) → HasLayer g l → HasLayer h l
  layer_too l k = omega (arith, k, a.layers)

  kind_too : (k : KindId) → HasKind g k → HasKind h k
  kind_too k i = omega (arith, i, a.kinds)

  point_too : (p : Point) → HasPoint g.region p → HasPoint h.region p
  point_too p i = let P : Rect → Type 0 = λ r. HasPoint r p in subst P a.region i

  admits_too : (ss ts : List Strip) (p : Point) → ss ≡ ts → Admits (label_of ss p) g.net → Admits (label_of ts p) h.net
  admits_too ss ts p e i =
      let P : NetId → Type 0 = λ m. Admits (label_of ss p) m in
      let Q : List Strip → Type 0 = λ us. Admits (label_of us p) h.net in
      subst Q e (subst P a.net i)

  strip_too : (ss ts : List Strip) (r : Rect) → ss ≡ ts → IsPassableStrip ss g.net r → IsPassableStrip ts h.net r
  strip_too ss ts r e i =
      let P : NetId → Type 0 = λ m. IsPassableStrip ss m r in
      let Q : List Strip → Type 0 = λ us. IsPassableStrip us h.net r in
      subst Q e (subst P a.net i)

  wire_too : (l : LayerId) (t : Rect) → IsWireStrip g l t → IsWireStrip h l t
  wire_too l t i = record { on_layer = layer_too l i.on_layer; strip = strip_too (g.wire_strips l) (h.wire_strips l) t (a.wires l i.on_layer) i.strip }

  via_too : (k : KindId) (w : Rect) → IsViaStrip g k w → IsViaStrip h k w
  via_too k w i = record { of_kind = kind_too k i.of_kind; strip = strip_too (g.via_strips k) (h.via_strips k) w (a.vias k i.of_kind) i.strip }

  node_too : (v : Node) → IsPassableNode g v → IsPassableNode h v
  node_too v i = record {
    on_layer = layer_too v.layer i.on_layer;
    in_region = point_too (place_of v) i.in_region;
    admits = admits_too (g.wire_strips v.layer) (h.wire_strips v.layer) (place_of v) (a.wires v.layer i.on_layer) i.admits;
  }

  place_too : (k : KindId) (p : Point) → IsPassableVia g k p → IsPassableVia h k p
  place_too k p i = record {
    of_kind = kind_too k i.of_kind;
    in_region = point_too p i.in_region;
    admits = admits_too (g.via_strips k) (h.via_strips k) p (a.vias k i.of_kind) i.admits;
  }

  span_too : (k : KindId) (l : LayerId) → HasKind g k → IsInSpan (g.kind k) l → IsInSpan (h.kind k) l
  span_too k l i s = let P : ViaKind → Type 0 = λ v. IsInSpan v l in subst P (a.kind k i) s

  charge_too : (k : KindId) → HasKind g k → (g.kind k).charge ≡ (h.kind k).charge
  charge_too k i = let F : ViaKind → ℕ = λ v. v.charge in ap F (a.kind k i)

  step_too : (v : Node) (step : Leg) → IsStep g v step → IsStep h v step
  step_too v (Wire w) i = i
  step_too v (Via k w) i =
      let known = i.passable.of_kind in
      record {
        passable = place_too k (place_of v) i.passable;
        from_span = span_too k v.layer known i.from_span;
        to_span = span_too k w.layer known i.to_span;
        other_layer = i.other_layer;
        same_place = i.same_place;
      }

  price_too : (v : Node) (step : Leg) → IsStep g v step → price_of g step ≡ price_of h step
  price_too v (Wire w) i = refl
  price_too v (Via k w) i = charge_too k i.passable.of_kind

  walk_too : (v : Node) (steps : List Leg) → IsWalk g v steps → IsWalk h v steps
  walk_too v [] i = node_too v i
  walk_too v (step ∷ steps) i = (node_too v i.0, step_too v step i.1, walk_too (end_of step) steps i.2)

  cost_too : (v : Node) (steps : List Leg) → IsWalk g v steps → walk_cost g steps ≡ walk_cost h steps
  cost_too v [] i = refl
  cost_too v (step ∷ steps) i =
      let one = price_too v step i.1 in
      let more = cost_too (end_of step) steps i.2 in
      let left = sum_by-cons (price_of g) step steps in
      let right = sum_by-cons (price_of h) step steps in
      omega (arith, one, more, left, right)

  joining_too : (sources targets : List Spot) (start : Node) (steps : List Leg) → IsJoiningWalk g sources targets start steps → IsJoiningWalk h sources targets start steps
  joining_too sources targets start steps i = record { starts = i.starts; walk = walk_too start steps i.walk; ends = i.ends }

  pub connection_too : (b : BoardParts) (c : Conn) (sources targets : List Spot) → IsConnection b g c sources targets → IsConnection b h c sources targets
  connection_too b c sources targets i = record {
    well_formed = i.well_formed;
    walk = joining_too sources targets c.start (steps_of c) i.walk;
    cost = sym (cost_too c.start (steps_of c) i.walk.walk) ∙ i.cost;
  }

  edge_too : (p q : Arrival) → IsEdgeMove g p q → IsEdgeMove h p q
  edge_too p q i = record {
    same_layer = i.same_layer;
    passable = wire_too q.layer q.strip i.passable;
    other_strip = i.other_strip;
    edge = i.edge;
    is_edge = i.is_edge;
    way = i.way;
    moved = i.moved;
    cost = i.cost;
  }

  jump_too : (k : KindId) (p q : Arrival) → IsViaMove g k p q → IsViaMove h k p q
  jump_too k p q i =
      let known = i.via_passable.of_kind in
      let charge = charge_too k known in
      record {
        from_span = span_too k p.layer known i.from_span;
        to_span = span_too k q.layer known i.to_span;
        other_layer = i.other_layer;
        passable = wire_too q.layer q.strip i.passable;
        via_strip = i.via_strip;
        via_passable = via_too k i.via_strip i.via_passable;
        common = i.common;
        is_common = i.is_common;
        way = i.way;
        moved = i.moved;
        cost = let P : ℕ → Type 0 = λ c. q.cost ≡ p.cost + i.way + c in subst P charge i.cost;
      }

  start_too : (box : Spot) (p : Arrival) → IsStart g box p → IsStart h box p
  start_too box p i = record { same_layer = i.same_layer; passable = wire_too p.layer p.strip i.passable; common = i.common; cost = i.cost }

  placed_too : (e : Entry) → IsWellPlaced g e → IsWellPlaced h e
  placed_too e i = record { passable = wire_too e.layer e.strip i.passable; holds = i.holds }

  from_too : (sources : List Spot) (entries : List Entry) (n : ℕ) (p : Arrival) (o : Origin) → IsFrom g sources entries n p o → IsFrom h sources entries n p o
  from_too sources entries n p (origin.Source m) i = record { box = i.box; numbered = i.numbered; start = start_too i.box p i.start }
  from_too sources entries n p (origin.Step m) i = record { entry = i.entry; earlier = i.earlier; numbered = i.numbered; holds = edge_too (arrival_of i.entry) p i.holds }
  from_too sources entries n p (origin.Via m k) i =
      record { entry = i.entry; earlier = i.earlier; numbered = i.numbered; holds = jump_too k (arrival_of i.entry) p i.holds }

-- a certificate that is right over a ground is right over one that is alike
pub right_too : (g h : Ground) → AreAlike g h → (sources targets : List Spot) (cert : Cert) → IsRight g sources targets cert → IsRight h sources targets cert
right_too g h a sources targets cert i =
    let back = alike_back g h a in
    record {
      placed = λ e k. placed_too g h a e (i.placed e k);
      founded = λ n e k. from_too g h a sources cert.entries n (arrival_of e) e.origin (i.founded n e k);
      complete = record {
        starts = λ box p k s. i.complete.starts box p k (start_too h g back box p s);
        edges = λ e p k m. i.complete.edges e p k (edge_too h g back (arrival_of e) p m);
        vias = λ e k p l m. i.complete.vias e k p l (jump_too h g back k (arrival_of e) p m);
      };
      bound = i.bound;
    }
