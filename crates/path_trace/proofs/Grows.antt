-- A path with a leg more: the walk that it stands for, and what that costs.
use Rattle.std.proofs.Common.{ℕ, ◌≡◌, ◌+◌, ◌<◌, inl, inr, refl, sym, ap, subst, ◌∙◌, List, arith}
use Rattle.geo_rect.specs.declared.ids.LayerId.{LayerId}
use Rattle.geo_rect.specs.declared.ids.Node.{Node}
use Rattle.geo_rect.specs.declared.shapes.Point.{Point}
use Rattle.geo_rect.specs.declared.shapes.Rect.{Rect}
use Rattle.geo_rect.specs.Distance.{apart}
use Rattle.geo_rect.specs.Plane.{HasPoint}
use Rattle.geo_rect.proofs.Steps.{between-self}
use Rattle.board_model.specs.declared.made.Leg.{Leg}
use Rattle.board_model.specs.declared.made.Leg.TheVariants.{Wire}
use Rattle.board_parts.specs.declared.parts.BoardParts.{BoardParts}
use Rattle.board_model.specs.Shapes.{place_of, end_of}
use Rattle.board_model.specs.WellFormed.{IsCorner}
use Rattle.route_law.specs.Connections.{steps_of_leg, steps_of_legs, node_toward, units, IsStraight}
use Rattle.route_law.specs.Ground.{Ground, IsGround, IsPassableNode, IsWireStrip}
use Rattle.route_law.specs.Walks.{IsWalk, last_node, walk_cost}
use Rattle.route_law.proofs.Joining.{walk-append, last_node-append, walk_cost-append, walk_cost-units}
use Rattle.route_law.proofs.Passed.{node_at as passed_node, strip_passable}
use Rattle.route_law.proofs.Wires.{wire_walk, wire_end, unit_on}
use Rattle.route_law.specs.declared.certs.Entry.{Entry}
use Rattle.path_trace.specs.declared.paths.Path.{Path}
use Rattle.path_trace.specs.Paths.{node_at, bend, legs_of, MayLead, IsLedTo, IsLed, IsBoardGround, IsPath, IsLedFrom}
use Rattle.path_trace.specs.Strips.{IsInStripOf, IsInSomeStrip, StaysInStrips}
use Rattle.path_trace.proofs.Strips.{units_stay, led_stays}

pub path_led : (b : BoardParts) (g : Ground) (goal u : Node) (leg : Leg) (legs more : List Leg) (n k : ℕ) → IsPath b g goal (end_of leg) legs n → IsLedTo u leg legs more → MayLead b u leg → IsCorner b u → IsWalk g u (steps_of_leg u leg) → last_node u (steps_of_leg u leg) ≡ end_of leg → walk_cost g (steps_of_leg u leg) ≡ k → IsPath b g goal u more (n + k)
path_led b g goal u leg legs more n k p l m corner walk last cost =
    let first : List Leg = steps_of_leg u leg in
    let rest : List Leg = steps_of_legs (end_of leg) legs in
    let onward : IsWalk g (last_node u first) rest = subst (λ (x : Node). IsWalk g x rest) (sym last) p.walk in
    let costs = ap (λ (steps : List Leg). walk_cost g steps) l.steps in
    record {
      corner = corner;
      form = l.form b m p.corner p.form;
      turns = l.turns p.turns;
      walk = subst (λ (steps : List Leg). IsWalk g u steps) (sym l.steps) (walk-append g u first rest walk onward);
      stops = ap (λ (steps : List Leg). last_node u steps) l.steps ∙ last_node-append u first rest ∙ ap (λ (x : Node). last_node x rest) last ∙ p.stops;
      ends = l.ends ∙ p.ends;
      cost = omega (arith, costs, walk_cost-append g first rest, p.cost, cost);
    }

-- a node in a strip of its layer that the net may pass
pub passable_at : (g : Ground) (l : LayerId) (t : Rect) (v : Node) → IsGround g → IsWireStrip g l t → v.layer ≡ l → HasPoint t (place_of v) → IsPassableNode g v
passable_at g l t v ground s e h =
    let P : LayerId → Type 0 = λ m. IsPassableNode g (passed_node m (place_of v)) in
    subst P (sym e) (strip_passable g l t (place_of v) ground s h)

pub corner_at : (b : BoardParts) (g : Ground) (v : Node) → IsBoardGround b g → IsPassableNode g v → IsCorner b v
corner_at b g v ground p = record { layer = subst (λ (n : ℕ). v.layer.0 < n) ground.layers p.on_layer; place = ground.places (place_of v) p.in_region }

-- a straight wire within a strip that the net may pass
pub wire_led : (b : BoardParts) (g : Ground) (t : Rect) (goal u v : Node) (legs more : List Leg) (n : ℕ) → IsBoardGround b g → IsWireStrip g u.layer t → IsStraight u v → HasPoint t (place_of u) → HasPoint t (place_of v) → IsPath b g goal v legs n → IsLedTo u (Wire v) legs more → IsPath b g goal u more (n + apart (place_of u) (place_of v))
wire_led b g t goal u v legs more n ground strip s hu hv p l =
    path_led b g goal u (Wire v) legs more n (apart (place_of u) (place_of v)) p l s (corner_at b g u ground (passable_at g u.layer t u ground.proper strip refl hu)) (wire_walk g t u v ground.proper strip s hu hv) (wire_end u v s)
    (walk_cost-units g (apart (place_of u) (place_of v)) u v)

-- a wire of one unit, from strip to strip
pub unit_end : (u v : Node) → IsStraight u v → apart (place_of u) (place_of v) ≡ 1 → node_toward u v ≡ v
unit_end u v s one = subst (λ (n : ℕ). last_node u (units n u v) ≡ v) one (wire_end u v s)

unit_walk : (g : Ground) (u v : Node) → IsStraight u v → apart (place_of u) (place_of v) ≡ 1 → IsPassableNode g u → IsPassableNode g v → IsWalk g u (steps_of_leg u (Wire v))
unit_walk g u v s one pu pv =
    let step = unit_on u v 0 s one in
    let at : IsPassableNode g (node_toward u v) = subst (λ (x : Node). IsPassableNode g x) (sym (unit_end u v s one)) pv in
    subst (λ (n : ℕ). IsWalk g u (units n u v)) (sym one) (pu, step.step, at)

pub unit_led : (b : BoardParts) (g : Ground) (goal u v : Node) (legs more : List Leg) (n : ℕ) → IsBoardGround b g → IsStraight u v → apart (place_of u) (place_of v) ≡ 1 → IsPassableNode g u → IsPassableNode g v → IsPath b g goal v legs n → IsLedTo u (Wire v) legs more → IsPath b g goal u more (n + 1)
unit_led b g goal u v legs more n ground s one pu pv p l =
    path_led b g goal u (Wire v) legs more n 1 p l s (corner_at b g u ground pu) (unit_walk g u v s one pu pv) (wire_end u v s)
    (walk_cost-units g (apart (place_of u) (place_of v)) u v ∙ one)

by_bend : (q v : Point) → apart (record { x = v.x; y = q.y }) v + apart q (record { x = v.x; y = q.y }) ≡ apart q v
by_bend q v = omega (arith, between-self v.x, between-self q.y)

-- two wires, by way of the corner of the row of q and the column in which the path starts
pub led_from : (q : Point) (old mid new : Path) → let c : Node = node_at old.start.layer (bend q old.start) in (IsStraight c old.start → IsLed c (Wire old.start) old mid) → (IsStraight (node_at old.start.layer q) mid.start → IsLed (node_at old.start.layer q) (Wire mid.start) mid new) → IsLedFrom q old new
led_from q old mid new first second =
    let v : Node = old.start in
    let c : Node = node_at v.layer (bend q v) in
    let u : Node = node_at v.layer q in
    let up : IsStraight c v = record { same_layer = refl; in_line = inl refl } in
    let along : IsStraight u c = record { same_layer = refl; in_line = inr refl } in
    let one = first up in
    let two = second (subst (λ (x : Node). IsStraight u x) (sym one.start) along) in
    let on : IsLedTo u (Wire c) (legs_of mid) (legs_of new) = subst (λ (x : Node). IsLedTo u (Wire x) (legs_of mid) (legs_of new)) one.start two.legs in
    record {
      start = two.start;
      path = λ b g t goal n ground strip hv hq p.
          let hc : HasPoint t (place_of c) = record { across = hv.across; up = hq.up } in
          let half = wire_led b g t goal c v (legs_of old) (legs_of mid) n ground strip up hc hv p one.legs in
          let whole = wire_led b g t goal u c (legs_of mid) (legs_of new) (n + apart (place_of c) (place_of v)) ground strip along hq hc half on in
          let sum : n + apart (place_of c) (place_of v) + apart q (place_of c) ≡ n + apart q (place_of v) = omega (arith, by_bend q (place_of v)) in
          subst (λ (x : Node). IsPath b g goal x (legs_of new) (n + apart q (place_of v))) (sym two.start) (subst (λ (m : ℕ). IsPath b g goal u (legs_of new) m) sum whole);
      strips = λ entries e listed inside hq h.
          let hc : HasPoint e.strip (place_of c) = record { across = inside.here.across; up = hq.up } in
          let in_c : IsInStripOf e c = record { same_layer = inside.same_layer; here = hc } in
          let in_u : IsInStripOf e u = record { same_layer = inside.same_layer; here = hq } in
          let half = led_stays entries c (Wire v) (legs_of old) (legs_of mid) one.legs (wire_end c v up) (units_stay entries e (apart (place_of c) (place_of v)) c v listed in_c inside.here) h in
          let whole = led_stays entries u (Wire c) (legs_of mid) (legs_of new) on (wire_end u c along) (units_stay entries e (apart (place_of u) (place_of c)) u c listed in_u hc) half in
          subst (λ (x : Node). StaysInStrips entries x (steps_of_legs x (legs_of new))) (sym two.start) whole;
    }

-- a wire of one unit between strips of entries
pub unit_stays : (entries : List Entry) (u v : Node) → IsStraight u v → apart (place_of u) (place_of v) ≡ 1 → IsInSomeStrip entries u → IsInSomeStrip entries v → StaysInStrips entries u (steps_of_leg u (Wire v))
unit_stays entries u v s one hu hv =
    let at : IsInSomeStrip entries (node_toward u v) = subst (λ (x : Node). IsInSomeStrip entries x) (sym (unit_end u v s one)) hv in
    subst (λ (n : ℕ). StaysInStrips entries u (units n u v)) (sym one) (hu, at)
