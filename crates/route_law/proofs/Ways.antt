-- Nodes that some walk from a source box reaches at a cost, and how to go on from them.
use Rattle.std.proofs.Common.{ℕ, ◌≡◌, ◌+◌, ◌≤◌, inl, inr, refl, subst, sym, ap, ◌∙◌, List, ◌++◌, arith}
use Rattle.geo_rect.specs.declared.ids.LayerId.{LayerId}
use Rattle.geo_rect.specs.declared.ids.Node.{Node}
use Rattle.geo_rect.specs.declared.ids.Spot.{Spot}
use Rattle.geo_rect.specs.declared.shapes.Point.{Point}
use Rattle.geo_rect.specs.declared.shapes.Rect.{Rect}
use Rattle.geo_rect.specs.Distance.{apart}
use Rattle.geo_rect.specs.Plane.{HasPoint}
use Rattle.geo_rect.proofs.Steps.{between-self}
use Rattle.board_model.specs.declared.made.Leg.{Leg}
use Rattle.board_model.specs.declared.made.Leg.TheVariants.{Wire}
use Rattle.route_law.specs.Connections.{steps_of_leg, IsStraight}
use Rattle.route_law.specs.Ground.{Ground, IsGround, IsWireStrip}
use Rattle.route_law.specs.Walks.{IsWalk, last_node, walk_cost, HasNode}
use Rattle.route_law.proofs.Joining.{walk-append, last_node-append, walk_cost-append, walk_cost-units}
use Rattle.route_law.proofs.Passed.{node_at}
use Rattle.route_law.proofs.Wires.{wire_walk, wire_end}

-- a walk from a node of a source box ends in v, and costs c or less
pub record IsReachable (g : Ground) (sources : List Spot) (v : Node) (c : ℕ) : Type 0 where
  pub start : Node
  pub steps : List Leg
  pub starts : HasNode sources start
  pub walk : IsWalk g start steps
  pub ends : last_node start steps ≡ v
  pub cost : walk_cost g steps ≤ c

-- a walk from v to w
pub record IsWay (g : Ground) (v w : Node) (c : ℕ) : Type 0 where
  pub steps : List Leg
  pub walk : IsWalk g v steps
  pub ends : last_node v steps ≡ w
  pub cost : walk_cost g steps ≤ c

pub join_ways : (g : Ground) (u v w : Node) (m n : ℕ) → IsWay g u v m → IsWay g v w n → IsWay g u w (m + n)
join_ways g u v w m n a b = record {
  steps = a.steps ++ b.steps;
  walk = walk-append g u a.steps b.steps a.walk (subst (λ (x : Node). IsWalk g x b.steps) (sym a.ends) b.walk);
  ends = last_node-append u a.steps b.steps ∙ ap (λ (x : Node). last_node x b.steps) a.ends ∙ b.ends;
  cost = omega (arith, walk_cost-append g a.steps b.steps, a.cost, b.cost);
}

pub go_on : (g : Ground) (sources : List Spot) (v w : Node) (m n c : ℕ) → IsReachable g sources v m → IsWay g v w n → m + n ≤ c → IsReachable g sources w c
go_on g sources v w m n c r b l =
    let a : IsWay g r.start v m = record { steps = r.steps; walk = r.walk; ends = r.ends; cost = r.cost } in
    let j = join_ways g r.start v w m n a b in
    record { start = r.start; steps = j.steps; starts = r.starts; walk = j.walk; ends = j.ends; cost = omega (arith, l, j.cost) }

module _ (g : Ground) (l : LayerId) (t : Rect) (ground : IsGround g) (strip : IsWireStrip g l t) where
  straight_way : (p q : Point) → IsStraight (node_at l p) (node_at l q) → HasPoint t p → HasPoint t q → IsWay g (node_at l p) (node_at l q) (apart p q)
  straight_way p q s h k = record {
    steps = steps_of_leg (node_at l p) (Wire (node_at l q));
    walk = wire_walk g t (node_at l p) (node_at l q) ground strip s h k;
    ends = wire_end (node_at l p) (node_at l q) s;
    cost = omega (arith, walk_cost-units g (apart p q) (node_at l p) (node_at l q));
  }

  -- within a strip that the net may pass, each point is as many steps from another as they are apart
  pub strip_way : (p q : Point) → HasPoint t p → HasPoint t q → IsWay g (node_at l p) (node_at l q) (apart p q)
  strip_way p q h k =
      let c : Point = record { x = q.x; y = p.y } in
      let i : HasPoint t c = record { across = k.across; up = h.up } in
      let first = straight_way p c (record { same_layer = refl; in_line = inr refl }) h i in
      let second = straight_way c q (record { same_layer = refl; in_line = inl refl }) i k in
      let both = join_ways g (node_at l p) (node_at l c) (node_at l q) (apart p c) (apart c q) first second in
      record {
        steps = both.steps;
        walk = both.walk;
        ends = both.ends;
        cost = omega (arith, both.cost, between-self p.y, between-self q.x);
      }
