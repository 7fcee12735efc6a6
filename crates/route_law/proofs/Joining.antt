-- Walks join end to end, and what legs cost is what their steps cost.
use Rattle.std.proofs.Common.{ℕ, zero, suc, ◌≡◌, ◌+◌, refl, List, [], ◌∷◌, ◌++◌, arith}
use Rattle.std.proofs.lemmas.List.Sums.{sum_by-append, sum_by-cons}
use Rattle.geo_rect.specs.declared.ids.Node.{Node}
use Rattle.geo_rect.specs.Distance.{apart}
use Rattle.board_model.specs.declared.made.Leg.{Leg}
use Rattle.board_model.specs.declared.made.Leg.TheVariants.{Wire, Via}
use Rattle.board_model.specs.Shapes.{place_of, end_of}
use Rattle.route_law.specs.Connections.{node_toward, units, steps_of_leg, steps_of_legs, cost_of_leg, cost_of_legs}
use Rattle.route_law.specs.Ground.{Ground}
use Rattle.route_law.specs.Walks.{price_of, IsWalk, last_node, walk_cost}

pub walk-append : (g : Ground) (v : Node) (first second : List Leg) → IsWalk g v first → IsWalk g (last_node v first) second → IsWalk g v (first ++ second)
walk-append g v [] second h k = k
walk-append g v (step ∷ steps) second h k = (h.0, h.1, walk-append g (end_of step) steps second h.2 k)

pub last_node-append : (v : Node) (first second : List Leg) → last_node v (first ++ second) ≡ last_node (last_node v first) second
last_node-append v [] second = refl
last_node-append v (step ∷ steps) second = last_node-append (end_of step) steps second

pub walk_cost-append : (g : Ground) (first second : List Leg) → walk_cost g (first ++ second) ≡ walk_cost g first + walk_cost g second
walk_cost-append g first second = sum_by-append (price_of g) first second

pub walk_cost-units : (g : Ground) (n : ℕ) (v w : Node) → walk_cost g (units n v w) ≡ n
walk_cost-units g zero v w = refl
walk_cost-units g (suc n) v w =
    let u : Node = node_toward v w in
    omega (arith, sum_by-cons (price_of g) (Wire u) (units n u w), walk_cost-units g n u w)

walk_cost-leg : (g : Ground) (v : Node) (leg : Leg) → walk_cost g (steps_of_leg v leg) ≡ cost_of_leg g v leg
walk_cost-leg g v (Wire w) = walk_cost-units g (apart (place_of v) (place_of w)) v w
walk_cost-leg g v (Via k w) = omega (arith, sum_by-cons (price_of g) (Via k w) [])

pub walk_cost-legs : (g : Ground) (v : Node) (legs : List Leg) → walk_cost g (steps_of_legs v legs) ≡ cost_of_legs g v legs
walk_cost-legs g v [] = refl
walk_cost-legs g v (leg ∷ legs) =
    let w : Node = end_of leg in
    omega (arith, walk_cost-append g (steps_of_leg v leg) (steps_of_legs w legs), walk_cost-leg g v leg, walk_cost-legs g w legs)
