-- A right certificate bounds every walk: by induction on the steps.
use Rattle.std.proofs.Common.{ℕ, ◌≡◌, ◌+◌, refl, List, [], ◌∷◌, Option, Some, None, IfSome, IfNone, arith}
use Rattle.std.proofs.lemmas.List.Sums.{sum_by-cons}
use Rattle.geo_rect.specs.declared.ids.Node.{Node}
use Rattle.geo_rect.specs.declared.ids.Spot.{Spot}
use Rattle.board_model.specs.declared.made.Leg.{Leg}
use Rattle.board_model.specs.declared.made.Leg.TheVariants.{Wire, Via}
use Rattle.board_model.specs.Shapes.{end_of}
use Rattle.route_law.specs.declared.certs.Cert.{Cert}
use Rattle.route_law.specs.Ground.{Ground, IsGround, IsPassableNode}
use Rattle.route_law.specs.Right.{IsRight, IsBoundOf}
use Rattle.route_law.specs.Walks.{IsStep, price_of, IsWalk, last_node, walk_cost, IsJoiningWalk, IsLowerBound, HasNoJoiningWalk}
use Rattle.route_law.proofs.Bounds.{IsBounded, bounded_more, start_bounded}
use Rattle.route_law.proofs.Ends.{end_bound, no_end}
use Rattle.route_law.proofs.StepBounds.{unit_bounded, via_bounded}

-- a walk begins in a node that the net may pass
pub first_passable : (g : Ground) (v : Node) (steps : List Leg) → IsWalk g v steps → IsPassableNode g v
first_passable g v [] h = h
first_passable g v (step ∷ steps) h = h.0

module _ (g : Ground) (sources targets : List Spot) (cert : Cert) (ground : IsGround g) (right : IsRight g sources targets cert) where
  step_bounded : (v : Node) (step : Leg) (c : ℕ) → IsStep g v step → IsPassableNode g (end_of step) → IsBounded targets cert v c → IsBounded targets cert (end_of step) (c + price_of g step)
  step_bounded v (Wire w) c s p b = unit_bounded g sources targets cert ground right v w c s p b
  step_bounded v (Via k w) c s p b = via_bounded g sources targets cert ground right v w c k s p b

  walk_bounded : (v : Node) (steps : List Leg) (c : ℕ) → IsWalk g v steps → IsBounded targets cert v c → IsBounded targets cert (last_node v steps) (c + walk_cost g steps)
  walk_bounded v [] c h b = bounded_more targets cert v c (c + walk_cost g []) (omega arith) b
  walk_bounded v (step ∷ steps) c h b =
      let w : Node = end_of step in
      let next = step_bounded v step c h.1 (first_passable g w steps h.2) b in
      bounded_more targets cert (last_node w steps) ((c + price_of g step) + walk_cost g steps) (c + walk_cost g (step ∷ steps)) (omega (arith, sum_by-cons (price_of g) step steps))
      (walk_bounded w steps (c + price_of g step) h.2 next)

  -- the end of a joining walk is bounded by the walk's cost
  joined_bounded : (start : Node) (steps : List Leg) → IsJoiningWalk g sources targets start steps → IsBounded targets cert (last_node start steps) (walk_cost g steps)
  joined_bounded start steps j =
      let b = start_bounded g sources targets cert start ground right j.starts (first_passable g start steps j.walk) in
      bounded_more targets cert (last_node start steps) (0 + walk_cost g steps) (walk_cost g steps) (omega arith) (walk_bounded start steps 0 j.walk b)

  bound_by : (o : Option ℕ) → cert.bound ≡ o → IsBoundOf targets cert.entries o → IfSome o (λ d. IsLowerBound g sources targets d)
  bound_by None e h = tt
  bound_by (Some d) e h = λ start steps j. end_bound targets cert (last_node start steps) (walk_cost g steps) d e h j.ends (joined_bounded start steps j)

  none_by : (o : Option ℕ) → cert.bound ≡ o → IsBoundOf targets cert.entries o → IfNone o (HasNoJoiningWalk g sources targets)
  none_by None e h = λ start steps j. no_end targets cert (last_node start steps) (walk_cost g steps) e h j.ends (joined_bounded start steps j)
  none_by (Some d) e h = tt

  pub bounds_each_walk : IfSome cert.bound (λ d. IsLowerBound g sources targets d)
  bounds_each_walk = bound_by cert.bound refl right.bound

  pub leaves_no_walk : IfNone cert.bound (HasNoJoiningWalk g sources targets)
  leaves_no_walk = none_by cert.bound refl right.bound
