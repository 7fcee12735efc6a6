-- The corners of a connection whose steps are a walk of the net are on the board.
use Rattle.std.proofs.Common.{ℤ, pos, ◌≤ℤ◌, List, [], ◌∷◌, All, arith}
use Rattle.std.proofs.lemmas.Int.{ints}
use Rattle.std.proofs.lemmas.List.Elements.{All-nil, All-cons}
use Rattle.geo_rect.specs.declared.ids.NetId.{NetId}
use Rattle.geo_rect.specs.declared.ids.Node.{Node}
use Rattle.geo_rect.specs.declared.shapes.Point.{Point}
use Rattle.geo_rect.specs.Plane.{HasPoint, lone}
use Rattle.board_model.specs.declared.made.Conn.{Conn}
use Rattle.board_model.specs.declared.made.Leg.{Leg}
use Rattle.board_model.specs.declared.made.Leg.TheVariants.{Wire, Via}
use Rattle.board_parts.specs.declared.parts.BoardParts.{BoardParts}
use Rattle.board_model.specs.declared.shapes.Shape.{Shape}
use Rattle.board_parts.specs.Rules.{IsBoard, IsOnBoard}
use Rattle.board_model.specs.Shapes.{place_of, end_of}
use Rattle.board_model.specs.WellFormed.{IsStep, AreSteps, IsWellFormed}
use Rattle.route_law.specs.Boards.{IsGroundOf}
use Rattle.route_law.specs.Connections.{steps_of}
use Rattle.route_law.specs.Ground.{Ground, IsPassableNode}
use Rattle.route_law.specs.Regular.{IsRegularNode, IsRegularLeg, IsRegularConn}
use Rattle.route_law.specs.Walks.{IsWalk}
use Rattle.route_law.proofs.Law.{first_passable}
use Rattle.step_laws.proofs.Legs.{AreClear, legs_clear}

not_left : (w h : ℤ) (p : Point) → IsOnBoard w h (lone p) → pos 0 ≤ℤ p.x
not_left w h p o = let a = o.left in omega (arith, ints)

not_below : (w h : ℤ) (p : Point) → IsOnBoard w h (lone p) → pos 0 ≤ℤ p.y
not_below w h p o = let a = o.below in omega (arith, ints)

module _ (b : BoardParts) (shapes : List Shape) (n : NetId) (g : Ground) (h : IsBoard b) (o : IsGroundOf b shapes n g) where
  -- a point of the region has no negative coordinate
  pub region_across : (p : Point) → HasPoint g.region p → pos 0 ≤ℤ p.x
  region_across p i = not_left b.width b.height p ((o.points p).0 i)

  pub region_up : (p : Point) → HasPoint g.region p → pos 0 ≤ℤ p.y
  region_up p i = not_below b.width b.height p ((o.points p).0 i)

  node_regular : (v : Node) → IsPassableNode g v → IsRegularNode b v
  node_regular v p = record {
    layer = omega (arith, p.on_layer, o.layers);
    across = region_across (place_of v) p.in_region;
    up = region_up (place_of v) p.in_region;
  }

  leg_regular : (v : Node) (leg : Leg) → IsStep b v leg → IsPassableNode g (end_of leg) → IsRegularLeg b leg
  leg_regular v (Wire w) s p = node_regular w p
  leg_regular v (Via k w) s p = (omega (arith, s.form.kind, h.kinds), node_regular w p)

  legs_regular : (v : Node) (legs : List Leg) → AreSteps b v legs → AreClear g v legs → All (IsRegularLeg b) legs
  legs_regular v [] s clear = All-nil (IsRegularLeg b)
  legs_regular v (leg ∷ legs) s clear =
      All-cons (IsRegularLeg b) leg legs (leg_regular v leg s.0 clear.1) (legs_regular (end_of leg) legs s.1 clear.2)

  pub conn_regular : (c : Conn) → IsWellFormed b c → IsWalk g c.start (steps_of c) → IsRegularConn b c
  conn_regular c w walk = record {
    start = node_regular c.start (first_passable g c.start (steps_of c) walk);
    legs = legs_regular c.start c.legs w.steps (legs_clear b g c.start c.legs w.steps walk);
  }
