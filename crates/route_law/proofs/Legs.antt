-- The steps of legs end where the legs do, and a walk along steps is one along the first and then the rest.
use Rattle.std.proofs.Common.{◌≡◌, ◌⊎◌, inl, inr, List, [], ◌∷◌, ◌++◌, refl, sym, ap, ◌∙◌}
use Rattle.geo_rect.specs.declared.ids.Node.{Node}
use Rattle.board_parts.specs.declared.parts.BoardParts.{BoardParts}
use Rattle.board_model.specs.declared.made.Leg.{Leg}
use Rattle.board_model.specs.declared.made.Leg.TheVariants.{Wire, Via}
use Rattle.board_model.specs.Shapes.{place_of, end_of}
use Rattle.board_model.specs.WellFormed.{IsInLine, across, up, IsWire, IsStep, AreSteps}
use Rattle.route_law.specs.Connections.{steps_of_leg, steps_of_legs, IsStraight}
use Rattle.route_law.specs.Ground.{Ground}
use Rattle.route_law.specs.Walks.{IsWalk, last_node}
use Rattle.route_law.proofs.Joining.{last_node-append}
use Rattle.route_law.proofs.Wires.{wire_end}

in_line : (v w : Node) → IsInLine (place_of v) (place_of w) → (w.x ≡ v.x) ⊎ (w.y ≡ v.y)
in_line v w (across n e) = inr (sym e)
in_line v w (up e n) = inl (sym e)

pub straight_wire : (v w : Node) → IsWire v w → IsStraight v w
straight_wire v w h = record { same_layer = sym h.layer; in_line = in_line v w h.line }

pub leg_end : (b : BoardParts) (v : Node) (leg : Leg) → IsStep b v leg → last_node v (steps_of_leg v leg) ≡ end_of leg
leg_end b v (Wire w) s = wire_end v w (straight_wire v w s.form)
leg_end b v (Via k w) s = refl

pub legs_end : (b : BoardParts) (v : Node) (legs : List Leg) → AreSteps b v legs → last_node v (steps_of_legs v legs) ≡ last_node v legs
legs_end b v [] s = refl
legs_end b v (leg ∷ legs) s =
    let rest : List Leg = steps_of_legs (end_of leg) legs in
    last_node-append v (steps_of_leg v leg) rest ∙ ap (λ (u : Node). last_node u rest) (leg_end b v leg s.0) ∙ legs_end b (end_of leg) legs s.1

pub walk_parts : (g : Ground) (v : Node) (first second : List Leg) → IsWalk g v (first ++ second) → IsWalk g v first × IsWalk g (last_node v first) second
walk_parts g v [] [] h = (h, h)
walk_parts g v [] (leg ∷ legs) h = (h.0, h)
walk_parts g v (leg ∷ legs) second h = let k = walk_parts g (end_of leg) legs second h.2 in ((h.0, h.1, k.0), k.1)
