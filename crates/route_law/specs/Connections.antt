-- The walk that a connection stands for: each of its wires unit by unit.
use Rattle.std.specs.Prelude.{ℕ, ℤ, pos, ◌≡◌, ◌+◌, ◌+ℤ◌, ◌-ℤ◌, ◌⊎◌, int_lt, if◌then◌else◌, List, [], ◌∷◌, ◌++◌}
use Rattle.std.proofs.Common.{zero, suc}
use Rattle.geo_rect.specs.declared.ids.Node.{Node}
use Rattle.geo_rect.specs.Distance.{apart}
use Rattle.board_model.specs.declared.made.Conn.{Conn}
use Rattle.board_model.specs.declared.made.Leg.{Leg}
use Rattle.board_model.specs.declared.made.Leg.TheVariants.{Wire, Via}
use Rattle.board_model.specs.Shapes.{place_of, end_of}
use Rattle.route_law.specs.Ground.{Ground}

-- the number one unit from x on the way to y
abbrev pub toward : ℤ → ℤ → ℤ
toward x y = if int_lt x y then x +ℤ pos 1 else (if int_lt y x then x -ℤ pos 1 else x)

-- the node one unit from v on the straight way to w
abbrev pub node_toward : Node → Node → Node
node_toward v w = record { x = toward v.x w.x; y = toward v.y w.y; layer = v.layer }

-- the first n units of the straight way from v to w
abbrev pub units : ℕ → Node → Node → List Leg
units zero v w = []
units (suc n) v w = Wire (node_toward v w) ∷ units n (node_toward v w) w

-- the steps of a leg that starts in v: a wire's are its units, and a via is one step
abbrev pub steps_of_leg : Node → Leg → List Leg
steps_of_leg v (Wire w) = units (apart (place_of v) (place_of w)) v w
steps_of_leg v (Via k w) = Via k w ∷ []

-- the steps of legs of which the first starts in v
abbrev pub steps_of_legs : Node → List Leg → List Leg
steps_of_legs v [] = []
steps_of_legs v (leg ∷ legs) = steps_of_leg v leg ++ steps_of_legs (end_of leg) legs

-- the steps of a connection
abbrev pub steps_of : Conn → List Leg
steps_of c = steps_of_legs c.start c.legs

-- what a leg that starts in v costs: a wire its length, a via what its kind is charged
abbrev pub cost_of_leg : Ground → Node → Leg → ℕ
cost_of_leg g v (Wire w) = apart (place_of v) (place_of w)
cost_of_leg g v (Via k w) = (g.kind k).charge

-- what legs cost together, of which the first starts in v
abbrev pub cost_of_legs : Ground → Node → List Leg → ℕ
cost_of_legs g v [] = 0
cost_of_legs g v (leg ∷ legs) = cost_of_leg g v leg + cost_of_legs g (end_of leg) legs

-- v and w are on one layer, and in one column or one row
pub record IsStraight (v w : Node) : Type 0 where
  pub same_layer : w.layer ≡ v.layer
  pub in_line : (w.x ≡ v.x) ⊎ (w.y ≡ v.y)
