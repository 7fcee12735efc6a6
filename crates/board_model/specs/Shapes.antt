-- The shapes of a state, in their order: blockages, pins on each of their layers, connections.
use Rattle.std.specs.Prelude.{ℕ, ◌+◌, List, [], ◌∷◌, ◌++◌, map, Some, None}
use Rattle.std.specs.List.{flat_map}
use Rattle.geo_rect.specs.declared.ids.KindId.{KindId}
use Rattle.geo_rect.specs.declared.ids.LayerId.{LayerId}
use Rattle.geo_rect.specs.declared.ids.NetId.{NetId}
use Rattle.geo_rect.specs.declared.ids.Node.{Node}
use Rattle.geo_rect.specs.declared.shapes.Point.{Point}
use Rattle.geo_rect.specs.declared.shapes.Rect.{Rect}
use Rattle.geo_rect.specs.Plane.{square}
use Rattle.board_parts.specs.declared.parts.BoardParts.{BoardParts}
use Rattle.board_parts.specs.declared.parts.Block.{Block}
use Rattle.board_parts.specs.declared.parts.Pin.{Pin}
use Rattle.board_model.specs.declared.made.Conn.{Conn}
use Rattle.board_model.specs.declared.made.Leg.{Leg}
use Rattle.board_model.specs.declared.made.Leg.TheVariants.{Wire, Via}
use Rattle.board_model.specs.declared.shapes.Shape.{Shape}
use Rattle.board_parts.specs.Lookup.{rule_of, pad_on, kind_of, class_of, layers_from}
use Rattle.board_model.specs.Segments.{segment}

-- where a node stands on its layer
abbrev pub place_of : Node → Point
place_of n = record { x = n.x; y = n.y }

-- a blockage belongs to no net
abbrev pub block_shape : Block → Shape
block_shape k = record { area = k.area; layer = k.layer; owner = None }

-- a net's rectangle on a layer
abbrev pub net_shape : NetId → Rect → LayerId → Shape
net_shape n area l = record { area = area; layer = l; owner = Some n }

-- a pin, on each of its layers from the first to the last
abbrev pub pin_shapes : Pin → List Shape
pin_shapes p = map (net_shape p.net p.area) (layers_from p.first p.last)

-- the node in which a leg ends
abbrev pub end_of : Leg → Node
end_of (Wire to) = to
end_of (Via k to) = to

-- the pad on a layer of a via of a net
abbrev pub via_shape : BoardParts → NetId → KindId → Point → LayerId → Shape
via_shape b n k p l = net_shape n (square p (pad_on b k (class_of b n) l)) l

-- a wire has one rectangle; a via has a pad on each layer of its span and no wire
abbrev pub leg_shapes : BoardParts → NetId → Node → Leg → List Shape
leg_shapes b n from (Wire to) =
    net_shape n (segment (place_of from) (place_of to) (rule_of b to.layer (class_of b n)).half) to.layer ∷ []
leg_shapes b n from (Via k to) =
    map (via_shape b n k (place_of to)) (layers_from (kind_of b k).first (kind_of b k).last)

-- the shapes of legs that start in a node, leg by leg
abbrev pub legs_shapes : BoardParts → NetId → Node → List Leg → List Shape
legs_shapes b n from [] = []
legs_shapes b n from (leg ∷ legs) = leg_shapes b n from leg ++ legs_shapes b n (end_of leg) legs

-- a connection without legs has no shape
abbrev pub conn_shapes : BoardParts → NetId → Conn → List Shape
conn_shapes b n c = legs_shapes b n c.start c.legs

-- the shapes of the connections of the nets from number n on, net by net
abbrev pub made_shapes : BoardParts → ℕ → List (List Conn) → List Shape
made_shapes b n [] = []
made_shapes b n (conns ∷ lists) = flat_map (conn_shapes b (record { 0 = n })) conns ++ made_shapes b (n + 1) lists

-- the shapes of a board alone: its blockages, then its pins, in the order of the text
abbrev pub board_shapes : BoardParts → List Shape
board_shapes b = map block_shape b.blocks ++ flat_map pin_shapes b.pins

-- the shapes of a board with the connections that are made, a list for each net
abbrev pub state_shapes : BoardParts → List (List Conn) → List Shape
state_shapes b lists = board_shapes b ++ made_shapes b 0 lists
