-- The boxes of layers between which a net's next connection is looked for: where it may start, and
-- where it may end.
use Rattle.std.specs.Prelude.{ℕ, ◌+◌, pos, List, [], ◌∷◌, ◌++◌, map, take, length, Option, Some, None, slice_get}
use Rattle.std.specs.List.{flat_map}
use Rattle.geo_rect.specs.declared.ids.LayerId.{LayerId}
use Rattle.geo_rect.specs.declared.ids.NetId.{NetId}
use Rattle.geo_rect.specs.declared.ids.Node.{Node}
use Rattle.geo_rect.specs.declared.ids.Spot.{Spot}
use Rattle.geo_rect.specs.declared.shapes.Rect.{Rect}
use Rattle.geo_rect.specs.Plane.{lone}
use Rattle.board_model.specs.declared.made.Conn.{Conn}
use Rattle.board_model.specs.declared.made.Leg.{Leg}
use Rattle.board_model.specs.declared.made.Leg.TheVariants.{Wire, Via}
use Rattle.board_parts.specs.declared.parts.BoardParts.{BoardParts}
use Rattle.board_parts.specs.declared.parts.Pin.{Pin}
use Rattle.board_parts.specs.Lookup.{kind_of, layers_from, pins_of}
use Rattle.board_model.specs.Made.{conns_of}
use Rattle.board_model.specs.Segments.{segment}
use Rattle.board_model.specs.Shapes.{place_of, end_of}

-- an area on a layer
abbrev pub spot_on : Rect → LayerId → Spot
spot_on area l = record { layer = l; area = area }

-- a pin has one box on each of its layers
abbrev pub pin_boxes : Pin → List Spot
pin_boxes p = map (spot_on p.area) (layers_from p.first p.last)

-- a leg from a node: of a wire its centre line, of a via its point on each layer of its kind's span
abbrev pub leg_boxes : BoardParts → Node → Leg → List Spot
leg_boxes b from (Wire to) = spot_on (segment (place_of from) (place_of to) (pos 0)) to.layer ∷ []
leg_boxes b from (Via k to) = map (spot_on (lone (place_of to))) (layers_from (kind_of b k).first (kind_of b k).last)

-- the boxes of legs that start in a node, leg by leg
abbrev pub legs_boxes : BoardParts → Node → List Leg → List Spot
legs_boxes b from [] = []
legs_boxes b from (leg ∷ legs) = leg_boxes b from leg ++ legs_boxes b (end_of leg) legs

-- the boxes of a connection that starts in a node: of its legs, or of the node where there are none
abbrev pub corner_boxes : BoardParts → Node → List Leg → List Spot
corner_boxes b start [] = spot_on (lone (place_of start)) start.layer ∷ []
corner_boxes b start (leg ∷ legs) = legs_boxes b start (leg ∷ legs)

abbrev pub conn_boxes : BoardParts → Conn → List Spot
conn_boxes b c = corner_boxes b c.start c.legs

-- where a net's next connection may start, after j of them are made: on the net's first j + 1 pins and on
-- what is made, both in their order
abbrev pub source_boxes : BoardParts → List (List Conn) → NetId → List Spot
source_boxes b lists n =
    flat_map pin_boxes (take (length (conns_of lists n) + 1) (pins_of b n)) ++ flat_map (conn_boxes b) (conns_of lists n)

-- the boxes of a pin, if it is one
abbrev pub boxes_of_some : Option Pin → List Spot
boxes_of_some None = []
boxes_of_some (Some p) = pin_boxes p

-- where a net's connection may end after j of them are made: on the net's pin number j, from 0
abbrev pub target_boxes : BoardParts → NetId → ℕ → List Spot
target_boxes b n j = boxes_of_some (slice_get (pins_of b n) j)
