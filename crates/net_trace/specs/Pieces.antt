-- The pieces of copper of a state, in the order of its shapes: pins, then legs of connections.
use Rattle.std.specs.Prelude.{ℕ, ◌+◌, List, [], ◌∷◌, ◌++◌, map}
use Rattle.std.specs.List.{flat_map}
use Rattle.geo_rect.specs.declared.ids.LayerId.{LayerId}
use Rattle.geo_rect.specs.declared.ids.NetId.{NetId}
use Rattle.geo_rect.specs.declared.ids.Node.{Node}
use Rattle.geo_rect.specs.declared.ids.Spot.{Spot}
use Rattle.board_model.specs.declared.made.Conn.{Conn}
use Rattle.board_model.specs.declared.made.Leg.{Leg}
use Rattle.board_model.specs.declared.made.Leg.TheVariants.{Wire, Via}
use Rattle.board_parts.specs.declared.parts.BoardParts.{BoardParts}
use Rattle.board_parts.specs.declared.parts.Pin.{Pin}
use Rattle.board_model.specs.declared.shapes.Shape.{Shape}
use Rattle.board_model.specs.Boxes.{pin_boxes}
use Rattle.board_parts.specs.Lookup.{kind_of}
use Rattle.board_model.specs.Shapes.{leg_shapes, end_of}
use Rattle.net_trace.specs.declared.copper.Piece.{Piece}

-- where a shape is
abbrev pub spot_of : Shape → Spot
spot_of s = record { layer = s.layer; area = s.area }

-- a pin is one piece, with its area on each of its layers
abbrev pub pin_piece : Pin → Piece
pin_piece p = record { net = p.net; first = p.first; last = p.last; area = pin_boxes p }

-- the first layer of a leg
abbrev pub first_layer : BoardParts → Leg → LayerId
first_layer b (Wire to) = to.layer
first_layer b (Via k to) = (kind_of b k).first

-- the last layer of a leg
abbrev pub last_layer : BoardParts → Leg → LayerId
last_layer b (Wire to) = to.layer
last_layer b (Via k to) = (kind_of b k).last

-- a leg from a node is one piece: the rectangle of its wire, or the pads of its via
abbrev pub leg_piece : BoardParts → NetId → Node → Leg → Piece
leg_piece b n from leg = record {
  net = n;
  first = first_layer b leg;
  last = last_layer b leg;
  area = map spot_of (leg_shapes b n from leg);
}

-- the pieces of legs that start in a node, leg by leg
abbrev pub legs_pieces : BoardParts → NetId → Node → List Leg → List Piece
legs_pieces b n from [] = []
legs_pieces b n from (leg ∷ legs) = leg_piece b n from leg ∷ legs_pieces b n (end_of leg) legs

-- a connection without legs has no piece
abbrev pub conn_pieces : BoardParts → NetId → Conn → List Piece
conn_pieces b n c = legs_pieces b n c.start c.legs

-- the pieces of the connections of the nets from number n on, net by net
abbrev pub made_pieces : BoardParts → ℕ → List (List Conn) → List Piece
made_pieces b n [] = []
made_pieces b n (conns ∷ lists) = flat_map (conn_pieces b (record { 0 = n })) conns ++ made_pieces b (n + 1) lists

-- the pieces of a board with the connections that are made, a list for each net
abbrev pub pieces_of : BoardParts → List (List Conn) → List Piece
pieces_of b lists = map pin_piece b.pins ++ made_pieces b 0 lists
