-- Where a pour of a net may flow inside a zone of a layer, and the list of boxes that it is.
use Rattle.std.specs.Prelude.{◌≡◌, ◌↔◌, List, [], ◌∷◌, Contains, Some, ⊤}
use Rattle.geo_rect.specs.declared.ids.ClassId.{ClassId}
use Rattle.geo_rect.specs.declared.ids.LayerId.{LayerId}
use Rattle.geo_rect.specs.declared.ids.NetId.{NetId}
use Rattle.geo_rect.specs.declared.ids.Node.{Node}
use Rattle.geo_rect.specs.declared.shapes.Point.{Point}
use Rattle.geo_rect.specs.declared.shapes.Rect.{Rect}
use Rattle.geo_rect.specs.Distance.{apart}
use Rattle.geo_rect.specs.Plane.{HasPoint, IsMeet, lone}
use Rattle.board_parts.specs.declared.parts.BoardParts.{BoardParts}
use Rattle.board_parts.specs.Lookup.{class_of}
use Rattle.board_parts.specs.Rules.{IsOnBoard}
use Rattle.board_model.specs.declared.shapes.Shape.{Shape}
use Rattle.board_model.specs.Labels.{IsPassable, label_among, wire_plane}
use Rattle.plane_core.specs.declared.strips.Strip.{Strip}
use Rattle.plane_core.specs.Choice.{IsChoice}
use Rattle.plane_core.specs.Strips.{AreStrips}

-- the node on a layer at a place
abbrev pub node_on : LayerId → Point → Node
node_on l p = record { x = p.x; y = p.y; layer = l }

-- the point lies in the zone, and a wire of the net may pass it on the layer
pub record IsOpen (b : BoardParts) (shapes : List Shape) (n : NetId) (l : LayerId) (zone : Rect) (p : Point) : Type 0 where
  pub in_zone : HasPoint zone p
  pub passable : IsPassable b shapes n (node_on l p)

-- one of the shapes is the net's, on the layer, and has the point
pub record IsInOwnShape (shapes : List Shape) (n : NetId) (l : LayerId) (p : Point) : Type 0 where
  pub shape : Shape
  pub listed : Contains shapes shape
  pub owned : shape.owner ≡ Some n
  pub on_layer : shape.layer ≡ l
  pub has_point : HasPoint shape.area p

-- p and the points after it are allowed, each of them one unit step from the one before
abbrev pub IsWay : (Point → Type 0) → Point → List Point → Type 0
IsWay IsAllowed p [] = IsAllowed p
IsWay IsAllowed p (q ∷ qs) = IsAllowed p × (apart p q ≡ 1) × IsWay IsAllowed q qs

-- the last of the points, or p where there are none
abbrev pub end_of_way : Point → List Point → Point
end_of_way p [] = p
end_of_way p (q ∷ qs) = end_of_way q qs

-- a way of allowed points leads to p from one that is a start
pub record IsReachedBy (IsStart IsAllowed : Point → Type 0) (p : Point) : Type 0 where
  pub start : Point
  pub starts : IsStart start
  pub points : List Point
  pub way : IsWay IsAllowed start points
  pub ends : end_of_way start points ≡ p

-- a way of open points leads to p from one in a shape of the net on the layer
abbrev pub IsReached : BoardParts → List Shape → NetId → LayerId → Rect → Point → Type 0
IsReached b shapes n l zone p = IsReachedBy (IsInOwnShape shapes n l) (IsOpen b shapes n l zone) p

-- the strip has a reached point
pub record HasReached (b : BoardParts) (shapes : List Shape) (n : NetId) (l : LayerId) (zone : Rect) (s : Strip) : Type 0 where
  pub point : Point
  pub reached : IsReached b shapes n l zone point
  pub has_point : HasPoint s.area point

-- the strips of a class's wire plane on a layer: those of the points of the board, each with its label among
-- the shapes
pub record AreStripsAmong (b : BoardParts) (shapes : List Shape) (l : LayerId) (c : ClassId) (strips : List Strip) : Type 0 where
  pub area : Rect
  pub points : (p : Point) → HasPoint area p ↔ IsOnBoard b.width b.height (lone p)
  pub strips_of_labels : AreStrips area (label_among b (wire_plane b l c) shapes) strips

-- the boxes are what the zone has of the strips, one for each, in their order
abbrev pub AreParts : Rect → List Strip → List Rect → Type 0
AreParts zone [] [] = ⊤
AreParts zone [] (r ∷ rs) = ⊥
AreParts zone (s ∷ ss) [] = ⊥
AreParts zone (s ∷ ss) (r ∷ rs) = IsMeet zone s.area r × AreParts zone ss rs

-- the pour of a net in a zone of a layer, among the shapes: what the zone has of those strips of the wire plane
-- of the net's class that have a reached point, in the order of the strips
pub record IsPour (b : BoardParts) (shapes : List Shape) (n : NetId) (l : LayerId) (zone : Rect) (boxes : List Rect) : Type 0 where
  pub strips : List Strip
  pub all : AreStripsAmong b shapes l (class_of b n) strips
  pub chosen : List Strip
  pub choice : IsChoice strips (HasReached b shapes n l zone) chosen
  pub parts : AreParts zone chosen boxes
