-- What the words of a line say in their places.
use Rattle.std.specs.Prelude.{◌≡◌, ℕ, ℤ, pos, ◌+◌, ◌≤ℤ◌, ◌<◌, List, length}
use Rattle.std.specs.Fmt.{signed_decimal}
use Rattle.geo_rect.specs.declared.ids.ClassId.{ClassId}
use Rattle.geo_rect.specs.declared.ids.Node.{Node}
use Rattle.geo_rect.specs.declared.shapes.Rect.{Rect}
use Rattle.board_parts.specs.declared.parts.BoardParts.{BoardParts}
use Rattle.route_law.specs.Regular.{IsLayerOf}
use Rattle.board_parts.specs.Lookup.{layer_name}
use Rattle.reply_reader.specs.Forms.{word}
use Rattle.reply_reader.specs.InRange.{IsCoordinate}

-- the line has so many words, and this one first
pub record IsForm (words : List (List ℕ)) (first : List ℕ) (number : ℕ) : Type 0 where
  pub long : length words ≡ number
  pub keyword : word words 0 ≡ first

abbrev pub IsClassOf : BoardParts → ClassId → Type 0
IsClassOf b c = c.0 < length b.classes

-- the word in the place is this coordinate, which is not negative
pub record IsCoordinateAt (words : List (List ℕ)) (place : ℕ) (z : ℤ) : Type 0 where
  pub from : pos 0 ≤ℤ z
  pub to : IsCoordinate z
  pub spelled : signed_decimal z ≡ word words place

-- the four words from the place on are the corners of the rectangle
pub record IsAreaAt (words : List (List ℕ)) (place : ℕ) (r : Rect) : Type 0 where
  pub left : IsCoordinateAt words place r.x0
  pub below : IsCoordinateAt words (place + 1) r.y0
  pub right : IsCoordinateAt words (place + 2) r.x1
  pub above : IsCoordinateAt words (place + 3) r.y1

-- the three words from the place on are the node
pub record IsNodeAt (b : BoardParts) (words : List (List ℕ)) (place : ℕ) (v : Node) : Type 0 where
  pub across : IsCoordinateAt words place v.x
  pub up : IsCoordinateAt words (place + 1) v.y
  pub known : IsLayerOf b v.layer
  pub layer : layer_name b v.layer ≡ word words (place + 2)
