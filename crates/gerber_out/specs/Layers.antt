-- The text of a layer: the copper on it that belongs to nets.
use Rattle.std.specs.Prelude.{◌≡◌, ℕ, ◌==◌, pos, int_lt, Bool, true, false, ◌&&◌, if◌then◌else◌, List, [], ◌∷◌, ◌++◌, Option, Some, None}
use Rattle.std.specs.List.{flat_map}
use Rattle.geo_rect.specs.declared.ids.LayerId.{LayerId}
use Rattle.geo_rect.specs.declared.ids.NetId.{NetId}
use Rattle.geo_rect.specs.declared.shapes.Rect.{Rect}
use Rattle.board_parts.specs.Rules.{IsOnBoard}
use Rattle.board_model.specs.declared.shapes.Shape.{Shape}
use Rattle.gerber_out.specs.declared.spelling.Line.{Line}
use Rattle.gerber_out.specs.declared.spelling.Line.TheVariants.{Plain, Draw}
use Rattle.gerber_out.specs.declared.spelling.Pen.TheVariants.{Up, Down}
use Rattle.gerber_out.specs.declared.spelling.Word.TheVariants.{Format, Measure, Polarity, Linear, Begin, Close, End}
use Rattle.gerber_out.specs.Contours.{corner_at}
use Rattle.gerber_out.specs.Spelling.{line_text}

abbrev pub has_owner : Option NetId → Bool
has_owner None = false
has_owner (Some n) = true

-- whether the rectangle is more than a line or a point
abbrev pub has_area : Rect → Bool
has_area r = int_lt r.x0 r.x1 && int_lt r.y0 r.y1

-- whether the shape is on the layer, belongs to a net, and has area
abbrev pub is_wanted : LayerId → Shape → Bool
is_wanted l s = s.layer.0 == l.0 && has_owner s.owner && has_area s.area

abbrev pub wanted_of : LayerId → Shape → List Rect
wanted_of l s = if is_wanted l s then s.area ∷ [] else []

-- the rectangles of the shapes that are wanted, in order
abbrev pub wanted : LayerId → List Shape → List Rect
wanted l shapes = flat_map (wanted_of l) shapes

-- the lines of a region: its contour, drawn from corner to corner
abbrev pub region : Rect → List Line
region r =
    Plain Begin ∷ Draw Up (corner_at r.x0 r.y0) ∷ Draw Down (corner_at r.x1 r.y0) ∷ Draw Down (corner_at r.x1 r.y1)
    ∷ Draw Down (corner_at r.x0 r.y1) ∷ Draw Down (corner_at r.x0 r.y0) ∷ Plain Close ∷ []

abbrev pub lines_text : List Line → List ℕ
lines_text ls = flat_map line_text ls

unfoldable pub region_text : Rect → List ℕ
region_text r = lines_text (region r)

abbrev pub first_lines : List Line
first_lines = Plain Format ∷ Plain Measure ∷ Plain Polarity ∷ Plain Linear ∷ []

unfoldable pub first_text : List ℕ
first_text = lines_text first_lines

-- the text in which these rectangles are filled
abbrev pub areas_text : List Rect → List ℕ
areas_text areas = first_text ++ flat_map region_text areas ++ line_text (Plain End)

-- the coordinates of a shape that is wanted are from 0 to 9,999,999
abbrev pub IsWritable : LayerId → Shape → Type 0
IsWritable l s = is_wanted l s ≡ true → IsOnBoard (pos 9999999) (pos 9999999) s.area
