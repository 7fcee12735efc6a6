-- The text that tells a pour: lines that end with one line feed, words with one space between them, numbers in
-- decimal, and names as the board has them.
use Rattle.std.specs.Prelude.{ℕ, ◌++◌, List, length, codes, decimal}
use Rattle.std.specs.List.{flat_map}
use Rattle.geo_rect.specs.declared.ids.LayerId.{LayerId}
use Rattle.geo_rect.specs.declared.ids.NetId.{NetId}
use Rattle.geo_rect.specs.declared.shapes.Rect.{Rect}
use Rattle.board_parts.specs.declared.parts.BoardParts.{BoardParts}
use Rattle.board_parts.specs.Lookup.{layer_name, net_name}
use Rattle.reply_text.specs.Texts.{area_text}

-- the first line: the net, the layer, and how many boxes there are
unfoldable pub fill_line : BoardParts → NetId → LayerId → ℕ → List ℕ
fill_line b n l boxes = codes "fill " ++ net_name b n ++ codes " " ++ layer_name b l ++ codes " " ++ decimal boxes ++ codes "\n"

-- a line for a box
unfoldable pub box_line : Rect → List ℕ
box_line r = codes "box" ++ area_text r ++ codes "\n"

-- the first line, and a line for each box
unfoldable pub fill_text : BoardParts → NetId → LayerId → List Rect → List ℕ
fill_text b n l boxes = fill_line b n l (length boxes) ++ flat_map box_line boxes
