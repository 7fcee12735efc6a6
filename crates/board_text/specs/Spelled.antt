-- The text of a board and commands: lines that end with one line feed, words with one space between them,
-- numbers in decimal, and names as the board has them.
use Rattle.std.specs.Prelude.{◌≡◌, ℕ, ℤ, pos, ◌-◌, ◌<◌, ◌≤ℤ◌, if◌then◌else◌, Bool, true, false, List, [], ◌∷◌, ◌++◌, length, codes, decimal}
use Rattle.std.specs.List.{flat_map, range_with_len}
use Rattle.std.specs.Fmt.{signed_decimal}
use Rattle.std.specs.Int.{int_max}
use Rattle.std.specs.Ordering.{int_eq}
use Rattle.geo_rect.specs.declared.ids.ClassId.{ClassId}
use Rattle.geo_rect.specs.declared.ids.KindId.{KindId}
use Rattle.geo_rect.specs.declared.ids.LayerId.{LayerId}
use Rattle.geo_rect.specs.declared.ids.NetId.{NetId}
use Rattle.geo_rect.specs.declared.shapes.Rect.{Rect}
use Rattle.board_parts.specs.declared.commands.Command.{Command}
use Rattle.board_parts.specs.declared.commands.Command.TheVariants.{Route, All, Rip, Show, Rules, Strips}
use Rattle.board_parts.specs.declared.parts.Block.{Block}
use Rattle.board_parts.specs.declared.parts.BoardParts.{BoardParts}
use Rattle.board_parts.specs.declared.parts.Keepout.{Keepout}
use Rattle.board_parts.specs.declared.parts.Pin.{Pin}
use Rattle.board_parts.specs.Lookup.{rule_of, gap_of, pad_of, inner_of, kind_of, class_of, layer_at, layer_name, class_name, kind_name, net_name}
use Rattle.board_reader.specs.declared.forms.Form.{Form}
use Rattle.board_reader.specs.declared.forms.Form.TheVariants as form
use Rattle.board_reader.specs.Forms.{spelling}
use Rattle.board_reader.specs.Reading.{Told}
use Rattle.board_text.specs.declared.spelling.Version.{Version}
use Rattle.board_text.specs.declared.spelling.Version.TheVariants.{First, Second}

-- the class, the kind and the net of a number
abbrev pub class_at : ℕ → ClassId
class_at n = record { 0 = n }

abbrev pub kind_at : ℕ → KindId
kind_at n = record { 0 = n }

abbrev pub net_at : ℕ → NetId
net_at n = record { 0 = n }

-- a word behind a space
abbrev pub spaced : List ℕ → List ℕ
spaced w = codes " " ++ w

-- a line: the first word of its form, each other word behind a space, and a line feed
unfoldable pub line : Form → List (List ℕ) → List ℕ
line f ws = spelling f ++ flat_map spaced ws ++ codes "\n"

-- the four numbers of a rectangle, and then other words
abbrev pub corners_and : Rect → List (List ℕ) → List (List ℕ)
corners_and r ws = signed_decimal r.x0 ∷ signed_decimal r.y0 ∷ signed_decimal r.x1 ∷ signed_decimal r.y1 ∷ ws

-- how the first line writes the version
abbrev pub version_word : Version → List ℕ
version_word First = codes "1"
version_word Second = codes "2"

-- the first line: the version, the name, the width and the height
abbrev pub board_line : Version → BoardParts → List ℕ
board_line v b = line form.Board (version_word v ∷ b.name ∷ signed_decimal b.width ∷ signed_decimal b.height ∷ [])

abbrev pub layer_line : List ℕ → List ℕ
layer_line name = line form.Layer (name ∷ [])

abbrev pub class_line : List ℕ → List ℕ
class_line name = line form.Class (name ∷ [])

-- the line of the rule of a layer and a class
abbrev pub rule_line : BoardParts → LayerId → ClassId → List ℕ
rule_line b l c = line form.Rule (layer_name b l ∷ class_name b c ∷ signed_decimal (rule_of b l c).half ∷ signed_decimal (rule_of b l c).gap ∷ [])

-- the lines of the rules of a layer, by classes
abbrev pub rule_lines : BoardParts → LayerId → List ℕ
rule_lines b l = flat_map (λ c. rule_line b l (class_at c)) (range_with_len 0 (length b.classes))

-- the gap that two classes keep on a layer where no line gives it: the greater of their rules' gaps
abbrev pub greater_gap : BoardParts → LayerId → ClassId → ClassId → ℤ
greater_gap b l c d = int_max (rule_of b l c).gap (rule_of b l d).gap

-- the line of the gap of two classes on a layer, where it is not the greater of their rules' gaps
abbrev pub clear_line : BoardParts → LayerId → ClassId → ClassId → List ℕ
clear_line b l c d =
    if int_eq (gap_of b l c d) (greater_gap b l c d) then []
    else line form.Clear (layer_name b l ∷ class_name b c ∷ class_name b d ∷ signed_decimal (gap_of b l c d) ∷ [])

-- those of a class on a layer with itself and with each class after it
abbrev pub class_clear_lines : BoardParts → LayerId → ClassId → List ℕ
class_clear_lines b l c = flat_map (λ d. clear_line b l c (class_at d)) (range_with_len c.0 (length b.classes - c.0))

-- those of a layer, by classes
abbrev pub layer_clear_lines : BoardParts → LayerId → List ℕ
layer_clear_lines b l = flat_map (λ c. class_clear_lines b l (class_at c)) (range_with_len 0 (length b.classes))

-- those of each layer
unfoldable pub clear_lines : BoardParts → List ℕ
clear_lines b = flat_map (λ l. layer_clear_lines b (layer_at l)) (range_with_len 0 (length b.layers))

-- the line of a kind of via
abbrev pub kind_line : BoardParts → KindId → List ℕ
kind_line b k =
    line form.ViaKind (kind_name b k ∷ layer_name b (kind_of b k).first ∷ layer_name b (kind_of b k).last ∷ decimal (kind_of b k).charge ∷ [])

-- the line of the pad of a kind and a class
abbrev pub pad_line : BoardParts → KindId → ClassId → List ℕ
pad_line b k c = line form.Pad (kind_name b k ∷ class_name b c ∷ signed_decimal (pad_of b k c) ∷ [])

-- the lines of the pads of a kind, by classes
abbrev pub pad_lines : BoardParts → KindId → List ℕ
pad_lines b k = flat_map (λ c. pad_line b k (class_at c)) (range_with_len 0 (length b.classes))

-- the line of the inner pad of a kind and a class, where it is not the pad
abbrev pub inner_line : BoardParts → KindId → ClassId → List ℕ
inner_line b k c =
    if int_eq (inner_of b k c) (pad_of b k c) then []
    else line form.Inner (kind_name b k ∷ class_name b c ∷ signed_decimal (inner_of b k c) ∷ [])

-- those of a kind, by classes
abbrev pub inner_lines : BoardParts → KindId → List ℕ
inner_lines b k = flat_map (λ c. inner_line b k (class_at c)) (range_with_len 0 (length b.classes))

abbrev pub block_line : BoardParts → Block → List ℕ
block_line b k = line form.Block (layer_name b k.layer ∷ corners_and k.area [])

-- how a line writes what a keep-out keeps out
abbrev pub kept_out : Bool → List ℕ
kept_out true = codes "wires"
kept_out false = codes "vias"

abbrev pub keepout_line : BoardParts → Keepout → List ℕ
keepout_line b k = line form.Keepout (kept_out k.wires ∷ layer_name b k.layer ∷ corners_and k.area [])

-- the line of a net: its name, and that of its class
abbrev pub net_line : BoardParts → NetId → List ℕ
net_line b n = line form.Net (net_name b n ∷ class_name b (class_of b n) ∷ [])

-- where a pin is: its corners, and the first and the last of its layers
abbrev pub place_words : BoardParts → Pin → List (List ℕ)
place_words b p = corners_and p.area (layer_name b p.first ∷ layer_name b p.last ∷ [])

abbrev pub pin_line : BoardParts → Pin → List ℕ
pin_line b p = line form.Pin (net_name b p.net ∷ place_words b p)

abbrev pub command_line : BoardParts → Command → List ℕ
command_line b (Route n) = line form.Route (net_name b n ∷ [])
command_line b All = line form.All []
command_line b (Rip n) = line form.Rip (net_name b n ∷ [])
command_line b (Show n) = line form.Show (net_name b n ∷ [])
command_line b Rules = line form.Rules []
command_line b (Strips l c) = line form.Strips (layer_name b l ∷ class_name b c ∷ [])

-- the lines of the layers, the classes, and for each layer and in it each class its rule
unfoldable pub wire_lines : BoardParts → List ℕ
wire_lines b =
    flat_map layer_line b.layers ++ flat_map class_line b.classes ++ flat_map (λ l. rule_lines b (layer_at l)) (range_with_len 0 (length b.layers))

-- the lines of the kinds, and for each kind and in it each class its pad, and then its inner pad
unfoldable pub via_lines : BoardParts → List ℕ
via_lines b =
    flat_map (λ k. kind_line b (kind_at k)) (range_with_len 0 (length b.kinds)) ++ flat_map (λ k. pad_lines b (kind_at k)) (range_with_len 0 (length b.kinds))
    ++ flat_map (λ k. inner_lines b (kind_at k)) (range_with_len 0 (length b.kinds))

-- the lines of the blockages, the keep-outs, the nets and the pins
unfoldable pub item_lines : BoardParts → List ℕ
item_lines b =
    flat_map (block_line b) b.blocks ++ flat_map (keepout_line b) b.keepouts ++ flat_map (λ n. net_line b (net_at n)) (range_with_len 0 (length b.net_names)) ++ flat_map (pin_line b) b.pins

-- the text of a board and of commands, in a version
unfoldable pub spelled : Version → BoardParts → List Command → List ℕ
spelled v b cs =
    board_line v b ++ wire_lines b ++ clear_lines b ++ via_lines b ++ item_lines b ++ line form.End [] ++ flat_map (command_line b) cs

-- the board fits a text of the first version: it is not too large, and two classes keep the greater of their rules' gaps
pub record IsOfFirstVersion (b : BoardParts) : Type 0 where
  pub width : b.width ≤ℤ pos 1048576
  pub height : b.height ≤ℤ pos 1048576
  pub gaps : (l : LayerId) (c d : ClassId) → l.0 < length b.layers → c.0 < length b.classes → d.0 < length b.classes → gap_of b l c d ≡ greater_gap b l c d

-- a board and commands, as a reading tells them
abbrev pub told_of : BoardParts → List Command → Told
told_of b cs = record { parts = b; commands = cs }
