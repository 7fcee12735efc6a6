-- What the lines of a text say, one after the other.
use Rattle.std.specs.Prelude.{ℕ, ◌+◌, pos, min, max, Bool, List, [], ◌∷◌, ◌++◌, length, Option, Some, None, codes, slice_index_or}
use Rattle.std.specs.Str.{bytes_eq}
use Rattle.geo_rect.specs.declared.ids.NetId.{NetId}
use Rattle.geo_rect.specs.declared.shapes.Rect.{Rect}
use Rattle.geo_rect.specs.Plane.{rect_of}
use Rattle.board_parts.specs.declared.commands.Command.{Command}
use Rattle.board_parts.specs.declared.commands.Command.TheVariants as command
use Rattle.board_parts.specs.declared.parts.BoardParts.{BoardParts}
use Rattle.board_parts.specs.declared.parts.ViaKind.{ViaKind}
use Rattle.board_reader.specs.declared.drafts.Draft.{Draft}
use Rattle.board_reader.specs.declared.forms.Form.{Form}
use Rattle.board_reader.specs.declared.forms.Form.TheVariants as form
use Rattle.board_reader.specs.declared.forms.Stage.TheVariants.{Start, Parts, Commands}
use Rattle.board_reader.specs.Corners.{span}
use Rattle.board_reader.specs.Gaps.{all_gaps}
use Rattle.line_words.specs.Lines.{word}
use Rattle.board_reader.specs.Names.{number_in}
use Rattle.line_words.specs.Numbers.{number}
use Rattle.board_reader.specs.Tables.{table}

-- what no lines say
abbrev pub no_draft : Draft
no_draft = record {
  stage = Start;
  heading = record { version = 0; name = []; width = 0; height = 0 };
  layers = [];
  classes = [];
  rules = [];
  clears = [];
  kind_names = [];
  kinds = [];
  pads = [];
  inners = [];
  blocks = [];
  keepouts = [];
  net_names = [];
  net_classes = [];
  pins = [];
  commands = [];
}

-- the number of the layer, the class, the kind and the net that a word names
abbrev pub layer_of : Draft → List ℕ → ℕ
layer_of d w = number_in d.layers w

abbrev pub class_of : Draft → List ℕ → ℕ
class_of d w = number_in d.classes w

abbrev pub kind_of : Draft → List ℕ → ℕ
kind_of d w = number_in d.kind_names w

abbrev pub net_of : Draft → List ℕ → NetId
net_of d w = record { 0 = number_in d.net_names w }

-- the kind of a number (where there is none of that number: some kind)
abbrev pub nth_kind : List ViaKind → ℕ → ViaKind
nth_kind kinds n = slice_index_or kinds n (record { first = record { 0 = 0 }; last = record { 0 = 0 }; charge = 0 })

-- the rectangle of the corners that stand in this place and the three after it
abbrev pub area_at : List (List ℕ) → ℕ → Rect
area_at ws i = rect_of (span (number (word ws i)) (number (word ws (i + 2)))) (span (number (word ws (i + 1))) (number (word ws (i + 3))))

-- a keep-out is for wires, or for vias
abbrev pub says_wires : List ℕ → Bool
says_wires w = bytes_eq w (codes "wires")

abbrev pub says_vias : List ℕ → Bool
says_vias w = bytes_eq w (codes "vias")

-- the command that a line of this form and these words gives, if it gives one
abbrev pub command_of : Draft → Form → List (List ℕ) → Option Command
command_of d form.Route ws = Some (command.Route (net_of d (word ws 1)))
command_of d form.All ws = Some command.All
command_of d form.Rip ws = Some (command.Rip (net_of d (word ws 1)))
command_of d form.Show ws = Some (command.Show (net_of d (word ws 1)))
command_of d form.Rules ws = Some command.Rules
command_of d form.Strips ws = Some (command.Strips (record { 0 = layer_of d (word ws 1) }) (record { 0 = class_of d (word ws 2) }))
command_of d f ws = None

-- what the lines say with one more command, or with none
abbrev pub with_command : Draft → Option Command → Draft
with_command d None = d
with_command d (Some c) = record d { commands = d.commands ++ c ∷ [] }

-- what the lines say with one more, of this form and these words
unfoldable pub after_form : Draft → Form → List (List ℕ) → Draft
after_form d form.Board ws = record d {
  stage = Parts;
  heading = record { version = number (word ws 1); name = word ws 2; width = number (word ws 3); height = number (word ws 4) };
}
after_form d form.Layer ws = record d { layers = d.layers ++ word ws 1 ∷ [] }
after_form d form.Class ws = record d { classes = d.classes ++ word ws 1 ∷ [] }
after_form d form.Rule ws = record d {
  rules = d.rules ++ record {
    row = layer_of d (word ws 1);
    column = class_of d (word ws 2);
    value = record { half = pos (number (word ws 3)); gap = pos (number (word ws 4)) };
  } ∷ [];
}
after_form d form.Clear ws = record d {
  clears = d.clears ++ record {
    layer = layer_of d (word ws 1);
    low = min (class_of d (word ws 2)) (class_of d (word ws 3));
    high = max (class_of d (word ws 2)) (class_of d (word ws 3));
    gap = pos (number (word ws 4));
  } ∷ [];
}
after_form d form.ViaKind ws = record d {
  kind_names = d.kind_names ++ word ws 1 ∷ [];
  kinds = d.kinds ++ record {
    first = record { 0 = min (layer_of d (word ws 2)) (layer_of d (word ws 3)) };
    last = record { 0 = max (layer_of d (word ws 2)) (layer_of d (word ws 3)) };
    charge = number (word ws 4);
  } ∷ [];
}
after_form d form.Pad ws = record d {
  pads = d.pads ++ record {
    row = kind_of d (word ws 1);
    column = class_of d (word ws 2);
    value = pos (number (word ws 3));
  } ∷ [];
}
after_form d form.Inner ws = record d {
  inners = d.inners ++ record {
    row = kind_of d (word ws 1);
    column = class_of d (word ws 2);
    value = pos (number (word ws 3));
  } ∷ [];
}
after_form d form.Block ws = record d { blocks = d.blocks ++ record { layer = record { 0 = layer_of d (word ws 1) }; area = area_at ws 2 } ∷ [] }
after_form d form.Keepout ws = record d {
  keepouts = d.keepouts ++ record {
    wires = says_wires (word ws 1);
    layer = record { 0 = layer_of d (word ws 2) };
    area = area_at ws 3;
  } ∷ [];
}
after_form d form.Net ws = record d {
  net_names = d.net_names ++ word ws 1 ∷ [];
  net_classes = d.net_classes ++ record { 0 = class_of d (word ws 2) } ∷ [];
}
after_form d form.Pin ws = record d {
  pins = d.pins ++ record {
    net = net_of d (word ws 1);
    area = area_at ws 2;
    first = record { 0 = min (layer_of d (word ws 6)) (layer_of d (word ws 7)) };
    last = record { 0 = max (layer_of d (word ws 6)) (layer_of d (word ws 7)) };
  } ∷ [];
}
after_form d form.End ws = record d { stage = Commands }
after_form d form.Route ws = with_command d (command_of d form.Route ws)
after_form d form.All ws = with_command d (command_of d form.All ws)
after_form d form.Rip ws = with_command d (command_of d form.Rip ws)
after_form d form.Show ws = with_command d (command_of d form.Show ws)
after_form d form.Rules ws = with_command d (command_of d form.Rules ws)
after_form d form.Strips ws = with_command d (command_of d form.Strips ws)

-- the board of what the lines say: a rule for each layer and in it each class, a gap for each layer and two classes, a pad
-- for each kind and in it each class, and an inner pad for each, which is the pad where no line gives one
unfoldable pub parts_of : Draft → BoardParts
parts_of d = record {
  name = d.heading.name;
  width = pos d.heading.width;
  height = pos d.heading.height;
  layers = d.layers;
  classes = d.classes;
  rules = table d.rules (length d.layers) (length d.classes);
  gaps = all_gaps d.rules d.clears (length d.layers) (length d.classes);
  kind_names = d.kind_names;
  kinds = d.kinds;
  pads = table d.pads (length d.kind_names) (length d.classes);
  inners = table (d.inners ++ d.pads) (length d.kind_names) (length d.classes);
  blocks = d.blocks;
  keepouts = d.keepouts;
  net_names = d.net_names;
  net_classes = d.net_classes;
  pins = d.pins;
}
