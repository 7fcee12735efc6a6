-- What a board says of its layers, classes, kinds and nets.
use Rattle.std.specs.Prelude.{ℕ, ◌+◌, ◌-◌, ◌*◌, ◌==◌, ℤ, pos, if◌then◌else◌, List, [], length, map, filter, slice_index_or}
use Rattle.std.specs.List.{range_with_len}
use Rattle.geo_rect.specs.declared.ids.ClassId.{ClassId}
use Rattle.geo_rect.specs.declared.ids.KindId.{KindId}
use Rattle.geo_rect.specs.declared.ids.LayerId.{LayerId}
use Rattle.geo_rect.specs.declared.ids.NetId.{NetId}
use Rattle.board_parts.specs.declared.parts.BoardParts.{BoardParts}
use Rattle.board_parts.specs.declared.parts.Rule.{Rule}
use Rattle.board_parts.specs.declared.parts.ViaKind.{ViaKind}
use Rattle.board_parts.specs.declared.parts.Pin.{Pin}

-- the rule of a layer and a class (for ids that the board lacks: some rule)
abbrev pub rule_of : BoardParts → LayerId → ClassId → Rule
rule_of b l c = slice_index_or b.rules (l.0 * length b.classes + c.0) (record { half = pos 1; gap = pos 1 })

-- the gap between two classes on a layer
abbrev pub gap_of : BoardParts → LayerId → ClassId → ClassId → ℤ
gap_of b l c d = slice_index_or b.gaps ((l.0 * length b.classes + c.0) * length b.classes + d.0) (pos 1)

-- half the width of the pad of a kind's via for a class, on the first and the last layer of its span
abbrev pub pad_of : BoardParts → KindId → ClassId → ℤ
pad_of b k c = slice_index_or b.pads (k.0 * length b.classes + c.0) (pos 1)

abbrev pub kind_of : BoardParts → KindId → ViaKind
kind_of b k = slice_index_or b.kinds k.0 (record { first = record { 0 = 0 }; last = record { 0 = 0 }; charge = 0 })

-- half the width of that pad on each layer between the first and the last
abbrev pub inner_of : BoardParts → KindId → ClassId → ℤ
inner_of b k c = slice_index_or b.inners (k.0 * length b.classes + c.0) (pos 1)

-- half the width of that pad on a layer
abbrev pub pad_on : BoardParts → KindId → ClassId → LayerId → ℤ
pad_on b k c l =
    if l.0 == (kind_of b k).first.0 then pad_of b k c else (if l.0 == (kind_of b k).last.0 then pad_of b k c else inner_of b k c)

abbrev pub class_of : BoardParts → NetId → ClassId
class_of b n = slice_index_or b.net_classes n.0 (record { 0 = 0 })

-- the pins of a net, in the order of the text
abbrev pub pins_of : BoardParts → NetId → List Pin
pins_of b n = filter (λ (p : Pin). p.net.0 == n.0) b.pins

-- the layer of a number
abbrev pub layer_at : ℕ → LayerId
layer_at n = record { 0 = n }

-- the layers from the first to the last
abbrev pub layers_from : LayerId → LayerId → List LayerId
layers_from first last = map layer_at (range_with_len first.0 (last.0 + 1 - first.0))

-- a board of this name and size on which nothing stands yet
abbrev pub empty_parts : List ℕ → ℤ → ℤ → BoardParts
empty_parts title width height = record {
  name = title;
  width = width;
  height = height;
  layers = [];
  classes = [];
  rules = [];
  gaps = [];
  kind_names = [];
  kinds = [];
  pads = [];
  inners = [];
  blocks = [];
  keepouts = [];
  net_names = [];
  net_classes = [];
  pins = [];
}

-- the name of a layer (for ids that the board lacks: no bytes), and so on
abbrev pub layer_name : BoardParts → LayerId → List ℕ
layer_name b l = slice_index_or b.layers l.0 []

abbrev pub class_name : BoardParts → ClassId → List ℕ
class_name b c = slice_index_or b.classes c.0 []

abbrev pub kind_name : BoardParts → KindId → List ℕ
kind_name b k = slice_index_or b.kind_names k.0 []

abbrev pub net_name : BoardParts → NetId → List ℕ
net_name b n = slice_index_or b.net_names n.0 []
