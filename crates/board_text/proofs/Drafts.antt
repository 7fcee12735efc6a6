-- What the lines of a board say, group by group.
use Rattle.std.proofs.Common.{ℕ, ℤ, List, []}
use Rattle.geo_rect.specs.declared.ids.ClassId.{ClassId}
use Rattle.board_parts.specs.declared.commands.Command.{Command}
use Rattle.board_parts.specs.declared.parts.Block.{Block}
use Rattle.board_parts.specs.declared.parts.BoardParts.{BoardParts}
use Rattle.board_parts.specs.declared.parts.Keepout.{Keepout}
use Rattle.board_parts.specs.declared.parts.Pin.{Pin}
use Rattle.board_parts.specs.declared.parts.Rule.{Rule}
use Rattle.board_parts.specs.declared.parts.ViaKind.{ViaKind}
use Rattle.board_reader.specs.declared.drafts.Draft.{Draft}
use Rattle.board_reader.specs.declared.drafts.Heading.{Heading}
use Rattle.board_reader.specs.declared.forms.Stage.TheVariants.{Parts, Commands}
use Rattle.board_reader.specs.declared.gaps.Clear.{Clear}
use Rattle.board_reader.specs.declared.tables.Entry.{Entry}
use Rattle.board_text.specs.declared.spelling.Version.{Version}
use Rattle.board_text.specs.declared.spelling.Version.TheVariants.{First, Second}
use Rattle.board_text.proofs.Numerals.{size}

-- the number of a version
abbrev pub version_of : Version → ℕ
version_of First = 1
version_of Second = 2

abbrev pub heading_of : Version → BoardParts → Heading
heading_of v b = record { version = version_of v; name = b.name; width = size b.width; height = size b.height }

-- what the lines give cell by cell
pub record Given : Type 0 where
  pub rules : List (Entry Rule)
  pub clears : List Clear
  pub pads : List (Entry ℤ)
  pub inners : List (Entry ℤ)

-- after the first line and some layers
abbrev pub with_layers : Version → BoardParts → List (List ℕ) → Draft
with_layers v b ls = record {
  stage = Parts;
  heading = heading_of v b;
  layers = ls;
  classes = [];
  rules = [];
  clears = [];
  kind_names = [];
  kinds = [];
  pads = [];
  inners = [];
  blocks = [];
  keepouts = [];
  net_names = [];
  net_classes = [];
  pins = [];
  commands = [];
}

-- after all layers, and some classes
abbrev pub with_classes : Version → BoardParts → List (List ℕ) → Draft
with_classes v b cs = record (with_layers v b b.layers) { classes = cs }

abbrev pub with_rules : Version → BoardParts → List (Entry Rule) → Draft
with_rules v b rs = record (with_classes v b b.classes) { rules = rs }

abbrev pub with_clears : Version → BoardParts → List (Entry Rule) → List Clear → Draft
with_clears v b rs gs = record (with_rules v b rs) { clears = gs }

abbrev pub with_kinds : Version → BoardParts → List (Entry Rule) → List Clear → List (List ℕ) → List ViaKind → Draft
with_kinds v b rs gs names ks = record (with_clears v b rs gs) { kind_names = names; kinds = ks }

abbrev pub with_pads : Version → BoardParts → List (Entry Rule) → List Clear → List (Entry ℤ) → Draft
with_pads v b rs gs ps = record (with_kinds v b rs gs b.kind_names b.kinds) { pads = ps }

abbrev pub with_inners : Version → BoardParts → List (Entry Rule) → List Clear → List (Entry ℤ) → List (Entry ℤ) → Draft
with_inners v b rs gs ps hs = record (with_pads v b rs gs ps) { inners = hs }

-- after all that is given cell by cell
abbrev pub with_given : Version → BoardParts → Given → Draft
with_given v b t = with_inners v b t.rules t.clears t.pads t.inners

abbrev pub with_blocks : Version → BoardParts → Given → List Block → Draft
with_blocks v b t bs = record (with_given v b t) { blocks = bs }

abbrev pub with_keepouts : Version → BoardParts → Given → List Keepout → Draft
with_keepouts v b t ks = record (with_blocks v b t b.blocks) { keepouts = ks }

abbrev pub with_nets : Version → BoardParts → Given → List (List ℕ) → List ClassId → Draft
with_nets v b t names cs = record (with_keepouts v b t b.keepouts) { net_names = names; net_classes = cs }

abbrev pub with_pins : Version → BoardParts → Given → List Pin → Draft
with_pins v b t pins' = record (with_nets v b t b.net_names b.net_classes) { pins = pins' }

-- after the whole board, and some commands
abbrev pub with_commands : Version → BoardParts → Given → List Command → Draft
with_commands v b t cs = record (with_pins v b t b.pins) { stage = Commands; commands = cs }
