-- What a draft puts into the lists of a board, a few lists at a time.
use Rattle.std.specs.Prelude.{◌++◌, length}
use Rattle.board_parts.specs.declared.parts.BoardParts.{BoardParts}
use Rattle.board_reader.specs.declared.drafts.Draft.{Draft}
use Rattle.board_reader.specs.Gaps.{all_gaps}
use Rattle.board_reader.specs.Tables.{table}

-- the names
abbrev pub with_names : BoardParts → Draft → BoardParts
with_names b d = record b {
  layers = b.layers ++ d.layers;
  classes = b.classes ++ d.classes;
  kind_names = b.kind_names ++ d.kind_names;
  net_names = b.net_names ++ d.net_names;
}

-- what is laid out by rows and columns
abbrev pub with_tables : BoardParts → Draft → BoardParts
with_tables b d = record b {
  rules = b.rules ++ table d.rules (length d.layers) (length d.classes);
  gaps = b.gaps ++ all_gaps d.rules d.clears (length d.layers) (length d.classes);
  pads = b.pads ++ table d.pads (length d.kind_names) (length d.classes);
  inners = b.inners ++ table (d.inners ++ d.pads) (length d.kind_names) (length d.classes);
}

-- the lists that stay as they are
abbrev pub with_lists : BoardParts → Draft → BoardParts
with_lists b d = record b {
  kinds = d.kinds;
  blocks = d.blocks;
  keepouts = d.keepouts;
  net_classes = d.net_classes;
  pins = d.pins;
}
