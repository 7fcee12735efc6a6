-- The lists of a board, filled step by step, are those of the draft.
use Rattle.std.proofs.Common.{◌≡◌, pos, List, ap}
use Rattle.board_parts.specs.declared.commands.Command.{Command}
use Rattle.board_parts.specs.declared.parts.BoardParts.{BoardParts}
use Rattle.board_parts.specs.Lookup.{empty_parts}
use Rattle.board_reader.specs.declared.drafts.Draft.{Draft}
use Rattle.board_reader.specs.Drafts.{parts_of}
use Rattle.board_reader.specs.Filling.{with_names, with_tables, with_lists}
use Rattle.board_reader.specs.Reading.{Told, told}

pub same-parts : (d : Draft) (b : BoardParts) → b ≡ empty_parts d.heading.name (pos d.heading.width) (pos d.heading.height) → with_lists (with_tables (with_names b d) d) d ≡ parts_of d
unfolding parts_of
same-parts d b e = ap (λ x. with_lists (with_tables (with_names x d) d) d) e

abbrev pub together : BoardParts → List Command → Told
together p commands = record { parts = p; commands = commands }

pub same-told : (d : Draft) (p : BoardParts) (commands : List Command) → p ≡ parts_of d → commands ≡ d.commands → together p commands ≡ told d
same-told d p commands e f = λ i. together (e i) (f i)
