-- What every violation of a board names.
use Rattle.std.specs.Prelude.{◌<◌, length}
use Rattle.board_parts.specs.declared.parts.BoardParts.{BoardParts}
use Rattle.board_model.specs.declared.shapes.Violation.{Violation}
use Rattle.board_model.specs.declared.shapes.Violation.TheVariants.{Close, Outline}
use Rattle.board_parts.specs.Owners.{IsOwner}

-- its layer is one of the board's, and each shape's owner is a net of the board, or no net
abbrev pub NamesKnown : BoardParts → Violation → Type 0
NamesKnown b (Close l first second) = (l.0 < length b.layers) × IsOwner b first.owner × IsOwner b second.owner
NamesKnown b (Outline l shape) = (l.0 < length b.layers) × IsOwner b shape.owner
