-- The boards that fit a version.
use Rattle.board_parts.specs.declared.parts.BoardParts.{BoardParts}
use Rattle.board_text.specs.declared.spelling.Version.{Version}
use Rattle.board_text.specs.declared.spelling.Version.TheVariants.{First, Second}
use Rattle.board_text.specs.Spelled.{IsOfFirstVersion}

abbrev pub IsOfVersion : Version → BoardParts → Type 0
IsOfVersion First b = IsOfFirstVersion b
IsOfVersion Second b = Unit {0}
