-- The text of the second version of what a board text tells.
use Rattle.std.specs.Prelude.{ℕ, List}
use Rattle.board_reader.specs.Reading.{Told}
use Rattle.board_text.specs.declared.spelling.Version.TheVariants.{Second}
use Rattle.board_text.specs.Spelled.{spelled}

abbrev pub upgraded : Told → List ℕ
upgraded told = spelled Second told.parts told.commands
