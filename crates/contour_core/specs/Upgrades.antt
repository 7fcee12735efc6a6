-- A board text written again as one of the second version.
use Rattle.std.specs.Prelude.{ℕ, List, Option}
use Rattle.io_edge.specs.Streams.{Appends, AppendsPart}
use Rattle.board_reader.specs.Reading.{Told}
use Rattle.text_upgrade.specs.Upgraded.{upgraded}
use Rattle.contour_core.specs.Inputs.{IsAcceptedAs}

-- the bytes are a board text, and a sink took its board and commands as a text of the second version and nothing else
pub record UpgradesInput (held holds : Option (List ℕ)) (bytes : List ℕ) : Type 0 where
  pub told : Told
  pub accepted : IsAcceptedAs told bytes
  pub written : Appends held holds (upgraded told)

-- the bytes are a board text, and a sink took a part of that text
pub record UpgradesInputInPart (held holds : Option (List ℕ)) (bytes : List ℕ) : Type 0 where
  pub told : Told
  pub accepted : IsAcceptedAs told bytes
  pub written : AppendsPart held holds (upgraded told)
