-- Names and their numbers, which go from 0 in the order of the text.
use Rattle.std.specs.Prelude.{ℕ, Bool, List, position, unwrap_or}
use Rattle.std.specs.List.{list_any}
use Rattle.std.specs.Str.{bytes_eq}

-- whether the name is one of the names
unfoldable pub is_in : List (List ℕ) → List ℕ → Bool
is_in names w = list_any (bytes_eq w) names

-- the number of a name, and 0 for a name that is not there
unfoldable pub number_in : List (List ℕ) → List ℕ → ℕ
number_in names w = unwrap_or (position (bytes_eq w) names) 0
