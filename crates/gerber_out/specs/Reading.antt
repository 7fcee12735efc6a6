-- What the machine makes of a text.
use Rattle.std.specs.Prelude.{◌≡◌, ◌≢◌, ◌⊎◌, ℕ, ◌+◌, Bool, true, false, List, [], ◌∷◌, ◌++◌, length, Result, Ok, Err}
use Rattle.geo_rect.specs.declared.memory.NoMemory.{NoMemory}
use Rattle.geo_rect.specs.declared.shapes.Rect.{Rect}
use Rattle.gerber_out.specs.declared.machine.Machine.{Machine}
use Rattle.gerber_out.specs.declared.contours.Corner.{Corner}
use Rattle.gerber_out.specs.declared.machine.Stage.TheVariants.{Inside, Ended}
use Rattle.gerber_out.specs.declared.reading.ReadLayer.{ReadLayer}
use Rattle.gerber_out.specs.declared.reading.ReadLayer.TheVariants as read_layer
use Rattle.gerber_out.specs.declared.spelling.Line.{Line}
use Rattle.gerber_out.specs.Lines.{lines}
use Rattle.gerber_out.specs.Machine.{no_lines, Leads, Appends}
use Rattle.gerber_out.specs.Spelling.{IsSpelled}

-- the bytes are a line that may stand where the machine is old, and makes it new
pub record IsNext (bytes : List ℕ) (old new : Machine) : Type 0 where
  pub line : Line
  pub spelled : IsSpelled line bytes
  pub leads : Leads line old new

-- the bytes are no line that may stand here
abbrev pub MayNotStand : List ℕ → Machine → Type 0
MayNotStand bytes old = (new : Machine) → IsNext bytes old new → ⊥

-- each line may stand, and they take the machine from old to new
abbrev pub Reads : List (List ℕ) → Machine → Machine → Type 0
Reads [] old new = old ≡ new
Reads (l ∷ ls) old new = (mid : Machine) × IsNext l old mid × Reads ls mid new

-- the machine reads the bytes to their end, and fills these rectangles
pub record IsRead (bytes : List ℕ) (areas : List Rect) : Type 0 where
  pub last : Machine
  pub reads : Reads (lines bytes) no_lines last
  pub ended : last.stage ≡ Ended
  pub fills : last.filled ≡ areas

-- the lines before line n may stand, and line n may not
pub record IsWrongLine (bytes : List ℕ) (n : ℕ) : Type 0 where
  pub before : List (List ℕ)
  pub line : List ℕ
  pub after : List (List ℕ)
  pub cut : lines bytes ≡ before ++ line ∷ after
  pub number : n ≡ length before + 1
  pub here : Machine
  pub reads : Reads before no_lines here
  pub refused : MayNotStand line here

-- each line may stand, the last is missing, and n is the number of the lines plus one
pub record HasNoEnd (bytes : List ℕ) (n : ℕ) : Type 0 where
  pub here : Machine
  pub reads : Reads (lines bytes) no_lines here
  pub open_ended : here.stage ≢ Ended
  pub number : n ≡ length (lines bytes) + 1

abbrev pub IsRefused : List ℕ → ℕ → Type 0
IsRefused bytes n = IsWrongLine bytes n ⊎ HasNoEnd bytes n

-- what an answer says of the bytes
abbrev pub TellsReading : List ℕ → Result (List Rect) ReadLayer → Type 0
TellsReading bytes (Ok areas) = IsRead bytes areas
TellsReading bytes (Err (read_layer.Refused n)) = IsRefused bytes n
TellsReading bytes (Err read_layer.NoMemory) = Unit {0}

-- what the answer for one line says: whether it may stand
abbrev pub TellsLine : List ℕ → Machine → Machine → Result Bool NoMemory → Type 0
TellsLine bytes old new (Ok true) = IsNext bytes old new
TellsLine bytes old new (Ok false) = MayNotStand bytes old
TellsLine bytes old new (Err e) = Unit {0}

-- the same of a line that has been told by its bytes
abbrev pub TellsStep : Line → Machine → Machine → Result Bool NoMemory → Type 0
TellsStep line old new (Ok true) = Leads line old new
TellsStep line old new (Ok false) = (other : Machine) → Leads line old other → ⊥
TellsStep line old new (Err e) = Unit {0}

-- the lines up to the rest of the text may stand, and the next has this number
pub record IsPassed (bytes rest : List ℕ) (n : ℕ) (here : Machine) : Type 0 where
  pub before : List (List ℕ)
  pub cut : lines bytes ≡ before ++ lines rest
  pub number : n ≡ length before + 1
  pub reads : Reads before no_lines here

-- the answer for all lines: the number of one more
abbrev pub TellsLines : List ℕ → Machine → Result ℕ ReadLayer → Type 0
TellsLines bytes here (Ok n) = IsPassed bytes [] n here
TellsLines bytes here (Err (read_layer.Refused n)) = IsRefused bytes n
TellsLines bytes here (Err read_layer.NoMemory) = Unit {0}

-- the same of one more point of a contour
abbrev pub TellsAppended : Corner → Machine → Machine → Result Bool NoMemory → Type 0
TellsAppended c old new (Ok true) = Appends c old new
TellsAppended c old new (Ok false) = old.stage ≢ Inside
TellsAppended c old new (Err e) = Unit {0}

-- the answer after all lines, of which one more would have number n
abbrev pub TellsEnd : Machine → ℕ → Result (List Rect) ReadLayer → Type 0
TellsEnd here n (Ok areas) = (here.stage ≡ Ended) × (here.filled ≡ areas)
TellsEnd here n (Err (read_layer.Refused m)) = (here.stage ≢ Ended) × (m ≡ n)
TellsEnd here n (Err read_layer.NoMemory) = ⊥
