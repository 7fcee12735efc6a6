-- The machine that reads the lines of a text: where each line may stand, and what it does there.
use Rattle.std.specs.Prelude.{◌≡◌, ◌≤◌, [], ◌∷◌, ◌++◌, length}
use Rattle.geo_rect.specs.declared.shapes.Rect.{Rect}
use Rattle.gerber_out.specs.declared.contours.Corner.{Corner}
use Rattle.gerber_out.specs.declared.machine.Machine.{Machine}
use Rattle.gerber_out.specs.declared.machine.Stage.{Stage}
use Rattle.gerber_out.specs.declared.machine.Stage.TheVariants.{First, Second, Third, Fourth, Outside, Inside, Ended}
use Rattle.gerber_out.specs.declared.spelling.Line.{Line}
use Rattle.gerber_out.specs.declared.spelling.Line.TheVariants.{Plain, Draw}
use Rattle.gerber_out.specs.declared.spelling.Pen.TheVariants.{Up, Down}
use Rattle.gerber_out.specs.declared.spelling.Word.TheVariants.{Format, Measure, Polarity, Linear, Begin, Close, End}
use Rattle.gerber_out.specs.Contours.{IsContourOf}

-- before the first line: no contour and nothing filled
abbrev pub no_lines : Machine
no_lines = record { stage = First; contour = []; filled = [] }

-- from one stage to another, and nothing else changes
pub record Passes (from to : Stage) (old new : Machine) : Type 0 where
  pub before : old.stage ≡ from
  pub after : new ≡ record { stage = to; contour = old.contour; filled = old.filled }

-- one more point of the contour
pub record Appends (c : Corner) (old new : Machine) : Type 0 where
  pub before : old.stage ≡ Inside
  pub after : new ≡ record { stage = Inside; contour = old.contour ++ c ∷ []; filled = old.filled }

-- the contour is that of a rectangle, which is filled
pub record Fills (old new : Machine) : Type 0 where
  pub area : Rect
  pub before : old.stage ≡ Inside
  pub drawn : IsContourOf old.contour area
  pub after : new ≡ record { stage = Outside; contour = []; filled = old.filled ++ area ∷ [] }

-- the first point of a contour
pub record Starts (c : Corner) (old new : Machine) : Type 0 where
  pub none : old.contour ≡ []
  pub more : Appends c old new

-- one of the next four
pub record GoesOn (c : Corner) (old new : Machine) : Type 0 where
  pub some : 1 ≤ length old.contour
  pub few : length old.contour ≤ 4
  pub more : Appends c old new

-- the line may stand where the machine is old, and makes it new; outside a contour there is no point
abbrev pub Leads : Line → Machine → Machine → Type 0
Leads (Plain Format) old new = Passes First Second old new
Leads (Plain Measure) old new = Passes Second Third old new
Leads (Plain Polarity) old new = Passes Third Fourth old new
Leads (Plain Linear) old new = Passes Fourth Outside old new
Leads (Plain Begin) old new = Passes Outside Inside old new
Leads (Plain Close) old new = Fills old new
Leads (Plain End) old new = Passes Outside Ended old new
Leads (Draw Up c) old new = Starts c old new
Leads (Draw Down c) old new = GoesOn c old new
