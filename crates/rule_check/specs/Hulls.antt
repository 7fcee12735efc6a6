-- Runs of shapes that follow one another in a list, and rectangles that they lie in.
use Rattle.std.specs.Prelude.{ℕ, ◌*◌, ◌<◌, List, length, All, take, drop, get_or}
use Rattle.geo_rect.specs.declared.shapes.Rect.{Rect}
use Rattle.geo_rect.specs.Plane.{LiesIn}
use Rattle.board_model.specs.declared.shapes.Shape.{Shape}

-- so many shapes of the list from a place on, or as many as there are
abbrev pub run_at : List Shape → ℕ → ℕ → List Shape
run_at shapes place size = take size (drop place shapes)

-- each shape of the run lies in the rectangle
abbrev pub AllLieIn : Rect → List Shape → Type 0
AllLieIn hull run = All (λ (s : Shape). LiesIn s.area hull) run

-- the list is cut into runs of this length, and each run that has a hull lies in it
abbrev pub AreHulls : List Shape → ℕ → List Rect → Type 0
AreHulls shapes size hulls =
    (number : ℕ) (some : Rect) → number < length hulls → AllLieIn (get_or hulls number some) (run_at shapes (number * size) size)
