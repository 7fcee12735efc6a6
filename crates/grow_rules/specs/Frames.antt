-- The frame of a board: the points whose squares leave it.
use Rattle.std.specs.Prelude.{ℤ, pos, ◌+ℤ◌, ◌≤ℤ◌, ◌<ℤ◌}
use Rattle.geo_rect.specs.declared.shapes.Interval.{Interval}
use Rattle.geo_rect.specs.declared.shapes.Point.{Point}
use Rattle.geo_rect.specs.Axis.{HasNumber}
use Rattle.board_parts.specs.declared.parts.BoardParts.{BoardParts}

-- v is a number from 0 to size
pub record IsInside (size v : ℤ) : Type 0 where
  pub from : pos 0 ≤ℤ v
  pub to : v ≤ℤ size

-- p is a point of the board
pub record IsBoardPoint (b : BoardParts) (p : Point) : Type 0 where
  pub across : IsInside b.width p.x
  pub up : IsInside b.height p.y

-- i has exactly the numbers from 0 to size
pub record IsWhole (size : ℤ) (i : Interval) : Type 0 where
  pub inside : (v : ℤ) → HasNumber i v → IsInside size v
  pub all : (v : ℤ) → IsInside size v → HasNumber i v

-- i has exactly the numbers from 0 to size that are less than half above 0
pub record IsLowEnd (size half : ℤ) (i : Interval) : Type 0 where
  pub inside : (v : ℤ) → HasNumber i v → IsInside size v
  pub low : (v : ℤ) → HasNumber i v → v <ℤ half
  pub all : (v : ℤ) → IsInside size v → v <ℤ half → HasNumber i v

-- i has exactly the numbers from 0 to size that are less than half below size
pub record IsHighEnd (size half : ℤ) (i : Interval) : Type 0 where
  pub inside : (v : ℤ) → HasNumber i v → IsInside size v
  pub high : (v : ℤ) → HasNumber i v → size <ℤ (v +ℤ half)
  pub all : (v : ℤ) → IsInside size v → size <ℤ (v +ℤ half) → HasNumber i v
