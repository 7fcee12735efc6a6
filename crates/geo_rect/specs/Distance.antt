-- Distances in the plane, where a step goes one unit across or up.
use Rattle.std.specs.Prelude.{ℕ, pos, ◌≡◌, ◌+◌, ◌≤◌, ◌+ℤ◌, ◌<ℤ◌}
use Rattle.geo_rect.specs.declared.shapes.Point.{Point}
use Rattle.geo_rect.specs.declared.shapes.Rect.{Rect}
use Rattle.geo_rect.specs.Line.{between}
use Rattle.geo_rect.specs.Plane.{HasPoint}

-- the number of unit steps from p to q
abbrev pub apart : Point → Point → ℕ
apart p q = between p.x q.x + between p.y q.y

-- n is the least distance from a point of a to v
pub record IsAway (a : Rect) (v : Point) (n : ℕ) : Type 0 where
  pub reached : (p : Point) × HasPoint a p × (apart p v ≡ n)
  pub least : (p : Point) → HasPoint a p → n ≤ apart p v

-- n is the least distance from a point of a to a point of b
pub record IsDistance (a b : Rect) (n : ℕ) : Type 0 where
  pub reached : (p : Point) × (q : Point) × HasPoint a p × HasPoint b q × (apart p q ≡ n)
  pub least : (p q : Point) → HasPoint a p → HasPoint b q → n ≤ apart p q

-- n is the greatest distance from a to a point of b
pub record IsReach (a b : Rect) (n : ℕ) : Type 0 where
  pub reached : (q : Point) × HasPoint b q × IsAway a q n
  pub greatest : (q : Point) (m : ℕ) → HasPoint b q → IsAway a q m → m ≤ n

-- v lies beyond both a and b on one and the same side, by more than m
pub data IsFarOut (a b : Rect) (v : Point) (m : ℕ) : Type 0 where
  on_right : (a.x1 +ℤ pos m) <ℤ v.x → (b.x1 +ℤ pos m) <ℤ v.x → IsFarOut a b v m
  on_left : (v.x +ℤ pos m) <ℤ a.x0 → (v.x +ℤ pos m) <ℤ b.x0 → IsFarOut a b v m
  above : (a.y1 +ℤ pos m) <ℤ v.y → (b.y1 +ℤ pos m) <ℤ v.y → IsFarOut a b v m
  below : (v.y +ℤ pos m) <ℤ a.y0 → (v.y +ℤ pos m) <ℤ b.y0 → IsFarOut a b v m
