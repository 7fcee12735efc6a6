-- What the ends of entries cost, and the least of them.
use Rattle.std.specs.Prelude.{ℕ, ◌≡◌, ◌+◌, ◌≤◌, min, List, Contains, Option, Some, None}
use Rattle.geo_rect.specs.declared.ids.Spot.{Spot}
use Rattle.geo_rect.specs.declared.shapes.Rect.{Rect}
use Rattle.geo_rect.specs.Distance.{IsDistance}
use Rattle.geo_rect.specs.Plane.{IsMeet}
use Rattle.route_law.specs.declared.certs.Entry.{Entry}
use Rattle.route_law.specs.Right.{IsEnd}

-- d has the property, and no number below it has
pub record IsLeast (Has : ℕ → Type 0) (d : ℕ) : Type 0 where
  pub there : Has d
  pub least : (n : ℕ) → Has n → d ≤ n

-- the least number with the property, none where no number has it
abbrev pub IsLeastOf : (ℕ → Type 0) → Option ℕ → Type 0
IsLeastOf Has None = (n : ℕ) → Has n → ⊥
IsLeastOf Has (Some d) = IsLeast Has d

-- the lesser of two numbers, of which one or both may be absent
abbrev pub lesser_of : Option ℕ → Option ℕ → Option ℕ
lesser_of None b = b
lesser_of (Some m) None = Some m
lesser_of (Some m) (Some n) = Some (min m n)

-- the entry comes to this target box, in its own strip, at this cost in all
pub record IsEndAt (box : Spot) (e : Entry) (total : ℕ) : Type 0 where
  pub same_layer : box.layer ≡ e.layer
  pub common : Rect
  pub is_common : IsMeet e.strip box.area common
  pub way : ℕ
  pub distance : IsDistance e.front common way
  pub sum : total ≡ e.cost + way

-- one of the entries comes to a target box at this cost in all
pub record IsSomeEnd (targets : List Spot) (entries : List Entry) (total : ℕ) : Type 0 where
  pub entry : Entry
  pub listed : Contains entries entry
  pub is_end : IsEnd targets entry total
