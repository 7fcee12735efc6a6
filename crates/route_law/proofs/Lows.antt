-- The least distance to a target box, and how it changes where a front moves on.
use Rattle.std.proofs.Common.{◌≡◌, ℕ, ◌+◌, ◌≤◌, List, arith}
use Rattle.geo_rect.specs.declared.ids.Spot.{Spot}
use Rattle.geo_rect.specs.declared.shapes.Rect.{Rect}
use Rattle.geo_rect.specs.Distance.{IsDistance}
use Rattle.geo_rect.proofs.Clamps.{clamped_level}
use Rattle.geo_rect.proofs.Distances.{find_distance}
use Rattle.geo_rect.proofs.Nearest.{apart-triangle}
use Rattle.route_law.specs.Covers.{IsLow}
use Rattle.route_law.specs.Moves.{IsMovedFront}

-- there is one least distance
pub low_one : (targets : List Spot) (front : Rect) (m n : ℕ) → IsLow targets front m → IsLow targets front n → m ≡ n
low_one targets front m n l k =
    omega (arith, l.least k.nearest n k.listed k.distance, k.least l.nearest m l.listed l.distance)

-- a front is no farther from a rectangle than by way of a door
moved_farther : (front door moved area : Rect) (way m n : ℕ) → IsMovedFront front door moved way → IsDistance front area m → IsDistance moved area n → m ≤ way + n
moved_farther front door moved area way m n h d e =
    let x = e.reached in
    let level = clamped_level front door moved x.0 way h.clamped h.distance x.2 in
    let p = level.reached in
    omega (arith, d.least p.0 x.1 p.1 x.3, apart-triangle p.0 x.0 x.1, p.2, x.4)

-- a front that moves on comes nearer to the targets by no more than its way
pub moved_low : (targets : List Spot) (front door moved : Rect) (way m n : ℕ) → IsMovedFront front door moved way → IsLow targets front m → IsLow targets moved n → m ≤ way + n
moved_low targets front door moved way m n h l k =
    let d = find_distance front k.nearest.area in
    omega (arith, l.least k.nearest d.0 k.listed d.1, moved_farther front door moved k.nearest.area way d.0 n h d.1 k.distance)
