-- A linked tiling with a side turned to the left: where its stitches lead then.
use Rattle.std.proofs.Common.{ℤ, pos, ◌≡◌, ◌+ℤ◌, ◌-ℤ◌, ◌≤ℤ◌, ◌<ℤ◌, Some, None, refl, sym, subst, ap, arith}
use Rattle.std.specs.declared.option.Option.{Option}
use Rattle.std.proofs.lemmas.Int.{ints, by_lt_z}
use Rattle.geo_rect.specs.declared.shapes.Point.{Point}
use Rattle.geo_rect.specs.declared.shapes.Rect.{Rect}
use Rattle.geo_rect.specs.Axis.{HasNumber}
use Rattle.geo_rect.specs.Plane.{columns, rows, HasPoint}
use Rattle.geo_rect.proofs.Parts.{low_in, lies_in_points}
use Rattle.plane_core.specs.declared.sides.Side.{Side}
use Rattle.plane_core.specs.declared.sides.Side.TheVariants.{Left, Below, Right, Above}
use Rattle.plane_core.specs.Sides.{turned, turned_point}
use Rattle.plane_core.proofs.Turns.{points_turn}
use Rattle.tile_store.specs.declared.tiles.Tile.{Tile}
use Rattle.tile_store.specs.declared.tiles.TileId.{TileId}
use Rattle.tile_store.specs.Store.{Store, tile_at}
use Rattle.stitch_walk.specs.Links.{Holds, stitch, stitch_point, LeadsTo, IsLinked}
use Rattle.stitch_walk.specs.Reaches.{following}
use Rattle.stitch_walk.proofs.WalkState.{HoldsTurned, LeadsToTurned, left_of}
use Rattle.stitch_walk.proofs.Linked.{one_tile}

pub same_point : (p q : Point) → p.x ≡ q.x → p.y ≡ q.y → p ≡ q
same_point p q e f =
    let P : ℤ → Type 0 = λ v. p ≡ record { x = v; y = q.y } in
    subst P e (ap (λ (w : ℤ). let r : Point = record { x = p.x; y = w } in r) f)

-- a side turned twice is where it was
pub turned_twice : (side : Side) (q : Point) → turned_point side (turned_point side q) ≡ q
turned_twice Left q = refl
turned_twice Below q = refl
turned_twice Right q = same_point _ q (omega (arith, ints)) (omega (arith, ints))
turned_twice Above q = same_point _ q (omega (arith, ints)) (omega (arith, ints))

pub turned_back : (side : Side) (r : Rect) (q : Point) → HasPoint (turned side r) q → HasPoint r (turned_point side q)
turned_back side r q h =
    let P : Point → Type 0 = λ z. HasPoint (turned side r) z in
    (points_turn side r (turned_point side q)).1 (subst P (sym (turned_twice side q)) h)

-- the point of the stitch on a side lies left of the lowest row of the turned rectangle
pub stitch_starts : (side : Side) (r : Rect) → turned_point side (stitch_point side r) ≡ left_of side r (turned side r).y0
stitch_starts Left r = refl
stitch_starts Below r = refl
stitch_starts Right r = same_point _ _ (omega (arith, ints)) (omega (arith, ints))
stitch_starts Above r = same_point _ _ (omega (arith, ints)) (omega (arith, ints))

-- the point above the last column of the turned rectangle
abbrev pub over : Side → Rect → Point
over side r = record { x = (turned side r).x1; y = (turned side r).y1 +ℤ pos 1 }

-- the point of the following stitch lies above the last column of the turned rectangle
pub stitch_follows : (side : Side) (r : Rect) → turned_point side (stitch_point (following side) r) ≡ over side r
stitch_follows Left r = refl
stitch_follows Below r = refl
stitch_follows Right r = same_point _ _ (omega (arith, ints)) (omega (arith, ints))
stitch_follows Above r = same_point _ _ (omega (arith, ints)) (omega (arith, ints))

-- a stitch that leads to the tile of a point leads to it when both are turned
pub leads_turned : (s : Store) (domain : Rect) (side : Side) (p : Point) (o : Option TileId) → LeadsTo s domain p o → LeadsToTurned s domain side (turned_point side p) o
leads_turned s domain side p None h = λ k. h ((points_turn side domain p).1 k)
leads_turned s domain side p (Some id) h = record { tile = h.tile; is_there = h.is_there; has_point = (points_turn side h.tile.area p).0 h.has_point }

module _ (s : Store) (domain : Rect) (is : IsLinked s domain) (side : Side) where
  holds_back : (id : TileId) (q : Point) → HoldsTurned s side id q → Holds s id (turned_point side q)
  holds_back id q h = record { tile = h.tile; is_there = h.is_there; has_point = turned_back side h.tile.area q h.has_point }

  -- two tiles that have a turned point are one
  pub apart_turned : (i j : TileId) (q : Point) → HoldsTurned s side i q → HoldsTurned s side j q → i ≡ j
  apart_turned i j q h k = is.apart i j (turned_point side q) (holds_back i q h) (holds_back j q k)

  -- the domain has the turned points of each tile
  pub inside_turned : (id : TileId) (t : Tile) (q : Point) → tile_at s id ≡ Some t → HasPoint (turned side t.area) q → HasPoint (turned side domain) q
  inside_turned id t q e h =
      let P : Point → Type 0 = λ z. HasPoint (turned side domain) z in
      subst P (turned_twice side q)
      ((points_turn side domain (turned_point side q)).0
      ((lies_in_points t.area domain).0 (is.inside id t e) (turned_point side q) (turned_back side t.area q h)))

  -- the stitch on the side leads to the tile left of the lowest row
  pub first_leads : (id : TileId) (t : Tile) → tile_at s id ≡ Some t → LeadsToTurned s domain side (left_of side t.area (turned side t.area).y0) (stitch side t)
  first_leads id t e =
      let P : Point → Type 0 = λ z. LeadsToTurned s domain side z (stitch side t) in
      subst P (stitch_starts side t.area) (leads_turned s domain side (stitch_point side t.area) (stitch side t) (is.stitched side id t e))

  -- the following stitch leads to the tile above the last column
  pub next_leads : (id : TileId) (t : Tile) → tile_at s id ≡ Some t → LeadsToTurned s domain side (over side t.area) (stitch (following side) t)
  next_leads id t e =
      let P : Point → Type 0 = λ z. LeadsToTurned s domain side z (stitch (following side) t) in
      subst P (stitch_follows side t.area) (leads_turned s domain side (stitch_point (following side) t.area) (stitch (following side) t) (is.stitched (following side) id t e))

  -- a tile that has a point left of another tile's row ends in that column
  pub ends_left : (i j : TileId) (t u : Tile) (y : ℤ) → tile_at s i ≡ Some t → tile_at s j ≡ Some u → HasNumber (rows (turned side t.area)) y → HasPoint (turned side u.area) (left_of side t.area y) → (turned side u.area).x1 ≡ (turned side t.area).x0 -ℤ pos 1
  ends_left i j t u y e f row h =
      by_lt_z (turned side u.area).x1 (turned side t.area).x0
      (λ (less : (turned side u.area).x1 <ℤ (turned side t.area).x0). let a = h.across.to in omega (arith, ints))
      (λ (more : (turned side t.area).x0 ≤ℤ (turned side u.area).x1). absurd (both more))
    where
      both : (turned side t.area).x0 ≤ℤ (turned side u.area).x1 → ⊥
      both more =
          let q : Point = record { x = (turned side t.area).x0; y = y } in
          let low : (turned side u.area).x0 ≤ℤ (turned side t.area).x0 = let a = h.across.from in omega (arith, ints) in
          let same : i ≡ j = apart_turned i j q
          (record { tile = t; is_there = e; has_point = record { across = low_in (columns (turned side t.area)); up = row } })
          (record { tile = u; is_there = f; has_point = record { across = record { from = low; to = more }; up = h.up } }) in
          let there : tile_at s i ≡ Some u = let P : TileId → Type 0 = λ k. tile_at s k ≡ Some u in subst P (sym same) f in
          let one : u ≡ t = one_tile s i u t there e in
          let Q : Tile → Type 0 = λ v. HasPoint (turned side v.area) (left_of side t.area y) in
          let h' = subst Q one h in
          let a = h'.across.from in
          omega (arith, ints)
