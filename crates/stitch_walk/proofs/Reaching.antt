-- Walks to a point: across an edge, in a straight line, and from both to the tile that has the point.
use Rattle.std.proofs.Common.{ℕ, ℤ, pos, Bool, true, false, ◌≡◌, ◌<◌, ◌↔◌, IsTrue, ◌+ℤ◌, ◌-ℤ◌, ◌≤ℤ◌, ◌<ℤ◌, Some, refl, sym, subst, ap, ◌∙◌, arith}
use Rattle.std.specs.declared.option.Option.{Option}
use Rattle.std.specs.Int.{int_max}
use Rattle.std.specs.Int.RustNames.{unsigned_abs}
use Rattle.std.proofs.lemmas.Int.{ints, clamps, by_lt_z}
use Rattle.geo_rect.specs.declared.shapes.Point.{Point}
use Rattle.geo_rect.specs.declared.shapes.Rect.{Rect}
use Rattle.geo_rect.specs.Axis.{HasNumber}
use Rattle.geo_rect.specs.Plane.{columns, rows, HasPoint}
use Rattle.geo_rect.proofs.Parts.{low_in, lies_in_points}
use Rattle.plane_core.specs.declared.sides.Side.{Side}
use Rattle.plane_core.specs.declared.sides.Side.TheVariants.{Left, Below, Right, Above}
use Rattle.plane_core.specs.Sides.{turned, turned_point}
use Rattle.plane_core.proofs.Turns.{points_turn, mirrored_has, has_mirrored}
use Rattle.tile_store.specs.declared.tiles.Tile.{Tile}
use Rattle.tile_store.specs.declared.tiles.TileId.{TileId}
use Rattle.tile_store.specs.Store.{Store, tile_at}
use Rattle.stitch_walk.specs.Links.{Holds, stitch_point, LeadsTo, IsLinked, Tiles}
use Rattle.stitch_walk.specs.Reaches.{opposite, following, beside_point, EndsShort, BeginsAfter, IsLevel, Reaches, IsPast}
use Rattle.stitch_walk.proofs.Facing.{same_point, stitch_starts, stitch_follows, over, inside_turned, ends_left}
use Rattle.stitch_walk.proofs.Linked.{one_tile}
use Rattle.stitch_walk.proofs.WalkState.{left_of, rows_left}

-- a stitch that is there names the tile that has its point
pub stitch_holds : (s : Store) (domain : Rect) (at : Point) (o : Option TileId) (next : TileId) → LeadsTo s domain at o → o ≡ Some next → Holds s next at
stitch_holds s domain at o next leads e = let P : Option TileId → Type 0 = λ z. LeadsTo s domain at z in subst P e leads

-- a tile that has a point has it when both are turned
tile_turned : (s : Store) (side : Side) (id : TileId) (t : Tile) (p q : Point) → Holds s id p → tile_at s id ≡ Some t → turned_point side p ≡ q → HasPoint (turned side t.area) q
tile_turned s side id t p q h there e =
    let P : Tile → Type 0 = λ u. HasPoint u.area p in
    let Q : Point → Type 0 = λ z. HasPoint (turned side t.area) z in
    subst Q e ((points_turn side t.area p).0 (subst P (one_tile s id h.tile t h.is_there there) h.has_point))

-- a point lies in the domain where its turned point does
back_inside : (side : Side) (domain : Rect) (p q : Point) → turned_point side p ≡ q → HasPoint (turned side domain) q → HasPoint domain p
back_inside side domain p q e h =
    let Q : Point → Type 0 = λ z. HasPoint (turned side domain) z in
    (points_turn side domain p).1 (subst Q (sym e) h)

-- what is left falls
pub rows_left_falls : (last row row' : ℤ) → row ≤ℤ last → row <ℤ row' → rows_left last row' < rows_left last row
rows_left_falls last row row' more rise = omega (arith, ints, clamps)

-- a walk up the neighbours of the tile under id, to the one that has p, has come to this tile
pub record IsCrossing (tiles : Tiles) (side : Side) (id : TileId) (p : Point) (by : TileId) (tile : Tile) : Type 0 where
  pub start : Tile
  pub start_is : tile_at tiles.store id ≡ Some start
  pub one_step : (turned_point side p).x ≡ (turned side start.area).x0 -ℤ pos 1
  pub level : HasNumber (rows (turned side start.area)) (turned_point side p).y
  pub is_there : tile_at tiles.store by ≡ Some tile
  pub row : ℤ
  pub in_rows : HasNumber (rows (turned side start.area)) row
  pub has : HasPoint (turned side tile.area) (left_of side start.area row)
  pub not_past : row ≤ℤ (turned_point side p).y

module _ (tiles : Tiles) (is : IsLinked tiles.store tiles.domain) (side : Side) (id : TileId) (p : Point) (inside : HasPoint tiles.domain p) where
  turned_inside : HasPoint (turned side tiles.domain) (turned_point side p)
  turned_inside = (points_turn side tiles.domain p).0 inside

  module _ (start : Tile) (past : IsPast tiles.store side p id) (there : tile_at tiles.store id ≡ Some start) where
    past_start : ((turned_point side p).x ≡ (turned side start.area).x0 -ℤ pos 1) × HasNumber (rows (turned side start.area)) (turned_point side p).y
    past_start =
        let P : Tile → Type 0 = λ u. ((turned_point side p).x ≡ (turned side u.area).x0 -ℤ pos 1) × HasNumber (rows (turned side u.area)) (turned_point side p).y in
        subst P (one_tile tiles.store id past.tile start past.is_there there) (past.one_step, past.level)

    pub cross_begins_inside : HasPoint tiles.domain (stitch_point side start.area)
    cross_begins_inside =
        let within = inside_turned tiles.store tiles.domain is side id start (record { x = (turned side start.area).x0; y = (turned side start.area).y0 }) there (record { across = low_in (columns (turned side start.area)); up = low_in (rows (turned side start.area)) }) in
        let P : ℤ → Type 0 = λ v. HasNumber (columns (turned side tiles.domain)) v in
        back_inside side tiles.domain (stitch_point side start.area) (left_of side start.area (turned side start.area).y0) (stitch_starts side start.area)
        (record { across = subst P past_start.0 turned_inside.across; up = within.up })

    pub cross_begins : (by : TileId) (tile : Tile) → Holds tiles.store by (stitch_point side start.area) → tile_at tiles.store by ≡ Some tile → IsCrossing tiles side id p by tile
    cross_begins by tile h e = record {
      start = start;
      start_is = there;
      one_step = past_start.0;
      level = past_start.1;
      is_there = e;
      row = (turned side start.area).y0;
      in_rows = low_in (rows (turned side start.area));
      has = tile_turned tiles.store side by tile (stitch_point side start.area) (left_of side start.area (turned side start.area).y0) h e (stitch_starts side start.area);
      not_past = past_start.1.from;
    }

  module _ (by : TileId) (tile : Tile) (c : IsCrossing tiles side id p by tile) where
    column : (turned side tile.area).x1 ≡ (turned side c.start.area).x0 -ℤ pos 1
    column = ends_left tiles.store tiles.domain is side id by c.start tile c.row c.start_is c.is_there c.in_rows c.has

    over_is_left : (row : ℤ) → row ≡ (turned side tile.area).y1 +ℤ pos 1 → over side tile.area ≡ left_of side c.start.area row
    over_is_left row e = same_point (over side tile.area) (left_of side c.start.area row) column (sym e)

    pub cross_goes_inside : EndsShort side tile.area p → HasPoint tiles.domain (stitch_point (following side) tile.area)
    cross_goes_inside short =
        let within = inside_turned tiles.store tiles.domain is side by tile (left_of side c.start.area c.row) c.is_there c.has in
        let low = within.up.from in
        let high = turned_inside.up.to in
        let has = c.has.up.to in
        let at = column in
        let rise : (turned side tiles.domain).y0 ≤ℤ ((turned side tile.area).y1 +ℤ pos 1) = omega (arith, ints) in
        let end : ((turned side tile.area).y1 +ℤ pos 1) ≤ℤ (turned side tiles.domain).y1 = omega (arith, ints) in
        let P : ℤ → Type 0 = λ v. HasNumber (columns (turned side tiles.domain)) v in
        back_inside side tiles.domain (stitch_point (following side) tile.area) (over side tile.area) (stitch_follows side tile.area)
        (record { across = subst P (sym column) within.across; up = record { from = rise; to = end } })

    new_row : EndsShort side tile.area p → HasNumber (rows (turned side c.start.area)) ((turned side tile.area).y1 +ℤ pos 1)
    new_row short =
        let a = c.in_rows.from in
        let b = c.has.up.to in
        let d = c.level.to in
        record { from = omega (arith, ints); to = omega (arith, ints) }

    pub cross_goes_on : (by' : TileId) (tile' : Tile) → EndsShort side tile.area p → Holds tiles.store by' (stitch_point (following side) tile.area) → tile_at tiles.store by' ≡ Some tile' → IsCrossing tiles side id p by' tile'
    cross_goes_on by' tile' short h e = record {
      start = c.start;
      start_is = c.start_is;
      one_step = c.one_step;
      level = c.level;
      is_there = e;
      row = (turned side tile.area).y1 +ℤ pos 1;
      in_rows = new_row short;
      has = tile_turned tiles.store side by' tile' (stitch_point (following side) tile.area) (left_of side c.start.area ((turned side tile.area).y1 +ℤ pos 1)) h e (stitch_follows side tile.area ∙ over_is_left ((turned side tile.area).y1 +ℤ pos 1) refl);
      not_past = omega (arith, ints);
    }

    pub cross_rises : (by' : TileId) (tile' : Tile) → Holds tiles.store by' (stitch_point (following side) tile.area) → tile_at tiles.store by' ≡ Some tile' → (turned side tile.area).y1 <ℤ (turned side tile'.area).y1
    cross_rises by' tile' h e =
        let has = tile_turned tiles.store side by' tile' (stitch_point (following side) tile.area) (over side tile.area) h e (stitch_follows side tile.area) in
        let a = has.up.to in
        omega (arith, ints)

    pub cross_ends : ¬ EndsShort side tile.area p → Holds tiles.store by p
    cross_ends not_short =
        by_lt_z (turned side tile.area).y1 (turned_point side p).y
        (λ (less : (turned side tile.area).y1 <ℤ (turned_point side p).y). absurd (not_short less))
        (λ (more : (turned_point side p).y ≤ℤ (turned side tile.area).y1).
        let a = c.has.up.from in
        let b = c.not_past in
        let low : (turned side tile.area).y0 ≤ℤ (turned_point side p).y = omega (arith, ints) in
        let P : ℤ → Type 0 = λ v. HasNumber (columns (turned side tile.area)) v in
        record {
          tile = tile;
          is_there = c.is_there;
          has_point = (points_turn side tile.area p).1 (record { across = subst P (sym c.one_step) c.has.across; up = record { from = low; to = more } });
        })

-- the point beside a rectangle, turned
beside_turned : (side : Side) (r : Rect) (p : Point) → turned_point side (beside_point side r p) ≡ left_of side r (turned_point side p).y
beside_turned Left r p = refl
beside_turned Below r p = refl
beside_turned Right r p = same_point _ _ (omega (arith, ints)) refl
beside_turned Above r p = same_point _ _ (omega (arith, ints)) refl

-- a rectangle that ends after p on one side goes as far as p on the other
other_reaches : (side : Side) (r : Rect) (p : Point) → (turned_point side p).x ≤ℤ (turned side r).x1 → (turned (opposite side) r).x0 ≤ℤ (turned_point (opposite side) p).x
other_reaches Left r p h = omega (arith, ints)
other_reaches Below r p h = omega (arith, ints)
other_reaches Right r p h = omega (arith, ints)
other_reaches Above r p h = omega (arith, ints)

reaches_other : (side : Side) (r : Rect) (p : Point) → (turned (opposite side) r).x0 ≤ℤ (turned_point (opposite side) p).x → (turned_point side p).x ≤ℤ (turned side r).x1
reaches_other Left r p h = omega (arith, ints)
reaches_other Below r p h = omega (arith, ints)
reaches_other Right r p h = omega (arith, ints)
reaches_other Above r p h = omega (arith, ints)

-- a straight walk to p on a side has come to this tile
pub record IsGoing (s : Store) (side : Side) (id : TileId) (p : Point) (by : TileId) (tile : Tile) : Type 0 where
  pub is_there : tile_at s by ≡ Some tile
  pub level : HasNumber (rows (turned side tile.area)) (turned_point side p).y
  pub kept : Reaches s (opposite side) p id → Reaches s (opposite side) p by

-- how far the columns of the turned rectangle begin after p
abbrev pub columns_left : Side → Rect → Point → ℕ
columns_left side r p = unsigned_abs (int_max ((turned side r).x0 -ℤ (turned_point side p).x) (pos 0))

falls_by : (x x' v : ℤ) → v <ℤ x → x' <ℤ x → unsigned_abs (int_max (x' -ℤ v) (pos 0)) < unsigned_abs (int_max (x -ℤ v) (pos 0))
falls_by x x' v after less = omega (arith, ints, clamps)

module _ (tiles : Tiles) (is : IsLinked tiles.store tiles.domain) (side : Side) (id : TileId) (p : Point) (inside : HasPoint tiles.domain p) where
  pub go_begins : (tile : Tile) → IsLevel tiles.store side p id → tile_at tiles.store id ≡ Some tile → IsGoing tiles.store side id p id tile
  go_begins tile l e =
      let P : Tile → Type 0 = λ u. HasNumber (rows (turned side u.area)) (turned_point side p).y in
      record { is_there = e; level = subst P (one_tile tiles.store id l.tile tile l.is_there e) l.level; kept = λ r. r }

  module _ (by : TileId) (tile : Tile) (g : IsGoing tiles.store side id p by tile) where
    pub go_past : IsPast tiles.store side (beside_point side tile.area p) by
    go_past = record {
      tile = tile;
      is_there = g.is_there;
      one_step = ap (λ (q : Point). q.x) (beside_turned side tile.area p);
      level =
          let P : ℤ → Type 0 = λ v. HasNumber (rows (turned side tile.area)) v in
          subst P (sym (ap (λ (q : Point). q.y) (beside_turned side tile.area p))) g.level;
    }

    pub go_inside : BeginsAfter side tile.area p → HasPoint tiles.domain (beside_point side tile.area p)
    go_inside after =
        let within = inside_turned tiles.store tiles.domain is side by tile (record { x = (turned side tile.area).x0; y = (turned_point side p).y }) g.is_there (record { across = low_in (columns (turned side tile.area)); up = g.level }) in
        let has = (points_turn side tiles.domain p).0 inside in
        let a = has.across.from in
        let b = within.across.to in
        let low : (turned side tiles.domain).x0 ≤ℤ ((turned side tile.area).x0 -ℤ pos 1) = omega (arith, ints) in
        let high : ((turned side tile.area).x0 -ℤ pos 1) ≤ℤ (turned side tiles.domain).x1 = omega (arith, ints) in
        back_inside side tiles.domain (beside_point side tile.area p) (left_of side tile.area (turned_point side p).y) (beside_turned side tile.area p)
        (record { across = record { from = low; to = high }; up = within.up })

    module _ (by' : TileId) (tile' : Tile) (after : BeginsAfter side tile.area p) (h : Holds tiles.store by' (beside_point side tile.area p)) (e : tile_at tiles.store by' ≡ Some tile') where
      has_left : HasPoint (turned side tile'.area) (left_of side tile.area (turned_point side p).y)
      has_left = tile_turned tiles.store side by' tile' (beside_point side tile.area p) (left_of side tile.area (turned_point side p).y) h e (beside_turned side tile.area p)

      pub go_goes_on : IsGoing tiles.store side id p by' tile'
      go_goes_on = record {
        is_there = e;
        level = has_left.up;
        kept = λ _.
            let a = has_left.across.to in
            record { tile = tile'; is_there = e; reaches = other_reaches side tile'.area p (omega (arith, ints)) };
      }

      pub columns_left_fall : columns_left side tile'.area p < columns_left side tile.area p
      columns_left_fall =
          let a = has_left.across.from in
          falls_by (turned side tile.area).x0 (turned side tile'.area).x0 (turned_point side p).x after (omega (arith, ints))

    pub go_reaches : ¬ BeginsAfter side tile.area p → Reaches tiles.store side p by
    go_reaches not_after =
        by_lt_z (turned_point side p).x (turned side tile.area).x0
        (λ (less : (turned_point side p).x <ℤ (turned side tile.area).x0). absurd (not_after less))
        (λ (more : (turned side tile.area).x0 ≤ℤ (turned_point side p).x). record { tile = tile; is_there = g.is_there; reaches = more })

    pub go_level : IsLevel tiles.store side p by
    go_level = record { tile = tile; is_there = g.is_there; level = g.level }

-- a tile that is level with a point on one side is so on the other
pub level_opposite : (s : Store) (side : Side) (p : Point) (id : TileId) → IsLevel s side p id → IsLevel s (opposite side) p id
level_opposite s Left p id l = record { tile = l.tile; is_there = l.is_there; level = mirrored_has (rows l.tile.area) p.y l.level }
level_opposite s Below p id l = record { tile = l.tile; is_there = l.is_there; level = mirrored_has (columns l.tile.area) p.x l.level }
level_opposite s Right p id l = record { tile = l.tile; is_there = l.is_there; level = has_mirrored (rows l.tile.area) p.y l.level }
level_opposite s Above p id l = record { tile = l.tile; is_there = l.is_there; level = has_mirrored (columns l.tile.area) p.x l.level }

-- a tile that is level with a point and goes as far as it on both sides has it
pub holds_between : (s : Store) (side : Side) (p : Point) (id : TileId) → IsLevel s side p id → Reaches s side p id → Reaches s (opposite side) p id → Holds s id p
holds_between s side p id l r o =
    let P : Tile → Type 0 = λ u. (turned side u.area).x0 ≤ℤ (turned_point side p).x in
    let Q : Tile → Type 0 = λ u. (turned (opposite side) u.area).x0 ≤ℤ (turned_point (opposite side) p).x in
    let from = subst P (one_tile s id r.tile l.tile r.is_there l.is_there) r.reaches in
    let to = reaches_other side l.tile.area p (subst Q (one_tile s id o.tile l.tile o.is_there l.is_there) o.reaches) in
    record {
      tile = l.tile;
      is_there = l.is_there;
      has_point = (points_turn side l.tile.area p).1 (record { across = record { from = from; to = to }; up = l.level });
    }

-- a tile that has a point is level with each point in its row
pub holds_level : (s : Store) (p q : Point) (id : TileId) → Holds s id p → p.y ≡ q.y → IsLevel s Left q id
holds_level s p q id h e = let P : ℤ → Type 0 = λ v. HasNumber (rows h.tile.area) v in record { tile = h.tile; is_there = h.is_there; level = subst P e h.has_point.up }

-- the first column of a tile, in a row of the domain
module _ (s : Store) (domain : Rect) (is : IsLinked s domain) (id : TileId) (t : Tile) (there : tile_at s id ≡ Some t) (p q : Point) (inside : HasPoint domain p) (column : q.x ≡ t.area.x0) (row : q.y ≡ p.y) where
  pub corner_level : IsLevel s Below q id
  corner_level = let P : ℤ → Type 0 = λ v. HasNumber (columns t.area) v in record { tile = t; is_there = there; level = subst P (sym column) (low_in (columns t.area)) }

  pub corner_inside : HasPoint domain q
  corner_inside =
      let P : ℤ → Type 0 = λ v. HasNumber (columns domain) v in
      let Q : ℤ → Type 0 = λ v. HasNumber (rows domain) v in
      let corner = (lies_in_points t.area domain).0 (is.inside id t there) (record { x = t.area.x0; y = t.area.y0 }) (record { across = low_in (columns t.area); up = low_in (rows t.area) }) in
      record { across = subst P (sym column) corner.across; up = subst Q (sym row) inside.up }

-- what a test that is true says, and one that is false
pub when_true : (b : Bool) (P : Type 0) → IsTrue b ↔ P → b ≡ true → P
when_true b P i e = i.0 e

pub when_false : (b : Bool) (P : Type 0) → IsTrue b ↔ P → b ≡ false → P → ⊥
when_false b P i e p = let t : b ≡ true = i.1 p in let f : true ≡ false = sym t ∙ e in cc

pub below_row : (side : Side) (r : Rect) (p : Point) → EndsShort side r p → (turned side r).y1 ≤ℤ (turned_point side p).y
below_row side r p h = omega (arith, ints)

-- the same for the side that the code has computed
pub by_side : (tiles : Tiles) (side other : Side) (t : Tile) → other ≡ following side → HasPoint tiles.domain (stitch_point (following side) t.area) → HasPoint tiles.domain (stitch_point other t.area)
by_side tiles side other t e h = let P : Side → Type 0 = λ k. HasPoint tiles.domain (stitch_point k t.area) in subst P (sym e) h

pub holds_by_side : (tiles : Tiles) (side other : Side) (id : TileId) (t : Tile) → other ≡ following side → Holds tiles.store id (stitch_point other t.area) → Holds tiles.store id (stitch_point (following side) t.area)
holds_by_side tiles side other id t e h = let P : Side → Type 0 = λ k. Holds tiles.store id (stitch_point k t.area) in subst P e h

pub past_by : (s : Store) (side : Side) (id : TileId) (p q : Point) → p ≡ q → IsPast s side q id → IsPast s side p id
past_by s side id p q e h = let P : Point → Type 0 = λ z. IsPast s side z id in subst P (sym e) h

pub inside_by : (domain : Rect) (p q : Point) → p ≡ q → HasPoint domain q → HasPoint domain p
inside_by domain p q e h = let P : Point → Type 0 = λ z. HasPoint domain z in subst P (sym e) h

pub holds_by : (s : Store) (id : TileId) (p q : Point) → p ≡ q → Holds s id p → Holds s id q
holds_by s id p q e h = let P : Point → Type 0 = λ z. Holds s id z in subst P e h

not_after : (a b : ℤ) → (a <ℤ b → ⊥) → b ≤ℤ a
not_after a b n = by_lt_z a b (λ (l : a <ℤ b). absurd (n l)) (λ (m : b ≤ℤ a). m)

-- a point that lies past no edge of a rectangle is one of its points
pub past_no_edge : (r : Rect) (p : Point) → (BeginsAfter Left r p → ⊥) → (BeginsAfter Below r p → ⊥) → (BeginsAfter Right r p → ⊥) → (BeginsAfter Above r p → ⊥) → HasPoint r p
past_no_edge r p left below right above =
    let a : r.x0 ≤ℤ p.x = not_after p.x r.x0 left in
    let b : r.y0 ≤ℤ p.y = not_after p.y r.y0 below in
    let c : (pos 0 -ℤ r.x1) ≤ℤ (pos 0 -ℤ p.x) = not_after (pos 0 -ℤ p.x) (pos 0 -ℤ r.x1) right in
    let d : (pos 0 -ℤ r.y1) ≤ℤ (pos 0 -ℤ p.y) = not_after (pos 0 -ℤ p.y) (pos 0 -ℤ r.y1) above in
    record { across = record { from = a; to = omega (arith, ints) }; up = record { from = b; to = omega (arith, ints) } }
