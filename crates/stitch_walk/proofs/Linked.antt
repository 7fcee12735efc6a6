-- What a linked tiling keeps: where the tiles are the same, and with one tile alone.
use Rattle.std.proofs.Common.{ℕ, ◌≡◌, ◌≢◌, ◌⊎◌, inl, inr, Some, None, sym, subst, ap, ◌∙◌, arith}
use Rattle.std.specs.declared.option.Option.{Option}
use Rattle.std.proofs.lemmas.Int.{ints}
use Rattle.std.proofs.lemmas.Bool.{cases_eq}
use Rattle.geo_rect.specs.declared.shapes.Interval.{Interval}
use Rattle.geo_rect.specs.declared.shapes.Point.{Point}
use Rattle.geo_rect.specs.declared.shapes.Rect.{Rect}
use Rattle.geo_rect.specs.Axis.{LiesWithin}
use Rattle.geo_rect.specs.Plane.{columns, rows, HasPoint, LiesIn}
use Rattle.geo_rect.proofs.Parts.{low_in, lies_in_from}
use Rattle.plane_core.specs.declared.sides.Side.{Side}
use Rattle.plane_core.specs.declared.sides.Side.TheVariants.{Left, Below, Right, Above}
use Rattle.plane_core.specs.Labels.{IsSmall, IsWithinReach}
use Rattle.tile_store.specs.declared.tiles.Tile.{Tile}
use Rattle.tile_store.specs.declared.tiles.TileId.{TileId}
use Rattle.tile_store.specs.Store.{Store, tile_at, ChangesAt, HasNoTile, HasSameTiles}
use Rattle.stitch_walk.specs.Links.{Holds, stitch, stitch_point, LeadsTo, IsLinked, IsTiling, IsOnlyTile, Tiles, whole_tile}

-- an option that holds something is not none
some_is_not_none : (t : Tile) → Some t ≡ None → ⊥
some_is_not_none t e = cc

-- one number has one tile
pub one_tile : (s : Store) (id : TileId) (t u : Tile) → tile_at s id ≡ Some t → tile_at s id ≡ Some u → t ≡ u
one_tile s id t u p q = cc

module _ (old new : Store) (same : HasSameTiles old new) where
  holds_still : (id : TileId) (p : Point) → Holds old id p → Holds new id p
  holds_still id p h = record { tile = h.tile; is_there = same id ∙ h.is_there; has_point = h.has_point }

  held_before : (id : TileId) (p : Point) → Holds new id p → Holds old id p
  held_before id p h = record { tile = h.tile; is_there = sym (same id) ∙ h.is_there; has_point = h.has_point }

  leads_still : (domain : Rect) (p : Point) (o : Option TileId) → LeadsTo old domain p o → LeadsTo new domain p o
  leads_still domain p None h = h
  leads_still domain p (Some id) h = holds_still id p h

  linked_still : (domain : Rect) → IsLinked old domain → IsLinked new domain
  linked_still domain is = record {
    inside = λ id t e. is.inside id t (sym (same id) ∙ e);
    apart = λ i j p h k. is.apart i j p (held_before i p h) (held_before j p k);
    covered = λ p h. let held = is.covered p h in record { by = held.by; holds = holds_still held.by p held.holds };
    stitched = λ side id t e. leads_still domain (stitch_point side t.area) (stitch side t) (is.stitched side id t (sym (same id) ∙ e));
  }

  pub tiling_still : (domain : Rect) → IsTiling old domain → IsTiling new domain
  tiling_still domain is = record { linked = linked_still domain is.linked; small = is.small }

-- the points of the four stitches of a rectangle lie outside it
stitch_outside : (side : Side) (r : Rect) → ¬ HasPoint r (stitch_point side r)
stitch_outside Left r h = let a = h.across.from in omega (arith, ints)
stitch_outside Below r h = let a = h.up.from in omega (arith, ints)
stitch_outside Right r h = let a = h.across.to in omega (arith, ints)
stitch_outside Above r h = let a = h.up.to in omega (arith, ints)

whole_stitched : (s : Store) (side : Side) (domain : Rect) → LeadsTo s domain (stitch_point side domain) (stitch side (whole_tile domain))
whole_stitched s Left domain = stitch_outside Left domain
whole_stitched s Below domain = stitch_outside Below domain
whole_stitched s Right domain = stitch_outside Right domain
whole_stitched s Above domain = stitch_outside Above domain

lies_in_itself : (r : Rect) → LiesIn r r
lies_in_itself r = lies_in_from r r (λ p h. h)

-- a store with one tile under each number or none
module _ (s : Store) (domain : Rect) (only : IsOnlyTile s (whole_tile domain)) (decide : (i j : TileId) → (i ≡ j) ⊎ (i ≢ j)) where
  is_only : (id : TileId) (t : Tile) → tile_at s id ≡ Some t → id ≡ only.id
  is_only id t e =
      elim (decide id only.id) [
        | inl same ↦ same
        | inr differs ↦ absurd (some_is_not_none t (sym e ∙ only.alone id differs))
      ]

  is_whole : (id : TileId) (t : Tile) → tile_at s id ≡ Some t → whole_tile domain ≡ t
  is_whole id t e =
      let P : TileId → Type 0 = λ i. tile_at s i ≡ Some t in
      one_tile s only.id (whole_tile domain) t only.is_there (subst P (is_only id t e) e)

  only_linked : IsLinked s domain
  only_linked = record {
    inside = λ id t e. let P : Tile → Type 0 = λ u. LiesIn u.area domain in subst P (is_whole id t e) (lies_in_itself domain);
    apart = λ i j p h k. is_only i h.tile h.is_there ∙ sym (is_only j k.tile k.is_there);
    covered = λ p h. record { by = only.id; holds = record { tile = whole_tile domain; is_there = only.is_there; has_point = h } };
    stitched = λ side id t e. let P : Tile → Type 0 = λ u. LeadsTo s domain (stitch_point side u.area) (stitch side u) in subst P (is_whole id t e) (whole_stitched s side domain);
  }

-- two numbers of tiles are the same or not
pub decide_id : (i j : TileId) → (i ≡ j) ⊎ (i ≢ j)
decide_id i j = by_number (cases_eq i.0 j.0)
  where
    by_number : (i.0 ≡ j.0) ⊎ (i.0 ≢ j.0) → (i ≡ j) ⊎ (i ≢ j)
    by_number (inl e) = inl (ap (λ (n : ℕ). let r : TileId = record { 0 = n } in r) e)
    by_number (inr d) = inr (λ e. d (ap (λ (k : TileId). k.0) e))

-- what was put into a store of no tile is its only tile
pub put_only : (empty before after : Store) (id : TileId) (t : Tile) → HasNoTile empty → HasSameTiles empty before → ChangesAt before after id (Some t) → IsOnlyTile after t
put_only empty before after id t none same change = record {
  id = id;
  is_there = change.here;
  alone = λ other differs. change.elsewhere other differs ∙ same other ∙ none other;
}

pub whole_tiling : (s : Store) (domain : Rect) → IsOnlyTile s (whole_tile domain) → IsSmall domain → IsTiling s domain
whole_tiling s domain only small = record { linked = only_linked s domain only decide_id; small = small }

corner : Rect → Point
corner r = record { x = r.x0; y = r.y0 }

has_corner : (r : Rect) → HasPoint r (corner r)
unfolding corner
has_corner r = record { across = low_in (columns r); up = low_in (rows r) }

-- a tiling has a tile
pub not_empty : (s : Store) (domain : Rect) → IsTiling s domain → HasNoTile s → ⊥
not_empty s domain is none =
    let held = is.linked.covered (corner domain) (has_corner domain) in
    some_is_not_none held.holds.tile (sym held.holds.is_there ∙ none held.by)

-- an interval within reach has those in it within reach
pub small_along : (i j : Interval) → LiesWithin i j → IsWithinReach j → IsWithinReach i
small_along i j w r =
    let a = w.from in
    let b = w.to in
    let c = r.from in
    let d = r.to in
    record { from = omega (arith, ints); to = omega (arith, ints) }

-- the coordinates of each tile are small
pub small_tile : (s : Store) (domain : Rect) (id : TileId) (t : Tile) → IsTiling s domain → tile_at s id ≡ Some t → IsSmall t.area
small_tile s domain id t is e =
    let w = is.linked.inside id t e in
    record {
      across = small_along (columns t.area) (columns domain) w.across is.small.across;
      up = small_along (rows t.area) (rows domain) w.up is.small.up;
    }

-- what a tiling keeps of its fields it keeps of the value that contracts see
pub tiling_now : (s : Store) (domain : Rect) (v : Tiles) → record { store = s; domain = domain } ≡ v → IsTiling s domain → IsTiling v.store v.domain
tiling_now s domain v e is = let P : Tiles → Type 0 = λ t. IsTiling t.store t.domain in subst P e is
