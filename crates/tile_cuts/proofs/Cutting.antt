-- A tile that is replaced by its two parts: the tiling is linked but for the stitches into the second.
use Rattle.std.proofs.Common.{◌≡◌, ◌≢◌, ◌⊎◌, inl, inr, Some, None, sym, subst, ap, ◌∙◌}
use Rattle.std.specs.declared.option.Option.{Option}
use Rattle.geo_rect.specs.declared.shapes.Point.{Point}
use Rattle.geo_rect.specs.declared.shapes.Rect.{Rect}
use Rattle.geo_rect.specs.Plane.{HasPoint}
use Rattle.plane_core.specs.declared.sides.Side.{Side}
use Rattle.plane_core.specs.declared.strips.Strip.{Strip}
use Rattle.tile_store.specs.declared.tiles.Tile.{Tile}
use Rattle.tile_store.specs.declared.tiles.TileId.{TileId}
use Rattle.tile_store.specs.Store.{Store, tile_at, ChangesAt}
use Rattle.stitch_walk.specs.Links.{Holds, stitch, stitch_point, LeadsTo, IsTiling, Tiles}
use Rattle.stitch_walk.specs.Pieces.{piece_of}
use Rattle.stitch_walk.proofs.Filled.{filled, piece_of_tile}
use Rattle.stitch_walk.proofs.Linked.{one_tile, decide_id}
use Rattle.tile_cuts.specs.Mending.{IsLinkedBut, IsMended, AllName}
use Rattle.tile_cuts.specs.Parts.{IsCutInto, IsReplaced}
use Rattle.tile_cuts.proofs.Filling.{filled_by_parts}
use Rattle.tile_cuts.proofs.Mended.{but_still, tiling_mended}

pub tile_is_there : (t : Tile) → Some t ≡ None → ⊥
tile_is_there t e = cc

-- the area and the label of a tile
abbrev pub piece : Tile → Strip
piece t = record { area = t.area; label = t.label }

-- in s the tile under id is whole; s1 has the first part there, and s2 also the second under other
module _ (s s1 s2 : Store) (domain : Rect) (id other : TileId) (first second : Tile) (is : IsTiling s domain) (cut : IsCutInto (record { store = s; domain = domain }) id first second) (written : ChangesAt s s1 id (Some first)) (absent : tile_at s1 other ≡ None) (put : ChangesAt s1 s2 other (Some second)) where
  differs : id ≢ other
  differs e =
      let P : TileId → Type 0 = λ i. tile_at s1 i ≡ Some first in
      tile_is_there first (sym (subst P e written.here) ∙ absent)

  first_there : tile_at s2 id ≡ Some first
  first_there = put.elsewhere id differs ∙ written.here

  other_absent : tile_at s other ≡ None
  other_absent = sym (written.elsewhere other (λ e. differs (sym e))) ∙ absent

  elsewhere : (n : TileId) → n ≢ id → n ≢ other → tile_at s2 n ≡ tile_at s n
  elsewhere n d e = put.elsewhere n e ∙ written.elsewhere n d

  replaced : IsReplaced s s2 id other (piece first) (piece second)
  replaced = record {
    was_absent = ap piece_of other_absent;
    first_is = piece_of_tile s2 id first first_there;
    second_is = piece_of_tile s2 other second put.here;
    elsewhere = λ n d e. ap piece_of (elsewhere n d e);
  }

  first_holds : (n : TileId) (p : Point) → n ≡ id → HasPoint first.area p → Holds s2 n p
  first_holds n p e h = let P : TileId → Type 0 = λ i. Holds s2 i p in subst P (sym e) (record { tile = first; is_there = first_there; has_point = h })

  -- a tile that had a point still has it, or the second part has it
  by_part : (n : TileId) (p : Point) → n ≡ id → HasPoint first.area p ⊎ HasPoint second.area p → HasPoint second.area p ⊎ Holds s2 n p
  by_part n p e (inl h) = inr (first_holds n p e h)
  by_part n p e (inr h) = inl h

  held_now : (n : TileId) (p : Point) → Holds s n p → (n ≡ id) ⊎ (n ≢ id) → HasPoint second.area p ⊎ Holds s2 n p
  held_now n p h (inl same) =
      let P : TileId → Type 0 = λ i. tile_at s i ≡ Some h.tile in
      let Q : Tile → Type 0 = λ t. HasPoint t.area p in
      by_part n p same (cut.parts.in_either p (subst Q (one_tile s id h.tile cut.whole (subst P same h.is_there) cut.is_there) h.has_point))
  held_now n p h (inr d) =
      let P : TileId → Type 0 = λ i. tile_at s i ≡ Some h.tile in
      let e : n ≢ other = λ same. tile_is_there h.tile (sym (subst P same h.is_there) ∙ other_absent) in
      inr (record { tile = h.tile; is_there = elsewhere n d e ∙ h.is_there; has_point = h.has_point })

  leads_now : (p : Point) (o : Option TileId) → LeadsTo s domain p o → HasPoint second.area p ⊎ LeadsTo s2 domain p o
  leads_now p None h = inr h
  leads_now p (Some n) h = held_now n p h (decide_id n id)

  -- what is to be shown of each stitch
  abbrev Stitched : Side → Tile → Type 0
  Stitched side t = HasPoint second.area (stitch_point side t.area) ⊎ LeadsTo s2 domain (stitch_point side t.area) (stitch side t)

  first_stitched : (side : Side) → HasPoint second.area (stitch_point side first.area) ⊎ LeadsTo s domain (stitch_point side first.area) (stitch side first) → Stitched side first
  first_stitched side (inl h) = inl h
  first_stitched side (inr l) = leads_now (stitch_point side first.area) (stitch side first) l

  second_stitched : (side : Side) → (HasPoint first.area (stitch_point side second.area) × (stitch side second ≡ Some id)) ⊎ LeadsTo s domain (stitch_point side second.area) (stitch side second) → Stitched side second
  second_stitched side (inl h) =
      let P : Option TileId → Type 0 = λ o. LeadsTo s2 domain (stitch_point side second.area) o in
      inr (subst P (sym h.1) (record { tile = first; is_there = first_there; has_point = h.0 }))
  second_stitched side (inr l) = leads_now (stitch_point side second.area) (stitch side second) l

  stitched : (side : Side) (n : TileId) (t : Tile) → tile_at s2 n ≡ Some t → (n ≡ id) ⊎ (n ≢ id) → (n ≡ other) ⊎ (n ≢ other) → Stitched side t
  stitched side n t e (inl same) _ =
      let P : TileId → Type 0 = λ i. tile_at s2 i ≡ Some t in
      let Q : Tile → Type 0 = λ u. Stitched side u in
      subst Q (one_tile s2 id first t first_there (subst P same e)) (first_stitched side (cut.first_stitched side))
  stitched side n t e (inr d) (inl same) =
      let P : TileId → Type 0 = λ i. tile_at s2 i ≡ Some t in
      let Q : Tile → Type 0 = λ u. Stitched side u in
      subst Q (one_tile s2 other second t put.here (subst P same e)) (second_stitched side (cut.second_stitched side))
  stitched side n t e (inr d) (inr f) =
      leads_now (stitch_point side t.area) (stitch side t) (is.linked.stitched side n t (sym (elsewhere n d f) ∙ e))

  pub cut_linked_but : IsLinkedBut s2 domain other second.area
  cut_linked_but = record {
    here = record { label = second.label; is_piece = piece_of_tile s2 other second put.here };
    small = is.small;
    filled = filled_by_parts s s2 id other (piece first) (piece second) (piece cut.whole) replaced (piece_of_tile s id cut.whole cut.is_there) cut.parts domain (filled s domain is);
    stitched = λ side n t e. stitched side n t e (decide_id n id) (decide_id n other);
  }

  -- once the stitches into the second part are mended it is a tiling
  pub cut_tiling : (s3 : Store) → IsMended s2 s3 other second.area → ((side : Side) → AllName s3 other second.area side) → IsTiling s3 domain
  cut_tiling s3 mended named = tiling_mended other second.area s3 domain (but_still other second.area s2 s3 mended domain cut_linked_but) named

-- the same, of the value that contracts see of a tiling
pub cut_into_inside : (s : Store) (domain : Rect) (v : Tiles) (id : TileId) (first second : Tile) → record { store = s; domain = domain } ≡ v → IsCutInto v id first second → IsCutInto (record { store = s; domain = domain }) id first second
cut_into_inside s domain v id first second e cut = let P : Tiles → Type 0 = λ t. IsCutInto t id first second in subst P (sym e) cut
