-- Two tiles that are replaced by the rectangle that they are together: the tiling is linked but for the
-- stitches into that one.
use Rattle.std.proofs.Common.{◌≡◌, ◌≢◌, ◌⊎◌, IsSome, inl, inr, Some, None, refl, sym, subst, ap, ◌∙◌}
use Rattle.std.specs.declared.option.Option.{Option}
use Rattle.geo_rect.specs.declared.shapes.Point.{Point}
use Rattle.geo_rect.specs.declared.shapes.Rect.{Rect}
use Rattle.geo_rect.specs.Plane.{columns, rows, HasPoint}
use Rattle.geo_rect.proofs.Parts.{low_in, lies_in_points, same_points}
use Rattle.plane_core.specs.declared.sides.Side.{Side}
use Rattle.plane_core.specs.declared.sides.Side.TheVariants.{Left, Below, Right, Above}
use Rattle.plane_core.specs.declared.strips.Strip.{Strip}
use Rattle.tile_store.specs.declared.tiles.Tile.{Tile}
use Rattle.tile_store.specs.declared.tiles.TileId.{TileId}
use Rattle.tile_store.specs.Store.{Store, tile_at, IsPresent, ChangesAt}
use Rattle.stitch_walk.specs.Links.{Holds, stitch, stitch_point, LeadsTo, IsTiling, Tiles}
use Rattle.stitch_walk.specs.Pieces.{piece_of, IsPiece, CanJoin, IsJoined}
use Rattle.stitch_walk.proofs.Filled.{filled, holds_of, piece_of_tile}
use Rattle.stitch_walk.proofs.Linked.{one_tile, decide_id}
use Rattle.tile_cuts.specs.Mending.{IsLinkedBut, IsMended, AllName}
use Rattle.tile_cuts.specs.Parts.{ArePartsOf, IsReplaced, AreJoinable, AreJoined}
use Rattle.tile_cuts.proofs.Cutting.{piece, tile_is_there}
use Rattle.tile_cuts.proofs.Filling.{one_piece, filled_by_whole}
use Rattle.tile_cuts.proofs.Mended.{but_still, tiling_mended}

-- w keeps the stitches of a at the lower left corner, and those of b at the upper right one
pub record TakesCorners (a b w : Tile) : Type 0 where
  pub bl : w.bl ≡ a.bl
  pub lb : w.lb ≡ a.lb
  pub tr : w.tr ≡ b.tr
  pub rt : w.rt ≡ b.rt

-- tiles whose areas have no common point have different numbers
module _ (s : Store) (id other : TileId) (a b : Tile) (whole : Rect) (here : tile_at s id ≡ Some a) (there : tile_at s other ≡ Some b) (parts : ArePartsOf a.area b.area whole) where
  pub not_one : id ≢ other
  not_one e =
      let P : TileId → Type 0 = λ i. tile_at s i ≡ Some a in
      let Q : Tile → Type 0 = λ t. HasPoint t.area (record { x = a.area.x0; y = a.area.y0 }) in
      let h : HasPoint a.area (record { x = a.area.x0; y = a.area.y0 }) = record { across = low_in (columns a.area); up = low_in (rows a.area) } in
      parts.in_one (record { x = a.area.x0; y = a.area.y0 }) h (subst Q (one_tile s other a b (subst P e here) there) h)

  pub still_present : (s1 : Store) → tile_at s1 id ≡ tile_at s id → IsPresent s1 id
  still_present s1 e = let P : Option Tile → Type 0 = λ o. IsSome o in subst P (sym (e ∙ here)) refl

module _ (s s1 s2 : Store) (domain : Rect) (id other : TileId) (a b w : Tile) (is : IsTiling s domain) (here : tile_at s id ≡ Some a) (there : tile_at s other ≡ Some b) (parts : ArePartsOf a.area b.area w.area) (corners : TakesCorners a b w) (taken : ChangesAt s s1 other None) (written : ChangesAt s1 s2 id (Some w)) where
  differs : id ≢ other
  differs = not_one s id other a b w.area here there parts

  elsewhere : (n : TileId) → n ≢ id → n ≢ other → tile_at s2 n ≡ tile_at s n
  elsewhere n d e = written.elsewhere n d ∙ taken.elsewhere n e

  other_absent : tile_at s2 other ≡ None
  other_absent = written.elsewhere other (λ e. differs (sym e)) ∙ taken.here

  pub joined : IsReplaced s2 s id other (piece a) (piece b)
  joined = record {
    was_absent = ap piece_of other_absent;
    first_is = piece_of_tile s id a here;
    second_is = piece_of_tile s other b there;
    elsewhere = λ n d e. ap piece_of (sym (elsewhere n d e));
  }

  -- a tile that had a point still has it, or the whole has it
  held_now : (n : TileId) (p : Point) → Holds s n p → (n ≡ id) ⊎ (n ≢ id) → (n ≡ other) ⊎ (n ≢ other) → HasPoint w.area p ⊎ Holds s2 n p
  held_now n p h (inl same) _ =
      let P : TileId → Type 0 = λ i. tile_at s i ≡ Some h.tile in
      let Q : Tile → Type 0 = λ t. HasPoint t.area p in
      inl (parts.in_first p (subst Q (one_tile s id h.tile a (subst P same h.is_there) here) h.has_point))
  held_now n p h (inr d) (inl same) =
      let P : TileId → Type 0 = λ i. tile_at s i ≡ Some h.tile in
      let Q : Tile → Type 0 = λ t. HasPoint t.area p in
      inl (parts.in_second p (subst Q (one_tile s other h.tile b (subst P same h.is_there) there) h.has_point))
  held_now n p h (inr d) (inr e) = inr (record { tile = h.tile; is_there = elsewhere n d e ∙ h.is_there; has_point = h.has_point })

  leads_now : (p : Point) (o : Option TileId) → LeadsTo s domain p o → HasPoint w.area p ⊎ LeadsTo s2 domain p o
  leads_now p None h = inr h
  leads_now p (Some n) h = held_now n p h (decide_id n id) (decide_id n other)

  -- what is to be shown of each stitch
  abbrev Stitched : Side → Tile → Type 0
  Stitched side t = HasPoint w.area (stitch_point side t.area) ⊎ LeadsTo s2 domain (stitch_point side t.area) (stitch side t)

  -- a stitch of the whole is that of a part, with the same point
  as_part : (side : Side) (n : TileId) (t : Tile) → tile_at s n ≡ Some t → stitch_point side t.area ≡ stitch_point side w.area → stitch side w ≡ stitch side t → Stitched side w
  as_part side n t e p o =
      let P : Point → Type 0 = λ q. LeadsTo s domain q (stitch side w) in
      let Q : Option TileId → Type 0 = λ k. LeadsTo s domain (stitch_point side t.area) k in
      leads_now (stitch_point side w.area) (stitch side w) (subst P p (subst Q (sym o) (is.linked.stitched side n t e)))

  whole_stitched : (side : Side) → Stitched side w
  whole_stitched Left = as_part Left id a here parts.on_left corners.bl
  whole_stitched Below = as_part Below id a here parts.below corners.lb
  whole_stitched Right = as_part Right other b there parts.on_right corners.tr
  whole_stitched Above = as_part Above other b there parts.above corners.rt

  stitched : (side : Side) (n : TileId) (t : Tile) → tile_at s2 n ≡ Some t → (n ≡ id) ⊎ (n ≢ id) → (n ≡ other) ⊎ (n ≢ other) → Stitched side t
  stitched side n t e (inl same) _ =
      let P : TileId → Type 0 = λ i. tile_at s2 i ≡ Some t in
      let Q : Tile → Type 0 = λ u. Stitched side u in
      subst Q (one_tile s2 id w t written.here (subst P same e)) (whole_stitched side)
  stitched side n t e (inr d) (inl same) =
      let P : TileId → Type 0 = λ i. tile_at s2 i ≡ Some t in
      absurd (tile_is_there t (sym (subst P same e) ∙ other_absent))
  stitched side n t e (inr d) (inr f) =
      leads_now (stitch_point side t.area) (stitch side t) (is.linked.stitched side n t (sym (elsewhere n d f) ∙ e))

  pub join_linked_but : IsLinkedBut s2 domain id w.area
  join_linked_but = record {
    here = record { label = w.label; is_piece = piece_of_tile s2 id w written.here };
    small = is.small;
    filled = filled_by_whole s2 s id other (piece a) (piece b) (piece w) joined (piece_of_tile s2 id w written.here) parts domain (filled s domain is);
    stitched = λ side n t e. stitched side n t e (decide_id n id) (decide_id n other);
  }

  module _ (s3 : Store) (mended : IsMended s2 s3 id w.area) where
    -- once the stitches into the whole are mended it is a tiling
    pub join_tiling : ((side : Side) → AllName s3 id w.area side) → IsTiling s3 domain
    join_tiling named = tiling_mended id w.area s3 domain (but_still id w.area s2 s3 mended domain join_linked_but) named

    pub join_joins : w.label ≡ a.label → (v : Tiles) → record { store = s; domain = domain } ≡ v → AreJoined v.store s3 id other
    join_joins label v e =
        let P : Tiles → Type 0 = λ t. AreJoined t.store s3 id other in
        let Q : Tile → Type 0 = λ t. IsPiece s3 id (piece t) in
        subst P e (record {
          first = piece a;
          second = piece b;
          whole = w.area;
          split = record {
            was_absent = mended.pieces other ∙ joined.was_absent;
            first_is = joined.first_is;
            second_is = joined.second_is;
            elsewhere = λ n d f. joined.elsewhere n d f ∙ sym (mended.pieces n);
          };
          parts = parts;
          whole_is = mended.pieces id ∙ piece_of_tile s2 id w written.here ∙ ap (λ l. Some (record { area = w.area; label = l })) label;
        })

-- the two tiles that are joined are the parts of a rectangle
pub joinable_parts : (s : Store) (domain : Rect) (v : Tiles) (id other : TileId) (a b : Tile) → record { store = s; domain = domain } ≡ v → (j : AreJoinable v.store id other) → tile_at s id ≡ Some a → tile_at s other ≡ Some b → ArePartsOf a.area b.area j.whole
joinable_parts s domain v id other a b e j here there =
    let P : Tiles → Type 0 = λ t. IsPiece t.store id (piece a) in
    let Q : Tiles → Type 0 = λ t. IsPiece t.store other (piece b) in
    let R : Strip → Type 0 = λ p. ArePartsOf p.area j.second.area j.whole in
    let S : Strip → Type 0 = λ p. ArePartsOf a.area p.area j.whole in
    subst S (one_piece v.store other j.second (piece b) j.second_is (subst Q e (piece_of_tile s other b there)))
    (subst R (one_piece v.store id j.first (piece a) j.first_is (subst P e (piece_of_tile s id a here))) j.parts)

-- the tile that the stitch names whose point a piece has is that piece's
module _ (v : Tiles) (is : IsTiling v.store v.domain) (id other : TileId) (t : Tile) (there : tile_at v.store id ≡ Some t) (second : Strip) (second_is : IsPiece v.store other second) (side : Side) (has : HasPoint second.area (stitch_point side t.area)) where
  names_it : (o : Option TileId) (n : TileId) → LeadsTo v.store v.domain (stitch_point side t.area) o → o ≡ Some n → n ≡ other
  names_it o n leads e =
      let P : Option TileId → Type 0 = λ k. LeadsTo v.store v.domain (stitch_point side t.area) k in
      is.linked.apart n other (stitch_point side t.area) (subst P e leads) (holds_of v.store other second (stitch_point side t.area) second_is has)

  pub stitch_names : (n : TileId) → stitch side t ≡ Some n → n ≡ other
  stitch_names n e = names_it (stitch side t) n (is.linked.stitched side id t there) e

  pub stitch_is_there : stitch side t ≡ None → ⊥
  stitch_is_there e =
      let P : Option TileId → Type 0 = λ k. LeadsTo v.store v.domain (stitch_point side t.area) k in
      let leads : ¬ HasPoint v.domain (stitch_point side t.area) = subst P e (is.linked.stitched side id t there) in
      let fill = filled v.store v.domain is in
      leads ((lies_in_points second.area v.domain).0 (fill.inside other second second_is) (stitch_point side t.area) has)

-- two pieces that can be joined, in the one way or the other
module _ (AreParts : Rect → Rect → Rect → Type 0) (parts_of : (a b c : Rect) → AreParts a b c → ArePartsOf a b c) (old : Store) (id : TileId) (can : CanJoin AreParts old id) where
  pub are_joinable : (n : TileId) → n ≡ can.other → AreJoinable old id n
  are_joinable n e =
      let P : TileId → Type 0 = λ i. IsPiece old i can.second in
      record {
        first = can.first;
        second = can.second;
        whole = can.whole;
        first_is = can.first_is;
        second_is = subst P (sym e) can.second_is;
        parts = parts_of can.first.area can.second.area can.whole can.parts;
        same_label = can.same_label;
      }

  whole_points : (first second r s : Rect) → ArePartsOf first second r → ArePartsOf first second s → (p : Point) → HasPoint r p → HasPoint s p
  whole_points first second r s in_r in_s p h = elim (in_r.in_either p h) [ inl k ↦ in_s.in_first p k | inr k ↦ in_s.in_second p k ]

  module _ (new : Store) (j : AreJoined old new id can.other) where
    same_first : can.first ≡ j.first
    same_first = one_piece old id can.first j.first can.first_is j.split.first_is

    same_second : can.second ≡ j.second
    same_second = one_piece old can.other can.second j.second can.second_is j.split.second_is

    as_parts : AreParts j.first.area j.second.area can.whole
    as_parts =
        let P : Strip → Type 0 = λ p. AreParts p.area can.second.area can.whole in
        let Q : Strip → Type 0 = λ p. AreParts j.first.area p.area can.whole in
        subst Q same_second (subst P same_first can.parts)

    same_whole : can.whole ≡ j.whole
    same_whole =
        let f = parts_of j.first.area j.second.area can.whole as_parts in
        same_points can.whole j.whole (whole_points j.first.area j.second.area can.whole j.whole f j.parts) (whole_points j.first.area j.second.area j.whole can.whole j.parts f)

    cut_back : IsJoined AreParts old new id
    cut_back = record {
      other = can.other;
      as_cut = record {
        whole = record { area = j.whole; label = j.first.label };
        first = j.first;
        second = j.second;
        was = j.whole_is;
        was_absent = j.split.was_absent;
        first_is = j.split.first_is;
        second_is = j.split.second_is;
        parts = let P : Rect → Type 0 = λ r. AreParts j.first.area j.second.area r in subst P same_whole as_parts;
        first_label = refl;
        second_label = sym (ap (λ (p : Strip). p.label) same_second) ∙ sym can.same_label ∙ ap (λ (p : Strip). p.label) same_first;
        elsewhere = j.split.elsewhere;
      };
    }

  pub is_joined : (new : Store) (n : TileId) → n ≡ can.other → AreJoined old new id n → IsJoined AreParts old new id
  is_joined new n e j = let P : TileId → Type 0 = λ i. AreJoined old new id i in cut_back new (subst P e j)
