-- A tile with another label: all areas and stitches are as before.
use Rattle.std.proofs.Common.{◌≡◌, ◌≢◌, ◌⊎◌, inl, inr, Some, None, refl, sym, subst, ap, ◌∙◌}
use Rattle.std.specs.declared.option.Option.{Option}
use Rattle.geo_rect.specs.declared.ids.Label.{Label}
use Rattle.geo_rect.specs.declared.shapes.Point.{Point}
use Rattle.geo_rect.specs.declared.shapes.Rect.{Rect}
use Rattle.geo_rect.specs.Plane.{HasPoint, LiesIn}
use Rattle.plane_core.specs.declared.sides.Side.{Side}
use Rattle.plane_core.specs.declared.sides.Side.TheVariants.{Left, Below, Right, Above}
use Rattle.tile_store.specs.declared.tiles.Tile.{Tile}
use Rattle.tile_store.specs.declared.tiles.TileId.{TileId}
use Rattle.tile_store.specs.Store.{Store, tile_at, ChangesAt}
use Rattle.stitch_walk.specs.Links.{Holds, stitch, stitch_point, LeadsTo, IsTiling, Tiles}
use Rattle.stitch_walk.specs.Pieces.{piece_of, IsRelabelled}
use Rattle.stitch_walk.proofs.Filled.{piece_of_tile}
use Rattle.stitch_walk.proofs.Linked.{one_tile, decide_id}
use Rattle.tile_cuts.proofs.Cutting.{piece}

-- the tile with another label
abbrev pub with_label : Label → Tile → Tile
with_label label t = record t { label = label }

same_stitch : (side : Side) (label : Label) (t : Tile) → stitch side t ≡ stitch side (with_label label t)
same_stitch Left label t = refl
same_stitch Below label t = refl
same_stitch Right label t = refl
same_stitch Above label t = refl

module _ (s s' : Store) (domain : Rect) (id : TileId) (t : Tile) (label : Label) (is : IsTiling s domain) (there : tile_at s id ≡ Some t) (change : ChangesAt s s' id (Some (with_label label t))) where
  -- what a tile was before: it had the same area and the same stitches
  record Was (n : TileId) (u : Tile) : Type 0 where
    tile : Tile
    is_there : tile_at s n ≡ Some tile
    same_area : tile.area ≡ u.area
    same_stitches : (side : Side) → stitch side tile ≡ stitch side u

  was : (n : TileId) (u : Tile) → tile_at s' n ≡ Some u → (n ≡ id) ⊎ (n ≢ id) → Was n u
  was n u e (inl same) =
      let P : TileId → Type 0 = λ i. tile_at s' i ≡ Some u in
      let Q : TileId → Type 0 = λ i. tile_at s i ≡ Some t in
      let R : Tile → Type 0 = λ v. Was n v in
      subst R (one_tile s' id (with_label label t) u change.here (subst P same e))
      (record { tile = t; is_there = subst Q (sym same) there; same_area = refl; same_stitches = λ side. same_stitch side label t })
  was n u e (inr d) = record { tile = u; is_there = sym (change.elsewhere n d) ∙ e; same_area = refl; same_stitches = λ side. refl }

  held_now : (n : TileId) (p : Point) → Holds s n p → (n ≡ id) ⊎ (n ≢ id) → Holds s' n p
  held_now n p h (inl same) =
      let P : TileId → Type 0 = λ i. tile_at s i ≡ Some h.tile in
      let Q : TileId → Type 0 = λ i. tile_at s' i ≡ Some (with_label label t) in
      let R : Tile → Type 0 = λ v. HasPoint v.area p in
      record { tile = with_label label t; is_there = subst Q (sym same) change.here; has_point = subst R (one_tile s id h.tile t (subst P same h.is_there) there) h.has_point }
  held_now n p h (inr d) = record { tile = h.tile; is_there = change.elsewhere n d ∙ h.is_there; has_point = h.has_point }

  held_before : (n : TileId) (p : Point) → Holds s' n p → Holds s n p
  held_before n p h =
      let w = was n h.tile h.is_there (decide_id n id) in
      let P : Rect → Type 0 = λ r. HasPoint r p in
      record { tile = w.tile; is_there = w.is_there; has_point = subst P (sym w.same_area) h.has_point }

  leads_now : (p : Point) (o : Option TileId) → LeadsTo s domain p o → LeadsTo s' domain p o
  leads_now p None h = h
  leads_now p (Some n) h = held_now n p h (decide_id n id)

  pub relabelled_tiling : IsTiling s' domain
  relabelled_tiling = record {
    linked = record {
      inside = λ n u e.
          let w = was n u e (decide_id n id) in
          let P : Rect → Type 0 = λ r. LiesIn r domain in
          subst P w.same_area (is.linked.inside n w.tile w.is_there);
      apart = λ i j p h k. is.linked.apart i j p (held_before i p h) (held_before j p k);
      covered = λ p h. let c = is.linked.covered p h in record { by = c.by; holds = held_now c.by p c.holds (decide_id c.by id) };
      stitched = λ side n u e.
          let w = was n u e (decide_id n id) in
          let P : Rect → Type 0 = λ r. LeadsTo s' domain (stitch_point side r) (stitch side u) in
          let Q : Option TileId → Type 0 = λ o. LeadsTo s' domain (stitch_point side w.tile.area) o in
          subst P w.same_area (subst Q (w.same_stitches side) (leads_now (stitch_point side w.tile.area) (stitch side w.tile) (is.linked.stitched side n w.tile w.is_there)));
    };
    small = is.small;
  }

  pub relabels : (v : Tiles) → record { store = s; domain = domain } ≡ v → IsRelabelled v.store s' id label
  relabels v e =
      let P : Tiles → Type 0 = λ w. IsRelabelled w.store s' id label in
      subst P e (record {
        piece = piece t;
        was = piece_of_tile s id t there;
        is_now = piece_of_tile s' id (with_label label t) change.here;
        elsewhere = λ n d. ap piece_of (change.elsewhere n d);
      })
