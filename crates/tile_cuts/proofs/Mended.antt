-- What the mending of stitches keeps, and that a tiling whose stitches are all mended is linked.
use Rattle.std.proofs.Common.{◌≡◌, ◌≢◌, ◌⊎◌, inl, inr, Some, None, refl, sym, subst, ap, ◌∙◌}
use Rattle.std.specs.declared.option.Option.{Option}
use Rattle.geo_rect.specs.declared.shapes.Point.{Point}
use Rattle.geo_rect.specs.declared.shapes.Rect.{Rect}
use Rattle.geo_rect.specs.Plane.{HasPoint}
use Rattle.plane_core.specs.declared.sides.Side.{Side}
use Rattle.plane_core.specs.declared.sides.Side.TheVariants.{Left, Below, Right, Above}
use Rattle.tile_store.specs.declared.tiles.Tile.{Tile}
use Rattle.tile_store.specs.declared.tiles.TileId.{TileId}
use Rattle.tile_store.specs.Store.{Store, tile_at, ChangesAt}
use Rattle.stitch_walk.specs.Links.{Holds, stitch, stitch_point, LeadsTo, IsTiling}
use Rattle.stitch_walk.specs.Pieces.{piece_of, piece_at, FillDomain}
use Rattle.stitch_walk.specs.Reaches.{opposite, following}
use Rattle.stitch_walk.proofs.Filled.{tile_of, holds_of, piece_of_tile}
use Rattle.stitch_walk.proofs.Linked.{one_tile, decide_id}
use Rattle.tile_cuts.specs.Mending.{with_stitch, IsLinkedBut, IsStitchMended, IsMended, AllName}

-- another stitch changes no area and no label
pub same_piece : (side : Side) (o : Option TileId) (t : Tile) → piece_of (Some (with_stitch side o t)) ≡ piece_of (Some t)
same_piece Left o t = refl
same_piece Below o t = refl
same_piece Right o t = refl
same_piece Above o t = refl

-- the new stitch is there
pub new_stitch : (side : Side) (o : Option TileId) (t : Tile) → stitch side (with_stitch side o t) ≡ o
new_stitch Left o t = refl
new_stitch Below o t = refl
new_stitch Right o t = refl
new_stitch Above o t = refl

-- the stitch to the next neighbour is another one than that which faces
pub next_stitch : (side : Side) (o : Option TileId) (t : Tile) → stitch (following side) (with_stitch (opposite side) o t) ≡ stitch (following side) t
next_stitch Left o t = refl
next_stitch Below o t = refl
next_stitch Right o t = refl
next_stitch Above o t = refl

module _ (id : TileId) (area : Rect) where
  stitch_mended : (side k : Side) (t : Tile) → HasPoint area (stitch_point side t.area) → IsStitchMended id area k t (with_stitch side (Some id) t)
  stitch_mended Left Left t h = inr (h, refl)
  stitch_mended Below Below t h = inr (h, refl)
  stitch_mended Right Right t h = inr (h, refl)
  stitch_mended Above Above t h = inr (h, refl)
  stitch_mended _ _ t h = inl refl

  same_mended : (side : Side) (t u : Tile) → u ≡ t → IsStitchMended id area side t u
  same_mended side t u e = inl (ap (stitch side) e)

  both_mended : (side : Side) (t m u : Tile) → m.area ≡ t.area → IsStitchMended id area side t m → IsStitchMended id area side m u → IsStitchMended id area side t u
  both_mended side t m u same (inl p) (inl q) = inl (q ∙ p)
  both_mended side t m u same (inr h) (inl q) = inr (h.0, q ∙ h.1)
  both_mended side t m u same p (inr k) = let P : Rect → Type 0 = λ r. HasPoint area (stitch_point side r) in inr (subst P same k.0, k.1)

  -- nothing was mended
  pub mended_none : (s : Store) → IsMended s s id area
  mended_none s = record { pieces = λ n. refl; stitches = λ side n t u e f. same_mended side t u (one_tile s n u t f e) }

  -- one stitch was mended
  module _ (s s' : Store) (side : Side) (n : TileId) (t : Tile) (there : tile_at s n ≡ Some t) (h : HasPoint area (stitch_point side t.area)) (change : ChangesAt s s' n (Some (with_stitch side (Some id) t))) where
    piece_once : (m : TileId) → (m ≡ n) ⊎ (m ≢ n) → piece_at s' m ≡ piece_at s m
    piece_once m (inl e) =
        let P : TileId → Type 0 = λ i. piece_at s' i ≡ piece_at s i in
        subst P (sym e) (ap piece_of change.here ∙ same_piece side (Some id) t ∙ sym (ap piece_of there))
    piece_once m (inr d) = ap piece_of (change.elsewhere m d)

    stitch_once : (k : Side) (m : TileId) (u v : Tile) → tile_at s m ≡ Some u → tile_at s' m ≡ Some v → (m ≡ n) ⊎ (m ≢ n) → IsStitchMended id area k u v
    stitch_once k m u v e f (inl same) =
        let P : TileId → Type 0 = λ i. tile_at s i ≡ Some u in
        let Q : TileId → Type 0 = λ i. tile_at s' i ≡ Some v in
        let first : t ≡ u = one_tile s n t u there (subst P same e) in
        let second : with_stitch side (Some id) t ≡ v = one_tile s' n (with_stitch side (Some id) t) v change.here (subst Q same f) in
        let R : Tile → Type 0 = λ w. IsStitchMended id area k w v in
        let S : Tile → Type 0 = λ w. IsStitchMended id area k t w in
        subst R first (subst S second (stitch_mended side k t h))
    stitch_once k m u v e f (inr d) = same_mended k u v (one_tile s m v u (sym (change.elsewhere m d) ∙ f) e)

    pub mended_once : IsMended s s' id area
    mended_once = record {
      pieces = λ m. piece_once m (decide_id m n);
      stitches = λ k m u v e f. stitch_once k m u v e f (decide_id m n);
    }

  -- what is mended in two turns is mended
  pub mended_twice : (a b c : Store) → IsMended a b id area → IsMended b c id area → IsMended a c id area
  mended_twice a b c f g = record {
    pieces = λ n. g.pieces n ∙ f.pieces n;
    stitches = λ side n t u e h.
        let mid = tile_of (tile_at b n) (record { area = t.area; label = t.label }) (f.pieces n ∙ piece_of_tile a n t e) in
        both_mended side t mid.tile u mid.same_area (f.stitches side n t mid.tile e mid.is_it) (g.stitches side n mid.tile u mid.is_it h);
  }

  module _ (s s' : Store) (mended : IsMended s s' id area) where
    holds_still : (n : TileId) (p : Point) → Holds s n p → Holds s' n p
    holds_still n p h = holds_of s' n (record { area = h.tile.area; label = h.tile.label }) p (mended.pieces n ∙ piece_of_tile s n h.tile h.is_there) h.has_point

    pub leads_still : (domain : Rect) (p : Point) (o : Option TileId) → LeadsTo s domain p o → LeadsTo s' domain p o
    leads_still domain p None h = h
    leads_still domain p (Some n) h = holds_still n p h

    filled_still : (domain : Rect) → FillDomain s domain → FillDomain s' domain
    filled_still domain fill = record {
      inside = λ n p e. fill.inside n p (sym (mended.pieces n) ∙ e);
      apart = λ i j p q at e f h k. fill.apart i j p q at (sym (mended.pieces i) ∙ e) (sym (mended.pieces j) ∙ f) h k;
      covered = λ at h. let c = fill.covered at h in record { by = c.by; piece = c.piece; is_piece = mended.pieces c.by ∙ c.is_piece; has_point = c.has_point };
    }

    still_stitched : (domain : Rect) (side : Side) (t u : Tile) → t.area ≡ u.area → IsStitchMended id area side t u → HasPoint area (stitch_point side t.area) ⊎ LeadsTo s domain (stitch_point side t.area) (stitch side t) → HasPoint area (stitch_point side u.area) ⊎ LeadsTo s' domain (stitch_point side u.area) (stitch side u)
    still_stitched domain side t u same (inr h) _ = let P : Rect → Type 0 = λ r. HasPoint area (stitch_point side r) in inl (subst P same h.0)
    still_stitched domain side t u same (inl q) (inl h) = let P : Rect → Type 0 = λ r. HasPoint area (stitch_point side r) in inl (subst P same h)
    still_stitched domain side t u same (inl q) (inr l) =
        let P : Rect → Type 0 = λ r. LeadsTo s' domain (stitch_point side r) (stitch side t) in
        let Q : Option TileId → Type 0 = λ o. LeadsTo s' domain (stitch_point side u.area) o in
        inr (subst Q (sym q) (subst P same (leads_still domain (stitch_point side t.area) (stitch side t) l)))

    -- it is linked but for the same stitches still
    pub but_still : (domain : Rect) → IsLinkedBut s domain id area → IsLinkedBut s' domain id area
    but_still domain but = record {
      here = record { label = but.here.label; is_piece = mended.pieces id ∙ but.here.is_piece };
      small = but.small;
      filled = filled_still domain but.filled;
      stitched = λ side n u f.
          let was = tile_of (tile_at s n) (record { area = u.area; label = u.label }) (sym (mended.pieces n) ∙ piece_of_tile s' n u f) in
          still_stitched domain side was.tile u was.same_area (mended.stitches side n was.tile u was.is_it f) (but.stitched side n was.tile was.is_it);
    }

    still_named : (side : Side) (t u : Tile) → IsStitchMended id area side t u → stitch side t ≡ Some id → stitch side u ≡ Some id
    still_named side t u (inl q) e = q ∙ e
    still_named side t u (inr h) e = h.1

    -- stitches that name the tile still do
    pub names_still : (side : Side) → AllName s id area side → AllName s' id area side
    names_still side all = λ n u f h.
        let was = tile_of (tile_at s n) (record { area = u.area; label = u.label }) (sym (mended.pieces n) ∙ piece_of_tile s' n u f) in
        let P : Rect → Type 0 = λ r. HasPoint area (stitch_point side r) in
        still_named side was.tile u (mended.stitches side n was.tile u was.is_it f) (all n was.tile was.is_it (subst P (sym was.same_area) h))

  -- once all stitches that should lead to the tile name it, the tiling is linked
  module _ (s : Store) (domain : Rect) (but : IsLinkedBut s domain id area) (all : (side : Side) → AllName s id area side) where
    leads_now : (side : Side) (n : TileId) (t : Tile) → tile_at s n ≡ Some t → HasPoint area (stitch_point side t.area) ⊎ LeadsTo s domain (stitch_point side t.area) (stitch side t) → LeadsTo s domain (stitch_point side t.area) (stitch side t)
    leads_now side n t e (inl h) =
        let P : Option TileId → Type 0 = λ o. LeadsTo s domain (stitch_point side t.area) o in
        subst P (sym (all side n t e h)) (holds_of s id (record { area = area; label = but.here.label }) (stitch_point side t.area) but.here.is_piece h)
    leads_now side n t e (inr l) = l

    pub tiling_mended : IsTiling s domain
    tiling_mended = record {
      linked = record {
        inside = λ n t e. but.filled.inside n (record { area = t.area; label = t.label }) (piece_of_tile s n t e);
        apart = λ i j p h k. but.filled.apart i j (record { area = h.tile.area; label = h.tile.label }) (record { area = k.tile.area; label = k.tile.label }) p (piece_of_tile s i h.tile h.is_there) (piece_of_tile s j k.tile k.is_there) h.has_point k.has_point;
        covered = λ p h. let c = but.filled.covered p h in record { by = c.by; holds = holds_of s c.by c.piece p c.is_piece c.has_point };
        stitched = λ side n t e. leads_now side n t e (but.stitched side n t e);
      };
      small = but.small;
    }

-- the four sides, one after another
module _ (id : TileId) (area : Rect) (s0 s1 s2 s3 s4 : Store) (m1 : IsMended s0 s1 id area) (m2 : IsMended s1 s2 id area) (m3 : IsMended s2 s3 id area) (m4 : IsMended s3 s4 id area) where
  pub four_mended : IsMended s0 s4 id area
  four_mended = mended_twice id area s0 s3 s4 (mended_twice id area s0 s2 s3 (mended_twice id area s0 s1 s2 m1 m2) m3) m4

  pub four_named : AllName s1 id area (opposite Left) → AllName s2 id area (opposite Below) → AllName s3 id area (opposite Right) → AllName s4 id area (opposite Above) → (side : Side) → AllName s4 id area side
  four_named right above left below Left = names_still id area s3 s4 m4 Left left
  four_named right above left below Below = below
  four_named right above left below Right = names_still id area s3 s4 m4 Right (names_still id area s2 s3 m3 Right (names_still id area s1 s2 m2 Right right))
  four_named right above left below Above = names_still id area s3 s4 m4 Above (names_still id area s2 s3 m3 Above above)

-- what is linked but for the stitches into an area in some domain still is
pub but_in_some : (id : TileId) (area : Rect) (s s' : Store) → IsMended s s' id area → (domain : Rect) × IsLinkedBut s domain id area → (domain : Rect) × IsLinkedBut s' domain id area
but_in_some id area s s' mended but = (but.0, but_still id area s s' mended but.0 but.1)
