-- The walk along one side of a tile that mends the stitches that face it. The side is turned to the left,
-- so that the walk goes upwards in the column left of the tile.
use Rattle.std.proofs.Common.{ℕ, ◌<◌, ◌≤◌, ℤ, pos, ◌≡◌, ◌≢◌, ◌⊎◌, inl, inr, ◌+ℤ◌, ◌-ℤ◌, ◌≤ℤ◌, ◌<ℤ◌, Some, None, refl, sym, subst, ap, ◌∙◌, arith}
use Rattle.std.specs.declared.option.Option.{Option}
use Rattle.std.proofs.lemmas.Int.{ints, clamps, by_lt_z}
use Rattle.geo_rect.specs.declared.shapes.Point.{Point}
use Rattle.geo_rect.specs.declared.shapes.Rect.{Rect}
use Rattle.geo_rect.specs.Axis.{HasNumber}
use Rattle.geo_rect.specs.Plane.{columns, rows, HasPoint}
use Rattle.geo_rect.proofs.Parts.{low_in, high_in, lies_in_points}
use Rattle.plane_core.specs.declared.sides.Side.{Side}
use Rattle.plane_core.specs.declared.sides.Side.TheVariants.{Left, Below, Right, Above}
use Rattle.plane_core.specs.Sides.{turned, turned_point}
use Rattle.plane_core.proofs.Turns.{points_turn}
use Rattle.plane_core.specs.declared.strips.Strip.{Strip}
use Rattle.plane_core.specs.Labels.{IsSmall}
use Rattle.tile_store.specs.declared.tiles.Tile.{Tile}
use Rattle.tile_store.specs.declared.tiles.TileId.{TileId}
use Rattle.tile_store.specs.Store.{Store, tile_at, ChangesAt}
use Rattle.stitch_walk.specs.Links.{stitch, stitch_point, LeadsTo}
use Rattle.stitch_walk.specs.Pieces.{IsPiece}
use Rattle.stitch_walk.specs.Reaches.{opposite, following}
use Rattle.stitch_walk.proofs.Facing.{same_point, turned_twice, turned_back, stitch_starts, over, stitch_follows, leads_turned}
use Rattle.stitch_walk.proofs.Filled.{piece_of_tile}
use Rattle.stitch_walk.proofs.Linked.{one_tile, decide_id, small_along}
use Rattle.stitch_walk.proofs.Reaching.{rows_left_falls}
use Rattle.stitch_walk.proofs.WalkState.{HoldsTurned, LeadsToTurned, left_of, rows_left}
use Rattle.tile_cuts.specs.Mending.{with_stitch, IsLinkedBut, IsMended, AllName}
use Rattle.tile_cuts.proofs.Filling.{one_piece}
use Rattle.tile_cuts.proofs.Mended.{mended_none, mended_once, mended_twice, but_still, leads_still, next_stitch, new_stitch}

-- the point past the top of the turned rectangle's last column, one step to the right
abbrev past : Side → Rect → Point
past side r = record { x = (turned side r).x1 +ℤ pos 1; y = (turned side r).y1 }

stitch_faces : (side : Side) (r : Rect) → turned_point side (stitch_point (opposite side) r) ≡ past side r
stitch_faces Left r = refl
stitch_faces Below r = refl
stitch_faces Right r = same_point _ _ (omega (arith, ints)) (omega (arith, ints))
stitch_faces Above r = same_point _ _ (omega (arith, ints)) (omega (arith, ints))

-- the turned area has the turned point of a stitch that faces it
abbrev FacesTurned : Side → Rect → Rect → Type 0
FacesTurned side area r = HasPoint (turned side area) (past side r)

faces_turned : (side : Side) (area r : Rect) → HasPoint area (stitch_point (opposite side) r) → FacesTurned side area r
faces_turned side area r h =
    let P : Point → Type 0 = λ q. HasPoint (turned side area) q in
    subst P (stitch_faces side r) ((points_turn side area (stitch_point (opposite side) r)).0 h)

faces_back : (side : Side) (area r : Rect) → FacesTurned side area r → HasPoint area (stitch_point (opposite side) r)
faces_back side area r h =
    let P : Point → Type 0 = λ q. HasPoint (turned side area) q in
    (points_turn side area (stitch_point (opposite side) r)).1 (subst P (sym (stitch_faces side r)) h)

faces_not_itself : (side : Side) (r : Rect) → FacesTurned side r r → ⊥
faces_not_itself side r h = let a = h.across.to in omega (arith, ints)

left_not_itself : (side : Side) (r : Rect) (y : ℤ) → HasPoint (turned side r) (left_of side r y) → ⊥
left_not_itself side r y h = let a = h.across.from in omega (arith, ints)

-- the walk has come to this row: the stitches that face the area and end below it are mended, and next
-- is the tile left of the area in that row
pub record IsRelinking (old now : Store) (side : Side) (id : TileId) (area : Rect) (next : Option TileId) : Type 0 where
  pub domain : Rect
  pub but : IsLinkedBut now domain id area
  pub mended : IsMended old now id area
  pub row : ℤ
  pub starts : (turned side area).y0 ≤ℤ row
  pub passed : (n : TileId) (t : Tile) → tile_at now n ≡ Some t → HasPoint area (stitch_point (opposite side) t.area) → (turned side t.area).y1 <ℤ row → stitch (opposite side) t ≡ Some id
  pub onward : LeadsToTurned now domain side (left_of side area row) next
  pub spare : old.spare ≤ now.spare

module _ (s : Store) (domain : Rect) (id : TileId) (area : Rect) (but : IsLinkedBut s domain id area) (side : Side) where
  -- two tiles that have a turned point are one
  one_number : (i j : TileId) (t u : Tile) (q : Point) → tile_at s i ≡ Some t → tile_at s j ≡ Some u → HasPoint (turned side t.area) q → HasPoint (turned side u.area) q → i ≡ j
  one_number i j t u q e f h k =
      but.filled.apart i j (record { area = t.area; label = t.label }) (record { area = u.area; label = u.label }) (turned_point side q) (piece_of_tile s i t e) (piece_of_tile s j u f) (turned_back side t.area q h) (turned_back side u.area q k)

  -- the domain has the turned points of each piece
  in_domain : (n : TileId) (p : Strip) (q : Point) → IsPiece s n p → HasPoint (turned side p.area) q → HasPoint (turned side domain) q
  in_domain n p q e h =
      let P : Point → Type 0 = λ z. HasPoint (turned side domain) z in
      subst P (turned_twice side q)
      ((points_turn side domain (turned_point side q)).0
      ((lies_in_points p.area domain).0 (but.filled.inside n p e) (turned_point side q) (turned_back side p.area q h)))

  own_area : (n : TileId) (t : Tile) → tile_at s n ≡ Some t → n ≡ id → t.area ≡ area
  own_area n t e same =
      let P : TileId → Type 0 = λ i. IsPiece s i (record { area = t.area; label = t.label }) in
      ap (λ (p : Strip). p.area) (one_piece s id (record { area = t.area; label = t.label }) (record { area = area; label = but.here.label }) (subst P same (piece_of_tile s n t e)) but.here.is_piece)

  -- a tile and the area have no common point where the tile is known to be another
  other_tile : (n : TileId) (t : Tile) (q : Point) → tile_at s n ≡ Some t → (t.area ≡ area → ⊥) → HasPoint (turned side t.area) q → HasPoint (turned side area) q → ⊥
  other_tile n t q e differs h k =
      differs (own_area n t e (but.filled.apart n id (record { area = t.area; label = t.label }) (record { area = area; label = but.here.label }) (turned_point side q) (piece_of_tile s n t e) but.here.is_piece (turned_back side t.area q h) (turned_back side area q k)))

  -- a tile whose stitch faces the area ends right left of it
  faces_touch : (n : TileId) (t : Tile) → tile_at s n ≡ Some t → FacesTurned side area t.area → (turned side t.area).x1 ≡ (turned side area).x0 -ℤ pos 1
  faces_touch n t e h =
      by_lt_z (turned side t.area).x1 (turned side area).x0
      (λ (less : (turned side t.area).x1 <ℤ (turned side area).x0). let a = h.across.from in omega (arith, ints))
      (λ (more : (turned side area).x0 ≤ℤ (turned side t.area).x1). absurd (both more))
    where
      both : (turned side area).x0 ≤ℤ (turned side t.area).x1 → ⊥
      both more =
          let q : Point = record { x = (turned side t.area).x1; y = (turned side t.area).y1 } in
          let a = h.across.to in
          let P : Rect → Type 0 = λ r. FacesTurned side area r in
          other_tile n t q e (λ same. faces_not_itself side area (subst P same h))
          (record { across = high_in (columns (turned side t.area)); up = high_in (rows (turned side t.area)) })
          (record { across = record { from = more; to = omega (arith, ints) }; up = h.up })

  -- a tile that has a point left of a row of the area ends right left of it
  left_touch : (n : TileId) (t : Tile) (y : ℤ) → tile_at s n ≡ Some t → HasNumber (rows (turned side area)) y → HasPoint (turned side t.area) (left_of side area y) → (turned side t.area).x1 ≡ (turned side area).x0 -ℤ pos 1
  left_touch n t y e row h =
      by_lt_z (turned side t.area).x1 (turned side area).x0
      (λ (less : (turned side t.area).x1 <ℤ (turned side area).x0). let a = h.across.to in omega (arith, ints))
      (λ (more : (turned side area).x0 ≤ℤ (turned side t.area).x1). absurd (both more))
    where
      both : (turned side area).x0 ≤ℤ (turned side t.area).x1 → ⊥
      both more =
          let q : Point = record { x = (turned side area).x0; y = y } in
          let a = h.across.from in
          let P : Rect → Type 0 = λ r. HasPoint (turned side r) (left_of side area y) in
          other_tile n t q e (λ same. left_not_itself side area y (subst P same h))
          (record { across = record { from = omega (arith, ints); to = more }; up = h.up })
          (record { across = low_in (columns (turned side area)); up = row })

  -- a tile whose stitch faces the area has the point left of its last row
  faces_has : (n : TileId) (t : Tile) → tile_at s n ≡ Some t → FacesTurned side area t.area → HasPoint (turned side t.area) (left_of side area (turned side t.area).y1)
  faces_has n t e h =
      let P : ℤ → Type 0 = λ x. HasNumber (columns (turned side t.area)) x in
      record { across = subst P (faces_touch n t e h) (high_in (columns (turned side t.area))); up = high_in (rows (turned side t.area)) }

  -- a tile that has the point left of a row, and one that faces the area and ends at that row or above
  -- it, but not above the first, are one
  one_neighbour : (i j : TileId) (t u : Tile) (row : ℤ) → tile_at s i ≡ Some t → tile_at s j ≡ Some u → HasPoint (turned side t.area) (left_of side area row) → FacesTurned side area u.area → row ≤ℤ (turned side u.area).y1 → (turned side u.area).y1 ≤ℤ (turned side t.area).y1 → i ≡ j
  one_neighbour i j t u row e f h k low high =
      let a = h.up.from in
      one_number i j t u (left_of side area (turned side u.area).y1) e f
      (record { across = h.across; up = record { from = omega (arith, ints); to = high } })
      (faces_has j u f k)

  -- the walk starts at the lowest row
  pub relinking_starts : (t : Tile) → tile_at s id ≡ Some t → IsRelinking s s side id area (stitch side t)
  relinking_starts t e = record {
    domain = domain;
    but = but;
    mended = mended_none id area s;
    row = (turned side area).y0;
    starts = omega (arith, ints);
    passed = λ n u f h less. absurd (let k = (faces_turned side area u.area h).up.from in omega (arith, ints));
    onward = first (but.stitched side id t e);
    spare = omega arith;
  }
    where
      same : t.area ≡ area
      same = own_area id t e refl

      point : turned_point side (stitch_point side t.area) ≡ left_of side area (turned side area).y0
      point = let P : Rect → Type 0 = λ r. turned_point side (stitch_point side r) ≡ left_of side area (turned side area).y0 in subst P (sym same) (stitch_starts side area)

      first : HasPoint area (stitch_point side t.area) ⊎ LeadsTo s domain (stitch_point side t.area) (stitch side t) → LeadsToTurned s domain side (left_of side area (turned side area).y0) (stitch side t)
      first (inl h) =
          let P : Point → Type 0 = λ q. HasPoint (turned side area) q in
          absurd (left_not_itself side area (turned side area).y0 (subst P point ((points_turn side area (stitch_point side t.area)).0 h)))
      first (inr l) =
          let P : Point → Type 0 = λ q. LeadsToTurned s domain side q (stitch side t) in
          subst P point (leads_turned s domain side (stitch_point side t.area) (stitch side t) l)

-- how many rows of the area are left above a tile, or above the one that is next
abbrev tile_left : Side → Rect → Option Tile → ℕ
tile_left side area None = 0
tile_left side area (Some t) = rows_left (turned side area).y1 (turned side t.area).y1

abbrev pub left_from : Side → Rect → Store → Option TileId → ℕ
left_from side area s None = 0
left_from side area s (Some n) = tile_left side area (tile_at s n)

none_left : (last row : ℤ) → row ≤ℤ last → 0 < rows_left last row
none_left last row more = omega (arith, ints, clamps)

fewer_left : (s : Store) (domain : Rect) (side : Side) (area : Rect) (row : ℤ) (next : Option TileId) → row ≤ℤ (turned side area).y1 → LeadsToTurned s domain side (left_of side area (row +ℤ pos 1)) next → left_from side area s next < rows_left (turned side area).y1 row
fewer_left s domain side area row None more h = none_left (turned side area).y1 row more
fewer_left s domain side area row (Some n) more h =
    let P : Option Tile → Type 0 = λ o. tile_left side area o < rows_left (turned side area).y1 row in
    let a = h.has_point.up.to in
    subst P (sym h.is_there) (rows_left_falls (turned side area).y1 row (turned side h.tile.area).y1 more (omega (arith, ints)))

-- one step of the walk, at a tile whose stitch faces the area
module _ (old now : Store) (side : Side) (id : TileId) (area : Rect) (at : TileId) (u : Tile) (r : IsRelinking old now side id area (Some at)) (there : tile_at now at ≡ Some u) where
  has_left : HasPoint (turned side u.area) (left_of side area r.row)
  has_left =
      let h : HoldsTurned now side at (left_of side area r.row) = r.onward in
      let P : Tile → Type 0 = λ t. HasPoint (turned side t.area) (left_of side area r.row) in
      subst P (one_tile now at h.tile u h.is_there there) h.has_point

  small_here : IsSmall u.area
  small_here =
      let w = r.but.filled.inside at (record { area = u.area; label = u.label }) (piece_of_tile now at u there) in
      record {
        across = small_along (columns u.area) (columns r.domain) w.across r.but.small.across;
        up = small_along (rows u.area) (rows r.domain) w.up r.but.small.up;
      }

  module _ (faces : HasPoint area (stitch_point (opposite side) u.area)) (s' : Store) (change : ChangesAt now s' at (Some (with_stitch (opposite side) (Some id) u))) where
    once : IsMended now s' id area
    once = mended_once id area now s' (opposite side) at u there faces change

    touches : (turned side u.area).x1 ≡ (turned side area).x0 -ℤ pos 1
    touches = faces_touch now r.domain id area r.but side at u there (faces_turned side area u.area faces)

    passes : (n : TileId) (t : Tile) → tile_at s' n ≡ Some t → HasPoint area (stitch_point (opposite side) t.area) → (turned side t.area).y1 <ℤ ((turned side u.area).y1 +ℤ pos 1) → (n ≡ at) ⊎ (n ≢ at) → stitch (opposite side) t ≡ Some id
    passes n t f h less (inl same) =
        let P : TileId → Type 0 = λ i. tile_at s' i ≡ Some t in
        let e : with_stitch (opposite side) (Some id) u ≡ t = one_tile s' at (with_stitch (opposite side) (Some id) u) t change.here (subst P same f) in
        let Q : Tile → Type 0 = λ v. stitch (opposite side) v ≡ Some id in
        subst Q e (new_stitch (opposite side) (Some id) u)
    passes n t f h less (inr differs) =
        let was : tile_at now n ≡ Some t = sym (change.elsewhere n differs) ∙ f in
        by_lt_z (turned side t.area).y1 r.row
        (λ (lower : (turned side t.area).y1 <ℤ r.row). r.passed n t was h lower)
        (λ (higher : r.row ≤ℤ (turned side t.area).y1).
        absurd (differs (sym (one_neighbour now r.domain id area r.but side at n u t r.row there was has_left (faces_turned side area t.area h) higher (omega (arith, ints))))))

    over_is_left : over side u.area ≡ left_of side area ((turned side u.area).y1 +ℤ pos 1)
    over_is_left = same_point (over side u.area) (left_of side area ((turned side u.area).y1 +ℤ pos 1)) touches refl

    leads_onward : HasPoint area (stitch_point (following side) u.area) ⊎ LeadsTo now r.domain (stitch_point (following side) u.area) (stitch (following side) u) → LeadsToTurned s' r.domain side (left_of side area ((turned side u.area).y1 +ℤ pos 1)) (stitch (following side) u)
    leads_onward (inl h) =
        let P : Point → Type 0 = λ q. HasPoint (turned side area) q in
        let k = (subst P (stitch_follows side u.area) ((points_turn side area (stitch_point (following side) u.area)).0 h)).across.from in
        let e = touches in
        absurd (omega (arith, ints))
    leads_onward (inr l) =
        let P : Point → Type 0 = λ q. LeadsToTurned s' r.domain side q (stitch (following side) u) in
        subst P (stitch_follows side u.area ∙ over_is_left)
        (leads_turned s' r.domain side (stitch_point (following side) u.area) (stitch (following side) u) (leads_still id area now s' once r.domain (stitch_point (following side) u.area) (stitch (following side) u) l))

    onward_now : LeadsToTurned s' r.domain side (left_of side area ((turned side u.area).y1 +ℤ pos 1)) (stitch (following side) (with_stitch (opposite side) (Some id) u))
    onward_now =
        let P : Option TileId → Type 0 = λ o. LeadsToTurned s' r.domain side (left_of side area ((turned side u.area).y1 +ℤ pos 1)) o in
        subst P (sym (next_stitch side (Some id) u)) (leads_onward (r.but.stitched (following side) at u there))

    steps_on : now.spare ≤ s'.spare → IsRelinking old s' side id area (stitch (following side) (with_stitch (opposite side) (Some id) u))
    steps_on spare = record {
      domain = r.domain;
      but = but_still id area now s' once r.domain r.but;
      mended = mended_twice id area old now s' r.mended once;
      row = (turned side u.area).y1 +ℤ pos 1;
      starts = let a = (faces_turned side area u.area faces).up.from in omega (arith, ints);
      passed = λ n t f h less. passes n t f h less (decide_id n at);
      onward = onward_now;
      spare = let a = r.spare in omega arith;
    }

    falls : left_from side area s' (stitch (following side) (with_stitch (opposite side) (Some id) u)) < tile_left side area (Some u)
    falls = fewer_left s' r.domain side area (turned side u.area).y1 (stitch (following side) (with_stitch (opposite side) (Some id) u)) (faces_turned side area u.area faces).up.to onward_now

  -- at a tile whose stitch does not face the area, all that do are mended
  ends_away : (HasPoint area (stitch_point (opposite side) u.area) → ⊥) → AllName now id area (opposite side)
  ends_away away n t f h =
      by_lt_z (turned side t.area).y1 r.row
      (λ (lower : (turned side t.area).y1 <ℤ r.row). r.passed n t f h lower)
      (λ (higher : r.row ≤ℤ (turned side t.area).y1). absurd (none_above higher))
    where
      facing : FacesTurned side area t.area
      facing = faces_turned side area t.area h

      none_above : r.row ≤ℤ (turned side t.area).y1 → ⊥
      none_above higher =
          let a = facing.up.to in
          let b = r.starts in
          let c = has_left.up.to in
          let in_row : HasNumber (rows (turned side area)) r.row = record { from = b; to = omega (arith, ints) } in
          let touch = left_touch now r.domain id area r.but side at u r.row there in_row has_left in
          by_lt_z (turned side u.area).y1 (turned side t.area).y1
          (λ (shorter : (turned side u.area).y1 <ℤ (turned side t.area).y1).
          let x = (rows (turned side area)).ordered in
          let y = (columns (turned side area)).ordered in
          away (faces_back side area u.area (record {
            across = record { from = omega (arith, ints); to = omega (arith, ints) };
            up = record { from = omega (arith, ints); to = omega (arith, ints) };
          })))
          (λ (longer : (turned side t.area).y1 ≤ℤ (turned side u.area).y1).
          let same = one_neighbour now r.domain id area r.but side at n u t r.row there f has_left facing higher longer in
          let P : TileId → Type 0 = λ i. tile_at now i ≡ Some u in
          let Q : Tile → Type 0 = λ v. HasPoint area (stitch_point (opposite side) v.area) in
          away (subst Q (one_tile now n t u f (subst P same there)) h))

-- with no tile next, all stitches that face the area are mended
module _ (old now : Store) (side : Side) (id : TileId) (area : Rect) (r : IsRelinking old now side id area None) where
  ends_outside : AllName now id area (opposite side)
  ends_outside n t f h =
      by_lt_z (turned side t.area).y1 r.row
      (λ (lower : (turned side t.area).y1 <ℤ r.row). r.passed n t f h lower)
      (λ (higher : r.row ≤ℤ (turned side t.area).y1). absurd (r.onward (inside higher)))
    where
      facing : FacesTurned side area t.area
      facing = faces_turned side area t.area h

      inside : r.row ≤ℤ (turned side t.area).y1 → HasPoint (turned side r.domain) (left_of side area r.row)
      inside higher =
          let beside = in_domain now r.domain id area r.but side n (record { area = t.area; label = t.label }) (left_of side area (turned side t.area).y1) (piece_of_tile now n t f) (faces_has now r.domain id area r.but side n t f facing) in
          let a = facing.up.to in
          let b = r.starts in
          let own = in_domain now r.domain id area r.but side id (record { area = area; label = r.but.here.label }) (record { x = (turned side area).x0; y = r.row }) r.but.here.is_piece
          (record { across = low_in (columns (turned side area)); up = record { from = b; to = omega (arith, ints) } }) in
          record { across = beside.across; up = own.up }

-- the same for what the loop has computed
module _ (old now : Store) (side : Side) (id : TileId) (area : Rect) (next : Option TileId) (r : IsRelinking old now side id area next) where
  pub relinking_ends_outside : next ≡ None → AllName now id area (opposite side)
  relinking_ends_outside e =
      let P : Option TileId → Type 0 = λ o. IsRelinking old now side id area o in
      ends_outside old now side id area (subst P e r)

  module _ (at : TileId) (u : Tile) (e : next ≡ Some at) (there : tile_at now at ≡ Some u) where
    at_next : IsRelinking old now side id area (Some at)
    at_next = let P : Option TileId → Type 0 = λ o. IsRelinking old now side id area o in subst P e r

    pub relinking_small : IsSmall u.area
    relinking_small = small_here old now side id area at u at_next there

    pub relinking_ends_away : (HasPoint area (stitch_point (opposite side) u.area) → ⊥) → AllName now id area (opposite side)
    relinking_ends_away away = ends_away old now side id area at u at_next there away

    module _ (v : Tile) (is_facing : v ≡ with_stitch (opposite side) (Some id) u) (faces : HasPoint area (stitch_point (opposite side) u.area)) (s' : Store) (change : ChangesAt now s' at (Some v)) (next' : Option TileId) (is_next : next' ≡ stitch (following side) v) where
      changed : ChangesAt now s' at (Some (with_stitch (opposite side) (Some id) u))
      changed = let P : Tile → Type 0 = λ w. ChangesAt now s' at (Some w) in subst P is_facing change

      onward_is : stitch (following side) (with_stitch (opposite side) (Some id) u) ≡ next'
      onward_is = sym (is_next ∙ ap (stitch (following side)) is_facing)

      pub relinking_steps : now.spare ≤ s'.spare → IsRelinking old s' side id area next'
      relinking_steps spare =
          let P : Option TileId → Type 0 = λ o. IsRelinking old s' side id area o in
          subst P onward_is (steps_on old now side id area at u at_next there faces s' changed spare)

      pub relinking_falls : left_from side area s' next' < left_from side area now next
      relinking_falls =
          let P : Option TileId → Type 0 = λ o. left_from side area s' o < left_from side area now next in
          let Q : Option TileId → Type 0 = λ o. left_from side area s' (stitch (following side) (with_stitch (opposite side) (Some id) u)) < left_from side area now o in
          let R : Option Tile → Type 0 = λ o. left_from side area s' (stitch (following side) (with_stitch (opposite side) (Some id) u)) < tile_left side area o in
          subst P onward_is (subst Q (sym e) (subst R (sym there) (falls old now side id area at u at_next there faces s' changed)))
