-- A walk along a side: where it starts, one step of it, and what it has found at its end.
use Rattle.std.proofs.Common.{ℕ, ◌+◌, ◌<◌, length, IsSome, ℤ, pos, ◌≡◌, ◌≢◌, inl, inr, ◌+ℤ◌, ◌-ℤ◌, ◌≤ℤ◌, ◌<ℤ◌, Some, None, List, [], ◌∷◌, ◌++◌, Contains, refl, sym, subst, ap, ◌∙◌, arith}
use Rattle.std.specs.declared.option.Option.{Option}
use Rattle.std.proofs.lemmas.Int.{ints, clamps, by_lt_z}
use Rattle.std.proofs.lemmas.List.{length-append}
use Rattle.std.proofs.lemmas.List.Elements.{Contains-append_left, Contains-append_right}
use Rattle.geo_rect.specs.declared.shapes.Interval.{Interval}
use Rattle.geo_rect.specs.declared.shapes.Point.{Point}
use Rattle.geo_rect.specs.declared.shapes.Rect.{Rect}
use Rattle.geo_rect.specs.Axis.{HasNumber}
use Rattle.geo_rect.specs.Plane.{columns, rows, HasPoint}
use Rattle.geo_rect.proofs.Parts.{low_in, high_in}
use Rattle.plane_core.specs.declared.sides.Side.{Side}
use Rattle.plane_core.specs.Sides.{turned, IsBeside}
use Rattle.plane_core.proofs.Members.{has_head, has_none}
use Rattle.tile_store.specs.declared.tiles.Tile.{Tile}
use Rattle.tile_store.specs.declared.tiles.TileId.{TileId}
use Rattle.tile_store.specs.Store.{Store, tile_at, IsPresent}
use Rattle.stitch_walk.specs.Links.{stitch, IsLinked, IsTiling, Tiles}
use Rattle.stitch_walk.specs.Neighbours.{IsNeighbour, ComesBefore, AreNeighbours}
use Rattle.stitch_walk.specs.Reaches.{following}
use Rattle.stitch_walk.proofs.WalkState.{HoldsTurned, LeadsToTurned, left_of, EndsBelow, IsFound, HasComeTo, IsWalking, rows_left}
use Rattle.stitch_walk.proofs.Facing.{same_point, apart_turned, inside_turned, first_leads, next_leads, ends_left, over}
use Rattle.stitch_walk.proofs.Linked.{one_tile}
use Rattle.stitch_walk.proofs.Pairs.{pairs_none, pairs_added, last_cases}

module _ (s : Store) (domain : Rect) (is : IsLinked s domain) (side : Side) (id : TileId) (t : Tile) (here : tile_at s id ≡ Some t) where
  -- at the start nothing is found
  pub walk_starts : HasComeTo s domain side id t.area [] (turned side t.area).y0 (stitch side t)
  walk_starts = record {
    starts = omega (arith, ints);
    listed = λ j h. absurd (has_none j h);
    below = λ j h. absurd (has_none j h);
    complete = λ y h k less. let a = h.from in absurd (omega (arith, ints));
    in_order = pairs_none (ComesBefore s side);
    onward = λ _. first_leads s domain is side id t here;
  }

  -- the neighbour that has the row that the walk has come to
  module _ (found : List TileId) (row : ℤ) (j : TileId) (u : Tile) (there : tile_at s j ≡ Some u) (come : HasComeTo s domain side id t.area found row (Some j)) (more : row ≤ℤ (turned side t.area).y1) where
    reached : ℤ
    reached = (turned side u.area).y1

    in_row : HasNumber (rows (turned side t.area)) row
    in_row = record { from = come.starts; to = more }

    has_left : HasPoint (turned side u.area) (left_of side t.area row)
    has_left =
        let h : HoldsTurned s side j (left_of side t.area row) = come.onward more in
        let P : Tile → Type 0 = λ v. HasPoint (turned side v.area) (left_of side t.area row) in
        subst P (one_tile s j h.tile u h.is_there there) h.has_point

    past : row <ℤ (reached +ℤ pos 1)
    unfolding reached
    past = let h = has_left.up.to in omega (arith, ints)

    is_neighbour : IsNeighbour s side id j
    is_neighbour = record {
      tile = t;
      is_there = here;
      neighbour = u;
      neighbour_is_there = there;
      beside = record { at = left_of side t.area row; past_edge = refl; in_row = in_row; in_first = has_left };
    }

    ends_here : EndsBelow s side (reached +ℤ pos 1) j
    unfolding reached
    ends_here = record { tile = u; is_there = there; ends = omega (arith, ints) }

    later : (k : TileId) → EndsBelow s side row k → EndsBelow s side (reached +ℤ pos 1) k
    later k e = record { tile = e.tile; is_there = e.is_there; ends = let a = e.ends in let b = past in omega (arith, ints) }

    -- a neighbour that ends below the row ends before the one that has the row begins
    before_here : (k : TileId) → IsNeighbour s side id k → EndsBelow s side row k → ComesBefore s side k j
    before_here k n e = record {
      first = e.tile;
      second = u;
      first_is = e.is_there;
      second_is = there;
      ends_before =
          by_lt_z (turned side e.tile.area).y1 (turned side u.area).y0
          (λ (less : (turned side e.tile.area).y1 <ℤ (turned side u.area).y0). less)
          (λ (over_it : (turned side u.area).y0 ≤ℤ (turned side e.tile.area).y1). absurd (both over_it));
    }
      where
        both : (turned side u.area).y0 ≤ℤ (turned side e.tile.area).y1 → ⊥
        both over_it =
            let q : Point = left_of side t.area (turned side e.tile.area).y1 in
            let same_k : n.neighbour ≡ e.tile = one_tile s k n.neighbour e.tile n.neighbour_is_there e.is_there in
            let same_t : n.tile ≡ t = one_tile s id n.tile t n.is_there here in
            let P : Tile → Type 0 = λ v. IsBeside side v.area e.tile.area in
            let Q : Tile → Type 0 = λ v. IsBeside side n.tile.area v.area in
            let beside : IsBeside side t.area e.tile.area = subst P same_t (subst Q same_k n.beside) in
            let column : HasNumber (columns (turned side e.tile.area)) ((turned side t.area).x0 -ℤ pos 1) =
            let R : ℤ → Type 0 = λ v. HasNumber (columns (turned side e.tile.area)) v in
            subst R beside.past_edge beside.in_first.across in
            let low = has_left.up.to in
            let end = e.ends in
            let rise : (turned side e.tile.area).y1 ≤ℤ (turned side u.area).y1 = omega (arith, ints) in
            let same : k ≡ j = apart_turned s domain is side k j q
            (record { tile = e.tile; is_there = e.is_there; has_point = record { across = column; up = high_in (rows (turned side e.tile.area)) } })
            (record { tile = u; is_there = there; has_point = record { across = has_left.across; up = record { from = over_it; to = rise } } }) in
            let S : TileId → Type 0 = λ i. tile_at s i ≡ Some u in
            let one : u ≡ e.tile = one_tile s k u e.tile (subst S (sym same) there) e.is_there in
            let T : Tile → Type 0 = λ v. row ≤ℤ (turned side v.area).y1 in
            let high : row ≤ℤ (turned side e.tile.area).y1 = subst T one low in
            omega (arith, ints)

    onward_from : (o : Option TileId) → (row' : ℤ) → row' ≡ reached +ℤ pos 1 → LeadsToTurned s domain side (over side u.area) o → LeadsToTurned s domain side (left_of side t.area row') o
    unfolding reached
    onward_from o row' e h =
        let P : Point → Type 0 = λ z. LeadsToTurned s domain side z o in
        subst P (same_point (over side u.area) (left_of side t.area row') (ends_left s domain is side id j t u row here there in_row has_left) (sym e)) h

    held_here : (y : ℤ) → HasNumber (rows (turned side t.area)) y → HasPoint (turned side domain) (left_of side t.area y) → y <ℤ (reached +ℤ pos 1) → IsFound s side (found ++ j ∷ []) (left_of side t.area y)
    unfolding reached
    held_here y h k less =
        by_lt_z y row
        (λ (lower : y <ℤ row).
        let f = come.complete y h k lower in
        record { by = f.by; is_listed = Contains-append_left found (j ∷ []) f.by f.is_listed; holds = f.holds })
        (λ (higher : row ≤ℤ y).
        let a = has_left.up.from in
        let up : HasNumber (rows (turned side u.area)) y = record { from = omega (arith, ints); to = omega (arith, ints) } in
        record {
          by = j;
          is_listed = Contains-append_right found (j ∷ []) j (has_head j []);
          holds = record { tile = u; is_there = there; has_point = record { across = has_left.across; up = up } };
        })

    pub walk_steps : (row' : ℤ) → row' ≡ (turned side u.area).y1 +ℤ pos 1 → HasComeTo s domain side id t.area (found ++ j ∷ []) row' (stitch (following side) u)
    unfolding reached
    walk_steps row' e =
        let P : ℤ → Type 0 = λ v. (v ≡ (turned side u.area).y1 +ℤ pos 1) → HasComeTo s domain side id t.area (found ++ j ∷ []) v (stitch (following side) u) in
        subst P (sym e) (λ f. record {
          starts = let a = come.starts in let b = past in omega (arith, ints);
          listed = λ k h. elim (last_cases found j k h) [
            | inl before ↦ come.listed k before
            | inr same ↦ let Q : TileId → Type 0 = λ i. IsNeighbour s side id i in subst Q same is_neighbour
          ];
          below = λ k h. elim (last_cases found j k h) [
            | inl before ↦ later k (come.below k before)
            | inr same ↦ let Q : TileId → Type 0 = λ i. EndsBelow s side (reached +ℤ pos 1) i in subst Q same ends_here
          ];
          complete = held_here;
          in_order = pairs_added (ComesBefore s side) found j come.in_order (λ k h. before_here k (come.listed k h) (come.below k h));
          onward = λ _. onward_from (stitch (following side) u) ((turned side u.area).y1 +ℤ pos 1) refl (next_leads s domain is side j u there);
        }) e

  -- two tiles of which the one ends before the other begins have two numbers
  before_differs : (i j : TileId) → ComesBefore s side i j → i ≢ j
  before_differs i j b e =
      let P : TileId → Type 0 = λ k. tile_at s k ≡ Some b.first in
      let one : b.first ≡ b.second = one_tile s j b.first b.second (subst P e b.first_is) b.second_is in
      let Q : Tile → Type 0 = λ v. (turned side v.area).y1 <ℤ (turned side b.second.area).y0 in
      let less = subst Q one b.ends_before in
      let o = (turned side b.second.area).y_ordered in
      omega (arith, ints)

  -- a walk that has come to the end of the tile, or to that of the domain, has found all neighbours
  module _ (found : List TileId) (row : ℤ) (next : Option TileId) (come : HasComeTo s domain side id t.area found row next) where
    all_found : ((y : ℤ) → HasNumber (rows (turned side t.area)) y → HasPoint (turned side domain) (left_of side t.area y) → y <ℤ row) → AreNeighbours s side id found
    all_found low = record {
      listed = come.listed;
      complete = λ j n.
          let same_t : n.tile ≡ t = one_tile s id n.tile t n.is_there here in
          let P : Tile → Type 0 = λ v. IsBeside side v.area n.neighbour.area in
          let beside : IsBeside side t.area n.neighbour.area = subst P same_t n.beside in
          let at_left : beside.at ≡ left_of side t.area beside.at.y = same_point beside.at (left_of side t.area beside.at.y) beside.past_edge refl in
          let Q : Point → Type 0 = λ z. HasPoint (turned side n.neighbour.area) z in
          let has : HasPoint (turned side n.neighbour.area) (left_of side t.area beside.at.y) = subst Q at_left beside.in_first in
          let within = inside_turned s domain is side j n.neighbour (left_of side t.area beside.at.y) n.neighbour_is_there has in
          let f = come.complete beside.at.y beside.in_row within (low beside.at.y beside.in_row within) in
          let same : f.by ≡ j = apart_turned s domain is side f.by j (left_of side t.area beside.at.y) f.holds (record { tile = n.neighbour; is_there = n.neighbour_is_there; has_point = has }) in
          let R : TileId → Type 0 = λ k. Contains found k in
          subst R {x = f.by} same f.is_listed;
      once = λ i j d less within. before_differs _ _ (come.in_order i j d less within);
      in_order = come.in_order;
    }

    pub walk_ends_past : (turned side t.area).y1 <ℤ row → AreNeighbours s side id found
    walk_ends_past past_end = all_found (λ y h k. let a = h.to in omega (arith, ints))

    pub walk_ends_outside : next ≡ None → row ≤ℤ (turned side t.area).y1 → AreNeighbours s side id found
    walk_ends_outside none more =
        let P : Option TileId → Type 0 = λ o. LeadsToTurned s domain side (left_of side t.area row) o in
        let outside : ¬ HasPoint (turned side domain) (left_of side t.area row) = subst P none (come.onward more) in
        let in_row : HasNumber (rows (turned side t.area)) row = record { from = come.starts; to = more } in
        let q : Point = record { x = (turned side t.area).x0; y = row } in
        let within = inside_turned s domain is side id t q here (record { across = low_in (columns (turned side t.area)); up = in_row }) in
        all_found (λ y h k. absurd (outside (record { across = k.across; up = within.up })))

-- the same for the state of a walk as the code keeps it
pub walking_starts : (tiles : Tiles) (side : Side) (id : TileId) (t : Tile) (edge : Interval) (found : List TileId) (row : ℤ) (before now : ℕ) → IsTiling tiles.store tiles.domain → tile_at tiles.store id ≡ Some t → edge ≡ rows (turned side t.area) → row ≡ edge.low → found ≡ [] → now ≡ before + 1 → IsWalking tiles side id edge found row (stitch side t) before now
walking_starts tiles side id t edge found row before now is here e at_low none count =
    let P : List TileId → Type 0 = λ l. HasComeTo tiles.store tiles.domain side id t.area l row (stitch side t) in
    let Q : ℤ → Type 0 = λ v. HasComeTo tiles.store tiles.domain side id t.area [] v (stitch side t) in
    let low : row ≡ (turned side t.area).y0 = at_low ∙ ap (λ (i : Interval). i.low) e in
    record {
      tile = t;
      is_there = here;
      edge_is = e;
      come = subst P (sym none) (subst Q (sym low) (walk_starts tiles.store tiles.domain is.linked side id t here));
      counted = let n : length found ≡ 0 = ap (λ (l : List TileId). length l) none in omega arith;
    }

module _ (tiles : Tiles) (side : Side) (id : TileId) (edge : Interval) (found : List TileId) (row : ℤ) (next : Option TileId) (before now : ℕ) (is : IsTiling tiles.store tiles.domain) (walking : IsWalking tiles side id edge found row next before now) where
  last_row : (turned side walking.tile.area).y1 ≡ edge.high
  last_row = ap (λ (i : Interval). i.high) (sym walking.edge_is)

  come_to : (j : TileId) → next ≡ Some j → HasComeTo tiles.store tiles.domain side id walking.tile.area found row (Some j)
  come_to j e = let P : Option TileId → Type 0 = λ o. HasComeTo tiles.store tiles.domain side id walking.tile.area found row o in subst P e walking.come

  not_past : row ≤ℤ edge.high → row ≤ℤ (turned side walking.tile.area).y1
  not_past more = let l = last_row in omega (arith, ints)

  -- the tile that a walk names next is there
  pub next_is_there : (j : TileId) → next ≡ Some j → row ≤ℤ edge.high → IsPresent tiles.store j
  next_is_there j e more =
      let h = (come_to j e).onward (not_past more) in
      let P : Option Tile → Type 0 = λ o. IsSome o in
      subst P (sym h.is_there) refl

  pub row_rises : (j : TileId) (u : Tile) (row' : ℤ) → tile_at tiles.store j ≡ Some u → next ≡ Some j → row ≤ℤ edge.high → row' ≡ (turned side u.area).y1 +ℤ pos 1 → row <ℤ row'
  unfolding reached
  row_rises j u row' there e more f =
      let p = past tiles.store tiles.domain is.linked side id walking.tile walking.is_there found row j u there (come_to j e) (not_past more) in
      omega (arith, ints)

  pub rows_left_fall : (row' : ℤ) → row ≤ℤ edge.high → row <ℤ row' → rows_left edge.high row' < rows_left edge.high row
  rows_left_fall row' more rise = omega (arith, ints, clamps)

  pub walking_steps : (j : TileId) (u : Tile) (found' : List TileId) (row' : ℤ) (now' : ℕ) → tile_at tiles.store j ≡ Some u → next ≡ Some j → row ≤ℤ edge.high → row' ≡ (turned side u.area).y1 +ℤ pos 1 → found' ≡ found ++ j ∷ [] → now' ≡ now + 1 → IsWalking tiles side id edge found' row' (stitch (following side) u) before now'
  walking_steps j u found' row' now' there e more f added count =
      let P : List TileId → Type 0 = λ l. HasComeTo tiles.store tiles.domain side id walking.tile.area l row' (stitch (following side) u) in
      record {
        tile = walking.tile;
        is_there = walking.is_there;
        edge_is = walking.edge_is;
        come = subst P (sym added) (walk_steps tiles.store tiles.domain is.linked side id walking.tile walking.is_there found row j u there (come_to j e) (not_past more) row' f);
        counted =
            let n : length found' ≡ length found + 1 = ap (λ (l : List TileId). length l) added ∙ simp length-append in
            let c = walking.counted in
            omega arith;
      }

  pub walking_ends_past : edge.high <ℤ row → AreNeighbours tiles.store side id found
  walking_ends_past past_end = walk_ends_past tiles.store tiles.domain is.linked side id walking.tile walking.is_there found row next walking.come (let l = last_row in omega (arith, ints))

  pub walking_ends_outside : next ≡ None → row ≤ℤ edge.high → AreNeighbours tiles.store side id found
  walking_ends_outside none more = walk_ends_outside tiles.store tiles.domain is.linked side id walking.tile walking.is_there found row next walking.come none (not_past more)
