-- The two tiles that a tile is cut into, before the cut.
use Rattle.std.proofs.Common.{ℤ, pos, ◌≡◌, ◌⊎◌, inl, inr, ◌-ℤ◌, Some, sym, subst, ap, ◌∙◌, arith}
use Rattle.std.specs.declared.option.Option.{Option}
use Rattle.std.proofs.lemmas.Int.{ints}
use Rattle.geo_rect.specs.declared.shapes.Point.{Point}
use Rattle.geo_rect.specs.declared.shapes.Rect.{Rect}
use Rattle.geo_rect.specs.Axis.{HasNumber}
use Rattle.geo_rect.specs.Plane.{columns, rows, HasPoint}
use Rattle.geo_rect.proofs.Parts.{low_in, lies_in_from}
use Rattle.plane_core.specs.declared.sides.Side.{Side}
use Rattle.plane_core.specs.declared.sides.Side.TheVariants.{Left, Below, Right, Above}
use Rattle.plane_core.specs.declared.strips.Strip.{Strip}
use Rattle.plane_core.specs.Labels.{IsSmall}
use Rattle.plane_core.specs.Sides.{turned, turned_point}
use Rattle.plane_core.proofs.Turns.{points_turn}
use Rattle.tile_store.specs.declared.tiles.Tile.{Tile}
use Rattle.tile_store.specs.declared.tiles.TileId.{TileId}
use Rattle.tile_store.specs.Store.{Store, tile_at}
use Rattle.stitch_walk.specs.Links.{stitch, stitch_point, LeadsTo, IsTiling, Tiles}
use Rattle.stitch_walk.specs.Pieces.{IsPiece, AreStacked, AreInLine, IsCut, CanJoin}
use Rattle.stitch_walk.specs.Reaches.{IsPast}
use Rattle.stitch_walk.proofs.Facing.{turned_twice, turned_back, stitch_starts}
use Rattle.stitch_walk.proofs.Filled.{piece_of_tile}
use Rattle.stitch_walk.proofs.Linked.{small_along}
use Rattle.tile_cuts.specs.Parts.{IsCutInto, IsReplaced}
use Rattle.tile_cuts.proofs.Cutting.{piece}
use Rattle.tile_cuts.proofs.Filling.{one_piece}
use Rattle.tile_cuts.proofs.Splitting.{stacked_parts, in_line_parts}

-- a part of a rectangle with small coordinates has small ones
small_part : (part whole : Rect) → ((p : Point) → HasPoint part p → HasPoint whole p) → IsSmall whole → IsSmall part
small_part part whole within small =
    let w = lies_in_from part whole within in
    record {
      across = small_along (columns part) (columns whole) w.across small.across;
      up = small_along (rows part) (rows whole) w.up small.up;
    }

-- a part that ends on this side where the whole does: its stitch's point is one step past the whole
part_past : (s : Store) (side : Side) (id : TileId) (t : Tile) (part : Rect) → tile_at s id ≡ Some t → ((p : Point) → HasPoint part p → HasPoint t.area p) → (turned side part).x0 ≡ (turned side t.area).x0 → IsPast s side (stitch_point side part) id
part_past s side id t part there within edge = record {
  tile = t;
  is_there = there;
  one_step = ap (λ (q : Point). q.x) (stitch_starts side part) ∙ ap (λ (v : ℤ). v -ℤ pos 1) edge;
  level =
      let corner : Point = record { x = (turned side part).x0; y = (turned side part).y0 } in
      let in_part = turned_back side part corner (record { across = low_in (columns (turned side part)); up = low_in (rows (turned side part)) }) in
      let P : Point → Type 0 = λ q. HasPoint (turned side t.area) q in
      let Q : ℤ → Type 0 = λ v. HasNumber (rows (turned side t.area)) v in
      let in_whole = subst P (turned_twice side corner) ((points_turn side t.area (turned_point side corner)).0 (within (turned_point side corner) in_part)) in
      subst Q (sym (ap (λ (q : Point). q.y) (stitch_starts side part))) in_whole.up;
}

-- the tile under id, and two areas that are its lower and its upper part
module _ (s : Store) (id : TileId) (t : Tile) (there : tile_at s id ≡ Some t) (first second : Rect) (are : AreStacked first second t.area) where
  pub small_lower : IsSmall t.area → IsSmall first
  small_lower small = small_part first t.area (stacked_parts first second t.area are).in_first small

  pub small_upper : IsSmall t.area → IsSmall second
  small_upper small = small_part second t.area (stacked_parts first second t.area are).in_second small

  pub past_lower : IsPast s Right (stitch_point Right first) id
  past_lower = part_past s Right id t first there (stacked_parts first second t.area are).in_first (ap (λ (v : ℤ). pos 0 -ℤ v) are.lower_columns.right)

  pub past_upper : IsPast s Left (stitch_point Left second) id
  past_upper = part_past s Left id t second there (stacked_parts first second t.area are).in_second are.upper_columns.left

-- the same for its left and its right part
module _ (s : Store) (id : TileId) (t : Tile) (there : tile_at s id ≡ Some t) (first second : Rect) (are : AreInLine first second t.area) where
  pub small_left : IsSmall t.area → IsSmall first
  small_left small = small_part first t.area (in_line_parts first second t.area are).in_first small

  pub small_right : IsSmall t.area → IsSmall second
  small_right small = small_part second t.area (in_line_parts first second t.area are).in_second small

  pub past_left : IsPast s Above (stitch_point Above first) id
  past_left = part_past s Above id t first there (in_line_parts first second t.area are).in_first (ap (λ (v : ℤ). pos 0 -ℤ v) are.left_rows.above)

  pub past_right : IsPast s Below (stitch_point Below second) id
  past_right = part_past s Below id t second there (in_line_parts first second t.area are).in_second are.right_rows.below

-- the upper part has the point above the lower one's corner, and the lower one that below its corner
above_lower : (first second whole : Rect) → AreStacked first second whole → HasPoint second (stitch_point Above first)
above_lower first second whole are =
    let a = are.lower_columns.left in
    let b = are.upper_columns.left in
    let c = are.lower_columns.right in
    let d = are.upper_columns.right in
    let n = are.in_rows.next in
    record {
      across = record { from = let o = first.x_ordered in omega (arith, ints); to = omega (arith, ints) };
      up = record { from = omega (arith, ints); to = let o = second.y_ordered in omega (arith, ints) };
    }

below_upper : (first second whole : Rect) → AreStacked first second whole → HasPoint first (stitch_point Below second)
below_upper first second whole are =
    let a = are.lower_columns.left in
    let b = are.upper_columns.left in
    let c = are.lower_columns.right in
    let d = are.upper_columns.right in
    let n = are.in_rows.next in
    record {
      across = record { from = omega (arith, ints); to = let o = second.x_ordered in omega (arith, ints) };
      up = record { from = let o = first.y_ordered in omega (arith, ints); to = omega (arith, ints) };
    }

right_of_left : (first second whole : Rect) → AreInLine first second whole → HasPoint second (stitch_point Right first)
right_of_left first second whole are =
    let a = are.left_rows.below in
    let b = are.right_rows.below in
    let c = are.left_rows.above in
    let d = are.right_rows.above in
    let n = are.in_columns.next in
    record {
      across = record { from = omega (arith, ints); to = let o = second.x_ordered in omega (arith, ints) };
      up = record { from = let o = first.y_ordered in omega (arith, ints); to = omega (arith, ints) };
    }

left_of_right : (first second whole : Rect) → AreInLine first second whole → HasPoint first (stitch_point Left second)
left_of_right first second whole are =
    let a = are.left_rows.below in
    let b = are.right_rows.below in
    let c = are.left_rows.above in
    let d = are.right_rows.above in
    let n = are.in_columns.next in
    record {
      across = record { from = let o = first.x_ordered in omega (arith, ints); to = omega (arith, ints) };
      up = record { from = omega (arith, ints); to = let o = second.y_ordered in omega (arith, ints) };
    }

-- the other piece has the point of the first one's stitch
first_point : (s : Store) (id : TileId) (t : Tile) (p : Strip) (second : Rect) (side : Side) → tile_at s id ≡ Some t → IsPiece s id p → HasPoint second (stitch_point side p.area) → HasPoint second (stitch_point side t.area)
first_point s id t p second side there is_piece h =
    let P : Strip → Type 0 = λ q. HasPoint second (stitch_point side q.area) in
    subst P (one_piece s id p (piece t) is_piece (piece_of_tile s id t there)) h

pub right_neighbour : (s : Store) (id : TileId) (t : Tile) → tile_at s id ≡ Some t → (can : CanJoin AreInLine s id) → HasPoint can.second.area (stitch_point Right t.area)
right_neighbour s id t there can = first_point s id t can.first can.second.area Right there can.first_is (right_of_left can.first.area can.second.area can.whole can.parts)

pub upper_neighbour : (s : Store) (id : TileId) (t : Tile) → tile_at s id ≡ Some t → (can : CanJoin AreStacked s id) → HasPoint can.second.area (stitch_point Above t.area)
upper_neighbour s id t there can = first_point s id t can.first can.second.area Above there can.first_is (above_lower can.first.area can.second.area can.whole can.parts)

-- two tiles with these areas and labels, that keep the stitches of the whole at its two corners
pub record KeepCorners (t first second : Tile) : Type 0 where
  pub first_bl : first.bl ≡ t.bl
  pub first_lb : first.lb ≡ t.lb
  pub second_tr : second.tr ≡ t.tr
  pub second_rt : second.rt ≡ t.rt

module _ (tiles : Tiles) (is : IsTiling tiles.store tiles.domain) (id : TileId) (t first second : Tile) (there : tile_at tiles.store id ≡ Some t) (keep : KeepCorners t first second) where
  -- a stitch that is that of the whole, with the same point
  same_stitch : (side : Side) (u : Tile) → stitch_point side u.area ≡ stitch_point side t.area → stitch side u ≡ stitch side t → LeadsTo tiles.store tiles.domain (stitch_point side u.area) (stitch side u)
  same_stitch side u p o =
      let P : Point → Type 0 = λ q. LeadsTo tiles.store tiles.domain q (stitch side u) in
      let Q : Option TileId → Type 0 = λ n. LeadsTo tiles.store tiles.domain (stitch_point side t.area) n in
      subst P (sym p) (subst Q (sym o) (is.linked.stitched side id t there))

  -- what is asked of the stitches of the two parts
  abbrev FirstStitched : Side → Type 0
  FirstStitched side = HasPoint second.area (stitch_point side first.area) ⊎ LeadsTo tiles.store tiles.domain (stitch_point side first.area) (stitch side first)

  abbrev SecondStitched : Side → Type 0
  SecondStitched side = (HasPoint first.area (stitch_point side second.area) × (stitch side second ≡ Some id)) ⊎ LeadsTo tiles.store tiles.domain (stitch_point side second.area) (stitch side second)

  module _ (are : AreStacked first.area second.area t.area) (lb : second.lb ≡ Some id) (right : LeadsTo tiles.store tiles.domain (stitch_point Right first.area) first.tr) (left : LeadsTo tiles.store tiles.domain (stitch_point Left second.area) second.bl) where
    lower_stitched : (side : Side) → FirstStitched side
    lower_stitched Left = inr (same_stitch Left first (stacked_parts first.area second.area t.area are).on_left keep.first_bl)
    lower_stitched Below = inr (same_stitch Below first (stacked_parts first.area second.area t.area are).below keep.first_lb)
    lower_stitched Right = inr right
    lower_stitched Above = inl (above_lower first.area second.area t.area are)

    upper_stitched : (side : Side) → SecondStitched side
    upper_stitched Left = inr left
    upper_stitched Below = inl (below_upper first.area second.area t.area are, lb)
    upper_stitched Right = inr (same_stitch Right second (stacked_parts first.area second.area t.area are).on_right keep.second_tr)
    upper_stitched Above = inr (same_stitch Above second (stacked_parts first.area second.area t.area are).above keep.second_rt)

    pub row_cut : IsCutInto tiles id first second
    row_cut = record { whole = t; is_there = there; parts = stacked_parts first.area second.area t.area are; first_stitched = lower_stitched; second_stitched = upper_stitched }

  module _ (are : AreInLine first.area second.area t.area) (bl : second.bl ≡ Some id) (above : LeadsTo tiles.store tiles.domain (stitch_point Above first.area) first.rt) (below : LeadsTo tiles.store tiles.domain (stitch_point Below second.area) second.lb) where
    left_stitched : (side : Side) → FirstStitched side
    left_stitched Left = inr (same_stitch Left first (in_line_parts first.area second.area t.area are).on_left keep.first_bl)
    left_stitched Below = inr (same_stitch Below first (in_line_parts first.area second.area t.area are).below keep.first_lb)
    left_stitched Right = inl (right_of_left first.area second.area t.area are)
    left_stitched Above = inr above

    right_stitched : (side : Side) → SecondStitched side
    right_stitched Left = inl (left_of_right first.area second.area t.area are, bl)
    right_stitched Below = inr below
    right_stitched Right = inr (same_stitch Right second (in_line_parts first.area second.area t.area are).on_right keep.second_tr)
    right_stitched Above = inr (same_stitch Above second (in_line_parts first.area second.area t.area are).above keep.second_rt)

    pub column_cut : IsCutInto tiles id first second
    column_cut = record { whole = t; is_there = there; parts = in_line_parts first.area second.area t.area are; first_stitched = left_stitched; second_stitched = right_stitched }

-- what was replaced by its parts was cut
pub is_cut : (AreParts : Rect → Rect → Rect → Type 0) (old new : Store) (id other : TileId) (t : Tile) (first second : Strip) → tile_at old id ≡ Some t → AreParts first.area second.area t.area → first.label ≡ t.label → second.label ≡ t.label → IsReplaced old new id other first second → IsCut AreParts old new id other
is_cut AreParts old new id other t first second there are f g split = record {
  whole = piece t;
  first = first;
  second = second;
  was = piece_of_tile old id t there;
  was_absent = split.was_absent;
  first_is = split.first_is;
  second_is = split.second_is;
  parts = are;
  first_label = f;
  second_label = g;
  elsewhere = split.elsewhere;
}

-- what the store has of a tile, the value that contracts see of the tiling has
pub tile_now : (s : Store) (domain : Rect) (v : Tiles) (id : TileId) (t : Tile) → record { store = s; domain = domain } ≡ v → tile_at s id ≡ Some t → tile_at v.store id ≡ Some t
tile_now s domain v id t e there = let P : Tiles → Type 0 = λ w. tile_at w.store id ≡ Some t in subst P e there
