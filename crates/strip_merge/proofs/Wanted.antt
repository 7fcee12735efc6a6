-- The numbers that a sweep or a walk finds are those of the strips that are wanted.
use Rattle.std.proofs.Common.{◌≡◌, refl, sym, subst, List, Contains, Some, IsSome}
use Rattle.std.specs.declared.option.Option.{Option}
use Rattle.geo_rect.specs.declared.shapes.Point.{Point}
use Rattle.geo_rect.specs.declared.shapes.Rect.{Rect}
use Rattle.geo_rect.specs.Plane.{HasPoint}
use Rattle.plane_core.specs.declared.sides.Side.{Side}
use Rattle.plane_core.specs.declared.strips.Strip.{Strip}
use Rattle.plane_core.specs.Choice.{IsChoice, Meets}
use Rattle.plane_core.specs.Sides.{IsBeside}
use Rattle.plane_core.proofs.Alike.{corner, corner_point}
use Rattle.tile_store.specs.declared.tiles.Tile.{Tile}
use Rattle.tile_store.specs.declared.tiles.TileId.{TileId}
use Rattle.tile_store.specs.Store.{Store, tile_at, IsPresent}
use Rattle.stitch_walk.specs.Links.{Holds, IsTiling}
use Rattle.stitch_walk.specs.Neighbours.{AreMeeting, AreNeighbours, IsNeighbour, MeetsArea}
use Rattle.stitch_walk.specs.Pieces.{IsPiece}
use Rattle.stitch_walk.proofs.Filled.{filled, holds_of, tile_of, IsTileOf}
use Rattle.strip_merge.specs.StripsOf.{strips_of, ArePieces}
use Rattle.strip_merge.proofs.Forming.{inside_point}
use Rattle.strip_merge.proofs.Listing.{listed, numbered, IsNumbered}

present : (s : Store) (id : TileId) (t : Tile) → tile_at s id ≡ Some t → IsPresent s id
present s id t e = let P : Option Tile → Type 0 = λ o. IsSome o in subst P (sym e) refl

-- the tile and the piece under a number have one area
same_area : (s : Store) (id : TileId) (p : Strip) (t : Tile) → IsPiece s id p → tile_at s id ≡ Some t → t.area ≡ p.area
same_area s id p t e f =
    let k : IsTileOf (tile_at s id) p = tile_of (tile_at s id) p e in
    let one : tile_at s id ≡ Some k.tile = k.is_it in
    let same : t ≡ k.tile = cc in
    let area : k.tile.area ≡ p.area = k.same_area in
    cc

-- the numbers are those of the pieces that are wanted
pub record AreWanted (s : Store) (ids : List TileId) (W : Strip → Type 0) : Type 0 where
  pub wanted : (id : TileId) (p : Strip) → Contains ids id → IsPiece s id p → W p
  pub complete : (id : TileId) (p : Strip) → IsPiece s id p → W p → Contains ids id

-- the pieces under the numbers of those wanted are the choice of the strips that are wanted
wanted_choice : (s : Store) (ids : List TileId) (W : Strip → Type 0) (found : List Strip) → AreWanted s ids W → ArePieces s ids found → IsChoice (strips_of s) W found
wanted_choice s ids W found are pieces = record {
  listed = λ p h. let o = pieces.listed p h in listed s o.by p o.is_piece;
  wanted = λ p h. let o = pieces.listed p h in are.wanted o.by p o.is_listed o.is_piece;
  complete = λ p h w. let n = numbered s p h in pieces.complete n.by p (are.complete n.by p n.is_piece w) n.is_piece;
  in_order = pieces.in_order;
}

meeting_wanted : (s : Store) (area : Rect) (ids : List TileId) → AreMeeting s area ids → AreWanted s ids (λ p. Meets p.area area)
meeting_wanted s area ids are = record {
  wanted = λ id p h e.
      let m : MeetsArea s area id = are.listed id h in
      let P : Rect → Type 0 = λ r. Meets r area in
      subst P (same_area s id p m.tile e m.is_there) m.meets;
  complete = λ id p e w.
      let k : IsTileOf (tile_at s id) p = tile_of (tile_at s id) p e in
      let P : Rect → Type 0 = λ r. Meets r area in
      are.complete id (record { tile = k.tile; is_there = k.is_it; meets = subst P (sym k.same_area) w });
}

beside_wanted : (s : Store) (side : Side) (id : TileId) (t : Strip) (ids : List TileId) → IsPiece s id t → AreNeighbours s side id ids → AreWanted s ids (λ p. IsBeside side t.area p.area)
beside_wanted s side id t ids is are = record {
  wanted = λ j p h e.
      let n : IsNeighbour s side id j = are.listed j h in
      let P : Rect → Type 0 = λ r. IsBeside side r n.neighbour.area in
      let Q : Rect → Type 0 = λ r. IsBeside side t.area r in
      subst Q (same_area s j p n.neighbour e n.neighbour_is_there) (subst P (same_area s id t n.tile is n.is_there) n.beside);
  complete = λ j p e w.
      let k : IsTileOf (tile_at s id) t = tile_of (tile_at s id) t is in
      let m : IsTileOf (tile_at s j) p = tile_of (tile_at s j) p e in
      let P : Rect → Type 0 = λ r. IsBeside side r m.tile.area in
      let Q : Rect → Type 0 = λ r. IsBeside side t.area r in
      are.complete j (record {
        tile = k.tile;
        is_there = k.is_it;
        neighbour = m.tile;
        neighbour_is_there = m.is_it;
        beside = subst P (sym k.same_area) (subst Q (sym m.same_area) w);
      });
}

-- the first point of a strip is a point of the domain
pub corner_inside : (s : Store) (domain : Rect) (t : Strip) (at : Point) → IsTiling s domain → Contains (strips_of s) t → at ≡ corner t → HasPoint domain at
corner_inside s domain t at is h e =
    let n : IsNumbered s t = numbered s t h in
    let P : Point → Type 0 = λ p. HasPoint domain p in
    subst P (sym e) (inside_point t.area domain (corner t) ((filled s domain is).inside n.by t n.is_piece) (corner_point t))

-- the tile that has the first point of a strip is that strip
pub found_by_corner : (s : Store) (domain : Rect) (id : TileId) (t : Strip) (at : Point) → IsTiling s domain → Contains (strips_of s) t → at ≡ corner t → Holds s id at → IsPiece s id t
found_by_corner s domain id t at is h e holds =
    let n : IsNumbered s t = numbered s t h in
    let P : Point → Type 0 = λ p. Holds s id p in
    let Q : TileId → Type 0 = λ i. IsPiece s i t in
    subst Q (is.linked.apart n.by id (corner t) (holds_of s n.by t (corner t) n.is_piece (corner_point t)) (subst P e holds)) n.is_piece

-- what lists the pieces under the numbers that a sweep found
pub meeting_choice : (s : Store) (area : Rect) (ids list : List TileId) (found : List Strip) → AreMeeting s area ids → list ≡ ids → ArePieces s list found → IsChoice (strips_of s) (λ p. Meets p.area area) found
meeting_choice s area ids list found are e pieces =
    let P : List TileId → Type 0 = λ l. ArePieces s l found in
    wanted_choice s ids (λ p. Meets p.area area) found (meeting_wanted s area ids are) (subst P e pieces)

-- what lists the pieces under the numbers that a walk along a side found
pub beside_choice : (s : Store) (side : Side) (id : TileId) (t : Strip) (ids list : List TileId) (found : List Strip) → IsPiece s id t → AreNeighbours s side id ids → list ≡ ids → ArePieces s list found → IsChoice (strips_of s) (λ p. IsBeside side t.area p.area) found
beside_choice s side id t ids list found is are e pieces =
    let P : List TileId → Type 0 = λ l. ArePieces s l found in
    wanted_choice s ids (λ p. IsBeside side t.area p.area) found (beside_wanted s side id t ids is are) (subst P e pieces)

pub meeting_present : (s : Store) (area : Rect) (ids list : List TileId) (id : TileId) → AreMeeting s area ids → list ≡ ids → Contains list id → IsPresent s id
meeting_present s area ids list id are e h =
    let P : List TileId → Type 0 = λ l. Contains l id in
    let m : MeetsArea s area id = are.listed id (subst P e h) in
    present s id m.tile m.is_there
