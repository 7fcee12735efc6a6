-- The pieces of a linked tiling: what stands under its numbers, stitches left out.
use Rattle.std.proofs.Common.{◌≡◌, Some, None, refl, sym, subst, ap}
use Rattle.std.specs.declared.option.Option.{Option}
use Rattle.geo_rect.specs.declared.shapes.Point.{Point}
use Rattle.geo_rect.specs.declared.shapes.Rect.{Rect}
use Rattle.geo_rect.specs.Plane.{HasPoint, LiesIn}
use Rattle.plane_core.specs.declared.strips.Strip.{Strip}
use Rattle.tile_store.specs.declared.tiles.Tile.{Tile}
use Rattle.tile_store.specs.declared.tiles.TileId.{TileId}
use Rattle.tile_store.specs.Store.{Store, tile_at}
use Rattle.stitch_walk.specs.Links.{Holds, IsTiling}
use Rattle.stitch_walk.specs.Pieces.{piece_of, IsPiece, IsOfPiece, FillDomain}

-- a tile of this area and this label
pub record IsTileOf (o : Option Tile) (p : Strip) : Type 0 where
  pub tile : Tile
  pub is_it : o ≡ Some tile
  pub same_area : tile.area ≡ p.area
  pub same_label : tile.label ≡ p.label

-- where there is a piece, there is a tile
pub tile_of : (o : Option Tile) (p : Strip) → piece_of o ≡ Some p → IsTileOf o p
tile_of None p e = cc
tile_of (Some t) p e = record { tile = t; is_it = refl; same_area = cc; same_label = cc }

-- the tile of a piece has the piece's points
pub holds_of : (s : Store) (id : TileId) (p : Strip) (at : Point) → IsPiece s id p → HasPoint p.area at → Holds s id at
holds_of s id p at e h =
    let t = tile_of (tile_at s id) p e in
    record { tile = t.tile; is_there = t.is_it; has_point = subst (λ r. HasPoint r at) (sym t.same_area) h }

-- a tile is a piece
pub piece_of_tile : (s : Store) (id : TileId) (t : Tile) → tile_at s id ≡ Some t → IsPiece s id (record { area = t.area; label = t.label })
piece_of_tile s id t e = ap piece_of e

of_piece : (s : Store) (id : TileId) (at : Point) → Holds s id at → IsOfPiece s at
of_piece s id at h = record { by = id; piece = record { area = h.tile.area; label = h.tile.label }; is_piece = piece_of_tile s id h.tile h.is_there; has_point = h.has_point }

pub filled : (s : Store) (domain : Rect) → IsTiling s domain → FillDomain s domain
filled s domain is = record {
  inside = λ id p e. let t = tile_of (tile_at s id) p e in subst (λ r. LiesIn r domain) t.same_area (is.linked.inside id t.tile t.is_it);
  apart = λ i j p q at e f h k. is.linked.apart i j at (holds_of s i p at e h) (holds_of s j q at f k);
  covered = λ at h. let held = is.linked.covered at h in of_piece s held.by at held.holds;
}
