-- What contracts keep of a stitched plane.
use Rattle.geo_rect.specs.declared.shapes.Rect.{Rect}
use Rattle.tile_store.specs.Store.{Store}
use Rattle.stitch_walk.specs.Links.{IsTiling}
use Rattle.stitch_walk.specs.Maximal.{AreMaximal}

-- the tiles are linked, and none can be made wider or taller
pub record IsStitched (s : Store) (domain : Rect) : Type 0 where
  pub tiling : IsTiling s domain
  pub maximal : AreMaximal s
