-- The strip that the net may pass at a point.
use Rattle.geo_rect.specs.declared.ids.KindId.{KindId}
use Rattle.geo_rect.specs.declared.ids.LayerId.{LayerId}
use Rattle.geo_rect.specs.declared.shapes.Point.{Point}
use Rattle.geo_rect.specs.declared.shapes.Rect.{Rect}
use Rattle.geo_rect.specs.Plane.{HasPoint}
use Rattle.route_law.specs.Ground.{Ground, IsWireStrip, IsViaStrip}

-- t is a strip of the layer that the net may pass, and has the point
pub record IsWirePassage (g : Ground) (l : LayerId) (p : Point) (t : Rect) : Type 0 where
  pub strip : IsWireStrip g l t
  pub has_point : HasPoint t p

-- w is a strip of the via plane of kind k that the net may pass, and has the point
pub record IsViaPassage (g : Ground) (k : KindId) (p : Point) (w : Rect) : Type 0 where
  pub strip : IsViaStrip g k w
  pub has_point : HasPoint w p
