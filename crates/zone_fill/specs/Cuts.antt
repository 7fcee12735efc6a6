-- What a zone has of strips.
use Rattle.std.specs.Prelude.{List}
use Rattle.geo_rect.specs.declared.ids.NetId.{NetId}
use Rattle.geo_rect.specs.declared.shapes.Rect.{Rect}
use Rattle.geo_rect.specs.Plane.{IsMeet}
use Rattle.board_model.specs.Labels.{Admits}
use Rattle.plane_core.specs.declared.strips.Strip.{Strip}
use Rattle.plane_core.specs.Choice.{IsChoice, Meets}
use Rattle.zone_fill.specs.Pour.{AreParts}

-- the net may pass the strip, and the strip has a point of the zone
pub record IsOpenStrip (net : NetId) (zone : Rect) (s : Strip) : Type 0 where
  pub admits : Admits s.label net
  pub meets : Meets zone s.area

-- the net may pass the strip, and this is what the zone has of it
pub record IsOpenPart (net : NetId) (zone : Rect) (s : Strip) (part : Rect) : Type 0 where
  pub admits : Admits s.label net
  pub common : IsMeet zone s.area part

-- the parts are what the zone has of those strips that the net may pass
pub record AreOpenParts (net : NetId) (zone : Rect) (strips : List Strip) (parts : List Rect) : Type 0 where
  pub chosen : List Strip
  pub choice : IsChoice strips (IsOpenStrip net zone) chosen
  pub each : AreParts zone chosen parts
