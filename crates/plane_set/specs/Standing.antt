-- What the planes of a state stand for.
use Rattle.std.specs.Prelude.{◌≡◌, List, [], length, Option, Some, None, slice_get, slice_index_or}
use Rattle.geo_rect.specs.declared.ids.ClassId.{ClassId}
use Rattle.geo_rect.specs.declared.ids.Label.{Label}
use Rattle.geo_rect.specs.declared.ids.LayerId.{LayerId}
use Rattle.geo_rect.specs.declared.shapes.Point.{Point}
use Rattle.board_parts.specs.declared.parts.BoardParts.{BoardParts}
use Rattle.board_model.specs.declared.shapes.Shape.{Shape}
use Rattle.plane_core.specs.declared.strips.Strip.{Strip}
use Rattle.plane_core.specs.Labels.{label_of}
use Rattle.plane_set.specs.declared.families.Family.TheVariants.{Wires, Vias}
use Rattle.plane_set.specs.Drawings.{Drawing}
use Rattle.plane_set.specs.Families.{AreRows, AreBoardRows, HaveAllClasses}

-- the planes of a state: for each layer a row of wire planes, for each kind a row of via planes,
-- and in a row one plane for each class
pub record PlaneTable : Type 0 where
  pub wires : List (List Drawing)
  pub vias : List (List Drawing)

-- there is one wire plane for each layer and class, and one via plane for each kind and class, each
-- a plane of the board
pub record HasPlanes (b : BoardParts) (set : PlaneTable) : Type 0 where
  pub layers : length set.wires ≡ length b.layers
  pub wire_classes : HaveAllClasses (λ (row : List Drawing). row) b set.wires
  pub wire_planes : AreBoardRows (λ (row : List Drawing). row) (λ (d : Drawing). d) b set.wires
  pub kinds : length set.vias ≡ length b.kinds
  pub via_classes : HaveAllClasses (λ (row : List Drawing). row) b set.vias
  pub via_planes : AreBoardRows (λ (row : List Drawing). row) (λ (d : Drawing). d) b set.vias

-- the planes are all there, and each shows these shapes by its own rule
pub record StandsFor (b : BoardParts) (shapes : List Shape) (set : PlaneTable) : Type 0 where
  pub planes : HasPlanes b set
  pub wires : AreRows (λ (row : List Drawing). row) (λ (d : Drawing). d) b Wires shapes set.wires
  pub vias : AreRows (λ (row : List Drawing). row) (λ (d : Drawing). d) b Vias shapes set.vias

-- the strips of a plane, and none where there is no plane
abbrev pub strips_of : Option Drawing → List Strip
strips_of None = []
strips_of (Some d) = d.strips

-- the label of p in the plane of a class's wires on a layer
abbrev pub wire_label : PlaneTable → LayerId → ClassId → Point → Label
wire_label set l c p = label_of (strips_of (slice_get (slice_index_or set.wires l.0 []) c.0)) p
