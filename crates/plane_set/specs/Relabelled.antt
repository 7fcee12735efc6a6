-- What the planes become where the labels near one shape are made again.
use Rattle.std.specs.Prelude.{◌≡◌, ℕ, List, ◌++◌}
use Rattle.geo_rect.specs.declared.shapes.Point.{Point}
use Rattle.geo_rect.specs.Plane.{HasPoint}
use Rattle.board_parts.specs.declared.parts.BoardParts.{BoardParts}
use Rattle.board_model.specs.declared.shapes.Shape.{Shape}
use Rattle.board_model.specs.Labels.{PlaneRule, Hits, label_among}
use Rattle.board_model.specs.Shapes.{board_shapes}
use Rattle.plane_core.specs.Labels.{label_of, IsPlane}
use Rattle.plane_set.specs.declared.families.Family.{Family}
use Rattle.plane_set.specs.declared.families.Family.TheVariants.{Wires, Vias}
use Rattle.plane_set.specs.Drawings.{Drawing}
use Rattle.plane_set.specs.Families.{rule_in, class_at}
use Rattle.plane_set.specs.Places.{EachPair}
use Rattle.plane_set.specs.Standing.{PlaneTable}

-- the shapes begin with those of the board alone
pub record BeginWithBoard (b : BoardParts) (shapes : List Shape) : Type 0 where
  pub others : List Shape
  pub split : shapes ≡ board_shapes b ++ others

-- each point that gone hits has its label among the shapes, and each other point its old label
pub record IsRelabelled (b : BoardParts) (rule : PlaneRule) (gone : Shape) (shapes : List Shape) (old new : Drawing) : Type 0 where
  pub region : new.region ≡ old.region
  pub hit : (p : Point) → HasPoint old.region p → Hits rule p gone → label_of new.strips p ≡ label_among b rule shapes p
  pub missed : (p : Point) → HasPoint old.region p → ¬ Hits rule p gone → label_of new.strips p ≡ label_of old.strips p
  pub canonical : IsPlane new.region new.strips

-- each plane of a row is the old one in its place, relabelled by its own rule
abbrev pub IsRowRelabelled : {A : Type 0} → (A → Drawing) → BoardParts → Family → ℕ → Shape → List Shape → List A → List A → Type 0
IsRowRelabelled {A} draw b f row gone shapes old new =
    EachPair (λ c (x y : A). IsRelabelled b (rule_in b f row (class_at c)) gone shapes (draw x) (draw y)) old new

-- each row of a family is the old one in its place, relabelled
abbrev pub AreRowsRelabelled : {R A : Type 0} → (R → List A) → (A → Drawing) → BoardParts → Family → Shape → List Shape → List R → List R → Type 0
AreRowsRelabelled {R} planes_of draw b f gone shapes old new =
    EachPair (λ n (x y : R). IsRowRelabelled draw b f n gone shapes (planes_of x) (planes_of y)) old new

-- in each plane, each point that gone hits has its label among the shapes, and each other point the
-- label that it has in the old planes
pub record AreRelabelled (b : BoardParts) (gone : Shape) (shapes : List Shape) (old new : PlaneTable) : Type 0 where
  pub wires : AreRowsRelabelled (λ (row : List Drawing). row) (λ (d : Drawing). d) b Wires gone shapes old.wires new.wires
  pub vias : AreRowsRelabelled (λ (row : List Drawing). row) (λ (d : Drawing). d) b Vias gone shapes old.vias new.vias
