-- The planes come in rows: a row of wire planes for each layer, and a row of via planes for each kind.
use Rattle.std.specs.Prelude.{◌≡◌, ℕ, List, length, All}
use Rattle.geo_rect.specs.declared.ids.ClassId.{ClassId}
use Rattle.board_parts.specs.declared.parts.BoardParts.{BoardParts}
use Rattle.board_model.specs.declared.shapes.Shape.{Shape}
use Rattle.board_model.specs.Labels.{PlaneRule, wire_plane, via_plane}
use Rattle.plane_set.specs.declared.families.Family.{Family}
use Rattle.plane_set.specs.declared.families.Family.TheVariants.{Wires, Vias}
use Rattle.plane_set.specs.Drawings.{Drawing, IsBoardPlane, Shows}
use Rattle.plane_set.specs.Places.{EachAt}

-- the class of a number
abbrev pub class_at : ℕ → ClassId
class_at n = record { 0 = n }

-- how many rows a family has on this board
abbrev pub rows_in : BoardParts → Family → ℕ
rows_in b Wires = length b.layers
rows_in b Vias = length b.kinds

-- what the plane of a class asks in a row of a family
abbrev pub rule_in : BoardParts → Family → ℕ → ClassId → PlaneRule
rule_in b Wires row c = wire_plane b (record { 0 = row }) c
rule_in b Vias row c = via_plane b (record { 0 = row }) c

-- the planes of a row, class by class, each show these shapes
abbrev pub IsRow : {A : Type 0} → (A → Drawing) → BoardParts → Family → ℕ → List Shape → List A → Type 0
IsRow {A} draw b f row shapes planes = EachAt (λ c (plane : A). Shows b (rule_in b f row (class_at c)) shapes (draw plane)) planes

-- each row of a family is one whose planes each show these shapes
abbrev pub AreRows : {R A : Type 0} → (R → List A) → (A → Drawing) → BoardParts → Family → List Shape → List R → Type 0
AreRows {R} planes_of draw b f shapes rows = EachAt (λ n (row : R). IsRow draw b f n shapes (planes_of row)) rows

-- each plane of a row is one of the board
abbrev pub AreBoardPlanes : {A : Type 0} → (A → Drawing) → BoardParts → List A → Type 0
AreBoardPlanes {A} draw b planes = EachAt (λ c (plane : A). IsBoardPlane b (draw plane)) planes

-- each plane of each row is one of the board
abbrev pub AreBoardRows : {R A : Type 0} → (R → List A) → (A → Drawing) → BoardParts → List R → Type 0
AreBoardRows {R} planes_of draw b rows = EachAt (λ n (row : R). AreBoardPlanes draw b (planes_of row)) rows

-- each row has one plane for each class
abbrev pub HaveAllClasses : {R A : Type 0} → (R → List A) → BoardParts → List R → Type 0
HaveAllClasses {R} planes_of b rows = All (λ (row : R). length (planes_of row) ≡ length b.classes) rows
