-- What one more shape does to the labels of a plane.
use Rattle.std.specs.Prelude.{◌≡◌, List, Contains, Option}
use Rattle.geo_rect.specs.declared.ids.Label.{Label}
use Rattle.geo_rect.specs.declared.ids.Label.TheVariants.{Many}
use Rattle.geo_rect.specs.declared.ids.NetId.{NetId}
use Rattle.geo_rect.specs.declared.shapes.Point.{Point}
use Rattle.geo_rect.specs.declared.shapes.Rect.{Rect}
use Rattle.geo_rect.specs.Plane.{HasPoint}
use Rattle.board_model.specs.declared.shapes.Shape.{Shape}
use Rattle.board_model.specs.Labels.{PlaneRule, joined, with_shape}

-- p is a point of both
pub record HaveInCommon (a b : Rect) (p : Point) : Type 0 where
  pub in_first : HasPoint a p
  pub in_second : HasPoint b p

-- each point of area has its old label joined with the owner, and each other point of the domain
-- its old label
pub record IsJoined (domain area : Rect) (owner : Option NetId) (old new : Point → Label) : Type 0 where
  pub within : (p : Point) → HasPoint area p → new p ≡ joined (old p) owner
  pub elsewhere : (p : Point) → HasPoint domain p → ¬ HasPoint area p → new p ≡ old p

-- each point of the piece in area has this label joined with the owner, and each other point of the
-- domain its old label
pub record IsPieceJoined (domain area piece : Rect) (label : Label) (owner : Option NetId) (old new : Point → Label) : Type 0 where
  pub within : (p : Point) → HaveInCommon area piece p → new p ≡ joined label owner
  pub elsewhere : (p : Point) → HasPoint domain p → ¬ HaveInCommon area piece p → new p ≡ old p

-- p is a point of one of the areas
pub record IsInOneOf (areas : List Rect) (p : Point) : Type 0 where
  pub area : Rect
  pub listed : Contains areas area
  pub has_point : HasPoint area p

-- each point of area that one of the pieces has is left to no net, and each other point of the domain
-- has its old label
pub record IsBarred (domain area : Rect) (pieces : List Rect) (old new : Point → Label) : Type 0 where
  pub within : (p : Point) → HasPoint area p → IsInOneOf pieces p → new p ≡ Many
  pub elsewhere : (p : Point) → HasPoint domain p → (HasPoint area p → IsInOneOf pieces p → ⊥) → new p ≡ old p

-- each point of the piece in area is left to no net, and each other point of the domain has its old
-- label
pub record IsPieceBarred (domain area piece : Rect) (old new : Point → Label) : Type 0 where
  pub within : (p : Point) → HaveInCommon area piece p → new p ≡ Many
  pub elsewhere : (p : Point) → HasPoint domain p → ¬ HaveInCommon area piece p → new p ≡ old p

-- each point of area has the label that is wanted there, and each other point of the domain its old
-- label
pub record HasNewLabels (domain area : Rect) (wanted old new : Point → Label) : Type 0 where
  pub within : (p : Point) → HasPoint area p → new p ≡ wanted p
  pub elsewhere : (p : Point) → HasPoint domain p → ¬ HasPoint area p → new p ≡ old p

-- each point of area has the label that it gets from its old one by one more shape, and each other
-- point of the domain its old label
abbrev pub HasShapeWithin : Rect → Rect → PlaneRule → Shape → (Point → Label) → (Point → Label) → Type 0
HasShapeWithin domain area rule s old new = HasNewLabels domain area (λ (p : Point). with_shape rule p (old p) s) old new
