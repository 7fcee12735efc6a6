-- The label of each point of a plane: whose shapes the squares round the point are too close to.
use Rattle.std.specs.Prelude.{◌≡◌, ◌≢◌, ◌==◌, ◌≤◌, nat_le, ℤ, pos, Bool, true, false, not, ◌&&◌, All, List, Contains, fold, Option, Some, None, IsSomeAnd, if◌then◌else◌, ◌⊎◌, ⊤}
use Rattle.std.specs.Int.{int_max}
use Rattle.std.specs.List.{list_all}
use Rattle.geo_rect.specs.declared.ids.ClassId.{ClassId}
use Rattle.geo_rect.specs.declared.ids.KindId.{KindId}
use Rattle.geo_rect.specs.declared.ids.Label.{Label}
use Rattle.geo_rect.specs.declared.ids.Label.TheVariants.{Free, One, Many}
use Rattle.geo_rect.specs.declared.ids.LayerId.{LayerId}
use Rattle.geo_rect.specs.declared.ids.NetId.{NetId}
use Rattle.geo_rect.specs.declared.ids.Node.{Node}
use Rattle.geo_rect.specs.declared.shapes.Point.{Point}
use Rattle.geo_rect.specs.declared.shapes.Rect.{Rect}
use Rattle.geo_rect.specs.Plane.{IsTooClose, square}
use Rattle.geo_rect.specs.Tests.{are_too_close}
use Rattle.board_parts.specs.declared.parts.BoardParts.{BoardParts}
use Rattle.board_parts.specs.declared.parts.Keepout.{Keepout}
use Rattle.board_parts.specs.declared.parts.ViaKind.{ViaKind}
use Rattle.board_model.specs.declared.shapes.Shape.{Shape}
use Rattle.board_parts.specs.Lookup.{rule_of, pad_of, inner_of, pad_on, kind_of, class_of}
use Rattle.board_parts.specs.Rules.{IsOnBoard}
use Rattle.board_model.specs.Shapes.{place_of}
use Rattle.board_parts.specs.Gaps.{gap_to}
use Rattle.board_model.specs.Spacing.{keeps_outline}

-- what a plane asks at each of its points
pub record PlaneRule : Type 0 where
  -- half the width of the square round the point on a layer, and the greatest of these
  pub half_on : LayerId → ℤ
  pub widest : ℤ
  -- the gap that the square on a shape's layer keeps to it, None where the shape does not count
  pub gap_from : Shape → Option ℤ
  -- whether a keep-out counts
  pub heeds : Keepout → Bool

-- the plane of a class's wires on a layer: the shapes on that layer count, and the keep-outs for wires
abbrev pub wire_plane : BoardParts → LayerId → ClassId → PlaneRule
wire_plane b l c = record {
  half_on = λ (m : LayerId). (rule_of b l c).half;
  widest = (rule_of b l c).half;
  gap_from = λ (s : Shape). if s.layer.0 == l.0 then Some (gap_to b l c s.owner) else None;
  heeds = λ (k : Keepout). k.wires && (k.layer.0 == l.0);
}

-- a kind's via has a pad on the layer
pub record IsInSpan (k : ViaKind) (l : LayerId) : Type 0 where
  pub from : k.first.0 ≤ l.0
  pub to : l.0 ≤ k.last.0

-- whether a kind's via has a pad on the layer
abbrev pub is_in_span : ViaKind → LayerId → Bool
is_in_span k l = nat_le k.first.0 l.0 && nat_le l.0 k.last.0

-- the plane of a class's vias of a kind: the shapes on every layer of the kind's span count, each
-- with the pad and the gap of its own layer, and so do the keep-outs for vias
abbrev pub via_plane : BoardParts → KindId → ClassId → PlaneRule
via_plane b kind c = record {
  half_on = pad_on b kind c;
  widest = int_max (pad_of b kind c) (inner_of b kind c);
  gap_from = λ (s : Shape). if is_in_span (kind_of b kind) s.layer then Some (gap_to b s.layer c s.owner) else None;
  heeds = λ (k : Keepout). not k.wires && is_in_span (kind_of b kind) k.layer;
}

-- the shape counts in the plane, and the square round p on its layer is too close to it
abbrev pub Hits : PlaneRule → Point → Shape → Type 0
Hits r p s = IsSomeAnd (r.gap_from s) (λ (gap : ℤ). IsTooClose (square p (r.half_on s.layer)) s.area gap)

-- the squares round p lie in the board
abbrev pub FitsBoard : BoardParts → PlaneRule → Point → Type 0
FitsBoard b r p = IsOnBoard b.width b.height (square p r.widest)

-- the keep-out counts in the plane, and the square round p on its layer is too close to it for a gap of 1
pub record Shuts (r : PlaneRule) (p : Point) (k : Keepout) : Type 0 where
  pub heeded : r.heeds k ≡ true
  pub close : IsTooClose (square p (r.half_on k.layer)) k.area (pos 1)

-- the squares round p lie in the board, and no keep-out shuts p
pub record IsAllowed (b : BoardParts) (r : PlaneRule) (p : Point) : Type 0 where
  pub fits : FitsBoard b r p
  pub clear : All (λ (k : Keepout). ¬ Shuts r p k) b.keepouts

-- whether two areas are too close for the gap, if one is kept
abbrev pub breaks_kept_gap : Rect → Rect → Option ℤ → Bool
breaks_kept_gap a b None = false
breaks_kept_gap a b (Some gap) = are_too_close a b gap

-- whether the shape hits p
abbrev pub does_hit : PlaneRule → Point → Shape → Bool
does_hit r p s = breaks_kept_gap (square p (r.half_on s.layer)) s.area (r.gap_from s)

-- what a label becomes where a shape of this owner hits as well: a blockage leaves the point to no
-- net, and so do two nets
abbrev pub joined : Label → Option NetId → Label
joined Free None = Many
joined Free (Some m) = One m
joined (One m) None = Many
joined (One m) (Some n) = if m.0 == n.0 then One m else Many
joined Many owner = Many

-- the label of p with one more shape
abbrev pub with_shape : PlaneRule → Point → Label → Shape → Label
with_shape r p a s = if does_hit r p s then joined a s.owner else a

-- whether the keep-out shuts p
abbrev pub does_shut : PlaneRule → Point → Keepout → Bool
does_shut r p k = r.heeds k && are_too_close (square p (r.half_on k.layer)) k.area (pos 1)

-- whether p is allowed
abbrev pub is_allowed : BoardParts → PlaneRule → Point → Bool
is_allowed b r p = keeps_outline b (square p r.widest) && list_all (λ (k : Keepout). not (does_shut r p k)) b.keepouts

-- the label of p with no shape: Many where a square leaves the board or a keep-out shuts p
abbrev pub bare_label : BoardParts → PlaneRule → Point → Label
bare_label b r p = if is_allowed b r p then Free else Many

-- the label of p among these shapes
unfoldable pub label_among : BoardParts → PlaneRule → List Shape → Point → Label
label_among b r shapes p = fold (with_shape r p) (bare_label b r p) shapes

-- one of the shapes has this owner and hits p
pub record IsHitBy (r : PlaneRule) (shapes : List Shape) (p : Point) (owner : Option NetId) : Type 0 where
  pub shape : Shape
  pub member : Contains shapes shape
  pub owned : shape.owner ≡ owner
  pub hits : Hits r p shape

-- shapes of two nets hit p
pub record IsHitByTwoNets (r : PlaneRule) (shapes : List Shape) (p : Point) : Type 0 where
  pub first : NetId
  pub second : NetId
  pub apart : first ≢ second
  pub by_first : IsHitBy r shapes p (Some first)
  pub by_second : IsHitBy r shapes p (Some second)

-- p is allowed, and no shape hits p
pub record IsFree (b : BoardParts) (r : PlaneRule) (shapes : List Shape) (p : Point) : Type 0 where
  pub allowed : IsAllowed b r p
  pub clear : (s : Shape) → Contains shapes s → ¬ Hits r p s

-- p is allowed, and each shape that hits p belongs to net n
pub record IsLeftTo (b : BoardParts) (r : PlaneRule) (shapes : List Shape) (p : Point) (n : NetId) : Type 0 where
  pub allowed : IsAllowed b r p
  pub own : (s : Shape) → Contains shapes s → Hits r p s → s.owner ≡ Some n

-- a shape of net n hits p, and p is left to n
pub record IsTakenBy (b : BoardParts) (r : PlaneRule) (shapes : List Shape) (p : Point) (n : NetId) : Type 0 where
  pub left : IsLeftTo b r shapes p n
  pub hit : IsHitBy r shapes p (Some n)

-- a square round p leaves the board or a keep-out shuts p, a blockage hits p, or shapes of two nets hit p
abbrev pub IsBarred : BoardParts → PlaneRule → List Shape → Point → Type 0
IsBarred b r shapes p = (¬ IsAllowed b r p) ⊎ (IsHitBy r shapes p None ⊎ IsHitByTwoNets r shapes p)

-- a point of this label is passable for net n: it is free, or n's alone
abbrev pub Admits : Label → NetId → Type 0
Admits Free n = ⊤
Admits (One m) n = m ≡ n
Admits Many n = ⊥

-- a wire of net n may pass the node
abbrev pub IsPassable : BoardParts → List Shape → NetId → Node → Type 0
IsPassable b shapes n v = Admits (label_among b (wire_plane b v.layer (class_of b n)) shapes (place_of v)) n

-- a via of kind k of net n may stand at p
abbrev pub IsViaPassable : BoardParts → List Shape → NetId → KindId → Point → Type 0
IsViaPassable b shapes n k p = Admits (label_among b (via_plane b k (class_of b n)) shapes p) n
