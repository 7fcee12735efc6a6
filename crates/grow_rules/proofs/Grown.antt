-- What a grown rectangle says of squares, and of the shapes that hit a point.
use Rattle.std.proofs.Common.{◌≡◌, ℤ, ◌+ℤ◌, ◌↔◌, subst, arith}
use Rattle.std.proofs.lemmas.Int.{ints}
use Rattle.geo_rect.specs.declared.ids.ClassId.{ClassId}
use Rattle.geo_rect.specs.declared.ids.KindId.{KindId}
use Rattle.geo_rect.specs.declared.ids.LayerId.{LayerId}
use Rattle.geo_rect.specs.declared.shapes.Point.{Point}
use Rattle.geo_rect.specs.declared.shapes.Rect.{Rect}
use Rattle.geo_rect.specs.Plane.{HasPoint, IsBounded, IsGrown, IsTooClose, square}
use Rattle.geo_rect.proofs.Squares.{grown_square}
use Rattle.board_parts.specs.declared.parts.BoardParts.{BoardParts}
use Rattle.board_model.specs.declared.shapes.Shape.{Shape}
use Rattle.board_parts.specs.Lookup.{rule_of, pad_on, kind_of}
use Rattle.board_parts.specs.Rules.{IsBoard, IsMeasure, IsOnBoard}
use Rattle.board_parts.specs.Gaps.{gap_to}
use Rattle.board_model.specs.Labels.{Hits, IsInSpan, wire_plane, via_plane}
use Rattle.board_model.proofs.LabelHits.{wire_hits, via_hits}
use Rattle.board_model.specs.Known.{IsNearOrigin}

module _ (b r : Rect) (h s g : ℤ) (half : IsMeasure h) (gap : IsMeasure s) (is : h +ℤ s ≡ g) (w : IsGrown b g r) where
  pub grown-points : (p : Point) → HasPoint r p ↔ IsTooClose (square p h) b s
  grown-points p = let t = grown_square b r g h s p w (omega (arith, ints)) is in (t.1, t.0)

  pub grown-bounded : IsNearOrigin b → IsBounded r
  grown-bounded near =
      let low : Point = record { x = r.x0; y = r.y0 } in
      let high : Point = record { x = r.x1; y = r.y1 } in
      let has_low : HasPoint r low = record { across = record { from = omega (arith, ints); to = r.x_ordered }; up = record { from = omega (arith, ints); to = r.y_ordered } } in
      let has_high : HasPoint r high = record { across = record { from = r.x_ordered; to = omega (arith, ints) }; up = record { from = r.y_ordered; to = omega (arith, ints) } } in
      let first = w.close low has_low in
      let last = w.close high has_high in
      record { across = record { from = omega (arith, ints); to = omega (arith, ints) }; up = record { from = omega (arith, ints); to = omega (arith, ints) } }

-- an area of a board lies near the origin
pub near_board : (b : BoardParts) (r : Rect) → IsBoard b → IsOnBoard b.width b.height r → IsNearOrigin r
near_board b r is on =
    let w = is.width in
    let h = is.height in
    record {
      across = record { from = omega (arith, ints, on.left); to = omega (arith, ints, on.right, w.to) };
      up = record { from = omega (arith, ints, on.below); to = omega (arith, ints, on.above, h.to) };
    }

-- the same for an equal half width
pub same_points : (area r : Rect) (h k s : ℤ) → h ≡ k → ((p : Point) → HasPoint r p ↔ IsTooClose (square p h) area s) → (p : Point) → HasPoint r p ↔ IsTooClose (square p k) area s
same_points area r h k s e points p = subst (λ (z : ℤ). HasPoint r p ↔ IsTooClose (square p z) area s) e (points p)

module _ (b : BoardParts) (c : ClassId) (s : Shape) (r : Rect) (h g : ℤ) (p : Point) (points : HasPoint r p ↔ IsTooClose (square p h) s.area g) where
  pub wire_points : (l : LayerId) → s.layer ≡ l → h ≡ (rule_of b l c).half → g ≡ gap_to b l c s.owner → HasPoint r p ↔ Hits (wire_plane b l c) p s
  wire_points l on eh eg =
      let P : ℤ → Type 0 = λ z. HasPoint r p ↔ IsTooClose (square p z) s.area g in
      let Q : ℤ → Type 0 = λ z. HasPoint r p ↔ IsTooClose (square p (rule_of b l c).half) s.area z in
      let t : Q (gap_to b l c s.owner) = subst Q eg (subst P eh points) in
      let u = wire_hits b c p s l in
      (λ q. u.1 (on, t.0 q), λ q. t.1 (u.0 q).1)

  pub via_points : (k : KindId) → IsInSpan (kind_of b k) s.layer → h ≡ pad_on b k c s.layer → g ≡ gap_to b s.layer c s.owner → HasPoint r p ↔ Hits (via_plane b k c) p s
  via_points k on eh eg =
      let P : ℤ → Type 0 = λ z. HasPoint r p ↔ IsTooClose (square p z) s.area g in
      let Q : ℤ → Type 0 = λ z. HasPoint r p ↔ IsTooClose (square p (pad_on b k c s.layer)) s.area z in
      let t : Q (gap_to b s.layer c s.owner) = subst Q eg (subst P eh points) in
      let u = via_hits b c p s k in
      (λ q. u.1 (on, t.0 q), λ q. t.1 (u.0 q).1)
