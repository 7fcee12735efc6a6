-- The rectangle of a wire, from its columns and rows. A wire that ended where it starts would have the
-- square round that point.
use Rattle.std.proofs.Common.{◌≡◌, ℤ, ap, ◌∙◌, arith}
use Rattle.std.proofs.lemmas.Int.{ints, clamps}
use Rattle.geo_rect.specs.declared.shapes.Interval.{Interval}
use Rattle.geo_rect.specs.declared.shapes.Point.{Point}
use Rattle.geo_rect.specs.declared.shapes.Rect.{Rect}
use Rattle.geo_rect.specs.Axis.{around}
use Rattle.geo_rect.specs.Plane.{rect_of, square}
use Rattle.geo_rect.proofs.Same.{same_interval}
use Rattle.board_model.specs.Segments.{stretch, segment}

stretch_same : (u v h u' v' h' : ℤ) → u ≡ u' → v ≡ v' → h ≡ h' → stretch u v h ≡ stretch u' v' h'
stretch_same u v h u' v' h' p q r = ap (λ w. stretch w v h) p ∙ ap (λ w. stretch u' w h) q ∙ ap (stretch u' v') r

pub segment_of : (p q : Point) (h : ℤ) (r : Rect) (a b : Interval) (x x' y y' g k : ℤ) → r ≡ rect_of a b → a ≡ stretch x x' g → b ≡ stretch y y' k → x ≡ p.x → x' ≡ q.x → y ≡ p.y → y' ≡ q.y → g ≡ h → k ≡ h → r ≡ segment p q h
segment_of p q h r a b x x' y y' g k e f i l m n o s t =
    e ∙ ap (λ (j : Interval). rect_of j b) (f ∙ stretch_same x x' g p.x q.x h l m s) ∙ ap (rect_of (stretch p.x q.x h)) (i ∙ stretch_same y y' k p.y q.y h n o t)

stretch-around : (v h : ℤ) → stretch v v h ≡ around v h
stretch-around v h = same_interval (stretch v v h) (around v h) (omega (arith, ints, clamps)) (omega (arith, ints, clamps))

pub segment-square : (p : Point) (h : ℤ) → segment p p h ≡ square p h
segment-square p h =
    ap (λ (i : Interval). rect_of i (stretch p.y p.y h)) (stretch-around p.x h) ∙ ap (rect_of (around p.x h)) (stretch-around p.y h)

pub square_of : (p : Point) (h g : ℤ) (r : Rect) → r ≡ segment p p g → g ≡ h → r ≡ square p h
square_of p h g r e s = e ∙ ap (segment p p) s ∙ segment-square p h
