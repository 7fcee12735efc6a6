-- The points of a straight wire: the first one, and those that are left after one unit.
use Rattle.std.proofs.Common.{ℤ, pos, ◌≡◌, ◌⊎◌, inl, inr, ap, ◌∙◌, sym, subst, arith}
use Rattle.std.proofs.lemmas.Int.{ints, clamps, by_lt_z}
use Rattle.geo_rect.specs.declared.ids.Node.{Node}
use Rattle.geo_rect.specs.declared.shapes.Point.{Point}
use Rattle.geo_rect.specs.Axis.{HasNumber}
use Rattle.geo_rect.specs.Distance.{apart}
use Rattle.geo_rect.specs.Line.{between}
use Rattle.geo_rect.specs.Plane.{HasPoint}
use Rattle.board_model.specs.Segments.{stretch, segment}
use Rattle.board_model.specs.Shapes.{place_of}
use Rattle.route_law.specs.Connections.{toward, node_toward, IsStraight}
use Rattle.route_law.proofs.Wires.{Toward, rises, falls, stays, toward_is, toward_stays}

stretch_first : (u v : ℤ) → HasNumber (stretch u v (pos 0)) u
stretch_first u v = record { from = omega (arith, ints, clamps); to = omega (arith, ints, clamps) }

stretch_last : (u v : ℤ) → HasNumber (stretch u v (pos 0)) v
stretch_last u v = record { from = omega (arith, ints, clamps); to = omega (arith, ints, clamps) }

stretch_lone : (u v w : ℤ) → u ≡ v → HasNumber (stretch u v (pos 0)) w → w ≡ u
stretch_lone u v w e h = let f = h.from in let t = h.to in omega (arith, ints, clamps)

-- a number of the stretch is its first one, or one of the rest
stretch_rest : (u v t w : ℤ) → Toward u v t → HasNumber (stretch u v (pos 0)) w → (w ≡ u) ⊎ HasNumber (stretch t v (pos 0)) w
stretch_rest u v t w (rises l e) h =
    by_lt_z u w (λ k. inr (record { from = omega (arith, ints, clamps, h.from); to = omega (arith, ints, clamps, h.to) }))
    (λ k. inl (omega (arith, ints, clamps, h.from)))
stretch_rest u v t w (falls l e) h =
    by_lt_z w u (λ k. inr (record { from = omega (arith, ints, clamps, h.from); to = omega (arith, ints, clamps, h.to) }))
    (λ k. inl (omega (arith, ints, clamps, h.to)))
stretch_rest u v t w (stays l e) h = inl (stretch_lone u v w l h)

-- the rest belongs to the stretch
stretch_more : (u v t w : ℤ) → Toward u v t → HasNumber (stretch t v (pos 0)) w → HasNumber (stretch u v (pos 0)) w
stretch_more u v t w (rises l e) h = record { from = omega (arith, ints, clamps, h.from); to = omega (arith, ints, clamps, h.to) }
stretch_more u v t w (falls l e) h = record { from = omega (arith, ints, clamps, h.from); to = omega (arith, ints, clamps, h.to) }
stretch_more u v t w (stays l e) h = subst (λ (x : ℤ). HasNumber (stretch x v (pos 0)) w) e h

between_zero : (u v : ℤ) → between u v ≡ 0 → u ≡ v
between_zero u v e = omega (arith, ints)

point_is : (p q : Point) → p.x ≡ q.x → p.y ≡ q.y → p ≡ q
point_is p q e f =
    let g : ℤ → Point = λ x. record { x = x; y = p.y } in
    let h : ℤ → Point = λ y. record { x = q.x; y = y } in
    ap g e ∙ ap h f

-- a wire has its start
pub line_first : (v w : Node) → HasPoint (segment (place_of v) (place_of w) (pos 0)) (place_of v)
line_first v w = record { across = stretch_first v.x w.x; up = stretch_first v.y w.y }

-- and its end
pub line_last : (v w : Node) → HasPoint (segment (place_of v) (place_of w) (pos 0)) (place_of w)
line_last v w = record { across = stretch_last v.x w.x; up = stretch_last v.y w.y }

-- a wire that ends where it starts has no other point
pub line_lone : (v w : Node) (p : Point) → apart (place_of v) (place_of w) ≡ 0 → HasPoint (segment (place_of v) (place_of w) (pos 0)) p → p ≡ place_of v
line_lone v w p d h =
    point_is p (place_of v) (stretch_lone v.x w.x p.x (between_zero v.x w.x (omega arith)) h.across) (stretch_lone v.y w.y p.y (between_zero v.y w.y (omega arith)) h.up)

rest_up : (v w : Node) (p : Point) → w.x ≡ v.x → HasPoint (segment (place_of v) (place_of w) (pos 0)) p → (p.y ≡ v.y) ⊎ HasNumber (stretch (toward v.y w.y) w.y (pos 0)) p.y → (p ≡ place_of v) ⊎ HasPoint (segment (place_of (node_toward v w)) (place_of w) (pos 0)) p
rest_up v w p e h (inl f) = inl (point_is p (place_of v) (stretch_lone v.x w.x p.x (sym e) h.across) f)
rest_up v w p e h (inr f) =
    let same : toward v.x w.x ≡ v.x = toward_stays v.x w.x (toward v.x w.x) (toward_is v.x w.x) e in
    inr (record { across = subst (λ (x : ℤ). HasNumber (stretch x w.x (pos 0)) p.x) (sym same) h.across; up = f })

rest_across : (v w : Node) (p : Point) → w.y ≡ v.y → HasPoint (segment (place_of v) (place_of w) (pos 0)) p → (p.x ≡ v.x) ⊎ HasNumber (stretch (toward v.x w.x) w.x (pos 0)) p.x → (p ≡ place_of v) ⊎ HasPoint (segment (place_of (node_toward v w)) (place_of w) (pos 0)) p
rest_across v w p e h (inl f) = inl (point_is p (place_of v) f (stretch_lone v.y w.y p.y (sym e) h.up))
rest_across v w p e h (inr f) =
    let same : toward v.y w.y ≡ v.y = toward_stays v.y w.y (toward v.y w.y) (toward_is v.y w.y) e in
    inr (record { across = f; up = subst (λ (y : ℤ). HasNumber (stretch y w.y (pos 0)) p.y) (sym same) h.up })

line_by : (v w : Node) (p : Point) → (w.x ≡ v.x) ⊎ (w.y ≡ v.y) → HasPoint (segment (place_of v) (place_of w) (pos 0)) p → (p ≡ place_of v) ⊎ HasPoint (segment (place_of (node_toward v w)) (place_of w) (pos 0)) p
line_by v w p (inl e) h = rest_up v w p e h (stretch_rest v.y w.y (toward v.y w.y) p.y (toward_is v.y w.y) h.up)
line_by v w p (inr e) h = rest_across v w p e h (stretch_rest v.x w.x (toward v.x w.x) p.x (toward_is v.x w.x) h.across)

-- a point of a straight wire is its start, or one of what is left after one unit
pub line_rest : (v w : Node) (p : Point) → IsStraight v w → HasPoint (segment (place_of v) (place_of w) (pos 0)) p → (p ≡ place_of v) ⊎ HasPoint (segment (place_of (node_toward v w)) (place_of w) (pos 0)) p
line_rest v w p s h = line_by v w p s.in_line h

-- what is left after one unit belongs to the wire
pub line_more : (v w : Node) (p : Point) → HasPoint (segment (place_of (node_toward v w)) (place_of w) (pos 0)) p → HasPoint (segment (place_of v) (place_of w) (pos 0)) p
line_more v w p h = record {
  across = stretch_more v.x w.x (toward v.x w.x) p.x (toward_is v.x w.x) h.across;
  up = stretch_more v.y w.y (toward v.y w.y) p.y (toward_is v.y w.y) h.up;
}
