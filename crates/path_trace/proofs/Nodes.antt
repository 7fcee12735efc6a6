-- Nodes that are one, and nodes that are one unit apart.
use Rattle.std.proofs.Common.{ℕ, zero, suc, ℤ, ◌≡◌, ◌+◌, ◌⊎◌, inl, inr, refl, sym, ap, ◌∙◌, arith}
use Rattle.geo_rect.specs.declared.ids.LayerId.{LayerId}
use Rattle.geo_rect.specs.declared.ids.Node.{Node}
use Rattle.geo_rect.specs.declared.shapes.Point.{Point}
use Rattle.geo_rect.specs.Distance.{apart}
use Rattle.geo_rect.specs.Line.{between}
use Rattle.geo_rect.proofs.Steps.{between-zero}
use Rattle.board_model.specs.Shapes.{place_of}
use Rattle.route_law.specs.Connections.{IsStraight}

-- nodes with the same parts are one
pub node_is : (u v : Node) → u.x ≡ v.x → u.y ≡ v.y → u.layer ≡ v.layer → u ≡ v
node_is u v e f l =
    let g : ℤ → Node = λ z. record { x = z; y = u.y; layer = u.layer } in
    let h : ℤ → Node = λ z. record { x = v.x; y = z; layer = u.layer } in
    let k : LayerId → Node = λ z. record { x = v.x; y = v.y; layer = z } in
    ap g e ∙ ap h f ∙ ap k l

pub same_place : (u v : Node) → v.layer ≡ u.layer → place_of u ≡ place_of v → u ≡ v
same_place u v l e = node_is u v (ap (λ (p : Point). p.x) e) (ap (λ (p : Point). p.y) e) (sym l)

pub none_apart : (u v : Node) → v.layer ≡ u.layer → apart (place_of u) (place_of v) ≡ 0 → u ≡ v
none_apart u v l d = node_is u v (between-zero u.x v.x (omega arith)) (between-zero u.y v.y (omega arith)) (sym l)

one_of_two : (m n : ℕ) → m + n ≡ 1 → (m ≡ 0) ⊎ (n ≡ 0)
one_of_two zero n e = inl refl
one_of_two (suc m) n e = inr (omega arith)

in_line_by : (u v : Node) → (between u.x v.x ≡ 0) ⊎ (between u.y v.y ≡ 0) → (v.x ≡ u.x) ⊎ (v.y ≡ u.y)
in_line_by u v (inl e) = inl (sym (between-zero u.x v.x e))
in_line_by u v (inr e) = inr (sym (between-zero u.y v.y e))

-- nodes of a layer that are one unit apart are in one row or column
pub straight_one : (u v : Node) → v.layer ≡ u.layer → apart (place_of u) (place_of v) ≡ 1 → IsStraight u v
straight_one u v l d = record { same_layer = l; in_line = in_line_by u v (one_of_two (between u.x v.x) (between u.y v.y) d) }
