-- A straight wire is clear exactly where its units are a walk.
use Rattle.std.proofs.Common.{ℕ, zero, suc, pos, ◌≡◌, inl, inr, refl, sym, subst}
use Rattle.geo_rect.specs.declared.ids.LayerId.{LayerId}
use Rattle.geo_rect.specs.declared.ids.Node.{Node}
use Rattle.geo_rect.specs.declared.shapes.Point.{Point}
use Rattle.geo_rect.specs.Distance.{apart}
use Rattle.geo_rect.specs.Plane.{HasPoint}
use Rattle.board_model.specs.Segments.{segment}
use Rattle.board_model.specs.Shapes.{place_of}
use Rattle.route_law.specs.Connections.{node_toward, units, IsStraight}
use Rattle.route_law.specs.Ground.{Ground, IsPassableNode}
use Rattle.route_law.specs.Walks.{IsWalk}
use Rattle.route_law.proofs.Wires.{unit_on}
use Rattle.walk_check.specs.Clear.{node_at, IsClearWire}
use Rattle.walk_check.proofs.Lines.{line_first, line_lone, line_rest, line_more}

-- the net may pass each node of the line from v to w on the layer
abbrev IsClearOn : Ground → LayerId → Node → Node → Type 0
IsClearOn g l v w = (p : Point) → HasPoint (segment (place_of v) (place_of w) (pos 0)) p → IsPassableNode g (node_at p l)

module _ (g : Ground) where
  walk_on : (n : ℕ) (v w : Node) → IsStraight v w → apart (place_of v) (place_of w) ≡ n → IsClearOn g v.layer v w → IsWalk g v (units n v w)
  walk_on zero v w s d c = c (place_of v) (line_first v w)
  walk_on (suc n) v w s d c =
      let u = unit_on v w n s d in
      (c (place_of v) (line_first v w), u.step, walk_on n (node_toward v w) w u.straight u.rest (λ p h. c p (line_more v w p h)))

  clear_on : (n : ℕ) (v w : Node) → IsStraight v w → apart (place_of v) (place_of w) ≡ n → IsWalk g v (units n v w) → IsClearOn g v.layer v w
  clear_on zero v w s d walk p h = let P : Point → Type 0 = λ q. IsPassableNode g (node_at q v.layer) in subst P (sym (line_lone v w p d h)) walk
  clear_on (suc n) v w s d walk p h =
      let u = unit_on v w n s d in
      let P : Point → Type 0 = λ q. IsPassableNode g (node_at q v.layer) in
      elim (line_rest v w p s h) [
        | inl e ↦ subst P (sym e) walk.0
        | inr k ↦ clear_on n (node_toward v w) w u.straight u.rest walk.2 p k
      ]

  pub clear_walk : (v w : Node) → IsStraight v w → IsClearWire g v w → IsWalk g v (units (apart (place_of v) (place_of w)) v w)
  clear_walk v w s c =
      let P : LayerId → Type 0 = λ l. IsClearOn g l v w in
      walk_on (apart (place_of v) (place_of w)) v w s refl (subst P s.same_layer c.each)

  pub walk_clear : (v w : Node) → IsStraight v w → IsWalk g v (units (apart (place_of v) (place_of w)) v w) → IsClearWire g v w
  walk_clear v w s walk =
      let P : LayerId → Type 0 = λ l. IsClearOn g l v w in
      record { each = subst P (sym s.same_layer) (clear_on (apart (place_of v) (place_of w)) v w s refl walk) }
