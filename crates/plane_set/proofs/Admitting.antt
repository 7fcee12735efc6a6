-- Which nets may pass a point of the board.
use Rattle.std.proofs.Common.{◌≡◌, ◌↔◌, sym, subst, arith}
use Rattle.std.proofs.lemmas.Int.{ints}
use Rattle.geo_rect.specs.declared.ids.Label.{Label}
use Rattle.geo_rect.specs.declared.ids.NetId.{NetId}
use Rattle.geo_rect.specs.declared.shapes.Point.{Point}
use Rattle.geo_rect.specs.declared.shapes.Rect.{Rect}
use Rattle.geo_rect.specs.Plane.{HasPoint}
use Rattle.board_parts.specs.declared.parts.BoardParts.{BoardParts}
use Rattle.board_model.specs.Labels.{Admits}
use Rattle.grow_rules.specs.Frames.{IsBoardPoint}
use Rattle.plane_set.specs.Drawings.{IsBoardArea}

board_has : (b : BoardParts) (r : Rect) (p : Point) → IsBoardArea b r → IsBoardPoint b p → HasPoint r p
board_has b r p a h = record {
  across = record { from = omega (arith, ints); to = omega (arith, ints) };
  up = record { from = omega (arith, ints); to = omega (arith, ints) };
}

pub place_inside : (b : BoardParts) (r : Rect) (p q : Point) → p ≡ q → IsBoardArea b r → IsBoardPoint b q → HasPoint r p
place_inside b r p q e a h = subst (λ (z : Point). HasPoint r z) (sym e) (board_has b r q a h)

-- a test of a label is one of an equal label
pub admits_same : (Q : Type 0) (a b : Label) (n : NetId) → a ≡ b → (Q ↔ Admits a n) → (Q ↔ Admits b n)
admits_same Q a b n e h = subst (λ (x : Label). Q ↔ Admits x n) e h
