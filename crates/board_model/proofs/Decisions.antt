-- The tests of spacing compute the facts that they stand for.
use Rattle.std.proofs.Common.{pos, Decides}
use Rattle.std.proofs.lemmas.Bool.Decides.{Decides-and, Decides-like}
use Rattle.geo_rect.specs.declared.shapes.Rect.{Rect}
use Rattle.geo_rect.proofs.Tests.{Decides-int_le}
use Rattle.board_parts.specs.declared.parts.BoardParts.{BoardParts}
use Rattle.board_parts.specs.Rules.{IsOnBoard}
use Rattle.board_model.specs.Spacing.{keeps_outline}

pub Decides-keeps_outline : (b : BoardParts) (r : Rect) → Decides (keeps_outline b r) (IsOnBoard b.width b.height r)
Decides-keeps_outline b r =
    Decides-like (keeps_outline b r) (λ h. record { left = h.0.0; below = h.0.1; right = h.1.0; above = h.1.1 }) (λ h. ((h.left, h.below), (h.right, h.above)))
    (Decides-and _ _ (Decides-and _ _ (Decides-int_le (pos 0) r.x0) (Decides-int_le (pos 0) r.y0)) (Decides-and _ _ (Decides-int_le r.x1 b.width) (Decides-int_le r.y1 b.height)))
