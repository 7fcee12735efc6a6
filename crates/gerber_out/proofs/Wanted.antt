-- What is wanted on a layer has area.
use Rattle.std.proofs.Common.{◌≡◌, pos, true}
use Rattle.std.specs.Prelude.{◌==◌, int_lt, ◌&&◌}
use Rattle.std.proofs.lemmas.Bool.{and_parts}
use Rattle.geo_rect.proofs.Tests.{Decides-int_lt}
use Rattle.geo_rect.specs.declared.ids.LayerId.{LayerId}
use Rattle.geo_rect.specs.declared.shapes.Rect.{Rect}
use Rattle.board_parts.specs.Rules.{IsOnBoard}
use Rattle.board_model.specs.declared.shapes.Shape.{Shape}
use Rattle.gerber_out.specs.Contours.{IsFillable}
use Rattle.gerber_out.specs.Layers.{has_area, has_owner, is_wanted, IsWritable}

fillable : (r : Rect) → has_area r ≡ true → IsOnBoard (pos 9999999) (pos 9999999) r → IsFillable r
fillable r e h =
    let p = and_parts (int_lt r.x0 r.x1) (int_lt r.y0 r.y1) e in
    record {
      across = record { from = h.left; long = (Decides-int_lt r.x0 r.x1).0 p.0; to = h.right };
      up = record { from = h.below; long = (Decides-int_lt r.y0 r.y1).0 p.1; to = h.above };
    }

pub wanted_is_fillable : (l : LayerId) (s : Shape) → IsWritable l s → is_wanted l s ≡ true → IsFillable s.area
wanted_is_fillable l s h e = fillable s.area (and_parts (s.layer.0 == l.0 && has_owner s.owner) (has_area s.area) e).1 (h e)
