-- Two shapes that are too close, the one and the other way round.
use Rattle.std.proofs.Common.{ℤ, ◌≡◌, ◌≢◌, sym, subst}
use Rattle.geo_rect.specs.declared.ids.LayerId.{LayerId}
use Rattle.geo_rect.specs.Plane.{IsTooClose}
use Rattle.board_parts.specs.declared.parts.BoardParts.{BoardParts}
use Rattle.board_model.specs.declared.shapes.Shape.{Shape}
use Rattle.board_model.specs.Known.{IsKnown}
use Rattle.board_parts.specs.Rules.{IsBoard}
use Rattle.board_parts.specs.Gaps.{gap_between}
use Rattle.board_model.proofs.OwnersGap.{gap_between-sym}
use Rattle.geo_rect.proofs.Closeness.{too_close-sym}

-- two shapes of two owners on one layer that are too close for their gap
pub record AreClose (b : BoardParts) (s t : Shape) : Type 0 where
  pub layer : t.layer ≡ s.layer
  pub owner : t.owner ≢ s.owner
  pub close : IsTooClose s.area t.area (gap_between b s.layer s.owner t.owner)

pub close_back : (b : BoardParts) → IsBoard b → (s t : Shape) → IsKnown b s → IsKnown b t → AreClose b s t → AreClose b t s
close_back b board s t k m h =
    let back : IsTooClose t.area s.area (gap_between b s.layer s.owner t.owner) = too_close-sym s.area t.area _ h.close in
    let turned : IsTooClose t.area s.area (gap_between b s.layer t.owner s.owner) = subst (λ (z : ℤ). IsTooClose t.area s.area z) (gap_between-sym b board s.layer k.layer s.owner t.owner k.owner m.owner) back in
    record {
      layer = sym h.layer;
      owner = λ e. h.owner (sym e);
      close = subst (λ (l : LayerId). IsTooClose t.area s.area (gap_between b l t.owner s.owner)) (sym h.layer) turned;
    }
