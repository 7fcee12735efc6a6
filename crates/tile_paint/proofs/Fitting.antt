-- After a piece was cut at the edges of a band: what goes through the band, and what lies in the area.
use Rattle.std.proofs.Common.{ℤ, ◌≡◌, ◌⊎◌, inl, inr, ◌≤ℤ◌, ap, arith}
use Rattle.std.proofs.lemmas.Int.{ints, clamps}
use Rattle.geo_rect.specs.declared.shapes.Point.{Point}
use Rattle.geo_rect.specs.declared.shapes.Rect.{Rect}
use Rattle.geo_rect.specs.Axis.{HasNumber}
use Rattle.geo_rect.specs.Plane.{rows, HasPoint, LiesIn}
use Rattle.plane_core.specs.declared.strips.Strip.{Strip}
use Rattle.tile_store.specs.declared.tiles.TileId.{TileId}
use Rattle.tile_store.specs.Store.{Store}
use Rattle.stitch_walk.specs.Pieces.{IsPiece, FillDomain}
use Rattle.tile_paint.specs.declared.spots.Found.{Found}
use Rattle.tile_paint.specs.Changes.{IsNarrowed, IsFitted}
use Rattle.tile_paint.specs.States.{MeetsFrom, IsInnerFrom, AreTall}
use Rattle.tile_paint.proofs.Axes.{has_point_in, lies_in_twice}
use Rattle.tile_paint.proofs.AtPoints.{one_at}

pub in_fitted : (band r part : Rect) (p : Point) → IsFitted band r part → HasPoint r p → HasNumber (rows band) p.y → HasPoint part p
in_fitted band r part p f h b =
    let cl = f.columns.left in let cr = f.columns.right in
    let l = f.low in let u = f.high in
    let ax = h.across.from in let bx = h.across.to in
    let ay = h.up.from in let by = h.up.to in
    record { across = record { from = omega (arith, ints); to = omega (arith, ints) }; up = record { from = omega (arith, ints, clamps); to = omega (arith, ints, clamps) } }

pub first_row_in : (band : Rect) (y : ℤ) → y ≡ band.y0 → HasNumber (rows band) y
first_row_in band y e = let o = band.y_ordered in record { from = omega (arith, ints); to = omega (arith, ints) }

-- a part of a piece that lies in the area where it meets it does so too
pub part_inner : (area : Rect) (a : ℤ) (q r : Rect) → LiesIn q r → (MeetsFrom area a r → IsInnerFrom area a r) → MeetsFrom area a q → IsInnerFrom area a q
part_inner area a q r l inner m =
    let i = inner (record { meets_at = m.meets_at; in_first = has_point_in q r m.meets_at l m.in_first; in_second = m.in_second; from = m.from }) in
    let k = l.up.from in let j = i.from in
    record { inside = lies_in_twice q r area l i.inside; from = omega (arith, ints) }

module _ (old new : Store) (domain : Rect) (fill : FillDomain new domain) (band : Rect) (f g : Found) (n : IsNarrowed old new f g) (fitted : IsFitted band f.piece.area g.piece.area) where
  fitted_is : (k : TileId) (q : Strip) (p : Point) → IsPiece new k q → LiesIn q.area f.piece.area → HasPoint q.area p → HasNumber (rows band) p.y → q ≡ g.piece
  fitted_is k q p e l h b = one_at new domain fill k g.id q g.piece p e n.is_piece h (in_fitted band f.piece.area g.piece.area p fitted (has_point_in q.area f.piece.area p l h) b)

  high_enough : (q : Strip) → q ≡ g.piece → band.y1 ≤ℤ f.piece.area.y1 → band.y1 ≤ℤ q.area.y1
  high_enough q is tall =
      let e = ap (λ (z : Strip). z.area.y1) is in let u = fitted.high in
      omega (arith, ints, clamps)

  pub fit_tall : AreTall old band → band.y1 ≤ℤ f.piece.area.y1 → AreTall new band
  fit_tall tall high k q p e h row l r =
      elim (n.parts k q e) [
        | inl o ↦ tall k q p o.is_piece h row l r
        | inr w ↦ high_enough q (fitted_is k q p e w h (first_row_in band p.y row)) high
      ]

  pub fit_inner : (area : Rect) (a : ℤ) (j : TileId) → ((k : TileId) (q : Strip) → IsPiece old k q → MeetsFrom area a q.area → (k ≡ j) ⊎ IsInnerFrom area a q.area) → (MeetsFrom area a f.piece.area → IsInnerFrom area a f.piece.area) → (k : TileId) (q : Strip) → IsPiece new k q → MeetsFrom area a q.area → (k ≡ j) ⊎ IsInnerFrom area a q.area
  fit_inner area a j inner f_inner k q e m =
      elim (n.parts k q e) [
        | inl o ↦ inner k q o.is_piece m
        | inr w ↦ inr (part_inner area a q.area f.piece.area w f_inner m)
      ]

-- a piece that goes through the band ends up with the band's rows
pub fitted_low : (band r part : Rect) → IsFitted band r part → r.y0 ≤ℤ band.y0 → part.y0 ≡ band.y0
fitted_low band r part f le = let l = f.low in omega (arith, ints, clamps)

pub fitted_high : (band r part : Rect) → IsFitted band r part → band.y1 ≤ℤ r.y1 → part.y1 ≡ band.y1
fitted_high band r part f le = let l = f.high in omega (arith, ints, clamps)
