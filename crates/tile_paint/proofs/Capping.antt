-- The last row of a band: no higher than where a tile ends that has a point in its first row or beside it.
use Rattle.std.proofs.Common.{ℤ, pos, ◌≡◌, ◌<◌, ◌+ℤ◌, ◌-ℤ◌, ◌≤ℤ◌, ◌<ℤ◌, refl, subst, ap, arith}
use Rattle.std.specs.Int.{int_max}
use Rattle.std.specs.Int.RustNames.{unsigned_abs}
use Rattle.std.proofs.lemmas.Int.{ints, clamps, by_lt_z}
use Rattle.geo_rect.specs.declared.shapes.Point.{Point}
use Rattle.geo_rect.specs.declared.shapes.Rect.{Rect}
use Rattle.geo_rect.specs.Axis.{HasNumber}
use Rattle.geo_rect.specs.Plane.{rows, HasPoint, LiesIn}
use Rattle.plane_core.specs.declared.strips.Strip.{Strip}
use Rattle.tile_store.specs.declared.tiles.TileId.{TileId}
use Rattle.tile_store.specs.Store.{Store}
use Rattle.stitch_walk.specs.Pieces.{IsPiece, FillDomain}
use Rattle.tile_paint.specs.declared.spots.Found.{Found}
use Rattle.tile_paint.specs.Changes.{IsUpTo}
use Rattle.tile_paint.specs.States.{IsBandOf, IsCapped, AreTall}
use Rattle.tile_paint.proofs.Axes.{has_point_in}
use Rattle.tile_paint.proofs.AtPoints.{one_at}

-- where no piece has the point the band stays
pub capped_nowhere : (s : Store) (domain : Rect) → FillDomain s domain → (band : Rect) (p : Point) → ¬ HasPoint domain p → IsCapped s band p band
capped_nowhere s domain fill band p out = record {
  columns = record { left = refl; right = refl };
  low = refl;
  high = omega (arith, ints);
  below = λ n q e h. absurd (out (has_point_in q.area domain p (fill.inside n q e) h));
}

pub capped_at : (s : Store) (domain : Rect) → FillDomain s domain → (band part : Rect) (p : Point) (f : Found) → IsPiece s f.id f.piece → HasPoint f.piece.area p → IsUpTo f.piece.area.y1 band part → IsCapped s band p part
capped_at s domain fill band part p f e h u =
    let k = u.high in
    record {
      columns = u.columns;
      low = u.low;
      high = omega (arith, ints, clamps);
      below = λ n q i v. let same = ap (λ (z : Strip). z.area.y1) (one_at s domain fill n f.id q f.piece p i e v h) in omega (arith, ints, clamps);
    }

-- the band goes no higher than the pieces left of column x that have a point in its first row
pub record IsCappedBefore (s : Store) (area : Rect) (at : Point) (band : Rect) (next : Point) : Type 0 where
  pub band_of : IsBandOf area band
  pub first : band.y0 ≡ at.y
  pub row : next.y ≡ at.y
  pub begins : area.x0 ≤ℤ next.x
  pub tall : (n : TileId) (q : Strip) (p : Point) → IsPiece s n q → HasPoint q.area p → p.y ≡ band.y0 → (band.x0 -ℤ pos 1) ≤ℤ p.x → p.x <ℤ next.x → band.y1 ≤ℤ q.area.y1

same_point : (p q : Point) → p.x ≡ q.x → p.y ≡ q.y → p ≡ q
same_point p q e f =
    let P : ℤ → Type 0 = λ z. p ≡ record { x = z; y = p.y } in
    let Q : ℤ → Type 0 = λ z. p ≡ record { x = q.x; y = z } in
    subst Q f (subst P e refl)

module _ (s : Store) (area : Rect) (at : Point) (rest band : Rect) (before next : Point) (in_rows : HasNumber (rows area) at.y) (left : rest.x0 ≡ area.x0) (right : rest.x1 ≡ area.x1) (low : rest.y0 ≡ at.y) (high : rest.y1 ≡ area.y1) (before_x : before.x ≡ rest.x0 -ℤ pos 1) (before_y : before.y ≡ rest.y0) (next_x : next.x ≡ rest.x0) (next_y : next.y ≡ rest.y0) (k : IsCapped s rest before band) where
  at_before : (p : Point) → p.y ≡ band.y0 → (band.x0 -ℤ pos 1) ≤ℤ p.x → p.x <ℤ next.x → p ≡ before
  at_before p row l r =
      let a = k.columns.left in let b = k.low in
      same_point p before (omega (arith, ints)) (omega (arith, ints))

  pub capping_begins : IsCappedBefore s area at band next
  capping_begins =
      let a = k.columns.left in let b = k.columns.right in let c = k.low in let d = k.high in let f = in_rows.from in
      record {
        band_of = record { left = omega (arith, ints); right = omega (arith, ints); from = omega (arith, ints); to = omega (arith, ints) };
        first = omega (arith, ints);
        row = omega (arith, ints);
        begins = omega (arith, ints);
        tall = λ n q p e h row l r. let Q : Point → Type 0 = λ z. HasPoint q.area z in k.below n q e (subst Q (at_before p row l r) h);
      }

module _ (s : Store) (domain : Rect) (fill : FillDomain s domain) (area : Rect) (at : Point) (band : Rect) (next : Point) (k : IsCappedBefore s area at band next) where
  module _ (f : Found) (e : IsPiece s f.id f.piece) (h : HasPoint f.piece.area next) where
    pub row_of_band : HasNumber (rows f.piece.area) band.y0
    row_of_band =
        let a = h.up.from in let b = h.up.to in let c = k.first in let d = k.row in
        record { from = omega (arith, ints); to = omega (arith, ints) }

    module _ (part : Rect) (after : Point) (u : IsUpTo f.piece.area.y1 band part) (after_x : after.x ≡ f.piece.area.x1 +ℤ pos 1) (after_y : after.y ≡ next.y) where
      tall_here : (n : TileId) (q : Strip) (p : Point) → IsPiece s n q → HasPoint q.area p → p.y ≡ part.y0 → next.x ≤ℤ p.x → p.x <ℤ after.x → part.y1 ≤ℤ q.area.y1
      tall_here n q p i v row l r =
          let a = h.across.from in let b = row_of_band.from in let c = row_of_band.to in let d = u.low in let w = u.high in
          let g : HasPoint f.piece.area p = record { across = record { from = omega (arith, ints); to = omega (arith, ints) }; up = record { from = omega (arith, ints); to = omega (arith, ints) } } in
          let same = ap (λ (z : Strip). z.area.y1) (one_at s domain fill n f.id q f.piece p i e v g) in
          omega (arith, ints, clamps)

      tall_before : (n : TileId) (q : Strip) (p : Point) → IsPiece s n q → HasPoint q.area p → p.y ≡ part.y0 → (part.x0 -ℤ pos 1) ≤ℤ p.x → p.x <ℤ next.x → part.y1 ≤ℤ q.area.y1
      tall_before n q p i v row l r =
          let a = u.columns.left in let d = u.low in let w = u.high in
          let t = k.tall n q p i v (omega (arith, ints)) (omega (arith, ints)) r in
          omega (arith, ints, clamps)

      pub capping_goes_on : IsCappedBefore s area at part after
      capping_goes_on =
          let a = u.columns.left in let b = u.columns.right in let d = u.low in let w = u.high in
          let bl = k.band_of.left in let br = k.band_of.right in let bf = k.band_of.from in let bt = k.band_of.to in
          let kf = k.first in let kr = k.row in let kb = k.begins in let t = h.across.to in
          record {
            band_of = record { left = omega (arith, ints); right = omega (arith, ints); from = omega (arith, ints); to = omega (arith, ints, clamps) };
            first = omega (arith, ints);
            row = omega (arith, ints);
            begins = omega (arith, ints);
            tall = λ n q p i v row l r. by_lt_z p.x next.x (λ less. tall_before n q p i v row l less) (λ more. tall_here n q p i v row more r);
          }

      pub further : next.x <ℤ after.x
      further = let t = h.across.to in omega (arith, ints)

  -- when the domain ends
  pub capping_ends_outside : LiesIn area domain → HasNumber (rows area) at.y → ¬ HasPoint domain next → AreTall s band
  capping_ends_outside inside in_rows out n q p i v row l r =
      by_lt_z p.x next.x (λ less. k.tall n q p i v row l less) (λ more. absurd (out (in_domain p (has_point_in q.area domain p (fill.inside n q i) v) more)))
    where
      in_domain : (p : Point) → HasPoint domain p → next.x ≤ℤ p.x → HasPoint domain next
      in_domain p d le =
          let a = inside.across.from in let b = inside.up.from in let c = inside.up.to in
          let f = in_rows.from in let g = in_rows.to in let j = d.across.to in let kr = k.row in let kb = k.begins in
          record { across = record { from = omega (arith, ints); to = omega (arith, ints) }; up = record { from = omega (arith, ints); to = omega (arith, ints) } }

  -- when the columns of the area, and the one after them, are passed
  pub capping_ends_past : (area.x1 +ℤ pos 1) <ℤ next.x → AreTall s band
  capping_ends_past past n q p i v row l r = let b = k.band_of.right in k.tall n q p i v row l (omega (arith, ints))

-- how many columns are left falls
pub columns_left_fall : (to from next : ℤ) → from ≤ℤ (to +ℤ pos 1) → from <ℤ next → unsigned_abs (int_max ((to +ℤ pos 2) -ℤ next) (pos 0)) < unsigned_abs (int_max ((to +ℤ pos 2) -ℤ from) (pos 0))
columns_left_fall to from next a b = omega (arith, ints, clamps)
