-- What a join of a piece with the one right of it does to seams, ledges and labels.
use Rattle.std.proofs.Common.{ℤ, pos, ◌≡◌, ◌⊎◌, inl, inr, ◌+ℤ◌, ◌-ℤ◌, ◌≤ℤ◌, sym, subst, ap, ◌∙◌, arith}
use Rattle.std.proofs.lemmas.Int.{ints}
use Rattle.geo_rect.specs.declared.ids.Label.{Label}
use Rattle.geo_rect.specs.declared.shapes.Point.{Point}
use Rattle.geo_rect.specs.declared.shapes.Rect.{Rect}
use Rattle.geo_rect.specs.Axis.{HasNumber}
use Rattle.geo_rect.specs.Plane.{rows, HasPoint}
use Rattle.plane_core.specs.declared.strips.Strip.{Strip}
use Rattle.tile_store.specs.declared.tiles.TileId.{TileId}
use Rattle.tile_store.specs.Store.{Store}
use Rattle.stitch_walk.specs.Pieces.{IsCut, AreInLine}
use Rattle.tile_paint.specs.Changes.{HaveSameLabels}
use Rattle.tile_paint.specs.Edges.{EndsBefore, BeginsWith, IsSeam, EndsUnder, BeginsOn}
use Rattle.tile_paint.specs.States.{IsLedgeFrom, IsOpenFrom, AreTall, Touches}
use Rattle.tile_paint.proofs.Axes.{line_parts, rows_back}
use Rattle.tile_paint.proofs.Cutting.{BeforeCut, before_cut, cut_labels}
use Rattle.tile_paint.proofs.Cutting.BeforeCut.{is_whole, stays}
use Rattle.tile_paint.proofs.JoinsUp.{turned_labels}

module _ (old new : Store) (id other : TileId) (c : IsCut AreInLine new old id other) where
  module _ (x y : ℤ) (label : Label) where
    left_before : (e : EndsBefore new x y label) → BeforeCut AreInLine new old id other c e.by e.piece → EndsBefore old x y label
    left_before e (is_whole same is) =
        let Q : Strip → Type 0 = λ z. HasNumber (rows z.area) y in
        let n = c.parts.in_columns.to in
        let p = ap (λ (z : Strip). z.area.x1) is in
        let k = e.ends in
        record { by = other; piece = c.second; is_piece = c.second_is; has_label = c.second_label ∙ sym (ap (λ (z : Strip). z.label) is) ∙ e.has_label; in_row = rows_back c.second.area c.whole.area y c.parts.right_rows (subst Q is e.in_row); ends = omega (arith, ints) }
    left_before e (stays a b f) = record { by = e.by; piece = e.piece; is_piece = f; has_label = e.has_label; in_row = e.in_row; ends = e.ends }

    right_before : (e : BeginsWith new x y label) → BeforeCut AreInLine new old id other c e.by e.piece → BeginsWith old x y label
    right_before e (is_whole same is) =
        let Q : Strip → Type 0 = λ z. HasNumber (rows z.area) y in
        let n = c.parts.in_columns.from in
        let p = ap (λ (z : Strip). z.area.x0) is in
        let k = e.begins in
        record { by = id; piece = c.first; is_piece = c.first_is; has_label = c.first_label ∙ sym (ap (λ (z : Strip). z.label) is) ∙ e.has_label; in_row = rows_back c.first.area c.whole.area y c.parts.left_rows (subst Q is e.in_row); begins = omega (arith, ints) }
    right_before e (stays a b f) = record { by = e.by; piece = e.piece; is_piece = f; has_label = e.has_label; in_row = e.in_row; begins = e.begins }

  -- a join sideways makes no seam
  join_side_seam : (x y : ℤ) → IsSeam new x y → IsSeam old x y
  join_side_seam x y s = record {
    label = s.label;
    left = left_before x y s.label s.left (before_cut AreInLine new old id other c s.left.by s.left.piece s.left.is_piece);
    right = right_before x y s.label s.right (before_cut AreInLine new old id other c s.right.by s.right.piece s.right.is_piece);
  }

  module _ (area : Rect) (a : ℤ) (open_from : IsOpenFrom old area a) (touches : Touches area c.whole.area) (from : a ≤ℤ c.whole.area.y0) (to : c.whole.area.y1 ≤ℤ area.y1) where
    lower_at : (first last y : ℤ) (l : Label) (e : EndsUnder new first last y l) → BeforeCut AreInLine new old id other c e.by e.piece → EndsUnder old first last y l ⊎ IsLedgeFrom area a first last y
    lower_at first last y l e (stays d o f) = inl (record { by = e.by; piece = e.piece; is_piece = f; has_label = e.has_label; left = e.left; right = e.right; ends = e.ends })
    lower_at first last y l e (is_whole same is) =
        let pl = ap (λ (z : Strip). z.area.x0) is in
        let pr = ap (λ (z : Strip). z.area.x1) is in
        let pn = ap (λ (z : Strip). z.area.y1) is in
        let oy = c.whole.area.y_ordered in
        let tl = touches.left in let tr = touches.right in
        let el = e.left in let er = e.right in let ee = e.ends in
        inr (record { from = omega (arith, ints); to = omega (arith, ints); left = omega (arith, ints); right = omega (arith, ints) })

    upper_at : (first last y : ℤ) (l : Label) (e : BeginsOn new first last y l) → BeforeCut AreInLine new old id other c e.by e.piece → BeginsOn old first last y l ⊎ IsLedgeFrom area a first last y
    upper_at first last y l e (stays d o f) = inl (record { by = e.by; piece = e.piece; is_piece = f; has_label = e.has_label; left = e.left; right = e.right; begins = e.begins })
    upper_at first last y l e (is_whole same is) =
        let pl = ap (λ (z : Strip). z.area.x0) is in
        let pr = ap (λ (z : Strip). z.area.x1) is in
        let pn = ap (λ (z : Strip). z.area.y0) is in
        let oy = c.whole.area.y_ordered in
        let tl = touches.left in let tr = touches.right in
        let el = e.left in let er = e.right in let ee = e.begins in
        inr (record { from = omega (arith, ints); to = omega (arith, ints); left = omega (arith, ints); right = omega (arith, ints) })

    ledge_at : (first last y : ℤ) (l : Label) → EndsUnder old first last y l ⊎ IsLedgeFrom area a first last y → BeginsOn old first last y l ⊎ IsLedgeFrom area a first last y → IsLedgeFrom area a first last y
    ledge_at first last y l (inl e) (inl b) = open_from.ledges first last y (record { label = l; lower = e; upper = b })
    ledge_at first last y l (inr s) b = s
    ledge_at first last y l (inl e) (inr s) = s

    -- a join sideways in a band makes ledges at the area alone
    pub open_after_side_join : IsOpenFrom new area a
    open_after_side_join = record {
      seams = λ x y s. open_from.seams x y (join_side_seam x y s);
      ledges = λ first last y s. ledge_at first last y s.label
          (lower_at first last y s.label s.lower (before_cut AreInLine new old id other c s.lower.by s.lower.piece s.lower.is_piece))
          (upper_at first last y s.label s.upper (before_cut AreInLine new old id other c s.upper.by s.upper.piece s.upper.is_piece));
    }

  pub side_join_labels : HaveSameLabels old new
  side_join_labels = turned_labels new old (cut_labels AreInLine new old id other c (line_parts c.first.area c.second.area c.whole.area c.parts))

  module _ (band : Rect) (tall : AreTall old band) where
    of_part : (p : Point) → HasPoint c.first.area p ⊎ HasPoint c.second.area p → p.y ≡ band.y0 → (band.x0 -ℤ pos 1) ≤ℤ p.x → p.x ≤ℤ (band.x1 +ℤ pos 1) → band.y1 ≤ℤ c.whole.area.y1
    of_part p (inl h) row l r =
        let e = c.parts.left_rows.above in
        let k = tall id c.first p c.first_is h row l r in
        omega (arith, ints)
    of_part p (inr h) row l r =
        let e = c.parts.right_rows.above in
        let k = tall other c.second p c.second_is h row l r in
        omega (arith, ints)

    of_case : (n : TileId) (q : Strip) (p : Point) → HasPoint q.area p → p.y ≡ band.y0 → (band.x0 -ℤ pos 1) ≤ℤ p.x → p.x ≤ℤ (band.x1 +ℤ pos 1) → BeforeCut AreInLine new old id other c n q → band.y1 ≤ℤ q.area.y1
    of_case n q p h row l r (stays d o f) = tall n q p f h row l r
    of_case n q p h row l r (is_whole same is) =
        let Q : Strip → Type 0 = λ z. HasPoint z.area p in
        let R : Strip → Type 0 = λ z. band.y1 ≤ℤ z.area.y1 in
        subst R (sym is) (of_part p ((line_parts c.first.area c.second.area c.whole.area c.parts).in_one p (subst Q is h)) row l r)

    pub side_join_tall : AreTall new band
    side_join_tall n q p e h row l r = of_case n q p h row l r (before_cut AreInLine new old id other c n q e)
