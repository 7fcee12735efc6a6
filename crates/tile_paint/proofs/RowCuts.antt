-- What a cut by a row, and a join upwards, do to seams and ledges.
use Rattle.std.proofs.Common.{ℤ, ◌≡◌, ◌⊎◌, inl, inr, refl, sym, subst, ap, ◌∙◌, arith}
use Rattle.std.proofs.lemmas.Int.{ints}
use Rattle.geo_rect.specs.declared.ids.Label.{Label}
use Rattle.geo_rect.specs.declared.shapes.Rect.{Rect}
use Rattle.geo_rect.specs.Axis.{LiesWithin}
use Rattle.geo_rect.specs.Plane.{rows}
use Rattle.plane_core.specs.declared.strips.Strip.{Strip}
use Rattle.plane_core.specs.LocalForm.{HaveSameColumns}
use Rattle.tile_store.specs.declared.tiles.TileId.{TileId}
use Rattle.tile_store.specs.Store.{Store}
use Rattle.stitch_walk.specs.Pieces.{IsPiece, IsCut, AreStacked}
use Rattle.tile_paint.specs.Edges.{IsSeam, EndsUnder, BeginsOn, IsLedge}
use Rattle.tile_paint.proofs.Axes.{along, first_within, second_within, in_itself}
use Rattle.tile_paint.proofs.Cutting.{AfterCut, after_cut}
use Rattle.tile_paint.proofs.Cutting.AfterCut.{is_first, is_second, is_kept}

-- some rows of r, in all its columns
pub record AreRowsOf (part r : Rect) : Type 0 where
  pub columns : HaveSameColumns part r
  pub inside : LiesWithin (rows part) (rows r)

-- q is rows of a piece of its label
pub record HasTallParent (s : Store) (q : Strip) : Type 0 where
  pub by : TileId
  pub whole : Strip
  pub is_piece : IsPiece s by whole
  pub same_label : q.label ≡ whole.label
  pub part : AreRowsOf q.area whole.area

same_columns : (r : Rect) → HaveSameColumns r r
same_columns r = record { left = refl; right = refl }

module _ (old new : Store) (id other : TileId) (c : IsCut AreStacked old new id other) where
  pub tall_parent : (n : TileId) (q : Strip) → IsPiece new n q → HasTallParent old q
  tall_parent n q e = of_case (after_cut AreStacked old new id other c n q e)
    where
      of_case : AfterCut AreStacked old new id other c n q → HasTallParent old q
      of_case (is_first same is) = record { by = id; whole = c.whole; is_piece = c.was; same_label = ap (λ (z : Strip). z.label) is ∙ c.first_label; part = let Q : Strip → Type 0 = λ z. AreRowsOf z.area c.whole.area in subst Q (sym is) (record { columns = c.parts.lower_columns; inside = first_within (rows c.first.area) (rows c.second.area) (rows c.whole.area) c.parts.in_rows }) }
      of_case (is_second same is) = record { by = id; whole = c.whole; is_piece = c.was; same_label = ap (λ (z : Strip). z.label) is ∙ c.second_label; part = let Q : Strip → Type 0 = λ z. AreRowsOf z.area c.whole.area in subst Q (sym is) (record { columns = c.parts.upper_columns; inside = second_within (rows c.first.area) (rows c.second.area) (rows c.whole.area) c.parts.in_rows }) }
      of_case (is_kept a b f) = record { by = n; whole = q; is_piece = f; same_label = refl; part = record { columns = same_columns q.area; inside = in_itself (rows q.area) } }

  -- a cut by a row makes no seam
  pub row_cut_seam : (x y : ℤ) → IsSeam new x y → IsSeam old x y
  row_cut_seam x y s =
      let p = tall_parent s.left.by s.left.piece s.left.is_piece in
      let q = tall_parent s.right.by s.right.piece s.right.is_piece in
      let pc = p.part.columns.right in
      let qc = q.part.columns.left in
      let e = s.left.ends in
      let b = s.right.begins in
      record {
        label = s.label;
        left = record { by = p.by; piece = p.whole; is_piece = p.is_piece; has_label = sym p.same_label ∙ s.left.has_label; in_row = along (rows s.left.piece.area) (rows p.whole.area) y p.part.inside s.left.in_row; ends = omega (arith, ints) };
        right = record { by = q.by; piece = q.whole; is_piece = q.is_piece; has_label = sym q.same_label ∙ s.right.has_label; in_row = along (rows s.right.piece.area) (rows q.whole.area) y q.part.inside s.right.in_row; begins = omega (arith, ints) };
      }

  -- the columns of the piece that was cut, and the row in which the second part begins
  pub record IsAtRowCut (from to y : ℤ) : Type 0 where
    pub left : from ≡ c.whole.area.x0
    pub right : to ≡ c.whole.area.x1
    pub at : y ≡ c.second.area.y0

  module _ (from to y : ℤ) (label : Label) where
    ends_under : (e : EndsUnder new from to y label) → AfterCut AreStacked old new id other c e.by e.piece → EndsUnder old from to y label ⊎ IsAtRowCut from to y
    ends_under e (is_first same is) =
        let l = c.parts.lower_columns.left in
        let r = c.parts.lower_columns.right in
        let n = c.parts.in_rows.next in
        let pl = ap (λ (z : Strip). z.area.x0) is in
        let pr = ap (λ (z : Strip). z.area.x1) is in
        let pn = ap (λ (z : Strip). z.area.y1) is in
        let el = e.left in let er = e.right in let ee = e.ends in
        inr (record { left = omega (arith, ints); right = omega (arith, ints); at = omega (arith, ints) })
    ends_under e (is_second same is) =
        let l = c.parts.upper_columns.left in
        let r = c.parts.upper_columns.right in
        let n = c.parts.in_rows.to in
        let pl = ap (λ (z : Strip). z.area.x0) is in
        let pr = ap (λ (z : Strip). z.area.x1) is in
        let pn = ap (λ (z : Strip). z.area.y1) is in
        let el = e.left in let er = e.right in let ee = e.ends in
        inl (record { by = id; piece = c.whole; is_piece = c.was; has_label = sym c.second_label ∙ sym (ap (λ (z : Strip). z.label) is) ∙ e.has_label; left = omega (arith, ints); right = omega (arith, ints); ends = omega (arith, ints) })
    ends_under e (is_kept a b f) = inl (record { by = e.by; piece = e.piece; is_piece = f; has_label = e.has_label; left = e.left; right = e.right; ends = e.ends })

    begins_on : (e : BeginsOn new from to y label) → AfterCut AreStacked old new id other c e.by e.piece → BeginsOn old from to y label ⊎ IsAtRowCut from to y
    begins_on e (is_first same is) =
        let l = c.parts.lower_columns.left in
        let r = c.parts.lower_columns.right in
        let n = c.parts.in_rows.from in
        let pl = ap (λ (z : Strip). z.area.x0) is in
        let pr = ap (λ (z : Strip). z.area.x1) is in
        let pn = ap (λ (z : Strip). z.area.y0) is in
        let el = e.left in let er = e.right in let ee = e.begins in
        inl (record { by = id; piece = c.whole; is_piece = c.was; has_label = sym c.first_label ∙ sym (ap (λ (z : Strip). z.label) is) ∙ e.has_label; left = omega (arith, ints); right = omega (arith, ints); begins = omega (arith, ints) })
    begins_on e (is_second same is) =
        let l = c.parts.upper_columns.left in
        let r = c.parts.upper_columns.right in
        let pl = ap (λ (z : Strip). z.area.x0) is in
        let pr = ap (λ (z : Strip). z.area.x1) is in
        let pn = ap (λ (z : Strip). z.area.y0) is in
        let el = e.left in let er = e.right in let ee = e.begins in
        inr (record { left = omega (arith, ints); right = omega (arith, ints); at = omega (arith, ints) })
    begins_on e (is_kept a b f) = inl (record { by = e.by; piece = e.piece; is_piece = f; has_label = e.has_label; left = e.left; right = e.right; begins = e.begins })

    ledge_from : EndsUnder old from to y label ⊎ IsAtRowCut from to y → BeginsOn old from to y label ⊎ IsAtRowCut from to y → IsLedge old from to y ⊎ IsAtRowCut from to y
    ledge_from (inl e) (inl b) = inl (record { label = label; lower = e; upper = b })
    ledge_from (inr a) b = inr a
    ledge_from (inl e) (inr a) = inr a

  -- a cut by a row makes no ledge but along the cut
  pub row_cut_ledge : (from to y : ℤ) → IsLedge new from to y → IsLedge old from to y ⊎ IsAtRowCut from to y
  row_cut_ledge from to y l =
      ledge_from from to y l.label
      (ends_under from to y l.label l.lower (after_cut AreStacked old new id other c l.lower.by l.lower.piece l.lower.is_piece))
      (begins_on from to y l.label l.upper (after_cut AreStacked old new id other c l.upper.by l.upper.piece l.upper.is_piece))
