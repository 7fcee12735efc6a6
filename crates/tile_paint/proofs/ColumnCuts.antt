-- What a cut by a column does to seams and ledges.
use Rattle.std.proofs.Common.{ℤ, pos, ◌≡◌, ◌⊎◌, inl, inr, ◌+ℤ◌, ◌≤ℤ◌, sym, subst, ap, ◌∙◌, arith}
use Rattle.std.proofs.lemmas.Int.{ints}
use Rattle.geo_rect.specs.declared.ids.Label.{Label}
use Rattle.geo_rect.specs.Axis.{HasNumber}
use Rattle.geo_rect.specs.Plane.{rows}
use Rattle.plane_core.specs.declared.strips.Strip.{Strip}
use Rattle.tile_store.specs.declared.tiles.TileId.{TileId}
use Rattle.tile_store.specs.Store.{Store}
use Rattle.stitch_walk.specs.Pieces.{IsCut, AreInLine}
use Rattle.tile_paint.specs.Edges.{EndsBefore, BeginsWith, IsSeam, EndsUnder, BeginsOn, IsLedge}
use Rattle.tile_paint.proofs.Axes.{along, same_rows_within}
use Rattle.tile_paint.proofs.Cutting.{AfterCut, after_cut}
use Rattle.tile_paint.proofs.Cutting.AfterCut.{is_first, is_second, is_kept}

module _ (old new : Store) (id other : TileId) (c : IsCut AreInLine old new id other) where
  -- the column in which the second part begins, in a row of the piece that was cut
  pub record IsAtColumnCut (x y : ℤ) : Type 0 where
    pub at : x ≡ c.second.area.x0
    pub in_row : HasNumber (rows c.whole.area) y

  module _ (x y : ℤ) (label : Label) where
    ends_before : (e : EndsBefore new x y label) → AfterCut AreInLine old new id other c e.by e.piece → EndsBefore old x y label ⊎ IsAtColumnCut x y
    ends_before e (is_first same is) =
        let Q : Strip → Type 0 = λ z. HasNumber (rows z.area) y in
        let n = c.parts.in_columns.next in
        let pn = ap (λ (z : Strip). z.area.x1) is in
        let ee = e.ends in
        inr (record { at = omega (arith, ints); in_row = along (rows c.first.area) (rows c.whole.area) y (same_rows_within c.first.area c.whole.area c.parts.left_rows) (subst Q is e.in_row) })
    ends_before e (is_second same is) =
        let Q : Strip → Type 0 = λ z. HasNumber (rows z.area) y in
        let n = c.parts.in_columns.to in
        let pn = ap (λ (z : Strip). z.area.x1) is in
        let ee = e.ends in
        inl (record { by = id; piece = c.whole; is_piece = c.was; has_label = sym c.second_label ∙ sym (ap (λ (z : Strip). z.label) is) ∙ e.has_label; in_row = along (rows c.second.area) (rows c.whole.area) y (same_rows_within c.second.area c.whole.area c.parts.right_rows) (subst Q is e.in_row); ends = omega (arith, ints) })
    ends_before e (is_kept a b f) = inl (record { by = e.by; piece = e.piece; is_piece = f; has_label = e.has_label; in_row = e.in_row; ends = e.ends })

    begins_with : (e : BeginsWith new x y label) → AfterCut AreInLine old new id other c e.by e.piece → BeginsWith old x y label ⊎ IsAtColumnCut x y
    begins_with e (is_first same is) =
        let Q : Strip → Type 0 = λ z. HasNumber (rows z.area) y in
        let n = c.parts.in_columns.from in
        let pn = ap (λ (z : Strip). z.area.x0) is in
        let ee = e.begins in
        inl (record { by = id; piece = c.whole; is_piece = c.was; has_label = sym c.first_label ∙ sym (ap (λ (z : Strip). z.label) is) ∙ e.has_label; in_row = along (rows c.first.area) (rows c.whole.area) y (same_rows_within c.first.area c.whole.area c.parts.left_rows) (subst Q is e.in_row); begins = omega (arith, ints) })
    begins_with e (is_second same is) =
        let Q : Strip → Type 0 = λ z. HasNumber (rows z.area) y in
        let pn = ap (λ (z : Strip). z.area.x0) is in
        let ee = e.begins in
        inr (record { at = omega (arith, ints); in_row = along (rows c.second.area) (rows c.whole.area) y (same_rows_within c.second.area c.whole.area c.parts.right_rows) (subst Q is e.in_row) })
    begins_with e (is_kept a b f) = inl (record { by = e.by; piece = e.piece; is_piece = f; has_label = e.has_label; in_row = e.in_row; begins = e.begins })

    seam_from : EndsBefore old x y label ⊎ IsAtColumnCut x y → BeginsWith old x y label ⊎ IsAtColumnCut x y → IsSeam old x y ⊎ IsAtColumnCut x y
    seam_from (inl e) (inl b) = inl (record { label = label; left = e; right = b })
    seam_from (inr a) b = inr a
    seam_from (inl e) (inr a) = inr a

  -- a cut by a column makes no seam but along the cut
  pub column_cut_seam : (x y : ℤ) → IsSeam new x y → IsSeam old x y ⊎ IsAtColumnCut x y
  column_cut_seam x y s =
      seam_from x y s.label
      (ends_before x y s.label s.left (after_cut AreInLine old new id other c s.left.by s.left.piece s.left.is_piece))
      (begins_with x y s.label s.right (after_cut AreInLine old new id other c s.right.by s.right.piece s.right.is_piece))

  -- a lower or upper edge of the piece that was cut, and columns of one of its parts
  pub record IsAtPart (from to y : ℤ) : Type 0 where
    pub edge : (y ≡ c.whole.area.y0) ⊎ (y ≡ c.whole.area.y1 +ℤ pos 1)
    pub begins : from ≤ℤ c.second.area.x0
    pub ends : c.second.area.x0 ≤ℤ (to +ℤ pos 1)

  module _ (from to y : ℤ) (label : Label) where
    ends_under : (e : EndsUnder new from to y label) → AfterCut AreInLine old new id other c e.by e.piece → EndsUnder old from to y label ⊎ IsAtPart from to y
    ends_under e (is_first same is) =
        let o = c.first.area.x_ordered in
        let n = c.parts.in_columns.next in
        let t = c.parts.left_rows.above in
        let pl = ap (λ (z : Strip). z.area.x0) is in
        let pr = ap (λ (z : Strip). z.area.x1) is in
        let pn = ap (λ (z : Strip). z.area.y1) is in
        let el = e.left in let er = e.right in let ee = e.ends in
        inr (record { edge = inr (omega (arith, ints)); begins = omega (arith, ints); ends = omega (arith, ints) })
    ends_under e (is_second same is) =
        let o = c.second.area.x_ordered in
        let t = c.parts.right_rows.above in
        let pl = ap (λ (z : Strip). z.area.x0) is in
        let pr = ap (λ (z : Strip). z.area.x1) is in
        let pn = ap (λ (z : Strip). z.area.y1) is in
        let el = e.left in let er = e.right in let ee = e.ends in
        inr (record { edge = inr (omega (arith, ints)); begins = omega (arith, ints); ends = omega (arith, ints) })
    ends_under e (is_kept a b f) = inl (record { by = e.by; piece = e.piece; is_piece = f; has_label = e.has_label; left = e.left; right = e.right; ends = e.ends })

    begins_on : (e : BeginsOn new from to y label) → AfterCut AreInLine old new id other c e.by e.piece → BeginsOn old from to y label ⊎ IsAtPart from to y
    begins_on e (is_first same is) =
        let o = c.first.area.x_ordered in
        let n = c.parts.in_columns.next in
        let t = c.parts.left_rows.below in
        let pl = ap (λ (z : Strip). z.area.x0) is in
        let pr = ap (λ (z : Strip). z.area.x1) is in
        let pn = ap (λ (z : Strip). z.area.y0) is in
        let el = e.left in let er = e.right in let ee = e.begins in
        inr (record { edge = inl (omega (arith, ints)); begins = omega (arith, ints); ends = omega (arith, ints) })
    begins_on e (is_second same is) =
        let o = c.second.area.x_ordered in
        let t = c.parts.right_rows.below in
        let pl = ap (λ (z : Strip). z.area.x0) is in
        let pr = ap (λ (z : Strip). z.area.x1) is in
        let pn = ap (λ (z : Strip). z.area.y0) is in
        let el = e.left in let er = e.right in let ee = e.begins in
        inr (record { edge = inl (omega (arith, ints)); begins = omega (arith, ints); ends = omega (arith, ints) })
    begins_on e (is_kept a b f) = inl (record { by = e.by; piece = e.piece; is_piece = f; has_label = e.has_label; left = e.left; right = e.right; begins = e.begins })

    ledge_from : EndsUnder old from to y label ⊎ IsAtPart from to y → BeginsOn old from to y label ⊎ IsAtPart from to y → IsLedge old from to y ⊎ IsAtPart from to y
    ledge_from (inl e) (inl b) = inl (record { label = label; lower = e; upper = b })
    ledge_from (inr a) b = inr a
    ledge_from (inl e) (inr a) = inr a

  -- a cut by a column makes no ledge but at the edges of the two parts
  pub column_cut_ledge : (from to y : ℤ) → IsLedge new from to y → IsLedge old from to y ⊎ IsAtPart from to y
  column_cut_ledge from to y l =
      ledge_from from to y l.label
      (ends_under from to y l.label l.lower (after_cut AreInLine old new id other c l.lower.by l.lower.piece l.lower.is_piece))
      (begins_on from to y l.label l.upper (after_cut AreInLine old new id other c l.upper.by l.upper.piece l.upper.is_piece))
