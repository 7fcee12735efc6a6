-- After a band was joined, sideways and with what is below it, all is maximal below the row after it; and
-- after the last band was joined with what is above it, all is maximal.
use Rattle.std.proofs.Common.{ℤ, pos, ◌≡◌, ◌⊎◌, inl, inr, ◌+ℤ◌, ◌-ℤ◌, ◌≤ℤ◌, ◌<ℤ◌, refl, subst, ap, arith}
use Rattle.std.proofs.lemmas.Int.{ints, by_lt_z}
use Rattle.geo_rect.specs.declared.ids.Label.{Label}
use Rattle.geo_rect.specs.declared.shapes.Rect.{Rect}
use Rattle.geo_rect.specs.Axis.{HasNumber}
use Rattle.geo_rect.specs.Plane.{columns, rows, HasPoint, LiesIn}
use Rattle.plane_core.specs.Labels.{IsSmall, IsWithinReach}
use Rattle.plane_core.specs.declared.strips.Strip.{Strip}
use Rattle.tile_store.specs.declared.tiles.TileId.{TileId}
use Rattle.tile_store.specs.Store.{Store}
use Rattle.stitch_walk.specs.Maximal.{AreMaximal}
use Rattle.stitch_walk.specs.Pieces.{IsPiece, FillDomain, HasLabel}
use Rattle.tile_paint.specs.Changes.{IsGrownDown, AreJoinedAt, IsFreeOfLedges}
use Rattle.tile_paint.specs.Edges.{IsSeam, IsLedge}
use Rattle.tile_paint.specs.States.{IsLedgeFrom, IsReadyFrom, IsBandOf, IsBandJoined, MeetsFrom, IsInnerFrom, AreaHasLabel}
use Rattle.tile_paint.proofs.Axes.{spot}
use Rattle.tile_paint.proofs.AtPoints.{one_at, label_of_piece, has_lower}
use Rattle.tile_paint.proofs.JoinsUp.{has_upper}
use Rattle.tile_paint.proofs.Outlining.{maximal_from_none}

module _ (s : Store) (domain : Rect) (fill : FillDomain s domain) (area : Rect) (label : Label) (painted : AreaHasLabel s area label) where
  module _ (n : TileId) (q : Strip) (e : IsPiece s n q) (z : ℤ) (in_row : HasNumber (rows area) z) (h : HasPoint q.area (spot q.area.x0 z)) (after : area.x0 <ℤ q.area.x0) (within : q.area.x0 ≤ℤ area.x1) where
    in_area : (x : ℤ) → area.x0 ≤ℤ x → x ≤ℤ area.x1 → HasPoint area (spot x z)
    in_area x l u = record { across = record { from = l; to = u }; up = in_row }

    left_of : HasLabel s (spot (q.area.x0 -ℤ pos 1) z) label
    left_of = painted (spot (q.area.x0 -ℤ pos 1) z) (in_area (q.area.x0 -ℤ pos 1) (omega (arith, ints)) (omega (arith, ints)))

    not_through : q.area.x0 ≤ℤ left_of.piece.area.x1 → ⊥
    not_through le =
        let a = left_of.has_point.across.from in
        let g : HasPoint left_of.piece.area (spot q.area.x0 z) = record { across = record { from = omega (arith, ints); to = le }; up = left_of.has_point.up } in
        let same = ap (λ (t : Strip). t.area.x0) (one_at s domain fill left_of.by n left_of.piece q (spot q.area.x0 z) left_of.is_piece e g h) in
        omega (arith, ints)

    ends_there : q.area.x0 ≡ left_of.piece.area.x1 +ℤ pos 1
    ends_there =
        let b = left_of.has_point.across.to in
        by_lt_z left_of.piece.area.x1 q.area.x0 (λ less. let r : q.area.x0 ≡ left_of.piece.area.x1 +ℤ pos 1 = omega (arith, ints) in r) (λ le. absurd (not_through le))

    -- a piece of the area that begins after the area's first column has a seam at its left edge
    pub has_seam : IsSeam s q.area.x0 z
    has_seam = record {
      label = label;
      left = record { by = left_of.by; piece = left_of.piece; is_piece = left_of.is_piece; has_label = left_of.has_label; in_row = left_of.has_point.up; ends = ends_there };
      right = record { by = n; piece = q; is_piece = e; has_label = label_of_piece s domain fill n q (spot q.area.x0 z) label e h (painted (spot q.area.x0 z) (in_area q.area.x0 (omega (arith, ints)) within)); in_row = h.up; begins = refl };
    }

-- a ledge at the lower edge of a row begins in the row's columns but the first
pub record BeginsWithin (row : Rect) (first last : ℤ) : Type 0 where
  pub after : row.x0 <ℤ first
  pub within : first ≤ℤ row.x1

module _ (s : Store) (row : Rect) (free : IsFreeOfLedges s row) (first last : ℤ) (k : IsLedge s first last row.y0) (left : first ≤ℤ (row.x1 +ℤ pos 1)) (right : row.x0 ≤ℤ (last +ℤ pos 1)) where
  ordered : first ≤ℤ last
  ordered = let a = k.upper.left in let b = k.upper.right in let o = k.upper.piece.area.x_ordered in omega (arith, ints)

  -- what is free of ledges at three points has them between these alone
  pub ledge_within : BeginsWithin row first last
  ledge_within =
      let o = ordered in
      by_lt_z row.x0 first
      (λ after. by_lt_z row.x1 first
      (λ beyond. absurd (free.after first last k (omega (arith, ints)) (omega (arith, ints))))
      (λ within. let r : BeginsWithin row first last = record { after = after; within = within } in r))
      (λ most. by_lt_z first row.x0
      (λ less. absurd (free.before first last k (omega (arith, ints)) (omega (arith, ints))))
      (λ at. absurd (free.at_first first last k (omega (arith, ints)) (omega (arith, ints)))))

module _ (s t : Store) (domain : Rect) (fill : FillDomain t domain) (area band : Rect) (label : Label) (is_band : IsBandOf area band) (b : IsBandJoined s area band) (j : AreJoinedAt s t band.y0) (free : IsFreeOfLedges t band) (painted : AreaHasLabel t area label) where
  none_at_band : (first last : ℤ) → IsLedge t first last band.y0 → ⊥
  none_at_band first last k =
      let f = b.ledges first last band.y0 (j.ledges first last band.y0 k) in
      let bl = is_band.left in let br = is_band.right in let bf = is_band.from in let bt = is_band.to in
      let fl = f.left in let fr = f.right in let o = band.y_ordered in
      let w = ledge_within t band free first last k (omega (arith, ints)) (omega (arith, ints)) in
      let wa = w.after in let wb = w.within in
      let e = k.upper.left in
      let h = has_upper t first last band.y0 first k.label k.upper (omega (arith, ints)) (let p = k.upper.right in let x = k.upper.piece.area.x_ordered in omega (arith, ints)) in
      let Q : ℤ → Type 0 = λ z. HasPoint k.upper.piece.area (spot z band.y0) in
      let m = has_seam t domain fill area label painted k.upper.by k.upper.piece k.upper.is_piece band.y0 (record { from = omega (arith, ints); to = omega (arith, ints) }) (subst Q e h) (omega (arith, ints)) (omega (arith, ints)) in
      let g = (b.seams k.upper.piece.area.x0 band.y0 (j.seams k.upper.piece.area.x0 band.y0 m)).from in
      omega (arith, ints)

  row_of : (first last y : ℤ) → IsLedge t first last y → (y ≡ band.y0) ⊎ ((band.y1 +ℤ pos 1) ≤ℤ y) → (band.y1 +ℤ pos 1) ≤ℤ y
  row_of first last y k (inl at) = let Q : ℤ → Type 0 = λ z. IsLedge t first last z in absurd (none_at_band first last (subst Q at k))
  row_of first last y k (inr above) = above

  ledges_above : (first last y : ℤ) → IsLedge t first last y → IsLedgeFrom area (band.y1 +ℤ pos 1) first last y
  ledges_above first last y k =
      let f = b.ledges first last y (j.ledges first last y k) in
      record { from = row_of first last y k (b.rows_of_ledges first last y (j.ledges first last y k)); to = f.to; left = f.left; right = f.right }

  begins_before : (q : Strip) (g : IsGrownDown s band.y0 q) (y : ℤ) → (band.y1 +ℤ pos 1) ≤ℤ y → q.area.y0 ≤ℤ y → (q.area.y0 ≡ g.was.area.y0) ⊎ (g.was.area.y0 ≡ band.y0) → g.was.area.y0 ≤ℤ y
  begins_before q g y above le (inl e) = omega (arith, ints)
  begins_before q g y above le (inr e) = let o = band.y_ordered in omega (arith, ints)

  was_meets : (q : Strip) (g : IsGrownDown s band.y0 q) → MeetsFrom area (band.y1 +ℤ pos 1) q.area → MeetsFrom area (band.y1 +ℤ pos 1) g.was.area
  was_meets q g m =
      let cl = g.columns.left in let cr = g.columns.right in let h = g.high in
      let a = m.in_first.across.from in let c = m.in_first.across.to in let d = m.in_first.up.to in
      record {
        meets_at = m.meets_at;
        in_first = record { across = record { from = omega (arith, ints); to = omega (arith, ints) }; up = record { from = begins_before q g m.meets_at.y m.from m.in_first.up.from g.low; to = omega (arith, ints) } };
        in_second = m.in_second;
        from = m.from;
      }

  same_begin : (q : Strip) (g : IsGrownDown s band.y0 q) → (band.y1 +ℤ pos 1) ≤ℤ g.was.area.y0 → (q.area.y0 ≡ g.was.area.y0) ⊎ (g.was.area.y0 ≡ band.y0) → q.area.y0 ≡ g.was.area.y0
  same_begin q g above (inl e) = e
  same_begin q g above (inr e) = absurd (let o = band.y_ordered in omega (arith, ints))

  inner_still : (q : Strip) (g : IsGrownDown s band.y0 q) → IsInnerFrom area (band.y1 +ℤ pos 1) g.was.area → IsInnerFrom area (band.y1 +ℤ pos 1) q.area
  inner_still q g i =
      let e = same_begin q g i.from g.low in
      let cl = g.columns.left in let cr = g.columns.right in let h = g.high in
      let a = i.inside.across.from in let c = i.inside.across.to in let d = i.inside.up.from in let f = i.inside.up.to in let k = i.from in
      record { inside = record { across = record { from = omega (arith, ints); to = omega (arith, ints) }; up = record { from = omega (arith, ints); to = omega (arith, ints) } }; from = omega (arith, ints) }

  -- the band is done
  pub ready_above : IsReadyFrom t area label (band.y1 +ℤ pos 1)
  ready_above = record {
    open_from = record { seams = λ x y k. b.seams x y (j.seams x y k); ledges = ledges_above };
    inner = λ n q e m. let g = j.pieces n q e in inner_still q g (b.inner g.by g.was g.is_piece (was_meets q g m));
    painted = painted;
  }

module _ (s t : Store) (domain : Rect) (fill : FillDomain t domain) (area row : Rect) (label : Label) (ready : IsReadyFrom s area label (area.y1 +ℤ pos 1)) (left : row.x0 ≡ area.x0) (right : row.x1 ≡ area.x1) (low : row.y0 ≡ area.y1 +ℤ pos 1) (j : AreJoinedAt s t row.y0) (free : IsFreeOfLedges t row) where
  none_left : (x y : ℤ) → IsSeam t x y → ⊥
  none_left x y k =
      let f = ready.open_from.seams x y (j.seams x y k) in
      let a = f.from in let c = f.to in
      omega (arith, ints)

  none_at_row : (first last : ℤ) → IsLedge t first last row.y0 → ⊥
  none_at_row first last k =
      let f = ready.open_from.ledges first last row.y0 (j.ledges first last row.y0 k) in
      let fl = f.left in let fr = f.right in let o = area.y_ordered in
      let w = ledge_within t row free first last k (omega (arith, ints)) (omega (arith, ints)) in
      let wa = w.after in let wb = w.within in
      let e = k.lower.left in let u = k.lower.right in let x = k.lower.piece.area.x_ordered in
      let h = has_lower t first last row.y0 first k.label k.lower (omega (arith, ints)) (omega (arith, ints)) in
      let last_row : row.y0 -ℤ pos 1 ≡ area.y1 = omega (arith, ints) in
      let Q : ℤ → Type 0 = λ z. HasPoint k.lower.piece.area (spot z (row.y0 -ℤ pos 1)) in
      let R : ℤ → Type 0 = λ z. HasPoint k.lower.piece.area (spot k.lower.piece.area.x0 z) in
      let painted : AreaHasLabel t area label = λ p v. j.labels.onward p label (ready.painted p v) in
      none_left k.lower.piece.area.x0 area.y1
      (has_seam t domain fill area label painted k.lower.by k.lower.piece k.lower.is_piece area.y1 (record { from = o; to = omega (arith, ints) }) (subst R last_row (subst Q e h)) (omega (arith, ints)) (omega (arith, ints)))

  none_stacked : (first last y : ℤ) → IsLedge t first last y → ⊥
  none_stacked first last y k =
      let f = ready.open_from.ledges first last y (j.ledges first last y k) in
      let a = f.from in let c = f.to in
      let at : y ≡ row.y0 = omega (arith, ints) in
      let Q : ℤ → Type 0 = λ z. IsLedge t first last z in
      none_at_row first last (subst Q at k)

  -- all is done
  pub all_maximal : AreMaximal t
  all_maximal = maximal_from_none t none_left none_stacked

-- past the rows of the area comes the row after them
pub row_after : (area : Rect) (y : ℤ) → area.y0 ≤ℤ y → y ≤ℤ (area.y1 +ℤ pos 1) → ¬ HasNumber (rows area) y → y ≡ area.y1 +ℤ pos 1
row_after area y l u out =
    by_lt_z area.y1 y (λ less. let r : y ≡ area.y1 +ℤ pos 1 = omega (arith, ints) in r) (λ most. absurd (out (record { from = l; to = most })))

-- the row above a part of the domain has its columns
pub reach_above : (area row domain : Rect) → IsSmall domain → LiesIn area domain → row.x0 ≡ area.x0 → row.x1 ≡ area.x1 → IsWithinReach (columns row)
reach_above area row domain small l e f =
    let a = small.across.from in let b = small.across.to in let c = l.across.from in let d = l.across.to in
    record { from = omega (arith, ints); to = omega (arith, ints) }
