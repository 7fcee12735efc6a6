-- What another label of a piece does to seams, ledges and labels.
use Rattle.std.proofs.Common.{ℤ, ◌≡◌, ◌≢◌, ◌⊎◌, inl, inr, sym, subst, ap, ◌∙◌, arith}
use Rattle.std.proofs.lemmas.Int.{ints}
use Rattle.geo_rect.specs.declared.ids.Label.{Label}
use Rattle.geo_rect.specs.declared.shapes.Point.{Point}
use Rattle.geo_rect.specs.declared.shapes.Rect.{Rect}
use Rattle.geo_rect.specs.Axis.{HasNumber}
use Rattle.geo_rect.specs.Plane.{rows, HasPoint, LiesIn}
use Rattle.plane_core.specs.declared.strips.Strip.{Strip}
use Rattle.tile_store.specs.declared.tiles.TileId.{TileId}
use Rattle.tile_store.specs.Store.{Store}
use Rattle.stitch_walk.specs.Pieces.{IsPiece, IsRelabelled, HasLabel}
use Rattle.stitch_walk.proofs.Linked.{decide_id}
use Rattle.tile_paint.specs.Edges.{EndsBefore, BeginsWith, EndsUnder, BeginsOn}
use Rattle.tile_paint.specs.States.{IsSeamFrom, IsLedgeFrom, IsOpenFrom}
use Rattle.tile_paint.proofs.Axes.{along}
use Rattle.tile_paint.proofs.Cutting.{one_piece}

module _ (old new : Store) (id : TileId) (label : Label) (r : IsRelabelled old new id label) where
  -- the piece under its new label
  abbrev pub relabelled : Strip
  relabelled = record { area = r.piece.area; label = label }

  pub data AfterRelabel (n : TileId) (q : Strip) : Type 0 where
    is_it : n ≡ id → q ≡ relabelled → AfterRelabel n q
    is_other : n ≢ id → IsPiece old n q → AfterRelabel n q

  pub after_relabel : (n : TileId) (q : Strip) → IsPiece new n q → AfterRelabel n q
  after_relabel n q e = by_number (decide_id n id)
    where
      by_number : (n ≡ id) ⊎ (n ≢ id) → AfterRelabel n q
      by_number (inl same) = is_it same (one_piece new id q relabelled (let Q : TileId → Type 0 = λ k. IsPiece new k q in subst Q same e) r.is_now)
      by_number (inr differs) = is_other differs (sym (r.elsewhere n differs) ∙ e)

  module _ (area : Rect) (inside : LiesIn r.piece.area area) (open_from : IsOpenFrom old area area.y0) where
    left_at : (x y : ℤ) (l : Label) (e : EndsBefore new x y l) → AfterRelabel e.by e.piece → EndsBefore old x y l ⊎ IsSeamFrom area area.y0 x y
    left_at x y l e (is_other d f) = inl (record { by = e.by; piece = e.piece; is_piece = f; has_label = e.has_label; in_row = e.in_row; ends = e.ends })
    left_at x y l e (is_it same is) =
        let Q : Strip → Type 0 = λ z. HasNumber (rows z.area) y in
        let p = ap (λ (z : Strip). z.area.x1) is in
        let h = along (rows r.piece.area) (rows area) y inside.up (subst Q is e.in_row) in
        let o = r.piece.area.x_ordered in
        let f = inside.across.from in let t = inside.across.to in let k = e.ends in
        inr (record { from = h.from; to = h.to; left = omega (arith, ints); right = omega (arith, ints) })

    right_at : (x y : ℤ) (l : Label) (e : BeginsWith new x y l) → AfterRelabel e.by e.piece → BeginsWith old x y l ⊎ IsSeamFrom area area.y0 x y
    right_at x y l e (is_other d f) = inl (record { by = e.by; piece = e.piece; is_piece = f; has_label = e.has_label; in_row = e.in_row; begins = e.begins })
    right_at x y l e (is_it same is) =
        let Q : Strip → Type 0 = λ z. HasNumber (rows z.area) y in
        let p = ap (λ (z : Strip). z.area.x0) is in
        let h = along (rows r.piece.area) (rows area) y inside.up (subst Q is e.in_row) in
        let o = r.piece.area.x_ordered in
        let f = inside.across.from in let t = inside.across.to in let k = e.begins in
        inr (record { from = h.from; to = h.to; left = omega (arith, ints); right = omega (arith, ints) })

    seam_at : (x y : ℤ) (l : Label) → EndsBefore old x y l ⊎ IsSeamFrom area area.y0 x y → BeginsWith old x y l ⊎ IsSeamFrom area area.y0 x y → IsSeamFrom area area.y0 x y
    seam_at x y l (inl e) (inl b) = open_from.seams x y (record { label = l; left = e; right = b })
    seam_at x y l (inr s) b = s
    seam_at x y l (inl e) (inr s) = s

    lower_at : (first last y : ℤ) (l : Label) (e : EndsUnder new first last y l) → AfterRelabel e.by e.piece → EndsUnder old first last y l ⊎ IsLedgeFrom area area.y0 first last y
    lower_at first last y l e (is_other d f) = inl (record { by = e.by; piece = e.piece; is_piece = f; has_label = e.has_label; left = e.left; right = e.right; ends = e.ends })
    lower_at first last y l e (is_it same is) =
        let pl = ap (λ (z : Strip). z.area.x0) is in
        let pr = ap (λ (z : Strip). z.area.x1) is in
        let pn = ap (λ (z : Strip). z.area.y1) is in
        let ox = r.piece.area.x_ordered in let oy = r.piece.area.y_ordered in
        let fx = inside.across.from in let tx = inside.across.to in
        let fy = inside.up.from in let ty = inside.up.to in
        let el = e.left in let er = e.right in let ee = e.ends in
        inr (record { from = omega (arith, ints); to = omega (arith, ints); left = omega (arith, ints); right = omega (arith, ints) })

    upper_at : (first last y : ℤ) (l : Label) (e : BeginsOn new first last y l) → AfterRelabel e.by e.piece → BeginsOn old first last y l ⊎ IsLedgeFrom area area.y0 first last y
    upper_at first last y l e (is_other d f) = inl (record { by = e.by; piece = e.piece; is_piece = f; has_label = e.has_label; left = e.left; right = e.right; begins = e.begins })
    upper_at first last y l e (is_it same is) =
        let pl = ap (λ (z : Strip). z.area.x0) is in
        let pr = ap (λ (z : Strip). z.area.x1) is in
        let pn = ap (λ (z : Strip). z.area.y0) is in
        let ox = r.piece.area.x_ordered in let oy = r.piece.area.y_ordered in
        let fx = inside.across.from in let tx = inside.across.to in
        let fy = inside.up.from in let ty = inside.up.to in
        let el = e.left in let er = e.right in let ee = e.begins in
        inr (record { from = omega (arith, ints); to = omega (arith, ints); left = omega (arith, ints); right = omega (arith, ints) })

    ledge_at : (first last y : ℤ) (l : Label) → EndsUnder old first last y l ⊎ IsLedgeFrom area area.y0 first last y → BeginsOn old first last y l ⊎ IsLedgeFrom area area.y0 first last y → IsLedgeFrom area area.y0 first last y
    ledge_at first last y l (inl e) (inl b) = open_from.ledges first last y (record { label = l; lower = e; upper = b })
    ledge_at first last y l (inr s) b = s
    ledge_at first last y l (inl e) (inr s) = s

    -- another label of a piece in the area makes seams and ledges at the area alone
    pub open_after_relabel : IsOpenFrom new area area.y0
    open_after_relabel = record {
      seams = λ x y s. seam_at x y s.label
          (left_at x y s.label s.left (after_relabel s.left.by s.left.piece s.left.is_piece))
          (right_at x y s.label s.right (after_relabel s.right.by s.right.piece s.right.is_piece));
      ledges = λ first last y s. ledge_at first last y s.label
          (lower_at first last y s.label s.lower (after_relabel s.lower.by s.lower.piece s.lower.is_piece))
          (upper_at first last y s.label s.upper (after_relabel s.upper.by s.upper.piece s.upper.is_piece));
    }

  -- a point outside of the piece keeps its label
  pub label_outside : (p : Point) (was : Label) → ¬ HasPoint r.piece.area p → HasLabel old p was → HasLabel new p was
  label_outside p was out h = by_number (decide_id h.by id)
    where
      by_number : (h.by ≡ id) ⊎ (h.by ≢ id) → HasLabel new p was
      by_number (inr differs) = record { by = h.by; piece = h.piece; is_piece = r.elsewhere h.by differs ∙ h.is_piece; has_point = h.has_point; has_label = h.has_label }
      by_number (inl same) =
          let Q : TileId → Type 0 = λ k. IsPiece old k h.piece in
          let one : h.piece ≡ r.piece = one_piece old id h.piece r.piece (subst Q same h.is_piece) r.was in
          let R : Strip → Type 0 = λ z. HasPoint z.area p in
          absurd (out (subst R one h.has_point))
