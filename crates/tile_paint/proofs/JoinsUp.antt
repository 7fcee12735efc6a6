-- What a join of a piece with the one above it does to seams, ledges and labels.
use Rattle.std.proofs.Common.{ℤ, ◌≡◌, ◌⊎◌, inl, inr, ◌≤ℤ◌, refl, sym, subst, ap, ◌∙◌, arith}
use Rattle.std.proofs.lemmas.Int.{ints}
use Rattle.geo_rect.specs.declared.ids.Label.{Label}
use Rattle.geo_rect.specs.declared.shapes.Point.{Point}
use Rattle.geo_rect.specs.declared.shapes.Rect.{Rect}
use Rattle.geo_rect.specs.Axis.{HasNumber}
use Rattle.geo_rect.specs.Plane.{rows, HasPoint}
use Rattle.plane_core.specs.declared.strips.Strip.{Strip}
use Rattle.tile_store.specs.declared.tiles.TileId.{TileId}
use Rattle.tile_store.specs.Store.{Store}
use Rattle.stitch_walk.specs.Pieces.{IsCut, AreStacked, FillDomain}
use Rattle.tile_paint.specs.Changes.{HaveSameLabels, IsGrownDown, AreJoinedAt, HasNoLedgeAt}
use Rattle.tile_paint.specs.Edges.{EndsBefore, BeginsWith, IsSeam, EndsUnder, BeginsOn, IsLedge}
use Rattle.tile_paint.proofs.Axes.{stacked_parts, in_a_part}
use Rattle.tile_paint.proofs.Cutting.{BeforeCut, before_cut, cut_labels}
use Rattle.tile_paint.proofs.Cutting.BeforeCut.{is_whole, stays}

-- the labels of two stores the other way round
pub turned_labels : (old new : Store) → HaveSameLabels old new → HaveSameLabels new old
turned_labels old new h = record { onward = h.back; back = h.onward }

-- the piece that begins in a row and has the column has the point there
pub has_upper : (s : Store) (from to y x : ℤ) (label : Label) (b : BeginsOn s from to y label) → from ≤ℤ x → x ≤ℤ to → HasPoint b.piece.area (record { x = x; y = y })
has_upper s from to y x label b f t =
    let o = b.piece.area.y_ordered in
    let l = b.left in let r = b.right in let k = b.begins in
    record { across = record { from = omega (arith, ints); to = omega (arith, ints) }; up = record { from = omega (arith, ints); to = omega (arith, ints) } }

module _ (old new : Store) (id other : TileId) (c : IsCut AreStacked new old id other) where
  module _ (x y : ℤ) (label : Label) where
    left_of_part : (e : EndsBefore new x y label) → e.piece ≡ c.whole → HasNumber (rows c.first.area) y ⊎ HasNumber (rows c.second.area) y → EndsBefore old x y label
    left_of_part e is (inl h) =
        let r = c.parts.lower_columns.right in
        let p = ap (λ (z : Strip). z.area.x1) is in
        let k = e.ends in
        record { by = id; piece = c.first; is_piece = c.first_is; has_label = c.first_label ∙ sym (ap (λ (z : Strip). z.label) is) ∙ e.has_label; in_row = h; ends = omega (arith, ints) }
    left_of_part e is (inr h) =
        let r = c.parts.upper_columns.right in
        let p = ap (λ (z : Strip). z.area.x1) is in
        let k = e.ends in
        record { by = other; piece = c.second; is_piece = c.second_is; has_label = c.second_label ∙ sym (ap (λ (z : Strip). z.label) is) ∙ e.has_label; in_row = h; ends = omega (arith, ints) }

    left_before : (e : EndsBefore new x y label) → BeforeCut AreStacked new old id other c e.by e.piece → EndsBefore old x y label
    left_before e (is_whole same is) =
        let Q : Strip → Type 0 = λ z. HasNumber (rows z.area) y in
        left_of_part e is (in_a_part (rows c.first.area) (rows c.second.area) (rows c.whole.area) c.parts.in_rows y (subst Q is e.in_row))
    left_before e (stays a b f) = record { by = e.by; piece = e.piece; is_piece = f; has_label = e.has_label; in_row = e.in_row; ends = e.ends }

    right_of_part : (e : BeginsWith new x y label) → e.piece ≡ c.whole → HasNumber (rows c.first.area) y ⊎ HasNumber (rows c.second.area) y → BeginsWith old x y label
    right_of_part e is (inl h) =
        let r = c.parts.lower_columns.left in
        let p = ap (λ (z : Strip). z.area.x0) is in
        let k = e.begins in
        record { by = id; piece = c.first; is_piece = c.first_is; has_label = c.first_label ∙ sym (ap (λ (z : Strip). z.label) is) ∙ e.has_label; in_row = h; begins = omega (arith, ints) }
    right_of_part e is (inr h) =
        let r = c.parts.upper_columns.left in
        let p = ap (λ (z : Strip). z.area.x0) is in
        let k = e.begins in
        record { by = other; piece = c.second; is_piece = c.second_is; has_label = c.second_label ∙ sym (ap (λ (z : Strip). z.label) is) ∙ e.has_label; in_row = h; begins = omega (arith, ints) }

    right_before : (e : BeginsWith new x y label) → BeforeCut AreStacked new old id other c e.by e.piece → BeginsWith old x y label
    right_before e (is_whole same is) =
        let Q : Strip → Type 0 = λ z. HasNumber (rows z.area) y in
        right_of_part e is (in_a_part (rows c.first.area) (rows c.second.area) (rows c.whole.area) c.parts.in_rows y (subst Q is e.in_row))
    right_before e (stays a b f) = record { by = e.by; piece = e.piece; is_piece = f; has_label = e.has_label; in_row = e.in_row; begins = e.begins }

  join_up_seam : (x y : ℤ) → IsSeam new x y → IsSeam old x y
  join_up_seam x y s = record {
    label = s.label;
    left = left_before x y s.label s.left (before_cut AreStacked new old id other c s.left.by s.left.piece s.left.is_piece);
    right = right_before x y s.label s.right (before_cut AreStacked new old id other c s.right.by s.right.piece s.right.is_piece);
  }

  module _ (from to y : ℤ) (label : Label) where
    lower_before : (e : EndsUnder new from to y label) → BeforeCut AreStacked new old id other c e.by e.piece → EndsUnder old from to y label
    lower_before e (is_whole same is) =
        let l = c.parts.upper_columns.left in
        let r = c.parts.upper_columns.right in
        let n = c.parts.in_rows.to in
        let pl = ap (λ (z : Strip). z.area.x0) is in
        let pr = ap (λ (z : Strip). z.area.x1) is in
        let pn = ap (λ (z : Strip). z.area.y1) is in
        let el = e.left in let er = e.right in let ee = e.ends in
        record { by = other; piece = c.second; is_piece = c.second_is; has_label = c.second_label ∙ sym (ap (λ (z : Strip). z.label) is) ∙ e.has_label; left = omega (arith, ints); right = omega (arith, ints); ends = omega (arith, ints) }
    lower_before e (stays a b f) = record { by = e.by; piece = e.piece; is_piece = f; has_label = e.has_label; left = e.left; right = e.right; ends = e.ends }

    upper_before : (e : BeginsOn new from to y label) → BeforeCut AreStacked new old id other c e.by e.piece → BeginsOn old from to y label
    upper_before e (is_whole same is) =
        let l = c.parts.lower_columns.left in
        let r = c.parts.lower_columns.right in
        let n = c.parts.in_rows.from in
        let pl = ap (λ (z : Strip). z.area.x0) is in
        let pr = ap (λ (z : Strip). z.area.x1) is in
        let pn = ap (λ (z : Strip). z.area.y0) is in
        let el = e.left in let er = e.right in let ee = e.begins in
        record { by = id; piece = c.first; is_piece = c.first_is; has_label = c.first_label ∙ sym (ap (λ (z : Strip). z.label) is) ∙ e.has_label; left = omega (arith, ints); right = omega (arith, ints); begins = omega (arith, ints) }
    upper_before e (stays a b f) = record { by = e.by; piece = e.piece; is_piece = f; has_label = e.has_label; left = e.left; right = e.right; begins = e.begins }

  join_up_ledge : (from to y : ℤ) → IsLedge new from to y → IsLedge old from to y
  join_up_ledge from to y s = record {
    label = s.label;
    lower = lower_before from to y s.label s.lower (before_cut AreStacked new old id other c s.lower.by s.lower.piece s.lower.is_piece);
    upper = upper_before from to y s.label s.upper (before_cut AreStacked new old id other c s.upper.by s.upper.piece s.upper.is_piece);
  }

  grown : (n : TileId) (q : Strip) → BeforeCut AreStacked new old id other c n q → IsGrownDown old c.second.area.y0 q
  grown n q (is_whole same is) =
      let l = c.parts.upper_columns.left in
      let r = c.parts.upper_columns.right in
      let h = c.parts.in_rows.to in
      let pl = ap (λ (z : Strip). z.area.x0) is in
      let pr = ap (λ (z : Strip). z.area.x1) is in
      let pn = ap (λ (z : Strip). z.area.y1) is in
      record { by = other; was = c.second; is_piece = c.second_is; columns = record { left = omega (arith, ints); right = omega (arith, ints) }; high = omega (arith, ints); low = inr refl }
  grown n q (stays a b f) = record { by = n; was = q; is_piece = f; columns = record { left = refl; right = refl }; high = refl; low = inl refl }

  -- a join upwards makes neither a seam nor a ledge
  pub join_up_changes : (y : ℤ) → c.second.area.y0 ≡ y → AreJoinedAt old new y
  join_up_changes y e = record {
    labels = turned_labels new old (cut_labels AreStacked new old id other c (stacked_parts c.first.area c.second.area c.whole.area c.parts));
    seams = join_up_seam;
    ledges = join_up_ledge;
    pieces = λ n q k. let Q : ℤ → Type 0 = λ z. IsGrownDown old z q in subst Q e (grown n q (before_cut AreStacked new old id other c n q k));
  }

  module _ (domain : Rect) (fill : FillDomain old domain) (p : Point) (has : HasPoint c.second.area p) (begins : c.second.area.y0 ≡ p.y) where
    not_there : (n : TileId) (q : Strip) → HasPoint q.area p → p.y ≡ q.area.y0 → BeforeCut AreStacked new old id other c n q → ⊥
    not_there n q h b (is_whole same is) =
        let o = c.first.area.y_ordered in
        let k = c.parts.in_rows.from in
        let t = c.parts.in_rows.next in
        let e = ap (λ (z : Strip). z.area.y0) is in
        omega (arith, ints)
    not_there n q h b (stays a d f) = d (fill.apart n other q c.second p f c.second_is h has)

    -- after it there is no ledge where the two were joined
    pub join_up_gone : HasNoLedgeAt new p.x p.y
    join_up_gone from to l f t =
        let u = l.upper in
        not_there u.by u.piece (has_upper new from to p.y p.x l.label u f t) u.begins (before_cut AreStacked new old id other c u.by u.piece u.is_piece)
