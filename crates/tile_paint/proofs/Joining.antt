-- The pieces of a band are joined from left to right: the first, and the next.
use Rattle.std.proofs.Common.{ℤ, pos, ◌≡◌, ◌≢◌, ◌⊎◌, inl, inr, ◌+ℤ◌, ◌-ℤ◌, ◌≤ℤ◌, ◌<ℤ◌, refl, sym, subst, ap, ◌∙◌, arith}
use Rattle.std.proofs.lemmas.Int.{ints, by_lt_z}
use Rattle.geo_rect.specs.declared.ids.Label.{Label}
use Rattle.geo_rect.specs.declared.shapes.Interval.{Interval}
use Rattle.geo_rect.specs.declared.shapes.Point.{Point}
use Rattle.geo_rect.specs.declared.shapes.Rect.{Rect}
use Rattle.geo_rect.specs.Axis.{HasNumber}
use Rattle.geo_rect.specs.Plane.{columns, rows, rect_of, HasPoint, LiesIn}
use Rattle.plane_core.specs.declared.strips.Strip.{Strip}
use Rattle.tile_store.specs.declared.tiles.TileId.{TileId}
use Rattle.tile_store.specs.Store.{Store}
use Rattle.stitch_walk.specs.Pieces.{IsPiece, AreInLine, CanJoin, FillDomain, HasLabel, IsCut, IsJoined}
use Rattle.tile_paint.specs.declared.spots.Found.{Found}
use Rattle.tile_paint.specs.Changes.{HaveSameLabels, IsNarrowed, IsFitted}
use Rattle.tile_paint.specs.States.{Touches, IsOpenFrom, IsReadyFrom, IsBandOf, AreTall, foot, IsLeftEnd, IsRightEnd, IsWidened, IsWide, IsJoining, MeetsFrom, IsInnerFrom}
use Rattle.tile_paint.proofs.AtPoints.{one_at, label_of_piece}
use Rattle.tile_paint.proofs.Cutting.{one_piece, BeforeCut, before_cut}
use Rattle.tile_paint.proofs.Cutting.BeforeCut.{is_whole, stays}
use Rattle.tile_paint.proofs.Fitting.{fit_tall, fit_inner, fitted_low, fitted_high}
use Rattle.tile_paint.proofs.JoinsSide.{open_after_side_join, side_join_labels, side_join_tall}
use Rattle.tile_paint.proofs.Narrowing.{labels_twice}

wide_left : (s : Store) (band : Rect) (label : Label) (from : ℤ) → IsLeftEnd s band label from → ((band.x0 -ℤ pos 1) ≤ℤ from) × (from ≤ℤ band.x0)
wide_left s band label from (inl e) = let k = e.0 in (omega (arith, ints), omega (arith, ints))
wide_left s band label from (inr e) = let k = e.0 in (omega (arith, ints), omega (arith, ints))

wide_right : (s : Store) (band : Rect) (label : Label) (to : ℤ) → IsRightEnd s band label to → (band.x1 ≤ℤ to) × (to ≤ℤ (band.x1 +ℤ pos 1))
wide_right s band label to (inl e) = let k = e.0 in (omega (arith, ints), omega (arith, ints))
wide_right s band label to (inr e) = let k = e.0 in (omega (arith, ints), omega (arith, ints))

pub is_wide : (s : Store) (band : Rect) (label : Label) (wide : Rect) → IsWidened s band label wide → IsWide band wide
is_wide s band label wide w =
    let l = wide_left s band label wide.x0 w.left in
    let r = wide_right s band label wide.x1 w.right in
    record { from_left = l.0; begins = l.1; ends = r.0; to_right = r.1 }

-- a piece that has a point of the band's first row
pub record IsThrough (band : Rect) (x : ℤ) (r : Rect) : Type 0 where
  pub begins : r.x0 ≤ℤ x
  pub ends : x ≤ℤ r.x1
  pub low : r.y0 ≤ℤ band.y0
  pub high : band.y0 ≤ℤ r.y1

pub is_through : (band : Rect) (x : ℤ) (r : Rect) (p : Point) → p.x ≡ x → p.y ≡ band.y0 → HasPoint r p → IsThrough band x r
is_through band x r p e f h =
    let a = h.across.from in let b = h.across.to in let c = h.up.from in let d = h.up.to in
    record { begins = omega (arith, ints); ends = omega (arith, ints); low = omega (arith, ints); high = omega (arith, ints) }

pub through_point : (band : Rect) (x : ℤ) (r : Rect) → IsThrough band x r → HasPoint r (foot band x)
through_point band x r t = record { across = record { from = t.begins; to = t.ends }; up = record { from = t.low; to = t.high } }

pub through_touches : (area band wide : Rect) (x : ℤ) (r : Rect) → IsBandOf area band → IsWide band wide → wide.x0 ≤ℤ x → x ≤ℤ wide.x1 → IsThrough band x r → Touches area r
through_touches area band wide x r b w l h t =
    let bl = b.left in let br = b.right in
    let wl = w.from_left in let wr = w.to_right in
    let tb = t.begins in let te = t.ends in
    record { left = omega (arith, ints); right = omega (arith, ints) }

pub through_ends : (band : Rect) (x : ℤ) (r : Rect) → IsThrough band x r → r.y0 ≤ℤ band.y1
through_ends band x r t = let o = band.y_ordered in let k = t.low in omega (arith, ints)

in_band : (area band : Rect) (x : ℤ) → IsBandOf area band → band.x0 ≤ℤ x → x ≤ℤ band.x1 → HasPoint area (foot band x)
in_band area band x b l r =
    let bl = b.left in let br = b.right in let bf = b.from in let bt = b.to in let o = band.y_ordered in
    record { across = record { from = omega (arith, ints); to = omega (arith, ints) }; up = record { from = omega (arith, ints); to = omega (arith, ints) } }

module _ (s : Store) (area band : Rect) (label : Label) (wide : Rect) (is_band : IsBandOf area band) (ready : IsReadyFrom s area label band.y0) (w : IsWidened s band label wide) where
  at_column : (x z : ℤ) → z ≡ x → HasLabel s (foot band z) label → HasLabel s (foot band x) label
  at_column x z e h = let Q : ℤ → Type 0 = λ v. HasLabel s (foot band v) label in subst Q e h

  left_labelled : (x : ℤ) → x <ℤ band.x0 → wide.x0 ≤ℤ x → IsLeftEnd s band label wide.x0 → HasLabel s (foot band x) label
  left_labelled x less h (inl e) = at_column x (band.x0 -ℤ pos 1) (let k = e.0 in omega (arith, ints)) e.1
  left_labelled x less h (inr e) = absurd (let k = e.0 in omega (arith, ints))

  right_labelled : (x : ℤ) → band.x1 <ℤ x → x ≤ℤ wide.x1 → IsRightEnd s band label wide.x1 → HasLabel s (foot band x) label
  right_labelled x less h (inl e) = at_column x (band.x1 +ℤ pos 1) (let k = e.0 in omega (arith, ints)) e.1
  right_labelled x less h (inr e) = absurd (let k = e.0 in omega (arith, ints))

  -- the first row of the widened band has the label
  pub wide_labelled : (x : ℤ) → HasNumber (columns wide) x → HasLabel s (foot band x) label
  wide_labelled x h =
      by_lt_z x band.x0 (λ less. left_labelled x less h.from w.left) (λ more.
      by_lt_z band.x1 x (λ beyond. right_labelled x beyond h.to w.right) (λ within.
      ready.painted (foot band x) (in_band area band x is_band more within)))

  module _ (new : Store) (domain : Rect) (fill_old : FillDomain s domain) (fill : FillDomain new domain) (tall : AreTall s band) (f g : Found) (was : IsPiece s f.id f.piece) (t : IsThrough band wide.x0 f.piece.area) (n : IsNarrowed s new f g) (fitted : IsFitted band f.piece.area g.piece.area) (open_from : IsOpenFrom new area band.y0) where
    high_enough : band.y1 ≤ℤ f.piece.area.y1
    high_enough =
        let k = is_wide s band label wide w in
        let a = k.from_left in let b = k.begins in let o = band.x_ordered in
        tall f.id f.piece (foot band wide.x0) was (through_point band wide.x0 f.piece.area t) refl (omega (arith, ints)) (omega (arith, ints))

    first_label : g.piece.label ≡ label
    first_label =
        let o = wide.x_ordered in
        n.same_label ∙ label_of_piece s domain fill_old f.id f.piece (foot band wide.x0) label was (through_point band wide.x0 f.piece.area t) (wide_labelled wide.x0 (record { from = omega (arith, ints); to = omega (arith, ints) }))

    -- the first piece, cut at the band's edges
    pub joining_begins : IsJoining new area band label wide g
    joining_begins =
        let l = fitted.columns.left in let r = fitted.columns.right in
        let b = t.begins in let e = t.ends in
        record {
          is_piece = n.is_piece;
          has_label = first_label;
          low = fitted_low band f.piece.area g.piece.area fitted t.low;
          high = fitted_high band f.piece.area g.piece.area fitted high_enough;
          begins = omega (arith, ints);
          reaches = omega (arith, ints);
          open_from = open_from;
          tall = fit_tall s new domain fill band f g n fitted tall high_enough;
          inner = fit_inner s new domain fill band f g n fitted area band.y0 g.id (λ k q i m. inr (ready.inner k q i m)) (λ m. ready.inner f.id f.piece was m);
          labelled = λ x h. n.labels.onward (foot band x) label (wide_labelled x h);
        }

-- a point of the first row of the widened band is in the domain
pub wide_in_domain : (band wide domain : Rect) (x : ℤ) (p : Point) → wide.y0 ≡ band.y0 → LiesIn wide domain → HasNumber (columns wide) x → p.x ≡ x → p.y ≡ band.y0 → HasPoint domain p
wide_in_domain band wide domain x p row l h e f =
    let o = wide.y_ordered in
    let a = l.across.from in let b = l.across.to in let c = l.up.from in let d = l.up.to in
    let i = h.from in let j = h.to in
    record { across = record { from = omega (arith, ints); to = omega (arith, ints) }; up = record { from = omega (arith, ints); to = omega (arith, ints) } }

pub next_in_wide : (s : Store) (area band : Rect) (label : Label) (wide : Rect) (joined : Found) → IsJoining s area band label wide joined → joined.piece.area.x1 <ℤ wide.x1 → (x : ℤ) → x ≡ joined.piece.area.x1 +ℤ pos 1 → HasNumber (columns wide) x
next_in_wide s area band label wide joined j more x e = let r = j.reaches in record { from = omega (arith, ints); to = omega (arith, ints) }

module _ (s : Store) (domain : Rect) (fill_old : FillDomain s domain) (area band : Rect) (label : Label) (wide : Rect) (joined : Found) (is_band : IsBandOf area band) (w : IsWide band wide) (j : IsJoining s area band label wide joined) (more : joined.piece.area.x1 <ℤ wide.x1) (x : ℤ) (next_column : x ≡ joined.piece.area.x1 +ℤ pos 1) where
  module _ (f : Found) (was : IsPiece s f.id f.piece) (t : IsThrough band x f.piece.area) where
    differs : joined.id ≢ f.id
    differs same =
        let Q : TileId → Type 0 = λ n. IsPiece s n joined.piece in
        let e = ap (λ (z : Strip). z.area.x1) (one_piece s f.id joined.piece f.piece (subst Q same j.is_piece) was) in
        let k = t.ends in
        absurd (omega (arith, ints))

    next_high : band.y1 ≤ℤ f.piece.area.y1
    next_high =
        let a = w.from_left in let b = w.to_right in let r = j.reaches in
        j.tall f.id f.piece (foot band x) was (through_point band x f.piece.area t) refl (omega (arith, ints)) (omega (arith, ints))

    next_inner : MeetsFrom area band.y0 f.piece.area → IsInnerFrom area band.y0 f.piece.area
    next_inner m = elim (j.inner f.id f.piece was m) [ inl same ↦ absurd (differs (sym same)) | inr i ↦ i ]

    module _ (middle : Store) (g : Found) (fill : FillDomain middle domain) (n : IsNarrowed s middle f g) (fitted : IsFitted band f.piece.area g.piece.area) (open_from : IsOpenFrom middle area band.y0) where
      still_joined : IsPiece middle joined.id joined.piece
      still_joined = (n.kept joined.id joined.piece differs j.is_piece).is_piece

      tall_now : AreTall middle band
      tall_now = fit_tall s middle domain fill band f g n fitted j.tall next_high

      inner_now : (k : TileId) (q : Strip) → IsPiece middle k q → MeetsFrom area band.y0 q.area → (k ≡ joined.id) ⊎ IsInnerFrom area band.y0 q.area
      inner_now = fit_inner s middle domain fill band f g n fitted area band.y0 joined.id j.inner next_inner

      g_low : g.piece.area.y0 ≡ band.y0
      g_low = fitted_low band f.piece.area g.piece.area fitted t.low

      g_high : g.piece.area.y1 ≡ band.y1
      g_high = fitted_high band f.piece.area g.piece.area fitted next_high

      g_label : g.piece.label ≡ label
      g_label = n.same_label ∙ label_of_piece s domain fill_old f.id f.piece (foot band x) label was (through_point band x f.piece.area t) (j.labelled x (next_in_wide s area band label wide joined j more x next_column))

      not_inside : g.piece.area.x0 ≤ℤ joined.piece.area.x1 → ⊥
      not_inside le =
          let l = fitted.columns.left in let r = fitted.columns.right in
          let k = t.ends in let o = joined.piece.area.x_ordered in let v = band.y_ordered in
          let gl = g_low in let gh = g_high in let jl = j.low in let jh = j.high in
          let h : HasPoint g.piece.area (foot band joined.piece.area.x1) = record { across = record { from = omega (arith, ints); to = omega (arith, ints) }; up = record { from = omega (arith, ints); to = omega (arith, ints) } } in
          let i : HasPoint joined.piece.area (foot band joined.piece.area.x1) = record { across = record { from = omega (arith, ints); to = omega (arith, ints) }; up = record { from = omega (arith, ints); to = omega (arith, ints) } } in
          let e = ap (λ (z : Strip). z.area.x1) (one_at middle domain fill joined.id g.id joined.piece g.piece (foot band joined.piece.area.x1) still_joined n.is_piece i h) in
          omega (arith, ints)

      begins_next : g.piece.area.x0 ≡ joined.piece.area.x1 +ℤ pos 1
      begins_next =
          let l = fitted.columns.left in let k = t.begins in
          by_lt_z joined.piece.area.x1 g.piece.area.x0
          (λ less. let r : g.piece.area.x0 ≡ joined.piece.area.x1 +ℤ pos 1 = omega (arith, ints) in r)
          (λ le. absurd (not_inside le))

      both_ordered : joined.piece.area.x0 ≤ℤ g.piece.area.x1
      both_ordered = let a = joined.piece.area.x_ordered in let b = g.piece.area.x_ordered in let e = begins_next in omega (arith, ints)

      pub can_join_next : CanJoin AreInLine middle joined.id
      can_join_next =
          let c : Interval = record { low = joined.piece.area.x0; high = g.piece.area.x1; ordered = both_ordered } in
          let gl = g_low in let gh = g_high in let jl = j.low in let jh = j.high in
          record {
            other = g.id;
            first = joined.piece;
            second = g.piece;
            whole = rect_of c (rows joined.piece.area);
            first_is = still_joined;
            second_is = n.is_piece;
            parts = record {
              left_rows = record { below = refl; above = refl };
              right_rows = record { below = omega (arith, ints); above = omega (arith, ints) };
              in_columns = record { from = refl; next = begins_next; to = refl };
            };
            same_label = j.has_label ∙ sym g_label;
          }

      module _ (new : Store) (k : IsJoined AreInLine middle new joined.id) where
        c : IsCut AreInLine new middle joined.id k.other
        c = k.as_cut

        first_is : c.first ≡ joined.piece
        first_is = one_piece middle joined.id c.first joined.piece c.first_is still_joined

        wider : joined.piece.area.x1 <ℤ c.whole.area.x1
        wider =
            let e = ap (λ (z : Strip). z.area.x1) first_is in
            let a = c.parts.in_columns.next in let b = c.parts.in_columns.to in
            let o = c.second.area.x_ordered in
            omega (arith, ints)

        whole_low : c.whole.area.y0 ≡ band.y0
        whole_low = let e = ap (λ (z : Strip). z.area.y0) first_is in let a = c.parts.left_rows.below in let b = j.low in omega (arith, ints)

        whole_high : c.whole.area.y1 ≡ band.y1
        whole_high = let e = ap (λ (z : Strip). z.area.y1) first_is in let a = c.parts.left_rows.above in let b = j.high in omega (arith, ints)

        whole_begins : c.whole.area.x0 ≤ℤ wide.x0
        whole_begins = let e = ap (λ (z : Strip). z.area.x0) first_is in let a = c.parts.in_columns.from in let b = j.begins in omega (arith, ints)

        whole_reaches : wide.x0 ≤ℤ c.whole.area.x1
        whole_reaches = let a = wider in let b = j.reaches in omega (arith, ints)

        whole_touches : Touches area c.whole.area
        whole_touches =
            let a = whole_begins in let b = whole_reaches in
            let bl = is_band.left in let br = is_band.right in
            let wl = w.from_left in let wb = w.begins in let o = area.x_ordered in
            record { left = omega (arith, ints); right = omega (arith, ints) }

        inner_of : (m : TileId) (q : Strip) → MeetsFrom area band.y0 q.area → BeforeCut AreInLine new middle joined.id k.other c m q → (m ≡ joined.id) ⊎ IsInnerFrom area band.y0 q.area
        inner_of m q i (is_whole same is) = inl same
        inner_of m q i (stays a b e) = inner_now m q e i

        pub labels_kept : HaveSameLabels s new
        labels_kept = labels_twice s middle new n.labels (side_join_labels middle new joined.id k.other c)

        joining_whole : (r : Found) → r.id ≡ joined.id → r.piece ≡ c.whole → IsPiece new r.id r.piece → IsJoining new area band label wide r
        joining_whole r e is now =
            let x0 = ap (λ (z : Strip). z.area.x0) is in let x1 = ap (λ (z : Strip). z.area.x1) is in
            let y0 = ap (λ (z : Strip). z.area.y0) is in let y1 = ap (λ (z : Strip). z.area.y1) is in
            let wl = whole_low in let wh = whole_high in let wb = whole_begins in let wr = whole_reaches in
            let to : c.whole.area.y1 ≤ℤ area.y1 = (let a = is_band.to in omega (arith, ints)) in
            record {
              is_piece = now;
              has_label = ap (λ (z : Strip). z.label) is ∙ sym c.first_label ∙ ap (λ (z : Strip). z.label) first_is ∙ j.has_label;
              low = omega (arith, ints);
              high = omega (arith, ints);
              begins = omega (arith, ints);
              reaches = omega (arith, ints);
              open_from = open_after_side_join middle new joined.id k.other c area band.y0 open_from whole_touches (omega (arith, ints)) to;
              tall = side_join_tall middle new joined.id k.other c band tall_now;
              inner = λ m q i v. let Q : TileId → Type 0 = λ z. (m ≡ z) ⊎ IsInnerFrom area band.y0 q.area in subst Q (sym e) (inner_of m q v (before_cut AreInLine new middle joined.id k.other c m q i));
              labelled = λ z h. labels_kept.onward (foot band z) label (j.labelled z h);
            }

        -- the piece that was read after the join
        pub joining_goes_on : (r : Found) → r.id ≡ joined.id → IsPiece new joined.id r.piece → IsJoining new area band label wide r
        joining_goes_on r e now =
            let Q : TileId → Type 0 = λ z. IsPiece new z r.piece in
            joining_whole r e (one_piece new joined.id r.piece c.whole now c.was) (subst Q (sym e) now)

        pub next_wider : (r : Found) → IsPiece new joined.id r.piece → joined.piece.area.x1 <ℤ r.piece.area.x1
        next_wider r now =
            let is = ap (λ (z : Strip). z.area.x1) (one_piece new joined.id r.piece c.whole now c.was) in
            let a = wider in
            omega (arith, ints)
