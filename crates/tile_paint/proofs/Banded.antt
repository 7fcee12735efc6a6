-- A band that is joined from its left end to its right one has no seam left.
use Rattle.std.proofs.Common.{ℤ, pos, ◌≡◌, ◌⊎◌, inl, inr, ◌+ℤ◌, ◌-ℤ◌, ◌≤ℤ◌, ◌<ℤ◌, refl, sym, subst, ap, ◌∙◌, arith}
use Rattle.std.proofs.lemmas.Int.{ints, by_lt_z}
use Rattle.geo_rect.specs.declared.ids.Label.{Label}
use Rattle.geo_rect.specs.declared.shapes.Rect.{Rect}
use Rattle.geo_rect.specs.Axis.{HasNumber}
use Rattle.geo_rect.specs.Plane.{rows, HasPoint, LiesIn}
use Rattle.plane_core.specs.declared.strips.Strip.{Strip}
use Rattle.tile_store.specs.declared.tiles.TileId.{TileId}
use Rattle.tile_store.specs.Store.{Store}
use Rattle.stitch_walk.specs.Pieces.{IsPiece, FillDomain, HasLabel}
use Rattle.tile_paint.specs.declared.spots.Found.{Found}
use Rattle.tile_paint.specs.Changes.{HaveSameLabels}
use Rattle.tile_paint.specs.Edges.{EndsBefore, BeginsWith, IsSeam, IsLedge}
use Rattle.tile_paint.specs.States.{IsSeamFrom, IsLedgeFrom, IsBandOf, AreTall, foot, IsLeftEnd, IsRightEnd, IsWidened, IsWide, IsJoining, MeetsFrom, IsInnerFrom, IsBandJoined}
use Rattle.tile_paint.proofs.Axes.{spot}
use Rattle.tile_paint.proofs.AtPoints.{one_at}
use Rattle.tile_paint.proofs.Cutting.{one_piece}
use Rattle.tile_paint.proofs.JoinsUp.{has_upper}

-- the piece that a seam has on its left has the point there, and that on its right has the next one
pub left_point : (s : Store) (x y : ℤ) (label : Label) (e : EndsBefore s x y label) (z : ℤ) → x ≡ z +ℤ pos 1 → HasPoint e.piece.area (record { x = z; y = y })
left_point s x y label e z k =
    let o = e.piece.area.x_ordered in let f = e.ends in
    record { across = record { from = omega (arith, ints); to = omega (arith, ints) }; up = e.in_row }

pub right_point : (s : Store) (x y : ℤ) (label : Label) (e : BeginsWith s x y label) → HasPoint e.piece.area (record { x = x; y = y })
right_point s x y label e =
    let o = e.piece.area.x_ordered in let f = e.begins in
    record { across = record { from = omega (arith, ints); to = omega (arith, ints) }; up = e.in_row }

module _ (s : Store) (domain : Rect) (fill : FillDomain s domain) (area band : Rect) (inside : LiesIn area domain) (is_band : IsBandOf area band) where
  -- the first row of the band is in the domain
  foot_in_domain : (x y : ℤ) (q : Rect) → LiesIn q domain → HasPoint q (spot x y) → HasPoint domain (foot band x)
  foot_in_domain x y q l h =
      let a = l.across.from in let b = l.across.to in
      let i = h.across.from in let j = h.across.to in
      let c = inside.up.from in let d = inside.up.to in
      let e = is_band.from in let f = is_band.to in let o = band.y_ordered in
      record { across = record { from = omega (arith, ints); to = omega (arith, ints) }; up = record { from = omega (arith, ints); to = omega (arith, ints) } }

  stands : (m : Rect) (x y : ℤ) → HasPoint m (foot band x) → band.y1 ≤ℤ m.y1 → HasNumber (rows band) y → HasPoint m (spot x y)
  stands m x y h t r =
      let a = h.up.from in let b = r.from in let c = r.to in
      record { across = h.across; up = record { from = omega (arith, ints); to = omega (arith, ints) } }

  module _ (tall : AreTall s band) where
    -- a piece in the band, or right beside it, has the point of its column in the band's first row
    pub has_foot : (n : TileId) (q : Strip) (x y : ℤ) → IsPiece s n q → HasPoint q.area (spot x y) → HasNumber (rows band) y → (band.x0 -ℤ pos 1) ≤ℤ x → x ≤ℤ (band.x1 +ℤ pos 1) → HasPoint q.area (foot band x)
    has_foot n q x y e h r l u =
        let o = fill.covered (foot band x) (foot_in_domain x y q.area (fill.inside n q e) h) in
        let t = tall o.by o.piece (foot band x) o.is_piece o.has_point refl l u in
        let same = one_at s domain fill o.by n o.piece q (spot x y) o.is_piece e (stands o.piece.area x y o.has_point t r) h in
        let Q : Strip → Type 0 = λ z. HasPoint z.area (foot band x) in
        subst Q same o.has_point

    -- no piece begins in the band above its first row
    pub none_begins : (n : TileId) (q : Strip) (x y : ℤ) → IsPiece s n q → HasPoint q.area (spot x y) → y ≡ q.area.y0 → band.y0 <ℤ y → y ≤ℤ band.y1 → (band.x0 -ℤ pos 1) ≤ℤ x → x ≤ℤ (band.x1 +ℤ pos 1) → ⊥
    none_begins n q x y e h b less le l u =
        let r : HasNumber (rows band) y = record { from = omega (arith, ints); to = omega (arith, ints) } in
        let f = (has_foot n q x y e h r l u).up.from in
        omega (arith, ints)

module _ (before s : Store) (domain : Rect) (fill : FillDomain s domain) (area band : Rect) (label : Label) (wide : Rect) (joined : Found) (inside : LiesIn area domain) (is_band : IsBandOf area band) (w : IsWidened before band label wide) (iw : IsWide band wide) (labels : HaveSameLabels before s) (j : IsJoining s area band label wide joined) (reached : wide.x1 ≤ℤ joined.piece.area.x1) where
  -- the joined piece has the points of the widened band
  in_joined : (x y : ℤ) → wide.x0 ≤ℤ x → x ≤ℤ joined.piece.area.x1 → HasNumber (rows band) y → HasPoint joined.piece.area (spot x y)
  in_joined x y l u r =
      let b = j.begins in let f = r.from in let t = r.to in let jl = j.low in let jh = j.high in
      record { across = record { from = omega (arith, ints); to = omega (arith, ints) }; up = record { from = omega (arith, ints); to = omega (arith, ints) } }

  is_joined : (n : TileId) (q : Strip) (x y : ℤ) → IsPiece s n q → HasPoint q.area (spot x y) → wide.x0 ≤ℤ x → x ≤ℤ joined.piece.area.x1 → HasNumber (rows band) y → q ≡ joined.piece
  is_joined n q x y e h l u r = one_at s domain fill n joined.id q joined.piece (spot x y) e j.is_piece h (in_joined x y l u r)

  -- a piece of the label beside the band shows that its column has the label
  labelled_beside : (n : TileId) (q : Strip) (x y : ℤ) → IsPiece s n q → q.label ≡ label → HasPoint q.area (spot x y) → HasNumber (rows band) y → (band.x0 -ℤ pos 1) ≤ℤ x → x ≤ℤ (band.x1 +ℤ pos 1) → HasLabel before (foot band x) label
  labelled_beside n q x y e k h r l u = labels.back (foot band x) label (record { by = n; piece = q; is_piece = e; has_point = has_foot s domain fill area band inside is_band j.tall n q x y e h r l u; has_label = k })

  at_column : (x z : ℤ) → z ≡ x → HasLabel before (foot band z) label → HasLabel before (foot band x) label
  at_column x z e h = let Q : ℤ → Type 0 = λ v. HasLabel before (foot band v) label in subst Q e h

  module _ (x y : ℤ) (k : IsSeam s x y) (r : HasNumber (rows band) y) where
    -- no seam goes through the joined piece
    not_within : joined.piece.area.x0 <ℤ x → wide.x0 ≤ℤ x → x ≤ℤ joined.piece.area.x1 → ⊥
    not_within less l u =
        let e = ap (λ (z : Strip). z.area.x0) (is_joined k.right.by k.right.piece x y k.right.is_piece (right_point s x y k.label k.right) l u r) in
        let b = k.right.begins in
        omega (arith, ints)

    left_end : x ≡ joined.piece.area.x0 → band.x0 ≤ℤ x → IsLeftEnd before band label wide.x0 → ⊥
    left_end e le (inl f) = let b = j.begins in let g = f.0 in omega (arith, ints)
    left_end e le (inr f) =
        let b = j.begins in let g = f.0 in let o = joined.piece.area.x_ordered in let ob = band.x_ordered in let wr = j.reaches in
        let l : wide.x0 ≤ℤ x = omega (arith, ints) in
        let u : x ≤ℤ joined.piece.area.x1 = omega (arith, ints) in
        let is = ap (λ (z : Strip). z.label) (is_joined k.right.by k.right.piece x y k.right.is_piece (right_point s x y k.label k.right) l u r) in
        let c : x ≡ (band.x0 -ℤ pos 1) +ℤ pos 1 = omega (arith, ints) in
        f.1 (labelled_beside k.left.by k.left.piece (band.x0 -ℤ pos 1) y k.left.is_piece (k.left.has_label ∙ sym k.right.has_label ∙ is ∙ j.has_label) (left_point s x y k.label k.left (band.x0 -ℤ pos 1) c) r (omega (arith, ints)) (omega (arith, ints)))

    right_end : joined.piece.area.x1 <ℤ x → x ≤ℤ (band.x1 +ℤ pos 1) → IsRightEnd before band label wide.x1 → ⊥
    right_end less le (inl f) = let g = f.0 in omega (arith, ints)
    right_end less le (inr f) =
        let g = f.0 in let ob = band.x_ordered in let wb = iw.begins in
        let c : x ≡ band.x1 +ℤ pos 1 = omega (arith, ints) in
        let d : x ≡ band.x1 +ℤ pos 1 = c in
        let is = ap (λ (z : Strip). z.label) (is_joined k.left.by k.left.piece band.x1 y k.left.is_piece (left_point s x y k.label k.left band.x1 d) (omega (arith, ints)) (omega (arith, ints)) r) in
        f.1 (at_column (band.x1 +ℤ pos 1) x c (labelled_beside k.right.by k.right.piece x y k.right.is_piece (k.right.has_label ∙ sym k.left.has_label ∙ is ∙ j.has_label) (right_point s x y k.label k.right) r (omega (arith, ints)) (omega (arith, ints))))

    no_seam_in_band : IsSeamFrom area band.y0 x y → ⊥
    no_seam_in_band f =
        let bl = is_band.left in let br = is_band.right in
        let fl = f.left in let fr = f.right in
        let wb = iw.begins in let jb = j.begins in
        by_lt_z joined.piece.area.x1 x
        (λ beyond. right_end beyond (omega (arith, ints)) w.right)
        (λ within. by_lt_z joined.piece.area.x0 x
        (λ after. not_within after (omega (arith, ints)) within)
        (λ at. left_end (omega (arith, ints)) (omega (arith, ints)) w.left))

  seams_above : (x y : ℤ) → IsSeam s x y → IsSeamFrom area (band.y1 +ℤ pos 1) x y
  seams_above x y k =
      let f = j.open_from.seams x y k in
      let a = f.from in
      by_lt_z band.y1 y
      (λ above. let r : IsSeamFrom area (band.y1 +ℤ pos 1) x y = record { from = omega (arith, ints); to = f.to; left = f.left; right = f.right } in r)
      (λ le. absurd (no_seam_in_band x y k (record { from = omega (arith, ints); to = le }) f))

  module _ (first last y : ℤ) (k : IsLedge s first last y) (f : IsLedgeFrom area band.y0 first last y) where
    columns_ordered : first ≤ℤ last
    columns_ordered = let a = k.upper.left in let b = k.upper.right in let o = k.upper.piece.area.x_ordered in omega (arith, ints)

    not_at : (x : ℤ) → first ≤ℤ x → x ≤ℤ last → (band.x0 -ℤ pos 1) ≤ℤ x → x ≤ℤ (band.x1 +ℤ pos 1) → band.y0 <ℤ y → y ≤ℤ band.y1 → ⊥
    not_at x l u a b less le = none_begins s domain fill area band inside is_band j.tall k.upper.by k.upper.piece x y k.upper.is_piece (has_upper s first last y x k.label k.upper l u) k.upper.begins less le a b

    no_ledge_in_band : band.y0 <ℤ y → y ≤ℤ band.y1 → ⊥
    no_ledge_in_band less le =
        let bl = is_band.left in let br = is_band.right in let fl = f.left in let fr = f.right in let o = columns_ordered in let ob = band.x_ordered in
        by_lt_z first (band.x0 -ℤ pos 1)
        (λ before_it. not_at (band.x0 -ℤ pos 1) (omega (arith, ints)) (omega (arith, ints)) (omega (arith, ints)) (omega (arith, ints)) less le)
        (λ after. not_at first (omega (arith, ints)) o after (omega (arith, ints)) less le)

    row_of_ledge : (y ≡ band.y0) ⊎ ((band.y1 +ℤ pos 1) ≤ℤ y)
    row_of_ledge =
        let a = f.from in
        by_lt_z band.y0 y
        (λ less. by_lt_z band.y1 y
        (λ above. inr (let r : (band.y1 +ℤ pos 1) ≤ℤ y = omega (arith, ints) in r))
        (λ le. absurd (no_ledge_in_band less le)))
        (λ at. inl (let r : y ≡ band.y0 = omega (arith, ints) in r))

  module _ (n : TileId) (q : Strip) (e : IsPiece s n q) (m : MeetsFrom area (band.y1 +ℤ pos 1) q.area) where
    not_joined : q ≡ joined.piece → ⊥
    not_joined is =
        let k = ap (λ (z : Strip). z.area.y1) is in
        let h = j.high in let a = m.from in let b = m.in_first.up.to in
        omega (arith, ints)

    not_low : IsInnerFrom area band.y0 q.area → q.area.y0 ≤ℤ band.y1 → ⊥
    not_low i le =
        let ox = q.area.x_ordered in let oy = q.area.y_ordered in
        let a = i.inside.across.from in let b = i.inside.across.to in let c = i.from in
        let bl = is_band.left in let br = is_band.right in let wb = iw.begins in let we = iw.ends in
        let h : HasPoint q.area (spot q.area.x0 q.area.y0) = record { across = record { from = omega (arith, ints); to = ox }; up = record { from = omega (arith, ints); to = oy } } in
        not_joined (is_joined n q q.area.x0 q.area.y0 e h (omega (arith, ints)) (omega (arith, ints)) (record { from = c; to = le }))

    inner_of : (n ≡ joined.id) ⊎ IsInnerFrom area band.y0 q.area → IsInnerFrom area (band.y1 +ℤ pos 1) q.area
    inner_of (inl same) =
        let Q : TileId → Type 0 = λ z. IsPiece s z q in
        absurd (not_joined (one_piece s joined.id q joined.piece (subst Q same e) j.is_piece))
    inner_of (inr i) =
        by_lt_z band.y1 q.area.y0
        (λ above. let r : IsInnerFrom area (band.y1 +ℤ pos 1) q.area = record { inside = i.inside; from = omega (arith, ints) } in r)
        (λ le. absurd (not_low i le))

  lower_meets : (q : Rect) → MeetsFrom area (band.y1 +ℤ pos 1) q → MeetsFrom area band.y0 q
  lower_meets q m = let a = m.from in let o = band.y_ordered in record { meets_at = m.meets_at; in_first = m.in_first; in_second = m.in_second; from = omega (arith, ints) }

  -- when the right end of the widened band is reached
  pub band_joined : IsBandJoined s area band
  band_joined = record {
    seams = seams_above;
    ledges = λ first last y k. j.open_from.ledges first last y k;
    rows_of_ledges = λ first last y k. row_of_ledge first last y k (j.open_from.ledges first last y k);
    inner = λ n q e m. inner_of n q e m (j.inner n q e (lower_meets q.area m));
  }
