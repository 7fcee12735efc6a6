-- What is left of a piece after it was cut at an edge of the band or of the area.
use Rattle.std.proofs.Common.{ℤ, pos, ◌≡◌, ◌+ℤ◌, ◌≤ℤ◌, ◌<ℤ◌, sym, subst, ◌∙◌, refl, arith}
use Rattle.std.specs.Int.{int_max, int_min}
use Rattle.std.proofs.lemmas.Int.{ints, clamps}
use Rattle.geo_rect.specs.declared.shapes.Rect.{Rect}
use Rattle.geo_rect.specs.declared.shapes.Interval.{Interval}
use Rattle.geo_rect.specs.Axis.{IsOverlap, LiesWithin}
use Rattle.geo_rect.specs.Plane.{columns, rows, IsMeet}
use Rattle.plane_core.specs.Choice.{Meets}
use Rattle.plane_core.specs.declared.strips.Strip.{Strip}
use Rattle.plane_core.specs.LocalForm.{HaveSameColumns}
use Rattle.tile_store.specs.declared.tiles.TileId.{TileId}
use Rattle.tile_store.specs.Store.{Store, HasSameTiles}
use Rattle.stitch_walk.specs.Pieces.{IsPiece, IsCut, AreStacked, AreInLine, CanCutAtRow, CanCutAtColumn, HaveSameRows}
use Rattle.tile_paint.specs.declared.spots.Found.{Found}
use Rattle.tile_paint.specs.Changes.{IsNarrowed, IsFrom, IsUpTo, IsRightFrom, IsLeftUpTo, IsFitted}
use Rattle.tile_paint.specs.States.{Touches, IsOpenFrom, IsBandOf}
use Rattle.tile_paint.proofs.Axes.{stacked_parts, line_parts}
use Rattle.tile_paint.proofs.Cutting.{one_piece}
use Rattle.tile_paint.proofs.Narrowing.{same_piece, cut_after, narrowed_to_first, narrowed_to_second}
use Rattle.tile_paint.proofs.Opening.{open_after_row_cut, open_after_column_cut}

pub can_cut_row : (old middle : Store) (id : TileId) (p : Strip) (y : ℤ) → HasSameTiles old middle → IsPiece old id p → p.area.y0 <ℤ y → y ≤ℤ p.area.y1 → CanCutAtRow middle id y
can_cut_row old middle id p y same is a b = record { piece = p; is_piece = same_piece old middle same id ∙ is; after_first = a; to_last = b }

pub can_cut_column : (old middle : Store) (id : TileId) (p : Strip) (x : ℤ) → HasSameTiles old middle → IsPiece old id p → p.area.x0 <ℤ x → x ≤ℤ p.area.x1 → CanCutAtColumn middle id x
can_cut_column old middle id p x same is a b = record { piece = p; is_piece = same_piece old middle same id ∙ is; after_first = a; to_last = b }

-- a piece that begins in the band or above it
pub all_from : (y : ℤ) (r : Rect) → y ≤ℤ r.y0 → IsFrom y r r
all_from y r h = record { columns = record { left = refl; right = refl }; low = omega (arith, ints, clamps); high = refl }

pub all_up_to : (y : ℤ) (r : Rect) → r.y1 ≤ℤ y → IsUpTo y r r
all_up_to y r h = record { columns = record { left = refl; right = refl }; low = refl; high = omega (arith, ints, clamps) }

pub all_right_from : (x : ℤ) (r : Rect) → x ≤ℤ r.x0 → IsRightFrom x r r
all_right_from x r h = record { rows = record { below = refl; above = refl }; low = omega (arith, ints, clamps); high = refl }

pub all_left_up_to : (x : ℤ) (r : Rect) → r.x1 ≤ℤ x → IsLeftUpTo x r r
all_left_up_to x r h = record { rows = record { below = refl; above = refl }; low = refl; high = omega (arith, ints, clamps) }

module _ (old middle new : Store) (f g : Found) (other : TileId) (same : HasSameTiles old middle) (was : IsPiece old f.id f.piece) (now : IsPiece new g.id g.piece) where
  module _ (cut : IsCut AreStacked middle new f.id other) (y : ℤ) (begins : (p : Strip) → IsPiece new other p → p.area.y0 ≡ y) where
    c : IsCut AreStacked old new f.id other
    c = cut_after AreStacked old middle new f.id other same cut

    whole_is : c.whole ≡ f.piece
    whole_is = one_piece old f.id c.whole f.piece c.was was

    pub row_cut_open : (area : Rect) (a : ℤ) → IsOpenFrom old area a → Touches area f.piece.area → a ≤ℤ y → y ≤ℤ (area.y1 +ℤ pos 1) → IsOpenFrom new area a
    row_cut_open area a o t from to =
        let Q : Strip → Type 0 = λ z. Touches area z.area in
        let b : c.second.area.y0 ≡ y = begins c.second c.second_is in
        open_after_row_cut old new f.id other area a o c (subst Q (sym whole_is) t) (omega (arith, ints)) (omega (arith, ints))

    pub row_cut_upper : g.id ≡ other → IsNarrowed old new f g
    row_cut_upper e = narrowed_to_second AreStacked old new f g other c (stacked_parts c.first.area c.second.area c.whole.area c.parts) was now e

    pub row_cut_lower : g.id ≡ f.id → IsNarrowed old new f g
    row_cut_lower e = narrowed_to_first AreStacked old new f g other c (stacked_parts c.first.area c.second.area c.whole.area c.parts) was now e

    pub upper_rest : g.id ≡ other → f.piece.area.y0 <ℤ y → IsFrom y f.piece.area g.piece.area
    upper_rest e less =
        let Q : TileId → Type 0 = λ n. IsPiece new n g.piece in
        let one : g.piece ≡ c.second = one_piece new other g.piece c.second (subst Q e now) c.second_is in
        let R : Strip → Type 0 = λ z. IsFrom y z.area g.piece.area in
        let S : Strip → Type 0 = λ z. IsFrom y c.whole.area z.area in
        let b : c.second.area.y0 ≡ y = begins c.second c.second_is in
        let h = c.parts.in_rows.to in
        let l : c.whole.area.y0 <ℤ y = subst (λ (z : Strip). z.area.y0 <ℤ y) (sym whole_is) less in
        subst R whole_is (subst S (sym one) (record { columns = c.parts.upper_columns; low = omega (arith, ints, clamps); high = h }))

    pub lower_rest : (last : ℤ) → g.id ≡ f.id → y ≡ last +ℤ pos 1 → last <ℤ f.piece.area.y1 → IsUpTo last f.piece.area g.piece.area
    lower_rest last e next less =
        let Q : TileId → Type 0 = λ n. IsPiece new n g.piece in
        let one : g.piece ≡ c.first = one_piece new f.id g.piece c.first (subst Q e now) c.first_is in
        let R : Strip → Type 0 = λ z. IsUpTo last z.area g.piece.area in
        let S : Strip → Type 0 = λ z. IsUpTo last c.whole.area z.area in
        let b : c.second.area.y0 ≡ y = begins c.second c.second_is in
        let h = c.parts.in_rows.next in
        let k = c.parts.in_rows.from in
        let l : last <ℤ c.whole.area.y1 = subst (λ (z : Strip). last <ℤ z.area.y1) (sym whole_is) less in
        subst R whole_is (subst S (sym one) (record { columns = c.parts.lower_columns; low = k; high = omega (arith, ints, clamps) }))

  module _ (cut : IsCut AreInLine middle new f.id other) (x : ℤ) (begins : (p : Strip) → IsPiece new other p → p.area.x0 ≡ x) where
    d : IsCut AreInLine old new f.id other
    d = cut_after AreInLine old middle new f.id other same cut

    line_whole_is : d.whole ≡ f.piece
    line_whole_is = one_piece old f.id d.whole f.piece d.was was

    pub column_cut_open : (area : Rect) → IsOpenFrom old area area.y0 → LiesWithin (rows f.piece.area) (rows area) → area.x0 ≤ℤ x → x ≤ℤ (area.x1 +ℤ pos 1) → IsOpenFrom new area area.y0
    column_cut_open area o w from to =
        let Q : Strip → Type 0 = λ z. LiesWithin (rows z.area) (rows area) in
        let b : d.second.area.x0 ≡ x = begins d.second d.second_is in
        open_after_column_cut old new f.id other area o d (subst Q (sym line_whole_is) w) (omega (arith, ints)) (omega (arith, ints))

    pub column_cut_right : g.id ≡ other → IsNarrowed old new f g
    column_cut_right e = narrowed_to_second AreInLine old new f g other d (line_parts d.first.area d.second.area d.whole.area d.parts) was now e

    pub column_cut_left : g.id ≡ f.id → IsNarrowed old new f g
    column_cut_left e = narrowed_to_first AreInLine old new f g other d (line_parts d.first.area d.second.area d.whole.area d.parts) was now e

    pub right_rest : g.id ≡ other → f.piece.area.x0 <ℤ x → IsRightFrom x f.piece.area g.piece.area
    right_rest e less =
        let Q : TileId → Type 0 = λ n. IsPiece new n g.piece in
        let one : g.piece ≡ d.second = one_piece new other g.piece d.second (subst Q e now) d.second_is in
        let R : Strip → Type 0 = λ z. IsRightFrom x z.area g.piece.area in
        let S : Strip → Type 0 = λ z. IsRightFrom x d.whole.area z.area in
        let b : d.second.area.x0 ≡ x = begins d.second d.second_is in
        let h = d.parts.in_columns.to in
        let l : d.whole.area.x0 <ℤ x = subst (λ (z : Strip). z.area.x0 <ℤ x) (sym line_whole_is) less in
        subst R line_whole_is (subst S (sym one) (record { rows = d.parts.right_rows; low = omega (arith, ints, clamps); high = h }))

    pub left_rest : (last : ℤ) → g.id ≡ f.id → x ≡ last +ℤ pos 1 → last <ℤ f.piece.area.x1 → IsLeftUpTo last f.piece.area g.piece.area
    left_rest last e next less =
        let Q : TileId → Type 0 = λ n. IsPiece new n g.piece in
        let one : g.piece ≡ d.first = one_piece new f.id g.piece d.first (subst Q e now) d.first_is in
        let R : Strip → Type 0 = λ z. IsLeftUpTo last z.area g.piece.area in
        let S : Strip → Type 0 = λ z. IsLeftUpTo last d.whole.area z.area in
        let b : d.second.area.x0 ≡ x = begins d.second d.second_is in
        let h = d.parts.in_columns.next in
        let k = d.parts.in_columns.from in
        let l : last <ℤ d.whole.area.x1 = subst (λ (z : Strip). last <ℤ z.area.x1) (sym line_whole_is) less in
        subst R line_whole_is (subst S (sym one) (record { rows = d.parts.left_rows; low = k; high = omega (arith, ints, clamps) }))

pub fitted_rows : (f g h band : Rect) → IsFrom band.y0 f g → IsUpTo band.y1 g h → IsFitted band f h
fitted_rows f g h band a b =
    let al = a.columns.left in let ar = a.columns.right in let bl = b.columns.left in let br = b.columns.right in
    record { columns = record { left = omega (arith, ints); right = omega (arith, ints) }; low = omega (arith, ints); high = subst (λ z. h.y1 ≡ int_min z band.y1) a.high b.high }

pub touches_still : (area r part : Rect) → HaveSameColumns part r → Touches area r → Touches area part
touches_still area r part e t = record { left = omega (arith, ints); right = omega (arith, ints) }

pub begins_in_band : (r part : Rect) (band : Rect) → IsFrom band.y0 r part → r.y0 ≤ℤ band.y1 → part.y0 ≤ℤ band.y1
begins_in_band r part band f h = let o = band.y_ordered in let l = f.low in omega (arith, ints, clamps)

overlap_is : (i j k : Interval) → k.low ≡ int_max i.low j.low → k.high ≡ int_min i.high j.high → IsOverlap i j k
overlap_is i j k l h = record {
  first = λ v n. record { from = omega (arith, ints, clamps); to = omega (arith, ints, clamps) };
  second = λ v n. record { from = omega (arith, ints, clamps); to = omega (arith, ints, clamps) };
  all = λ v n m. record { from = omega (arith, ints, clamps); to = omega (arith, ints, clamps) };
}

pub cropped : (f g h k area : Rect) → IsFitted area f g → IsRightFrom area.x0 g h → IsLeftUpTo area.x1 h k → IsMeet f area k
cropped f g h k area a b c =
    let hx : h.x0 ≡ int_max f.x0 area.x0 = subst (λ z. h.x0 ≡ int_max z area.x0) a.columns.left b.low in
    let hh : h.x1 ≡ f.x1 = b.high ∙ a.columns.right in
    let kx : k.x1 ≡ int_min f.x1 area.x1 = subst (λ z. k.x1 ≡ int_min z area.x1) hh c.high in
    let across : IsOverlap (columns f) (columns area) (columns k) = overlap_is (columns f) (columns area) (columns k) (c.low ∙ hx) kx in
    let up : IsOverlap (rows f) (rows area) (rows k) = overlap_is (rows f) (rows area) (rows k) (c.rows.below ∙ b.rows.below ∙ a.low) (c.rows.above ∙ b.rows.above ∙ a.high) in
    record {
      first = λ p m. record { across = across.first p.x m.across; up = up.first p.y m.up };
      second = λ p m. record { across = across.second p.x m.across; up = up.second p.y m.up };
      all = λ p m n. record { across = across.all p.x m.across n.across; up = up.all p.y m.up n.up };
    }

pub area_is_band : (area : Rect) → IsBandOf area area
area_is_band area = record { left = refl; right = refl; from = omega (arith, ints); to = omega (arith, ints) }

-- a piece that meets the area touches it, and has one of its rows and columns
pub record IsAcross (area r : Rect) : Type 0 where
  pub touches : Touches area r
  pub reaches_row : area.y0 ≤ℤ r.y1
  pub begins_row : r.y0 ≤ℤ area.y1
  pub reaches_column : area.x0 ≤ℤ r.x1
  pub begins_column : r.x0 ≤ℤ area.x1

pub across_from : (area r : Rect) → Meets r area → IsAcross area r
across_from area r m =
    let fx = m.in_first.across.from in let tx = m.in_first.across.to in
    let fy = m.in_first.up.from in let ty = m.in_first.up.to in
    let ax = m.in_second.across.from in let bx = m.in_second.across.to in
    let ay = m.in_second.up.from in let by = m.in_second.up.to in
    record {
      touches = record { left = omega (arith, ints); right = omega (arith, ints) };
      reaches_row = omega (arith, ints);
      begins_row = omega (arith, ints);
      reaches_column = omega (arith, ints);
      begins_column = omega (arith, ints);
    }

pub fitted_within : (area f g : Rect) → IsFitted area f g → LiesWithin (rows g) (rows area)
fitted_within area f g a = let l = a.low in let h = a.high in record { from = omega (arith, ints, clamps); to = omega (arith, ints, clamps) }

pub same_rows_inside : (area g h : Rect) → HaveSameRows h g → LiesWithin (rows g) (rows area) → LiesWithin (rows h) (rows area)
same_rows_inside area g h e w = record { from = omega (arith, ints); to = omega (arith, ints) }

pub begins_still : (area g h : Rect) → IsRightFrom area.x0 g h → g.x0 ≤ℤ area.x1 → h.x0 ≤ℤ area.x1
begins_still area g h b le = let o = area.x_ordered in let l = b.low in omega (arith, ints, clamps)

pub ends_still : (area g h : Rect) → IsRightFrom area.x0 g h → area.x0 ≤ℤ g.x1 → area.x0 ≤ℤ h.x1
ends_still area g h b le = let l = b.high in omega (arith, ints)

-- a piece in the rows of the area has one of its columns
pub record HasColumnOf (area r : Rect) : Type 0 where
  pub reaches : area.x0 ≤ℤ r.x1
  pub begins : r.x0 ≤ℤ area.x1

pub fitted_columns : (area f g : Rect) → IsFitted area f g → Meets f area → HasColumnOf area g
fitted_columns area f g a m =
    let k = across_from area f m in
    let r = k.reaches_column in let b = k.begins_column in
    let l = a.columns.left in let h = a.columns.right in
    record { reaches = omega (arith, ints); begins = omega (arith, ints) }
