-- Cuts at the edges of the area keep seams and ledges at the area.
use Rattle.std.proofs.Common.{ℤ, pos, ◌≡◌, ◌⊎◌, inl, inr, ◌+ℤ◌, ◌≤ℤ◌, arith}
use Rattle.std.proofs.lemmas.Int.{ints}
use Rattle.geo_rect.specs.declared.shapes.Rect.{Rect}
use Rattle.geo_rect.specs.Axis.{LiesWithin}
use Rattle.geo_rect.specs.Plane.{rows}
use Rattle.tile_store.specs.declared.tiles.TileId.{TileId}
use Rattle.tile_store.specs.Store.{Store}
use Rattle.stitch_walk.specs.Pieces.{IsCut, AreStacked, AreInLine}
use Rattle.tile_paint.specs.Edges.{IsSeam, IsLedge}
use Rattle.tile_paint.specs.States.{Touches, IsSeamFrom, IsLedgeFrom, IsOpenFrom}
use Rattle.tile_paint.proofs.Axes.{along}
use Rattle.tile_paint.proofs.RowCuts.{IsAtRowCut, row_cut_seam, row_cut_ledge}
use Rattle.tile_paint.proofs.ColumnCuts.{IsAtColumnCut, IsAtPart, column_cut_seam, column_cut_ledge}

module _ (old new : Store) (id other : TileId) (area : Rect) (a : ℤ) (open_from : IsOpenFrom old area a) (c : IsCut AreStacked old new id other) (touches : Touches area c.whole.area) (from : a ≤ℤ c.second.area.y0) (to : c.second.area.y0 ≤ℤ (area.y1 +ℤ pos 1)) where
  of_ledge : (first last y : ℤ) → IsLedge old first last y ⊎ IsAtRowCut old new id other c first last y → IsLedgeFrom area a first last y
  of_ledge first last y (inl l) = open_from.ledges first last y l
  of_ledge first last y (inr k) =
      let l = k.left in let r = k.right in let h = k.at in
      let tl = touches.left in let tr = touches.right in
      record { from = omega (arith, ints); to = omega (arith, ints); left = omega (arith, ints); right = omega (arith, ints) }

  pub open_after_row_cut : IsOpenFrom new area a
  open_after_row_cut = record {
    seams = λ x y s. open_from.seams x y (row_cut_seam old new id other c x y s);
    ledges = λ first last y l. of_ledge first last y (row_cut_ledge old new id other c first last y l);
  }

module _ (old new : Store) (id other : TileId) (area : Rect) (open_from : IsOpenFrom old area area.y0) (c : IsCut AreInLine old new id other) (inside : LiesWithin (rows c.whole.area) (rows area)) (from : area.x0 ≤ℤ c.second.area.x0) (to : c.second.area.x0 ≤ℤ (area.x1 +ℤ pos 1)) where
  of_seam : (x y : ℤ) → IsSeam old x y ⊎ IsAtColumnCut old new id other c x y → IsSeamFrom area area.y0 x y
  of_seam x y (inl s) = open_from.seams x y s
  of_seam x y (inr k) =
      let h = k.at in
      let r = along (rows c.whole.area) (rows area) y inside k.in_row in
      record { from = r.from; to = r.to; left = omega (arith, ints); right = omega (arith, ints) }

  of_part : (first last y : ℤ) → IsAtPart old new id other c first last y → (y ≡ c.whole.area.y0) ⊎ (y ≡ c.whole.area.y1 +ℤ pos 1) → IsLedgeFrom area area.y0 first last y
  of_part first last y k (inl e) =
      let o = c.whole.area.y_ordered in
      let f = inside.from in let t = inside.to in
      let b = k.begins in let d = k.ends in
      record { from = omega (arith, ints); to = omega (arith, ints); left = omega (arith, ints); right = omega (arith, ints) }
  of_part first last y k (inr e) =
      let o = c.whole.area.y_ordered in
      let f = inside.from in let t = inside.to in
      let b = k.begins in let d = k.ends in
      record { from = omega (arith, ints); to = omega (arith, ints); left = omega (arith, ints); right = omega (arith, ints) }

  of_ledge_beside : (first last y : ℤ) → IsLedge old first last y ⊎ IsAtPart old new id other c first last y → IsLedgeFrom area area.y0 first last y
  of_ledge_beside first last y (inl l) = open_from.ledges first last y l
  of_ledge_beside first last y (inr k) = of_part first last y k k.edge

  pub open_after_column_cut : IsOpenFrom new area area.y0
  open_after_column_cut = record {
    seams = λ x y s. of_seam x y (column_cut_seam old new id other c x y s);
    ledges = λ first last y l. of_ledge_beside first last y (column_cut_ledge old new id other c first last y l);
  }
