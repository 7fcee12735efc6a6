-- The areas of the tiles are known, and so are those that can be cut or joined.
use Rattle.std.proofs.Common.{ℤ, pos, ◌≡◌, ◌+ℤ◌, ◌≤ℤ◌, ◌<ℤ◌, refl, sym, ◌∙◌, arith}
use Rattle.std.proofs.lemmas.Int.{ints}
use Rattle.geo_rect.specs.declared.ids.Label.TheVariants.{Free}
use Rattle.geo_rect.specs.declared.shapes.Rect.{Rect}
use Rattle.geo_rect.specs.Plane.{columns, rows, rect_of}
use Rattle.tile_store.specs.declared.tiles.TileId.{TileId}
use Rattle.tile_store.specs.Store.{Store}
use Rattle.stitch_walk.specs.Pieces.{IsPiece, CanCutAtRow, CanCutAtColumn, CanJoin, AreInLine, AreStacked}
use Rattle.ground_tests.proofs.cuts.cut_and_join.Goals as goal

-- a free tile of this area
abbrev IsFree : Store → TileId → Rect → Type 0
IsFree s id r = IsPiece s id (record { area = r; label = Free })

row_crosses : (s : Store) (id : TileId) (r : Rect) (y : ℤ) → IsFree s id r → r.y0 <ℤ y → y ≤ℤ r.y1 → CanCutAtRow s id y
row_crosses s id r y is after to = record { piece = record { area = r; label = Free }; is_piece = is; after_first = after; to_last = to }

column_crosses : (s : Store) (id : TileId) (r : Rect) (x : ℤ) → IsFree s id r → r.x0 <ℤ x → x ≤ℤ r.x1 → CanCutAtColumn s id x
column_crosses s id r x is after to = record { piece = record { area = r; label = Free }; is_piece = is; after_first = after; to_last = to }

in_line : (s : Store) (i j : TileId) (r q : Rect) → IsFree s i r → IsFree s j q → r.y0 ≡ q.y0 → r.y1 ≡ q.y1 → q.x0 ≡ r.x1 +ℤ pos 1 → CanJoin AreInLine s i
in_line s i j r q is_r is_q low high next = record {
  other = j;
  first = record { area = r; label = Free };
  second = record { area = q; label = Free };
  whole = rect_of (record { low = r.x0; high = q.x1; ordered = let a = r.x_ordered in let b = q.x_ordered in omega (arith, ints) }) (rows r);
  first_is = is_r;
  second_is = is_q;
  parts = record {
    left_rows = record { below = refl; above = refl };
    right_rows = record { below = sym low; above = sym high };
    in_columns = record { from = refl; next = next; to = refl };
  };
  same_label = refl;
}

stacked : (s : Store) (i j : TileId) (r q : Rect) → IsFree s i r → IsFree s j q → r.x0 ≡ q.x0 → r.x1 ≡ q.x1 → q.y0 ≡ r.y1 +ℤ pos 1 → CanJoin AreStacked s i
stacked s i j r q is_r is_q left right next = record {
  other = j;
  first = record { area = r; label = Free };
  second = record { area = q; label = Free };
  whole = rect_of (columns r) (record { low = r.y0; high = q.y1; ordered = let a = r.y_ordered in let b = q.y_ordered in omega (arith, ints) });
  first_is = is_r;
  second_is = is_q;
  parts = record {
    lower_columns = record { left = refl; right = refl };
    upper_columns = record { left = sym left; right = sym right };
    in_rows = record { from = refl; next = next; to = refl };
  };
  same_label = refl;
}

pub cut_row-requires-clause-crosses : goal.cut_row-requires-clause-crosses
cut_row-requires-clause-crosses g c =
    let y0 : c.new-whole.result.y0 ≡ pos 0 = c.new-whole.ensures.y0 in
    let y1 : c.new-whole.result.y1 ≡ pos 9 = c.new-whole.ensures.y1 in
    row_crosses _ _ c.new-whole.result (pos 5) c.tile_of-id.ensures (omega (arith, ints, y0)) (omega (arith, ints, y1))

pub cut_col-requires-clause-crosses : goal.cut_col-requires-clause-crosses
cut_col-requires-clause-crosses g c =
    let x0 : c.new.result.x0 ≡ pos 0 = c.new.ensures.x0 in
    let x1 : c.new.result.x1 ≡ pos 9 = c.new.ensures.x1 in
    column_crosses _ _ c.new.result (pos 4) c.tile_of-upper.ensures (omega (arith, ints, x0)) (omega (arith, ints, x1))

pub join_side-requires : goal.join_side-requires
join_side-requires g c =
    let r = c.new-3.ensures in
    let q = c.new-4.ensures in
    let x1 : c.new-3.result.x1 ≡ pos 3 = r.x1 in
    let x0 : c.new-4.result.x0 ≡ pos 4 = q.x0 in
    in_line _ _ c.tile_of-right.result c.new-3.result c.new-4.result c.tile_of-left.ensures c.tile_of-right.ensures (r.y0 ∙ sym q.y0) (r.y1 ∙ sym q.y1) (omega (arith, ints, x0, x1))

pub join_up-requires : goal.join_up-requires
join_up-requires g c =
    let r = c.new-6.ensures in
    let q = c.new-7.ensures in
    let y1 : c.new-6.result.y1 ≡ pos 4 = r.y1 in
    let y0 : c.new-7.result.y0 ≡ pos 5 = q.y0 in
    stacked _ _ c.tile_of-upper-2.result c.new-6.result c.new-7.result c.tile_of-lower-2.ensures c.tile_of-upper-2.ensures (r.x0 ∙ sym q.x0) (r.x1 ∙ sym q.x1) (omega (arith, ints, y0, y1))
