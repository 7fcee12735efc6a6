-- A piece is cut, and one of its parts is found.
use Rattle.std.proofs.Common.{◌≡◌, ◌≢◌, ◌⊎◌, inl, inr, IsSome, refl, sym, subst, ap, ◌∙◌}
use Rattle.geo_rect.specs.declared.shapes.Rect.{Rect}
use Rattle.geo_rect.specs.Plane.{LiesIn}
use Rattle.plane_core.specs.declared.strips.Strip.{Strip}
use Rattle.tile_store.specs.declared.tiles.TileId.{TileId}
use Rattle.tile_store.specs.Store.{Store, tile_at, HasSameTiles, IsPresent}
use Rattle.stitch_walk.specs.Pieces.{piece_of, piece_at, IsPiece, IsCut}
use Rattle.stitch_walk.proofs.Filled.{tile_of}
use Rattle.stitch_walk.proofs.Linked.{decide_id}
use Rattle.tile_paint.specs.declared.spots.Found.{Found}
use Rattle.tile_paint.specs.Changes.{HaveSameLabels, IsOther, IsNarrowed}
use Rattle.tile_paint.proofs.Axes.{AreParts, lies_in_itself, lies_in_twice}
use Rattle.tile_paint.proofs.Cutting.{AfterCut, after_cut, other_is_new, cut_labels, one_piece}
use Rattle.tile_paint.proofs.Cutting.AfterCut.{is_first, is_second, is_kept}

-- where there are the same tiles there are the same pieces
pub same_piece : (old new : Store) → HasSameTiles old new → (n : TileId) → piece_at new n ≡ piece_at old n
same_piece old new same n = ap piece_of (same n)

-- what was cut after places were made was cut
pub cut_after : (P : Rect → Rect → Rect → Type 0) (old middle new : Store) (id other : TileId) → HasSameTiles old middle → IsCut P middle new id other → IsCut P old new id other
cut_after P old middle new id other same c = record {
  whole = c.whole;
  first = c.first;
  second = c.second;
  was = sym (same_piece old middle same id) ∙ c.was;
  was_absent = sym (same_piece old middle same other) ∙ c.was_absent;
  first_is = c.first_is;
  second_is = c.second_is;
  parts = c.parts;
  first_label = c.first_label;
  second_label = c.second_label;
  elsewhere = λ n a b. c.elsewhere n a b ∙ same_piece old middle same n;
}

-- a number with a piece is present
pub present : (s : Store) (n : TileId) (p : Strip) → IsPiece s n p → IsPresent s n
present s n p e = let t = tile_of (tile_at s n) p e in subst (λ o. IsSome o) (sym t.is_it) refl

pub same_labels : (s : Store) → HaveSameLabels s s
same_labels s = record { onward = λ p label h. h; back = λ p label h. h }

pub labels_twice : (r s t : Store) → HaveSameLabels r s → HaveSameLabels s t → HaveSameLabels r t
labels_twice r s t a b = record { onward = λ p label h. b.onward p label (a.onward p label h); back = λ p label h. a.back p label (b.back p label h) }

-- nothing was cut
pub narrowed_not : (s : Store) (f : Found) → IsPiece s f.id f.piece → IsNarrowed s s f f
narrowed_not s f e = record {
  labels = same_labels s;
  kept = λ n q d k. record { other = d; is_piece = k };
  parts = λ n q k. of_number n q k (decide_id n f.id);
  part = lies_in_itself f.piece.area;
  is_piece = e;
  same_label = refl;
}
  where
    of_number : (n : TileId) (q : Strip) → IsPiece s n q → (n ≡ f.id) ⊎ (n ≢ f.id) → IsOther s f.id n q ⊎ LiesIn q.area f.piece.area
    of_number n q k (inr d) = inl (record { other = d; is_piece = k })
    of_number n q k (inl same) =
        let Q : TileId → Type 0 = λ m. IsPiece s m q in
        let one : q ≡ f.piece = one_piece s f.id q f.piece (subst Q same k) e in
        let R : Strip → Type 0 = λ z. LiesIn z.area f.piece.area in
        inr (subst R (sym one) (lies_in_itself f.piece.area))

-- a part of a part is a part
pub narrowed_twice : (r s t : Store) (f g h : Found) → IsNarrowed r s f g → IsNarrowed s t g h → IsNarrowed r t f h
narrowed_twice r s t f g h a b = record {
  labels = labels_twice r s t a.labels b.labels;
  kept = λ n q d k. let m = a.kept n q d k in b.kept n q m.other m.is_piece;
  parts = λ n q k. of_second n q (b.parts n q k);
  part = lies_in_twice h.piece.area g.piece.area f.piece.area b.part a.part;
  is_piece = b.is_piece;
  same_label = b.same_label ∙ a.same_label;
}
  where
    of_second : (n : TileId) (q : Strip) → IsOther s g.id n q ⊎ LiesIn q.area g.piece.area → IsOther r f.id n q ⊎ LiesIn q.area f.piece.area
    of_second n q (inl o) = a.parts n q o.is_piece
    of_second n q (inr l) = inr (lies_in_twice q.area g.piece.area f.piece.area l a.part)

module _ (P : Rect → Rect → Rect → Type 0) (old new : Store) (f g : Found) (other : TileId) (c : IsCut P old new f.id other) (parts : AreParts c.first.area c.second.area c.whole.area) (was : IsPiece old f.id f.piece) (now : IsPiece new g.id g.piece) where
  found_whole : c.whole ≡ f.piece
  found_whole = one_piece old f.id c.whole f.piece c.was was

  part_of_found : (q : Rect) → LiesIn q c.whole.area → LiesIn q f.piece.area
  part_of_found q l = let Q : Strip → Type 0 = λ z. LiesIn q z.area in subst Q found_whole l

  of_case : (n : TileId) (q : Strip) → AfterCut P old new f.id other c n q → IsOther old f.id n q ⊎ LiesIn q.area f.piece.area
  of_case n q (is_first same is) = inr (let Q : Strip → Type 0 = λ z. LiesIn z.area f.piece.area in subst Q (sym is) (part_of_found c.first.area parts.first_in))
  of_case n q (is_second same is) = inr (let Q : Strip → Type 0 = λ z. LiesIn z.area f.piece.area in subst Q (sym is) (part_of_found c.second.area parts.second_in))
  of_case n q (is_kept a b k) = inl (record { other = a; is_piece = k })

  -- the first part is found
  pub narrowed_to_first : g.id ≡ f.id → IsNarrowed old new f g
  narrowed_to_first e =
      let Q : TileId → Type 0 = λ n. IsPiece new n g.piece in
      let one : g.piece ≡ c.first = one_piece new f.id g.piece c.first (subst Q e now) c.first_is in
      let R : Strip → Type 0 = λ z. LiesIn z.area f.piece.area in
      record {
        labels = cut_labels P old new f.id other c parts;
        kept = λ n q d k. record { other = λ same. d (same ∙ e); is_piece = c.elsewhere n d (other_is_new P old new f.id other c n q k) ∙ k };
        parts = λ n q k. of_case n q (after_cut P old new f.id other c n q k);
        part = subst R (sym one) (part_of_found c.first.area parts.first_in);
        is_piece = now;
        same_label = ap (λ (z : Strip). z.label) one ∙ c.first_label ∙ ap (λ (z : Strip). z.label) found_whole;
      }

  -- the second part is found
  pub narrowed_to_second : g.id ≡ other → IsNarrowed old new f g
  narrowed_to_second e =
      let Q : TileId → Type 0 = λ n. IsPiece new n g.piece in
      let one : g.piece ≡ c.second = one_piece new other g.piece c.second (subst Q e now) c.second_is in
      let R : Strip → Type 0 = λ z. LiesIn z.area f.piece.area in
      record {
        labels = cut_labels P old new f.id other c parts;
        kept = λ n q d k. let new_other = other_is_new P old new f.id other c n q k in record { other = λ same. new_other (same ∙ e); is_piece = c.elsewhere n d new_other ∙ k };
        parts = λ n q k. of_case n q (after_cut P old new f.id other c n q k);
        part = subst R (sym one) (part_of_found c.second.area parts.second_in);
        is_piece = now;
        same_label = ap (λ (z : Strip). z.label) one ∙ c.second_label ∙ ap (λ (z : Strip). z.label) found_whole;
      }
