-- The area is cut out of one tile after the other.
use Rattle.std.proofs.Common.{ℕ, zero, suc, ℤ, ◌≡◌, ◌≢◌, ◌⊎◌, ◌<◌, ◌+◌, inl, inr, List, [], ◌∷◌, length, get_or, drop, add-one, Contains, refl, sym, subst, ◌∙◌, arith}
use Rattle.std.proofs.Math.Seq.{drop-cons}
use Rattle.geo_rect.specs.declared.ids.Label.{Label}
use Rattle.geo_rect.specs.declared.shapes.Point.{Point}
use Rattle.geo_rect.specs.declared.shapes.Rect.{Rect}
use Rattle.geo_rect.specs.Plane.{HasPoint, LiesIn, IsMeet}
use Rattle.geo_rect.proofs.Parts.{lies_in_from}
use Rattle.plane_core.specs.declared.strips.Strip.{Strip}
use Rattle.plane_core.specs.Choice.{Meets}
use Rattle.plane_core.proofs.Members.{has_tail, has_cases, has_none}
use Rattle.tile_store.specs.declared.tiles.TileId.{TileId}
use Rattle.tile_store.specs.Store.{Store}
use Rattle.stitch_walk.specs.Maximal.{AreMaximal}
use Rattle.stitch_walk.specs.Neighbours.{AreMeeting, MeetsArea, IsDistinct}
use Rattle.stitch_walk.specs.Pieces.{IsPiece, IsRelabelled, FillDomain}
use Rattle.stitch_walk.proofs.Filled.{tile_of, piece_of_tile}
use Rattle.tile_paint.specs.declared.spots.Found.{Found}
use Rattle.tile_paint.specs.Changes.{IsOther, IsNarrowed, IsPainted, IsCutOut}
use Rattle.tile_paint.specs.Edges.{IsSeam, IsLedge}
use Rattle.tile_paint.specs.States.{MeetsUnder, IsOpenFrom, IsReadyFrom, IsCuttingOut}
use Rattle.tile_paint.proofs.Axes.{has_point_in}
use Rattle.tile_paint.proofs.Cutting.{one_piece}
use Rattle.tile_paint.proofs.Relabelling.{AfterRelabel, after_relabel, relabelled, label_outside, open_after_relabel}
use Rattle.tile_paint.proofs.Relabelling.AfterRelabel.{is_it, is_other}

module _ (old cut new : Store) (area : Rect) (label : Label) (f g : Found) (was : IsPiece old f.id f.piece) (n : IsNarrowed old cut f g) (m : IsMeet f.piece.area area g.piece.area) (r : IsRelabelled cut new g.id label) where
  found_is : r.piece ≡ g.piece
  found_is = one_piece cut g.id r.piece g.piece r.was n.is_piece

  inner_in : LiesIn g.piece.area area
  inner_in = lies_in_from g.piece.area area m.second

  relabelled_in : LiesIn r.piece.area area
  relabelled_in = let Q : Strip → Type 0 = λ z. LiesIn z.area area in subst Q (sym found_is) inner_in

  pub open_when_cut_out : IsOpenFrom cut area area.y0 → IsOpenFrom new area area.y0
  open_when_cut_out o = open_after_relabel cut new g.id label r area relabelled_in o

  module _ (domain : Rect) (fill : FillDomain new domain) where
    in_found : (p : Point) → HasPoint g.piece.area p → HasPoint r.piece.area p
    in_found p h = let Q : Strip → Type 0 = λ z. HasPoint z.area p in subst Q (sym found_is) h

    of_parts : (k : TileId) (q : Strip) → k ≢ g.id → IsPiece new k q → Meets q.area area → IsOther old f.id k q ⊎ LiesIn q.area f.piece.area → IsOther old f.id k q
    of_parts k q d e w (inl o) = o
    of_parts k q d e w (inr l) =
        absurd (d (fill.apart k g.id q (relabelled cut new g.id label r) w.at e r.is_now w.in_first (in_found w.at (m.all w.at (has_point_in q.area f.piece.area w.at l w.in_first) w.in_second))))

    of_case : (k : TileId) (q : Strip) → IsPiece new k q → Meets q.area area → AfterRelabel cut new g.id label r k q → IsPainted area label q ⊎ IsOther old f.id k q
    of_case k q e w (is_other d h) = inr (of_parts k q d e w (n.parts k q h))
    of_case k q e w (is_it same is) =
        let Q : Strip → Type 0 = λ z. IsPainted area label z in
        inl (subst Q (sym is) (record { inside = relabelled_in; has_label = refl }))

    pub is_cut_out : IsCutOut old new area label f.id
    is_cut_out = record {
      outside = λ p l out h. label_outside cut new g.id label r p l (λ h'. out (has_point_in r.piece.area area p relabelled_in h')) (n.labels.onward p l h);
      kept = λ k q d e. let o = n.kept k q d e in r.elsewhere k o.other ∙ o.is_piece;
      meeting = λ k q e w. of_case k q e w (after_relabel cut new g.id label r k q e);
    }

-- what meets the area under a number is a piece
meets_under : (s : Store) (area : Rect) (n : TileId) → MeetsArea s area n → MeetsUnder s area n
meets_under s area n m = record { piece = record { area = m.tile.area; label = m.tile.label }; is_piece = piece_of_tile s n m.tile m.is_there; meets = m.meets }

meets_area : (s : Store) (area : Rect) (n : TileId) (q : Strip) → IsPiece s n q → Meets q.area area → MeetsArea s area n
meets_area s area n q e w =
    let t = tile_of _ q e in
    record { tile = t.tile; is_there = t.is_it; meets = let Q : Rect → Type 0 = λ z. Meets z area in subst Q (sym t.same_area) w }

pub cutting_begins : (s : Store) (area : Rect) (label : Label) (ids : List TileId) → IsOpenFrom s area area.y0 → AreMeeting s area ids → IsCuttingOut s s area label ids
cutting_begins s area label ids o a = record {
  open_from = o;
  outside = λ p was out h. h;
  still = λ n h. meets_under s area n (a.listed n h);
  meeting = λ n q e w. inr (a.complete n (meets_area s area n q e w));
  once = a.once;
}

once_rest : (id : TileId) (rest : List TileId) → IsDistinct (id ∷ rest) → IsDistinct rest
once_rest id rest once i j d less within = once (suc i) (suc j) d (omega arith) (omega arith)

once_first : (id : TileId) (rest : List TileId) (n : TileId) → IsDistinct (id ∷ rest) → Contains rest n → n ≢ id
once_first id rest n once (k, within, e) same =
    once zero (suc k) n (omega arith) (omega arith) (sym same ∙ sym e)

pub cutting_goes_on : (old s new : Store) (area : Rect) (label : Label) (id : TileId) (rest : List TileId) → IsCuttingOut old s area label (id ∷ rest) → IsOpenFrom new area area.y0 → IsCutOut s new area label id → IsCuttingOut old new area label rest
cutting_goes_on old s new area label id rest w o c = record {
  open_from = o;
  outside = λ p was out h. c.outside p was out (w.outside p was out h);
  still = λ n h.
      let m = w.still n (has_tail id rest n h) in
      record { piece = m.piece; is_piece = c.kept n m.piece (once_first id rest n w.once h) m.is_piece; meets = m.meets };
  meeting = λ n q e k. of_case n q k (c.meeting n q e k);
  once = once_rest id rest w.once;
}
  where
    of_waiting : (n : TileId) (q : Strip) → n ≢ id → IsPainted area label q ⊎ Contains (id ∷ rest) n → IsPainted area label q ⊎ Contains rest n
    of_waiting n q d (inl p) = inl p
    of_waiting n q d (inr h) = elim (has_cases id rest n h) [ inl same ↦ absurd (d (sym same)) | inr k ↦ inr k ]

    of_case : (n : TileId) (q : Strip) → Meets q.area area → IsPainted area label q ⊎ IsOther s id n q → IsPainted area label q ⊎ Contains rest n
    of_case n q k (inl p) = inl p
    of_case n q k (inr t) = of_waiting n q t.other (w.meeting n q t.is_piece k)

module _ (old s : Store) (domain area : Rect) (label : Label) (fill : FillDomain s domain) (inside : LiesIn area domain) (w : IsCuttingOut old s area label []) where
  all_painted : (n : TileId) (q : Strip) → IsPiece s n q → Meets q.area area → IsPainted area label q
  all_painted n q e k = elim (w.meeting n q e k) [ inl p ↦ p | inr h ↦ absurd (has_none n h) ]

  pub cutting_ends : IsReadyFrom s area label area.y0
  cutting_ends = record {
    open_from = w.open_from;
    inner = λ n q e k.
        let p = all_painted n q e (record { at = k.meets_at; in_first = k.in_first; in_second = k.in_second }) in
        record { inside = p.inside; from = p.inside.up.from };
    painted = λ p h.
        let o = fill.covered p (has_point_in area domain p inside h) in
        let k = all_painted o.by o.piece o.is_piece (record { at = p; in_first = o.has_point; in_second = h }) in
        record { by = o.by; piece = o.piece; is_piece = o.is_piece; has_point = o.has_point; has_label = k.has_label };
  }

-- what waits before a turn, and after it
pub waiting_next : (ids : List TileId) (i : ℕ) (d : TileId) → i < length ids → drop i ids ≡ get_or ids i d ∷ drop (i + 1) ids
waiting_next ids i d h = rw (add-one, drop-cons ids i d)

-- maximal tiles have no seam and no ledge
pub no_seam : (s : Store) → AreMaximal s → (x y : ℤ) → IsSeam s x y → ⊥
no_seam s a x y k =
    let l = k.left in let r = k.right in
    a.no_side_defect l.by r.by l.piece r.piece l.is_piece r.is_piece
    (record { same_label = l.has_label ∙ sym r.has_label; row = y; row_of_first = l.in_row; row_of_second = r.in_row; touch = sym r.begins ∙ l.ends })

pub no_ledge : (s : Store) → AreMaximal s → (first last y : ℤ) → IsLedge s first last y → ⊥
no_ledge s a first last y k =
    let l = k.lower in let u = k.upper in
    a.no_stack_defect l.by u.by l.piece u.piece l.is_piece u.is_piece
    (record { same_label = l.has_label ∙ sym u.has_label; same_columns = record { left = sym l.left ∙ u.left; right = sym l.right ∙ u.right }; touch = sym u.begins ∙ l.ends })

pub maximal_is_open : (s : Store) (area : Rect) (a : ℤ) → AreMaximal s → IsOpenFrom s area a
maximal_is_open s area a m = record {
  seams = λ x y k. absurd (no_seam s m x y k);
  ledges = λ first last y k. absurd (no_ledge s m first last y k);
}

-- with no seam and no ledge tiles are maximal
pub maximal_from_none : (s : Store) → ((x y : ℤ) → IsSeam s x y → ⊥) → ((first last y : ℤ) → IsLedge s first last y → ⊥) → AreMaximal s
maximal_from_none s seams ledges = record {
  no_side_defect = λ i j p q e f d. seams q.area.x0 d.row (record {
    label = p.label;
    left = record { by = i; piece = p; is_piece = e; has_label = refl; in_row = d.row_of_first; ends = d.touch };
    right = record { by = j; piece = q; is_piece = f; has_label = sym d.same_label; in_row = d.row_of_second; begins = refl };
  });
  no_stack_defect = λ i j p q e f d. ledges q.area.x0 q.area.x1 q.area.y0 (record {
    label = p.label;
    lower = record { by = i; piece = p; is_piece = e; has_label = refl; left = sym d.same_columns.left; right = sym d.same_columns.right; ends = d.touch };
    upper = record { by = j; piece = q; is_piece = f; has_label = sym d.same_label; left = refl; right = refl; begins = refl };
  });
}
