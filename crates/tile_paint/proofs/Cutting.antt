-- What stands under the numbers after a cut, and before it.
use Rattle.std.proofs.Common.{◌≡◌, ◌≢◌, ◌⊎◌, inl, inr, Some, None, refl, sym, subst, ap, ◌∙◌}
use Rattle.geo_rect.specs.declared.ids.Label.{Label}
use Rattle.geo_rect.specs.declared.shapes.Point.{Point}
use Rattle.geo_rect.specs.declared.shapes.Rect.{Rect}
use Rattle.geo_rect.specs.Plane.{HasPoint, LiesIn}
use Rattle.plane_core.specs.declared.strips.Strip.{Strip}
use Rattle.tile_store.specs.declared.tiles.TileId.{TileId}
use Rattle.tile_store.specs.Store.{Store}
use Rattle.stitch_walk.specs.Pieces.{piece_at, IsPiece, IsCut, HasLabel}
use Rattle.stitch_walk.proofs.Linked.{decide_id}
use Rattle.tile_paint.specs.declared.spots.Found.{Found}
use Rattle.tile_paint.specs.Changes.{HaveSameLabels}
use Rattle.tile_paint.proofs.Axes.{AreParts, has_point_in, lies_in_itself}

-- one number has one piece
pub one_piece : (s : Store) (n : TileId) (p q : Strip) → IsPiece s n p → IsPiece s n q → p ≡ q
one_piece s n p q e f = let g : Some p ≡ Some q = sym e ∙ f in cc

-- the piece that was read under a number
pub read_piece : (s : Store) (n : TileId) (f : Found) → f.id ≡ n → IsPiece s n f.piece → IsPiece s f.id f.piece
read_piece s n f e is = let Q : TileId → Type 0 = λ k. IsPiece s k f.piece in subst Q (sym e) is

-- a number with a piece is not absent
pub no_piece : (s : Store) (n : TileId) (p : Strip) → IsPiece s n p → piece_at s n ≡ None → ⊥
no_piece s n p e f = let g : Some p ≡ None = sym e ∙ f in cc

-- q is part of a piece, and has its label
pub record HasParent (s : Store) (q : Strip) : Type 0 where
  pub by : TileId
  pub whole : Strip
  pub is_piece : IsPiece s by whole
  pub same_label : q.label ≡ whole.label
  pub inside : LiesIn q.area whole.area

module _ (P : Rect → Rect → Rect → Type 0) (old new : Store) (id other : TileId) (c : IsCut P old new id other) where
  -- a piece after the cut
  pub data AfterCut (n : TileId) (q : Strip) : Type 0 where
    is_first : n ≡ id → q ≡ c.first → AfterCut n q
    is_second : n ≡ other → q ≡ c.second → AfterCut n q
    is_kept : n ≢ id → n ≢ other → IsPiece old n q → AfterCut n q

  -- a piece before the cut
  pub data BeforeCut (n : TileId) (q : Strip) : Type 0 where
    is_whole : n ≡ id → q ≡ c.whole → BeforeCut n q
    stays : n ≢ id → n ≢ other → IsPiece new n q → BeforeCut n q

  pub other_is_new : (n : TileId) (q : Strip) → IsPiece old n q → n ≢ other
  other_is_new n q e same = no_piece old other q (let Q : TileId → Type 0 = λ k. IsPiece old k q in subst Q same e) c.was_absent

  pub after_cut : (n : TileId) (q : Strip) → IsPiece new n q → AfterCut n q
  after_cut n q e = first_or (decide_id n id) (decide_id n other)
    where
      first_or : (n ≡ id) ⊎ (n ≢ id) → (n ≡ other) ⊎ (n ≢ other) → AfterCut n q
      first_or (inl same) second = is_first same (one_piece new id q c.first (let Q : TileId → Type 0 = λ k. IsPiece new k q in subst Q same e) c.first_is)
      first_or (inr differs) (inl same) = is_second same (one_piece new other q c.second (let Q : TileId → Type 0 = λ k. IsPiece new k q in subst Q same e) c.second_is)
      first_or (inr differs) (inr apart) = is_kept differs apart (sym (c.elsewhere n differs apart) ∙ e)

  pub before_cut : (n : TileId) (q : Strip) → IsPiece old n q → BeforeCut n q
  before_cut n q e = whole_or (decide_id n id)
    where
      whole_or : (n ≡ id) ⊎ (n ≢ id) → BeforeCut n q
      whole_or (inl same) = is_whole same (one_piece old id q c.whole (let Q : TileId → Type 0 = λ k. IsPiece old k q in subst Q same e) c.was)
      whole_or (inr differs) =
          let apart : n ≢ other = other_is_new n q e in
          stays differs apart (c.elsewhere n differs apart ∙ e)

  module _ (parts : AreParts c.first.area c.second.area c.whole.area) where
    pub parent : (n : TileId) (q : Strip) → IsPiece new n q → HasParent old q
    parent n q e = of_case (after_cut n q e)
      where
        of_case : AfterCut n q → HasParent old q
        of_case (is_first same is) = record { by = id; whole = c.whole; is_piece = c.was; same_label = ap (λ (z : Strip). z.label) is ∙ c.first_label; inside = let Q : Strip → Type 0 = λ z. LiesIn z.area c.whole.area in subst Q (sym is) parts.first_in }
        of_case (is_second same is) = record { by = id; whole = c.whole; is_piece = c.was; same_label = ap (λ (z : Strip). z.label) is ∙ c.second_label; inside = let Q : Strip → Type 0 = λ z. LiesIn z.area c.whole.area in subst Q (sym is) parts.second_in }
        of_case (is_kept a b f) = record { by = n; whole = q; is_piece = f; same_label = refl; inside = lies_in_itself q.area }

    label_of_part : (p : Point) (label : Label) → c.whole.label ≡ label → HasPoint c.first.area p ⊎ HasPoint c.second.area p → HasLabel new p label
    label_of_part p label l (inl h) = record { by = id; piece = c.first; is_piece = c.first_is; has_point = h; has_label = c.first_label ∙ l }
    label_of_part p label l (inr h) = record { by = other; piece = c.second; is_piece = c.second_is; has_point = h; has_label = c.second_label ∙ l }

    -- a cut keeps the labels of all points
    pub cut_labels : HaveSameLabels old new
    cut_labels = record {
      onward = λ p label h. of_case p label h (before_cut h.by h.piece h.is_piece);
      back = λ p label h.
          let q = parent h.by h.piece h.is_piece in
          record { by = q.by; piece = q.whole; is_piece = q.is_piece; has_point = has_point_in h.piece.area q.whole.area p q.inside h.has_point; has_label = sym q.same_label ∙ h.has_label };
    }
      where
        of_case : (p : Point) (label : Label) (h : HasLabel old p label) → BeforeCut h.by h.piece → HasLabel new p label
        of_case p label h (is_whole same is) =
            let Q : Strip → Type 0 = λ z. HasPoint z.area p in
            label_of_part p label (sym (ap (λ (z : Strip). z.label) is) ∙ h.has_label) (parts.in_one p (subst Q is h.has_point))
        of_case p label h (stays a b f) = record { by = h.by; piece = h.piece; is_piece = f; has_point = h.has_point; has_label = h.has_label }
