-- Tiles that fill the domain do so when one of them is replaced by its two parts, and when two that are
-- the parts of a rectangle are replaced by it.
use Rattle.std.proofs.Common.{◌≡◌, ◌≢◌, ◌⊎◌, inl, inr, Some, None, sym, subst, ◌∙◌}
use Rattle.geo_rect.specs.declared.shapes.Point.{Point}
use Rattle.geo_rect.specs.declared.shapes.Rect.{Rect}
use Rattle.geo_rect.specs.Plane.{HasPoint, LiesIn}
use Rattle.geo_rect.proofs.Parts.{lies_in_from, lies_in_points}
use Rattle.plane_core.specs.declared.strips.Strip.{Strip}
use Rattle.tile_store.specs.declared.tiles.TileId.{TileId}
use Rattle.tile_store.specs.Store.{Store}
use Rattle.stitch_walk.specs.Pieces.{piece_at, IsPiece, IsOfPiece, FillDomain}
use Rattle.stitch_walk.proofs.Linked.{decide_id}
use Rattle.tile_cuts.specs.Parts.{ArePartsOf, IsReplaced}

-- one number has one piece
pub one_piece : (s : Store) (n : TileId) (p q : Strip) → IsPiece s n p → IsPiece s n q → p ≡ q
one_piece s n p q e f = same p q (sym e ∙ f)
  where
    same : (p q : Strip) → Some p ≡ Some q → p ≡ q
    same p q e = cc

pub not_absent : (s : Store) (n : TileId) (p : Strip) → IsPiece s n p → piece_at s n ≡ None → ⊥
not_absent s n p e f = clash p (sym e ∙ f)
  where
    clash : (p : Strip) → Some p ≡ None → ⊥
    clash p e = cc

-- the piece under a number has the same points as another one of it
moved : (s : Store) (n : TileId) (p q : Strip) (at : Point) → IsPiece s n p → IsPiece s n q → HasPoint p.area at → HasPoint q.area at
moved s n p q at e f h = let P : Strip → Type 0 = λ r. HasPoint r.area at in subst P (one_piece s n p q e f) h

-- whole is the piece under id in the store as a whole; in the other store its parts are under id and other
module _ (coarse fine : Store) (id other : TileId) (first second whole : Strip) (split : IsReplaced coarse fine id other first second) (is_whole : IsPiece coarse id whole) (parts : ArePartsOf first.area second.area whole.area) where
  -- where a piece of the fine store comes from
  data Comes (n : TileId) (at : Point) : Type 0 where
    as_first : n ≡ id → HasPoint first.area at → Comes n at
    as_second : n ≡ other → HasPoint second.area at → Comes n at
    as_kept : n ≢ id → n ≢ other → Comes n at

  comes : (n : TileId) (p : Strip) (at : Point) → IsPiece fine n p → HasPoint p.area at → (n ≡ id) ⊎ (n ≢ id) → (n ≡ other) ⊎ (n ≢ other) → Comes n at
  comes n p at e h (inl same) _ =
      let P : TileId → Type 0 = λ i. IsPiece fine i p in
      as_first same (moved fine id p first at (subst P same e) split.first_is h)
  comes n p at e h (inr d) (inl same) =
      let P : TileId → Type 0 = λ i. IsPiece fine i p in
      as_second same (moved fine other p second at (subst P same e) split.second_is h)
  comes n p at e h (inr d) (inr f) = as_kept d f

  -- a piece of either store that is neither cut nor joined is one of the other
  kept : (n : TileId) (p : Strip) → n ≢ id → n ≢ other → IsPiece fine n p → IsPiece coarse n p
  kept n p d f e = sym (split.elsewhere n d f) ∙ e

  module _ (domain : Rect) (fill : FillDomain coarse domain) where
    part_inside : (n : TileId) (p : Strip) (at : Point) → IsPiece fine n p → HasPoint p.area at → Comes n at → HasPoint domain at
    part_inside n p at e h (as_first same k) = (lies_in_points whole.area domain).0 (fill.inside id whole is_whole) at (parts.in_first at k)
    part_inside n p at e h (as_second same k) = (lies_in_points whole.area domain).0 (fill.inside id whole is_whole) at (parts.in_second at k)
    part_inside n p at e h (as_kept d f) = (lies_in_points p.area domain).0 (fill.inside n p (kept n p d f e)) at h

    -- a piece that was kept has no point of the whole
    not_in_whole : (n : TileId) (p : Strip) (at : Point) → n ≢ id → n ≢ other → IsPiece fine n p → HasPoint p.area at → HasPoint whole.area at → ⊥
    not_in_whole n p at d f e h k = d (fill.apart n id p whole at (kept n p d f e) is_whole h k)

    parts_apart : (i j : TileId) (p q : Strip) (at : Point) → IsPiece fine i p → IsPiece fine j q → HasPoint p.area at → HasPoint q.area at → Comes i at → Comes j at → i ≡ j
    parts_apart i j p q at e f h k (as_first a b) (as_first c d) = a ∙ sym c
    parts_apart i j p q at e f h k (as_first a b) (as_second c d) = absurd (parts.in_one at b d)
    parts_apart i j p q at e f h k (as_first a b) (as_kept c d) = absurd (not_in_whole j q at c d f k (parts.in_first at b))
    parts_apart i j p q at e f h k (as_second a b) (as_first c d) = absurd (parts.in_one at d b)
    parts_apart i j p q at e f h k (as_second a b) (as_second c d) = a ∙ sym c
    parts_apart i j p q at e f h k (as_second a b) (as_kept c d) = absurd (not_in_whole j q at c d f k (parts.in_second at b))
    parts_apart i j p q at e f h k (as_kept a b) (as_first c d) = absurd (not_in_whole i p at a b e h (parts.in_first at d))
    parts_apart i j p q at e f h k (as_kept a b) (as_second c d) = absurd (not_in_whole i p at a b e h (parts.in_second at d))
    parts_apart i j p q at e f h k (as_kept a b) (as_kept c d) = fill.apart i j p q at (kept i p a b e) (kept j q c d f) h k

    in_part : (at : Point) → HasPoint first.area at ⊎ HasPoint second.area at → IsOfPiece fine at
    in_part at (inl h) = record { by = id; piece = first; is_piece = split.first_is; has_point = h }
    in_part at (inr h) = record { by = other; piece = second; is_piece = split.second_is; has_point = h }

    part_covers : (n : TileId) (p : Strip) (at : Point) → IsPiece coarse n p → HasPoint p.area at → (n ≡ id) ⊎ (n ≢ id) → IsOfPiece fine at
    part_covers n p at e h (inl same) =
        let P : TileId → Type 0 = λ i. IsPiece coarse i p in
        in_part at (parts.in_either at (moved coarse id p whole at (subst P same e) is_whole h))
    part_covers n p at e h (inr d) =
        let P : TileId → Type 0 = λ i. IsPiece coarse i p in
        let differs : n ≢ other = λ same. not_absent coarse other p (subst P same e) split.was_absent in
        record { by = n; piece = p; is_piece = split.elsewhere n d differs ∙ e; has_point = h }

    pub filled_by_parts : FillDomain fine domain
    filled_by_parts = record {
      inside = λ n p e. lies_in_from p.area domain (λ at h. part_inside n p at e h (comes n p at e h (decide_id n id) (decide_id n other)));
      apart = λ i j p q at e f h k. parts_apart i j p q at e f h k (comes i p at e h (decide_id i id) (decide_id i other)) (comes j q at f k (decide_id j id) (decide_id j other));
      covered = λ at h. let c = fill.covered at h in part_covers c.by c.piece at c.is_piece c.has_point (decide_id c.by id);
    }

  module _ (domain : Rect) (fill : FillDomain fine domain) where
    -- a piece of the coarse store other than the whole is one of the fine store
    still : (n : TileId) (p : Strip) → IsPiece coarse n p → n ≢ id → (IsPiece fine n p) × (n ≢ other)
    still n p e d =
        let P : TileId → Type 0 = λ i. IsPiece coarse i p in
        let differs : n ≢ other = λ same. not_absent coarse other p (subst P same e) split.was_absent in
        (split.elsewhere n d differs ∙ e, differs)

    owned : (at : Point) → HasPoint first.area at ⊎ HasPoint second.area at → HasPoint domain at
    owned at (inl h) = (lies_in_points first.area domain).0 (fill.inside id first split.first_is) at h
    owned at (inr h) = (lies_in_points second.area domain).0 (fill.inside other second split.second_is) at h

    whole_inside : (n : TileId) (p : Strip) → IsPiece coarse n p → (n ≡ id) ⊎ (n ≢ id) → LiesIn p.area domain
    whole_inside n p e (inl same) =
        let P : TileId → Type 0 = λ i. IsPiece coarse i p in
        lies_in_from p.area domain (λ at h. owned at (parts.in_either at (moved coarse id p whole at (subst P same e) is_whole h)))
    whole_inside n p e (inr d) = fill.inside n p (still n p e d).0

    -- a piece other than the whole has no point of the parts
    not_in_part : (n : TileId) (p : Strip) (at : Point) → IsPiece coarse n p → n ≢ id → HasPoint p.area at → HasPoint first.area at ⊎ HasPoint second.area at → ⊥
    not_in_part n p at e d h (inl k) = d (fill.apart n id p first at (still n p e d).0 split.first_is h k)
    not_in_part n p at e d h (inr k) = (still n p e d).1 (fill.apart n other p second at (still n p e d).0 split.second_is h k)

    either_part : (n : TileId) (p : Strip) (at : Point) → IsPiece coarse n p → n ≡ id → HasPoint p.area at → HasPoint first.area at ⊎ HasPoint second.area at
    either_part n p at e same h =
        let P : TileId → Type 0 = λ i. IsPiece coarse i p in
        parts.in_either at (moved coarse id p whole at (subst P same e) is_whole h)

    whole_apart : (i j : TileId) (p q : Strip) (at : Point) → IsPiece coarse i p → IsPiece coarse j q → HasPoint p.area at → HasPoint q.area at → (i ≡ id) ⊎ (i ≢ id) → (j ≡ id) ⊎ (j ≢ id) → i ≡ j
    whole_apart i j p q at e f h k (inl a) (inl b) = a ∙ sym b
    whole_apart i j p q at e f h k (inl a) (inr b) = absurd (not_in_part j q at f b k (either_part i p at e a h))
    whole_apart i j p q at e f h k (inr a) (inl b) = absurd (not_in_part i p at e a h (either_part j q at f b k))
    whole_apart i j p q at e f h k (inr a) (inr b) = fill.apart i j p q at (still i p e a).0 (still j q f b).0 h k

    whole_covers : (n : TileId) (p : Strip) (at : Point) → IsPiece fine n p → HasPoint p.area at → Comes n at → IsOfPiece coarse at
    whole_covers n p at e h (as_first same k) = record { by = id; piece = whole; is_piece = is_whole; has_point = parts.in_first at k }
    whole_covers n p at e h (as_second same k) = record { by = id; piece = whole; is_piece = is_whole; has_point = parts.in_second at k }
    whole_covers n p at e h (as_kept d f) = record { by = n; piece = p; is_piece = kept n p d f e; has_point = h }

    pub filled_by_whole : FillDomain coarse domain
    filled_by_whole = record {
      inside = λ n p e. whole_inside n p e (decide_id n id);
      apart = λ i j p q at e f h k. whole_apart i j p q at e f h k (decide_id i id) (decide_id j id);
      covered = λ at h. let c = fill.covered at h in whole_covers c.by c.piece at c.is_piece c.has_point (comes c.by c.piece at c.is_piece c.has_point (decide_id c.by id) (decide_id c.by other));
    }
