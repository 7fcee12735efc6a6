-- The tiling of one free tile is stitched, and its one strip is the domain.
use Rattle.std.proofs.Common.{ℕ, ◌≡◌, ◌≢◌, ◌⊎◌, inl, inr, sym, subst, ap, [], ◌∷◌, Contains, Some, None, arith}
use Rattle.std.proofs.lemmas.Int.{ints}
use Rattle.geo_rect.specs.declared.ids.Label.TheVariants.{Free}
use Rattle.geo_rect.specs.declared.shapes.Rect.{Rect}
use Rattle.plane_core.specs.declared.strips.Strip.{Strip}
use Rattle.plane_core.specs.LocalForm.{IsSideDefect, IsStackDefect}
use Rattle.plane_core.proofs.Choices.{has_one, order_one}
use Rattle.plane_core.proofs.Members.{has_head}
use Rattle.plane_core.proofs.Ordered.{same_members}
use Rattle.tile_store.specs.declared.tiles.TileId.{TileId}
use Rattle.tile_store.specs.Store.{Store, tile_at}
use Rattle.stitch_walk.specs.Links.{whole_tile, IsOnlyTile, IsTiling}
use Rattle.stitch_walk.specs.Maximal.{AreMaximal}
use Rattle.stitch_walk.specs.Pieces.{piece_of, IsPiece}
use Rattle.stitch_walk.proofs.Filled.{filled}
use Rattle.strip_merge.specs.Stitched.{IsStitched}
use Rattle.strip_merge.specs.StripsOf.{strips_of}
use Rattle.strip_merge.proofs.Listing.{listed, numbered, strips_in_order}

-- the whole domain, free
abbrev whole : Rect → Strip
whole domain = record { area = domain; label = Free }

number_cases : (m n : ℕ) → (m ≡ n) ⊎ (m ≢ n)
number_cases m n = grind arith

same_or_other : (a b : TileId) → (a ≡ b) ⊎ (a ≢ b)
same_or_other a b = by_number (number_cases a.0 b.0)
  where
    by_number : (a.0 ≡ b.0) ⊎ (a.0 ≢ b.0) → (a ≡ b) ⊎ (a ≢ b)
    by_number (inl e) = let F : ℕ → TileId = λ n. record { 0 = n } in inl (ap F e)
    by_number (inr n) = let F : TileId → ℕ = λ id. id.0 in inr (λ e. n (ap F e))

-- each piece is the whole domain
only_piece : (s : Store) (domain : Rect) (id : TileId) (p : Strip) → IsOnlyTile s (whole_tile domain) → IsPiece s id p → p ≡ whole domain
only_piece s domain id p only e = by_number (same_or_other id only.id)
  where
    by_number : (id ≡ only.id) ⊎ (id ≢ only.id) → p ≡ whole domain
    by_number (inl same) =
        let P : TileId → Type 0 = λ i. IsPiece s i p in
        let here : piece_of (tile_at s only.id) ≡ Some p = subst P same e in
        let whole_here : piece_of (tile_at s only.id) ≡ Some (whole domain) = ap piece_of only.is_there in
        cc
    by_number (inr n) =
        let absent : piece_of (tile_at s id) ≡ None = ap piece_of (only.alone id n) in
        let here : piece_of (tile_at s id) ≡ Some p = e in
        cc

no_side : (domain : Rect) → ¬ IsSideDefect (whole domain) (whole domain)
no_side domain d = let touch = d.touch in let o = domain.x_ordered in omega (arith, ints)

no_stack : (domain : Rect) → ¬ IsStackDefect (whole domain) (whole domain)
no_stack domain d = let touch = d.touch in let o = domain.y_ordered in omega (arith, ints)

pub only_stitched : (s : Store) (area domain : Rect) → IsTiling s area → IsOnlyTile s (whole_tile domain) → IsStitched s area
only_stitched s area domain is only = record { tiling = is; maximal = maximal }
  where
    maximal : AreMaximal s
    maximal = record {
      no_side_defect = λ i j p q ep eq d.
          let Q : Strip → Type 0 = λ a. IsSideDefect a q in
          let R : Strip → Type 0 = λ b. IsSideDefect (whole domain) b in
          no_side domain (subst R (only_piece s domain j q only eq) (subst Q (only_piece s domain i p only ep) d));
      no_stack_defect = λ i j p q ep eq d.
          let Q : Strip → Type 0 = λ a. IsStackDefect a q in
          let R : Strip → Type 0 = λ b. IsStackDefect (whole domain) b in
          no_stack domain (subst R (only_piece s domain j q only eq) (subst Q (only_piece s domain i p only ep) d));
    }

pub only_strips : (s : Store) (area domain : Rect) → IsTiling s area → IsOnlyTile s (whole_tile domain) → strips_of s ≡ whole domain ∷ []
only_strips s area domain is only =
    same_members (strips_of s) (whole domain ∷ []) (strips_in_order s area (filled s area is)) (order_one (whole domain))
    (λ p h. let n = numbered s p h in let P : Strip → Type 0 = λ q. Contains (whole domain ∷ []) q in
    subst P (sym (only_piece s domain n.by p only n.is_piece)) (has_head (whole domain) []))
    (λ p h. let P : Strip → Type 0 = λ q. Contains (strips_of s) q in
    subst P (has_one (whole domain) p h) (listed s only.id (whole domain) (ap piece_of only.is_there)))
