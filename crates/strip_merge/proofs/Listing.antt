-- The strips of a store: which they are, and their order.
use Rattle.std.proofs.Common.{ℕ, zero, suc, ◌≡◌, ◌⊎◌, inl, inr, refl, sym, subst, ap, List, [], ◌∷◌, Contains, Some, None, arith}
use Rattle.std.specs.Prelude.{slice_index_or}
use Rattle.std.specs.declared.option.Option.{Option}
use Rattle.geo_rect.specs.declared.shapes.Point.{Point}
use Rattle.geo_rect.specs.declared.shapes.Rect.{Rect}
use Rattle.geo_rect.specs.Plane.{HasPoint}
use Rattle.plane_core.specs.declared.strips.Strip.{Strip}
use Rattle.plane_core.specs.Strips.{IsInOrder}
use Rattle.plane_core.proofs.Members.{has_none}
use Rattle.tile_store.specs.declared.tiles.Tile.{Tile}
use Rattle.tile_store.specs.declared.tiles.TileId.{TileId}
use Rattle.tile_store.specs.Store.{Store}
use Rattle.stitch_walk.specs.Pieces.{piece_of, FillDomain, IsPiece}
use Rattle.strip_merge.specs.StripsOf.{pieces_in_order, placed, strips_of, with_strip}
use Rattle.strip_merge.proofs.Placing.{placed_adds, placed_in_order}

-- the piece at a place of a list of tiles
abbrev slot : List (Option Tile) → ℕ → Option Strip
slot tiles k = piece_of (slice_index_or tiles k None)

-- the strip is the piece at some place
record IsInSlot (tiles : List (Option Tile)) (p : Strip) : Type 0 where
  at : ℕ
  is_piece : slot tiles at ≡ Some p

more : (tile : Option Tile) (tiles : List (Option Tile)) → pieces_in_order (tile ∷ tiles) ≡ with_strip (piece_of tile) (pieces_in_order tiles)
unfolding pieces_in_order
more tile tiles = refl

none : (p : Strip) → Contains (pieces_in_order []) p → ⊥
unfolding pieces_in_order
none p h = has_none p h

with_cases : (o : Option Strip) (ss : List Strip) (p : Strip) → Contains (with_strip o ss) p → (o ≡ Some p) ⊎ Contains ss p
with_cases None ss p h = inr h
with_cases (Some s) ss p h = elim ((placed_adds s ss).no_other p h) [ inl e ↦ inl (ap Some e) | inr k ↦ inr k ]

with_old : (o : Option Strip) (ss : List Strip) (p : Strip) → Contains ss p → Contains (with_strip o ss) p
with_old None ss p h = h
with_old (Some s) ss p h = (placed_adds s ss).has_old p h

with_new : (o : Option Strip) (ss : List Strip) (p : Strip) → o ≡ Some p → Contains (with_strip o ss) p
with_new None ss p e = cc
with_new (Some s) ss p e = let P : Strip → Type 0 = λ q. Contains (placed s ss) q in let same : s ≡ p = cc in subst P same (placed_adds s ss).has_new

in_slot : (tiles : List (Option Tile)) (p : Strip) → Contains (pieces_in_order tiles) p → IsInSlot tiles p
in_slot [] p h = absurd (none p h)
in_slot (tile ∷ tiles) p h =
    let P : List Strip → Type 0 = λ l. Contains l p in
    elim (with_cases (piece_of tile) (pieces_in_order tiles) p (subst P (more tile tiles) h)) [
      | inl e ↦ record { at = zero; is_piece = e }
      | inr k ↦ (let rest : IsInSlot tiles p = in_slot tiles p k in record { at = suc rest.at; is_piece = rest.is_piece })
    ]

from_slot : (tiles : List (Option Tile)) (k : ℕ) (p : Strip) → slot tiles k ≡ Some p → Contains (pieces_in_order tiles) p
from_slot [] k p e = cc
from_slot (tile ∷ tiles) zero p e =
    let P : List Strip → Type 0 = λ l. Contains l p in
    subst P (sym (more tile tiles)) (with_new (piece_of tile) (pieces_in_order tiles) p e)
from_slot (tile ∷ tiles) (suc k) p e =
    let P : List Strip → Type 0 = λ l. Contains l p in
    subst P (sym (more tile tiles)) (with_old (piece_of tile) (pieces_in_order tiles) p (from_slot tiles k p e))

-- the pieces at two places have no common point
abbrev AreApart : List (Option Tile) → Type 0
AreApart tiles = (i j : ℕ) (p q : Strip) (at : Point) → slot tiles i ≡ Some p → slot tiles j ≡ Some q → HasPoint p.area at → HasPoint q.area at → i ≡ j

with_in_order : (o : Option Strip) (ss : List Strip) → IsInOrder ss → ((p t : Strip) (at : Point) → o ≡ Some p → Contains ss t → HasPoint p.area at → ¬ HasPoint t.area at) → IsInOrder (with_strip o ss)
with_in_order None ss o apart = o
with_in_order (Some s) ss o apart = placed_in_order s ss o (λ t at h. apart s t at refl h)

slots_in_order : (tiles : List (Option Tile)) → AreApart tiles → IsInOrder (pieces_in_order tiles)
unfolding pieces_in_order
slots_in_order [] apart = tt
slots_in_order (tile ∷ tiles) apart =
    with_in_order (piece_of tile) (pieces_in_order tiles)
    (slots_in_order tiles (λ i j p q at e f h k. let n : suc i ≡ suc j = apart (suc i) (suc j) p q at e f h k in omega arith))
    (λ p t at e c h k. let t' = in_slot tiles t c in let n : zero ≡ suc t'.at = apart zero (suc t'.at) p t at e t'.is_piece h k in absurd (omega arith))

-- the strip is the piece under some number
pub record IsNumbered (s : Store) (p : Strip) : Type 0 where
  pub by : TileId
  pub is_piece : IsPiece s by p

-- each strip of a store is a piece of it
pub numbered : (s : Store) (p : Strip) → Contains (strips_of s) p → IsNumbered s p
numbered s p h = let k = in_slot s.slots p h in record { by = record { 0 = k.at }; is_piece = k.is_piece }

-- each piece of a store is one of its strips
pub listed : (s : Store) (id : TileId) (p : Strip) → IsPiece s id p → Contains (strips_of s) p
listed s id p e = from_slot s.slots id.0 p e

-- the strips of a filled domain are in order
pub strips_in_order : (s : Store) (domain : Rect) → FillDomain s domain → IsInOrder (strips_of s)
strips_in_order s domain fill =
    slots_in_order s.slots (λ i j p q at e f h k.
    let F : TileId → ℕ = λ id. id.0 in ap F (fill.apart (record { 0 = i }) (record { 0 = j }) p q at e f h k))
