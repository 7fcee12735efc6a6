-- What a zone has of strips, part by part.
use Rattle.std.proofs.Common.{ℕ, zero, suc, ◌≡◌, Bool, true, false, List, [], ◌∷◌, ◌++◌, All, Some, refl, ap, ◌∙◌}
use Rattle.std.specs.Prelude.{slice_get}
use Rattle.std.proofs.lemmas.List.Elements.{All-nil, All-cons}
use Rattle.std.proofs.lemmas.Option.{none-some}
use Rattle.geo_rect.specs.declared.shapes.Rect.{Rect}
use Rattle.geo_rect.specs.Plane.{IsBounded, IsMeet}
use Rattle.geo_rect.proofs.Parts.{bounded_within, lies_in_from}
use Rattle.plane_core.specs.declared.strips.Strip.{Strip}
use Rattle.strip_moves.proofs.Ways.{same_meet}
use Rattle.zone_fill.specs.Marks.{marked}
use Rattle.zone_fill.specs.Pour.{AreParts}

-- at the place, the zone has this part of this strip
pub record IsPartAt (zone : Rect) (ss : List Strip) (rs : List Rect) (i : ℕ) : Type 0 where
  pub strip : Strip
  pub part : Rect
  pub is_strip : slice_get ss i ≡ Some strip
  pub is_part : slice_get rs i ≡ Some part
  pub common : IsMeet zone strip.area part

later : (zone : Rect) (s : Strip) (ss : List Strip) (r : Rect) (rs : List Rect) (i : ℕ) → IsPartAt zone ss rs i → IsPartAt zone (s ∷ ss) (r ∷ rs) (suc i)
later zone s ss r rs i h = record { strip = h.strip; part = h.part; is_strip = h.is_strip; is_part = h.is_part; common = h.common }

-- where there is a strip there is its part, and the other way round
pub part_of_strip : (zone : Rect) (ss : List Strip) (rs : List Rect) (i : ℕ) (s : Strip) → AreParts zone ss rs → slice_get ss i ≡ Some s → IsPartAt zone ss rs i
part_of_strip zone [] rs i s h e = absurd (none-some s e)
part_of_strip zone (t ∷ ss) [] i s h e = absurd h
part_of_strip zone (t ∷ ss) (r ∷ rs) zero s h e = record { strip = t; part = r; is_strip = refl; is_part = refl; common = h.0 }
part_of_strip zone (t ∷ ss) (r ∷ rs) (suc i) s h e = later zone t ss r rs i (part_of_strip zone ss rs i s h.1 e)

pub strip_of_part : (zone : Rect) (ss : List Strip) (rs : List Rect) (i : ℕ) (r : Rect) → AreParts zone ss rs → slice_get rs i ≡ Some r → IsPartAt zone ss rs i
strip_of_part zone [] [] i r h e = absurd (none-some r e)
strip_of_part zone [] (t ∷ rs) i r h e = absurd h
strip_of_part zone (s ∷ ss) [] i r h e = absurd h
strip_of_part zone (s ∷ ss) (t ∷ rs) zero r h e = record { strip = s; part = t; is_strip = refl; is_part = refl; common = h.0 }
strip_of_part zone (s ∷ ss) (t ∷ rs) (suc i) r h e = later zone s ss t rs i (strip_of_part zone ss rs i r h.1 e)

pub parts_push : (zone : Rect) (ss : List Strip) (rs : List Rect) (s : Strip) (r : Rect) → AreParts zone ss rs → IsMeet zone s.area r → AreParts zone (ss ++ s ∷ []) (rs ++ r ∷ [])
parts_push zone [] [] s r h m = (m, tt)
parts_push zone [] (t ∷ rs) s r h m = absurd h
parts_push zone (u ∷ ss) [] s r h m = absurd h
parts_push zone (u ∷ ss) (t ∷ rs) s r h m = (h.0, parts_push zone ss rs s r h.1 m)

pub parts_marked : (zone : Rect) (ms : List Bool) (ss : List Strip) (rs : List Rect) → AreParts zone ss rs → AreParts zone (marked ms ss) (marked ms rs)
parts_marked zone [] ss rs h = tt
parts_marked zone (m ∷ ms) [] [] h = tt
parts_marked zone (m ∷ ms) [] (r ∷ rs) h = absurd h
parts_marked zone (m ∷ ms) (s ∷ ss) [] h = absurd h
parts_marked zone (true ∷ ms) (s ∷ ss) (r ∷ rs) h = (h.0, parts_marked zone ms ss rs h.1)
parts_marked zone (false ∷ ms) (s ∷ ss) (r ∷ rs) h = parts_marked zone ms ss rs h.1

-- the strips determine the parts
pub one_list_of_parts : (zone : Rect) (ss : List Strip) (rs ts : List Rect) → AreParts zone ss rs → AreParts zone ss ts → rs ≡ ts
one_list_of_parts zone [] [] [] h k = refl
one_list_of_parts zone [] [] (t ∷ ts) h k = absurd k
one_list_of_parts zone [] (r ∷ rs) ts h k = absurd h
one_list_of_parts zone (s ∷ ss) [] ts h k = absurd h
one_list_of_parts zone (s ∷ ss) (r ∷ rs) [] h k = absurd k
one_list_of_parts zone (s ∷ ss) (r ∷ rs) (t ∷ ts) h k =
    ap (λ (x : Rect). x ∷ rs) (same_meet zone s.area r t h.0 k.0) ∙ ap (λ (xs : List Rect). t ∷ xs) (one_list_of_parts zone ss rs ts h.1 k.1)

-- parts of a bounded zone are bounded
pub parts_bounded : (zone : Rect) (ss : List Strip) (rs : List Rect) → IsBounded zone → AreParts zone ss rs → All IsBounded rs
parts_bounded zone [] [] b h = All-nil IsBounded
parts_bounded zone [] (r ∷ rs) b h = absurd h
parts_bounded zone (s ∷ ss) [] b h = absurd h
parts_bounded zone (s ∷ ss) (r ∷ rs) b h = All-cons IsBounded r rs (bounded_within r zone (lies_in_from r zone h.0.first) b) (parts_bounded zone ss rs b h.1)
