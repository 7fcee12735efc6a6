-- What a draft becomes when a piece is added.
use Rattle.std.proofs.Common.{◌≡◌, sym, subst, ◌∙◌, List, [], ◌∷◌, ◌++◌, ◌⊎◌, inl, inr, Contains, arith}
use Rattle.std.proofs.lemmas.Int.{ints, by_lt_z}
use Rattle.std.proofs.lemmas.List.Elements.{Contains-append_left, Contains-append_right, Contains-append_cases}
use Rattle.geo_rect.specs.declared.ids.Label.{Label}
use Rattle.geo_rect.specs.declared.shapes.Point.{Point}
use Rattle.geo_rect.specs.declared.shapes.Rect.{Rect}
use Rattle.geo_rect.specs.Axis.{HasNumber}
use Rattle.geo_rect.specs.Plane.{columns, rows, HasPoint}
use Rattle.plane_core.specs.declared.strips.Strip.{Strip}
use Rattle.plane_core.specs.Choice.{IsChoice}
use Rattle.plane_core.specs.Strips.{IsHeld, IsInOrder, Precedes}
use Rattle.plane_core.proofs.Alike.{corner, low_number, runs_meet}
use Rattle.plane_core.proofs.Choices.{has_one, order_append, order_push}
use Rattle.plane_core.proofs.Members.{has_head}
use Rattle.plane_core.proofs.Ordered.{precedes_on}
use Rattle.flat_plane.specs.Draft.{AreApart, IsDraft, IsJoinOf, IsRunInEachRow, Joins, KeepsPoints, StaysAfter, StaysBefore}
use Rattle.flat_plane.proofs.Decided.{joins_decided, precedes_decided}
use Rattle.flat_plane.proofs.Joining.{joins_back, joins_from_alike, part_point}

-- the strips that stay before, the joined piece, and the strips that stay after
pub record IsAdded (draft : List Strip) (piece whole : Strip) (before after : List Strip) : Type 0 where
  pub lower : IsChoice draft (StaysBefore whole) before
  pub upper : IsChoice draft (StaysAfter whole) after
  pub joined : IsJoinOf draft piece whole

abbrev pub added : List Strip → Strip → List Strip → List Strip
added before whole after = (before ++ whole ∷ []) ++ after

-- the three parts, put together as the code does it
pub added_parts : (new lower rest before after : List Strip) (whole : Strip) → new ≡ lower ++ rest → lower ≡ before ++ whole ∷ [] → rest ≡ after → new ≡ added before whole after
added_parts new lower rest before after whole e l r = cc

-- a strip of the new draft is an old one that cannot be joined with the piece, or is the piece
pub record IsOld (draft : List Strip) (whole s : Strip) : Type 0 where
  pub listed : Contains draft s
  pub apart : ¬ Joins s whole

origin : (draft : List Strip) (piece whole : Strip) (before after : List Strip) (s : Strip) → IsAdded draft piece whole before after → Contains (added before whole after) s → IsOld draft whole s ⊎ (whole ≡ s)
origin draft piece whole before after s is h =
    elim (Contains-append_cases (before ++ whole ∷ []) after s h) [
      | inl k ↦ elim (Contains-append_cases before (whole ∷ []) s k) [
        | inl m ↦ inl (record { listed = is.lower.listed s m; apart = (is.lower.wanted s m).apart })
        | inr m ↦ inr (has_one whole s m)
      ]
      | inr k ↦ inl (record { listed = is.upper.listed s k; apart = (is.upper.wanted s k).apart })
    ]

whole_listed : (whole : Strip) (before after : List Strip) → Contains (added before whole after) whole
whole_listed whole before after =
    Contains-append_left (before ++ whole ∷ []) after whole (Contains-append_right before (whole ∷ []) whole (has_head whole []))

apart_cases : (draft : List Strip) (whole s t : Strip) → AreApart draft → Joins s t → IsOld draft whole s ⊎ (whole ≡ s) → IsOld draft whole t ⊎ (whole ≡ t) → s ≡ t
apart_cases draft whole s t apart j (inl a) (inl b) = apart s t a.listed b.listed j
apart_cases draft whole s t apart j (inl a) (inr e) =
    absurd (a.apart (let P : Strip → Type 0 = λ u. Joins s u in subst P (sym e) j))
apart_cases draft whole s t apart j (inr e) (inl b) =
    absurd (b.apart (let P : Strip → Type 0 = λ u. Joins t u in subst P (sym e) (joins_back s t j)))
apart_cases draft whole s t apart j (inr e) (inr d) = sym e ∙ d

pub added_apart : (draft : List Strip) (piece whole : Strip) (before after : List Strip) → IsAdded draft piece whole before after → AreApart draft → AreApart (added before whole after)
added_apart draft piece whole before after is apart s t hs ht j =
    apart_cases draft whole s t apart j (origin draft piece whole before after s is hs) (origin draft piece whole before after t is ht)

pub added_runs : (domain : Rect) (f : Point → Label) (draft : List Strip) (piece whole : Strip) (before after : List Strip) → IsAdded draft piece whole before after → IsDraft domain f draft → IsRunInEachRow domain f piece → (s : Strip) → Contains (added before whole after) s → IsRunInEachRow domain f s
added_runs domain f draft piece whole before after is d r s h =
    elim (origin draft piece whole before after s is h) [
      | inl old ↦ d.runs s old.listed
      | inr e ↦ (let P : Strip → Type 0 = λ u. IsRunInEachRow domain f u in subst P e (is.joined.runs domain f d.runs r))
    ]

-- a strip that starts where another does can be joined with it
same_start : (domain : Rect) (f : Point → Label) (s t : Strip) → IsRunInEachRow domain f s → IsRunInEachRow domain f t → s.area.x0 ≡ t.area.x0 → s.area.y0 ≡ t.area.y0 → Joins s t
same_start domain f s t rs rt x y =
    let p : Point = corner s in
    let os = s.area.x_ordered in let ot = t.area.x_ordered in let us = s.area.y_ordered in let ut = t.area.y_ordered in
    let ht : HasNumber (rows t.area) p.y = record { from = omega (arith, ints); to = omega (arith, ints) } in
    let ct : HasNumber (columns t.area) p.x = record { from = omega (arith, ints); to = omega (arith, ints) } in
    joins_from_alike s t
    (runs_meet domain f s t p (rs p.y (low_number (rows s.area))) (rt p.y ht) (low_number (columns s.area)) ct)
    (record { first_reaches = omega (arith, ints); second_reaches = omega (arith, ints) })

-- what cannot be joined and does not come before comes after
comes_after : (domain : Rect) (f : Point → Label) (s whole : Strip) → IsRunInEachRow domain f s → IsRunInEachRow domain f whole → StaysAfter whole s → Precedes whole s
comes_after domain f s whole rs rw' stays =
    by_lt_z s.area.y0 whole.area.y0
    (λ lower. absurd (stays.not_before (record { no_higher = omega (arith, ints); in_one_row = λ back. absurd (omega (arith, ints)) })))
    (λ from. record {
      no_higher = from;
      in_one_row = λ back.
          by_lt_z whole.area.x0 s.area.x0
          (λ left. left)
          (λ right. by_lt_z s.area.x0 whole.area.x0
          (λ less. absurd (stays.not_before (record { no_higher = back; in_one_row = λ _. less })))
          (λ more. absurd (stays.apart (same_start domain f s whole rs rw' (omega (arith, ints)) (omega (arith, ints))))));
    })

pub added_order : (domain : Rect) (f : Point → Label) (draft : List Strip) (piece whole : Strip) (before after : List Strip) → IsAdded draft piece whole before after → IsDraft domain f draft → IsRunInEachRow domain f piece → IsInOrder (added before whole after)
added_order domain f draft piece whole before after is d r =
    let runs : IsRunInEachRow domain f whole = is.joined.runs domain f d.runs r in
    let last : (t : Strip) → Contains after t → Precedes whole t =
    λ t h. comes_after domain f t whole (d.runs t (is.upper.listed t h)) runs (is.upper.wanted t h) in
    order_append (before ++ whole ∷ []) after
    (order_push before whole is.lower.in_order (λ s h. (is.lower.wanted s h).before))
    is.upper.in_order
    (λ s t hs ht. elim (Contains-append_cases before (whole ∷ []) s hs) [
      | inl k ↦ precedes_on s whole t (is.lower.wanted s k).before (last t ht)
      | inr k ↦ (let P : Strip → Type 0 = λ u. Precedes u t in subst P (has_one whole s k) (last t ht))
    ])

pub added_draft : (domain : Rect) (f : Point → Label) (draft : List Strip) (piece whole : Strip) (before after : List Strip) → IsAdded draft piece whole before after → IsDraft domain f draft → IsRunInEachRow domain f piece → IsDraft domain f (added before whole after)
added_draft domain f draft piece whole before after is d r = record {
  runs = added_runs domain f draft piece whole before after is d r;
  apart = added_apart draft piece whole before after is d.apart;
  in_order = added_order domain f draft piece whole before after is d r;
}

pub added_holds : (draft : List Strip) (piece whole : Strip) (before after : List Strip) → IsAdded draft piece whole before after → (p : Point) → HasPoint piece.area p → IsHeld (added before whole after) p
added_holds draft piece whole before after is p h =
    record { by = whole; is_listed = whole_listed whole before after; has_point = part_point piece whole p is.joined.has_piece h }

old_holds : (draft : List Strip) (piece whole : Strip) (before after : List Strip) (s : Strip) (p : Point) → IsAdded draft piece whole before after → Contains draft s → HasPoint s.area p → Joins s whole ⊎ ¬ Joins s whole → Precedes s whole ⊎ ¬ Precedes s whole → IsHeld (added before whole after) p
old_holds draft piece whole before after s p is hs hp (inl j) order =
    record { by = whole; is_listed = whole_listed whole before after; has_point = part_point s whole p (is.joined.has_strips s hs j) hp }
old_holds draft piece whole before after s p is hs hp (inr n) (inl b) = record {
  by = s;
  is_listed = Contains-append_left (before ++ whole ∷ []) after s (Contains-append_left before (whole ∷ []) s (is.lower.complete s hs (record { apart = n; before = b })));
  has_point = hp;
}
old_holds draft piece whole before after s p is hs hp (inr n) (inr m) = record {
  by = s;
  is_listed = Contains-append_right (before ++ whole ∷ []) after s (is.upper.complete s hs (record { apart = n; not_before = m }));
  has_point = hp;
}

pub added_keeps : (draft : List Strip) (piece whole : Strip) (before after : List Strip) → IsAdded draft piece whole before after → KeepsPoints draft (added before whole after)
added_keeps draft piece whole before after is p h =
    old_holds draft piece whole before after h.by p is h.is_listed h.has_point (joins_decided h.by whole) (precedes_decided h.by whole)
