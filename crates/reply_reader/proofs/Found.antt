-- The words of a line are those that spell what stands in them.
use Rattle.std.proofs.Common.{◌≡◌, ℕ, zero, suc, ◌+◌, ◌<◌, List, [], ◌∷◌, length, drop, drop-cons, length-drop, Option, Some, None, refl, ap, ◌∙◌, arith}
use Rattle.std.specs.Option.{IfNone}
use Rattle.geo_rect.specs.declared.ids.LayerId.{LayerId}
use Rattle.geo_rect.specs.declared.ids.NetId.{NetId}
use Rattle.geo_rect.specs.declared.shapes.Rect.{Rect}
use Rattle.board_parts.specs.declared.parts.BoardParts.{BoardParts}
use Rattle.board_model.specs.declared.shapes.Owned.{Owned}
use Rattle.board_model.specs.declared.shapes.Violation.{Violation}
use Rattle.board_model.specs.declared.shapes.Violation.TheVariants.{Close, Outline}
use Rattle.route_law.specs.declared.certs.Entry.{Entry}
use Rattle.route_law.specs.declared.certs.Origin.{Origin}
use Rattle.route_law.specs.declared.certs.Origin.TheVariants as origin
use Rattle.route_law.specs.Regular.{IsFromZero}
use Rattle.reply_reader.specs.InRange.{IsAreaInRange}
use Rattle.reply_reader.specs.Fields.{IsAreaAt}
use Rattle.reply_reader.specs.Forms.{word}
use Rattle.reply_reader.specs.Said.{entry_line, entry_words, origin_place, IsOriginAt, IsEntryRestAt, IsEntryAt, violation_line, violation_words, IsCloseAt, IsOutlineAt, IsViolationAt}

-- what follows from what is said where there is no value
pub IfNone_then : {X : Type 0} (o : Option X) {P Q : Type 0} → IfNone o P → (P → Q) → IfNone o Q
IfNone_then None h f = f h
IfNone_then (Some x) h f = tt

-- so many words from a place on
abbrev pub words_from : List (List ℕ) → ℕ → ℕ → List (List ℕ)
words_from ws k zero = []
words_from ws k (suc n) = word ws k ∷ words_from ws (suc k) n

by_places_from : (ws : List (List ℕ)) (k n : ℕ) → length ws ≡ k + n → drop k ws ≡ words_from ws k n
by_places_from ws k zero e = let none : length (drop k ws) ≡ 0 = omega (arith, length-drop k ws) in no_words (drop k ws) none
  where
    no_words : (l : List (List ℕ)) → length l ≡ 0 → l ≡ []
    no_words [] e = refl
    no_words (w ∷ l) e = absurd (omega arith)
by_places_from ws k (suc n) e =
    let there : k < length ws = omega arith in
    let rest : length ws ≡ suc k + n = omega arith in
    drop-cons ws k [] there ∙ ap (λ (l : List (List ℕ)). word ws k ∷ l) (by_places_from ws (suc k) n rest)

pub by_places : (ws : List (List ℕ)) (n : ℕ) → length ws ≡ n → ws ≡ words_from ws 0 n
by_places ws n e = let long : length ws ≡ 0 + n = omega arith in by_places_from ws 0 n long

pub area_good : (ws : List (List ℕ)) (k : ℕ) (r : Rect) → IsAreaAt ws k r → IsFromZero r × IsAreaInRange r
area_good ws k r h =
    (record { left = h.left.from; below = h.below.from }, record { left = h.left.to; below = h.below.to; right = h.right.to; above = h.above.to })

pub entry_of : (b : BoardParts) (ws : List (List ℕ)) (e : Entry) → IsEntryAt b ws e → (entry_line b).IsGood e × (entry_words b e ≡ ws)
entry_of b ws e h = from e.origin h.source h.rest
  where
    from : (o : Origin) → IsOriginAt b ws o → IsEntryRestAt b ws (origin_place o) e
        → let d : Entry = record { layer = e.layer; strip = e.strip; front = e.front; cost = e.cost; origin = o } in (entry_line b).IsGood d × (entry_words b d ≡ ws)
    from (origin.Source n) s r =
        let strip = area_good ws 3 e.strip r.strip in
        let front = area_good ws 7 e.front r.front in
        let places : ws ≡ words_from ws 0 12 = by_places ws 12 s.form.long in
        let e0 = s.form.keyword in let e1 = s.number.0 in let e2 = r.layer in
        let e3 = r.strip.left.spelled in let e4 = r.strip.below.spelled in let e5 = r.strip.right.spelled in let e6 = r.strip.above.spelled in
        let e7 = r.front.left.spelled in let e8 = r.front.below.spelled in let e9 = r.front.right.spelled in let e10 = r.front.above.spelled in
        let e11 = r.cost.0 in
        ((record { layer = r.known; strip = strip.0; front = front.0; kind = tt }, record { source = s.number.1; strip = strip.1; front = front.1; cost = r.cost.1 }), cc)
    from (origin.Step n) s r =
        let strip = area_good ws 3 e.strip r.strip in
        let front = area_good ws 7 e.front r.front in
        let places : ws ≡ words_from ws 0 12 = by_places ws 12 s.form.long in
        let e0 = s.form.keyword in let e1 = s.number.0 in let e2 = r.layer in
        let e3 = r.strip.left.spelled in let e4 = r.strip.below.spelled in let e5 = r.strip.right.spelled in let e6 = r.strip.above.spelled in
        let e7 = r.front.left.spelled in let e8 = r.front.below.spelled in let e9 = r.front.right.spelled in let e10 = r.front.above.spelled in
        let e11 = r.cost.0 in
        ((record { layer = r.known; strip = strip.0; front = front.0; kind = tt }, record { source = s.number.1; strip = strip.1; front = front.1; cost = r.cost.1 }), cc)
    from (origin.Via n k) s r =
        let strip = area_good ws 4 e.strip r.strip in
        let front = area_good ws 8 e.front r.front in
        let places : ws ≡ words_from ws 0 13 = by_places ws 13 s.form.long in
        let e0 = s.form.keyword in let e1 = s.entry.0 in let ek = s.kind in let e2 = r.layer in
        let e3 = r.strip.left.spelled in let e4 = r.strip.below.spelled in let e5 = r.strip.right.spelled in let e6 = r.strip.above.spelled in
        let e7 = r.front.left.spelled in let e8 = r.front.below.spelled in let e9 = r.front.right.spelled in let e10 = r.front.above.spelled in
        let e11 = r.cost.0 in
        ((record { layer = r.known; strip = strip.0; front = front.0; kind = s.known }, record { source = s.entry.1; strip = strip.1; front = front.1; cost = r.cost.1 }), cc)

pub close_of : (b : BoardParts) (ws : List (List ℕ)) (l : LayerId) (o q : Owned) → IsCloseAt b ws l o q
    → (violation_line b).IsGood (Close l o q) × (violation_words b (Close l o q) ≡ ws)
close_of b ws l o q h = from o.owner q.owner h
  where
    from : (m n : Option NetId) → let p : Owned = record { owner = m; area = o.area } in let r : Owned = record { owner = n; area = q.area } in
        IsCloseAt b ws l p r → (violation_line b).IsGood (Close l p r) × (violation_words b (Close l p r) ≡ ws)
    from None None h =
        let first = area_good ws 3 o.area h.first.where_it_is in
        let second = area_good ws 8 q.area h.second.where_it_is in
        let places : ws ≡ words_from ws 0 12 = by_places ws 12 h.long in
        let ek = h.keyword in let el = h.layer in
        let em = h.first.whose in
        let f0 = h.first.where_it_is.left.spelled in let f1 = h.first.where_it_is.below.spelled in let f2 = h.first.where_it_is.right.spelled in let f3 = h.first.where_it_is.above.spelled in
        let eo = h.second.whose in
        let s0 = h.second.where_it_is.left.spelled in let s1 = h.second.where_it_is.below.spelled in let s2 = h.second.where_it_is.right.spelled in let s3 = h.second.where_it_is.above.spelled in
        (((h.known, record { owner = tt; area = first.0 }, record { owner = tt; area = second.0 }), (record { area = first.1 }, record { area = second.1 })), cc)
    from None (Some n) h =
        let first = area_good ws 3 o.area h.first.where_it_is in
        let second = area_good ws 9 q.area h.second.where_it_is in
        let places : ws ≡ words_from ws 0 13 = by_places ws 13 h.long in
        let ek = h.keyword in let el = h.layer in
        let em = h.first.whose in
        let f0 = h.first.where_it_is.left.spelled in let f1 = h.first.where_it_is.below.spelled in let f2 = h.first.where_it_is.right.spelled in let f3 = h.first.where_it_is.above.spelled in
        let eo = h.second.whose.0 in let ep = h.second.whose.1.net in
        let s0 = h.second.where_it_is.left.spelled in let s1 = h.second.where_it_is.below.spelled in let s2 = h.second.where_it_is.right.spelled in let s3 = h.second.where_it_is.above.spelled in
        (((h.known, record { owner = tt; area = first.0 }, record { owner = h.second.whose.1.known; area = second.0 }), (record { area = first.1 }, record { area = second.1 })), cc)
    from (Some m) None h =
        let first = area_good ws 4 o.area h.first.where_it_is in
        let second = area_good ws 9 q.area h.second.where_it_is in
        let places : ws ≡ words_from ws 0 13 = by_places ws 13 h.long in
        let ek = h.keyword in let el = h.layer in
        let em = h.first.whose.0 in let en = h.first.whose.1.net in
        let f0 = h.first.where_it_is.left.spelled in let f1 = h.first.where_it_is.below.spelled in let f2 = h.first.where_it_is.right.spelled in let f3 = h.first.where_it_is.above.spelled in
        let eo = h.second.whose in
        let s0 = h.second.where_it_is.left.spelled in let s1 = h.second.where_it_is.below.spelled in let s2 = h.second.where_it_is.right.spelled in let s3 = h.second.where_it_is.above.spelled in
        (((h.known, record { owner = h.first.whose.1.known; area = first.0 }, record { owner = tt; area = second.0 }), (record { area = first.1 }, record { area = second.1 })), cc)
    from (Some m) (Some n) h =
        let first = area_good ws 4 o.area h.first.where_it_is in
        let second = area_good ws 10 q.area h.second.where_it_is in
        let places : ws ≡ words_from ws 0 14 = by_places ws 14 h.long in
        let ek = h.keyword in let el = h.layer in
        let em = h.first.whose.0 in let en = h.first.whose.1.net in
        let f0 = h.first.where_it_is.left.spelled in let f1 = h.first.where_it_is.below.spelled in let f2 = h.first.where_it_is.right.spelled in let f3 = h.first.where_it_is.above.spelled in
        let eo = h.second.whose.0 in let ep = h.second.whose.1.net in
        let s0 = h.second.where_it_is.left.spelled in let s1 = h.second.where_it_is.below.spelled in let s2 = h.second.where_it_is.right.spelled in let s3 = h.second.where_it_is.above.spelled in
        (((h.known, record { owner = h.first.whose.1.known; area = first.0 }, record { owner = h.second.whose.1.known; area = second.0 }), (record { area = first.1 }, record { area = second.1 })), cc)

pub outline_of : (b : BoardParts) (ws : List (List ℕ)) (l : LayerId) (o : Owned) → IsOutlineAt b ws l o
    → (violation_line b).IsGood (Outline l o) × (violation_words b (Outline l o) ≡ ws)
outline_of b ws l o h = from o.owner h
  where
    from : (m : Option NetId) → let p : Owned = record { owner = m; area = o.area } in
        IsOutlineAt b ws l p → (violation_line b).IsGood (Outline l p) × (violation_words b (Outline l p) ≡ ws)
    from None h =
        let first = area_good ws 3 o.area h.shape.where_it_is in
        let places : ws ≡ words_from ws 0 7 = by_places ws 7 h.long in
        let ek = h.keyword in let el = h.layer in
        let em = h.shape.whose in
        let f0 = h.shape.where_it_is.left.spelled in let f1 = h.shape.where_it_is.below.spelled in let f2 = h.shape.where_it_is.right.spelled in let f3 = h.shape.where_it_is.above.spelled in
        (((h.known, record { owner = tt; area = first.0 }), record { area = first.1 }), cc)
    from (Some m) h =
        let first = area_good ws 4 o.area h.shape.where_it_is in
        let places : ws ≡ words_from ws 0 8 = by_places ws 8 h.long in
        let ek = h.keyword in let el = h.layer in
        let em = h.shape.whose.0 in let en = h.shape.whose.1.net in
        let f0 = h.shape.where_it_is.left.spelled in let f1 = h.shape.where_it_is.below.spelled in let f2 = h.shape.where_it_is.right.spelled in let f3 = h.shape.where_it_is.above.spelled in
        (((h.known, record { owner = h.shape.whose.1.known; area = first.0 }), record { area = first.1 }), cc)

pub violation_of : (b : BoardParts) (ws : List (List ℕ)) (v : Violation) → IsViolationAt b ws v → (violation_line b).IsGood v × (violation_words b v ≡ ws)
violation_of b ws (Close l o q) h = close_of b ws l o q h
violation_of b ws (Outline l o) h = outline_of b ws l o h
