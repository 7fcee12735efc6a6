-- How a shape's label comes into a plane, strip by strip.
use Rattle.std.proofs.Common.{◌≡◌, ℕ, suc, ◌+◌, ◌<◌, length, take, drop, get_or, ℤ, List, [], ◌∷◌, ◌++◌, Option, inl, inr, refl, sym, ◌∙◌, ap, subst, arith}
use Rattle.std.specs.Prelude.{Contains}
use Rattle.std.proofs.Math.Seq.{split_at}
use Rattle.std.proofs.lemmas.List.{take_more}
use Rattle.std.proofs.lemmas.Int.{ints}
use Rattle.std.proofs.lemmas.List.Elements.{Contains-append_left, Contains-append_right, Contains-push, Contains-push_cases, Contains-get_or}
use Rattle.geo_rect.specs.declared.ids.Label.{Label}
use Rattle.geo_rect.specs.declared.ids.NetId.{NetId}
use Rattle.geo_rect.specs.declared.shapes.Interval.{Interval}
use Rattle.geo_rect.specs.declared.shapes.Point.{Point}
use Rattle.geo_rect.specs.declared.shapes.Rect.{Rect}
use Rattle.geo_rect.specs.Axis.{HasNumber, LiesWithin}
use Rattle.geo_rect.specs.Plane.{columns, rows, HasPoint, LiesIn, IsMeet, ShareNoPoint}
use Rattle.board_model.specs.Labels.{joined}
use Rattle.plane_core.specs.declared.strips.Strip.{Strip}
use Rattle.plane_core.specs.Choice.{Meets, IsChoice}
use Rattle.plane_core.specs.Labels.{label_of, IsPainted, IsPlane}
use Rattle.plane_core.specs.Strips.{IsHeld, IsInOrder, Precedes}
use Rattle.plane_core.proofs.Local.{local_from_strips}
use Rattle.plane_core.proofs.Members.{has_head, has_cases, has_none}
use Rattle.plane_core.proofs.Ordered.{precedes_not_itself}
use Rattle.plane_set.specs.Joins.{HaveInCommon, IsJoined, IsPieceJoined}

-- parts of a rectangle, by bounds and by points
number_within : (i j : Interval) (v : ℤ) → LiesWithin i j → HasNumber i v → HasNumber j v
number_within i j v l h = record { from = omega (arith, ints); to = omega (arith, ints) }

pub point_within : (a b : Rect) (p : Point) → LiesIn a b → HasPoint a p → HasPoint b p
point_within a b p l h = record {
  across = number_within (columns a) (columns b) p.x l.across h.across;
  up = number_within (rows a) (rows b) p.y l.up h.up;
}

within_on : (i j k : Interval) → LiesWithin i j → LiesWithin j k → LiesWithin i k
within_on i j k l m = record { from = omega (arith, ints); to = omega (arith, ints) }

pub lies_on : (a b c : Rect) → LiesIn a b → LiesIn b c → LiesIn a c
lies_on a b c l m = record {
  across = within_on (columns a) (columns b) (columns c) l.across m.across;
  up = within_on (rows a) (rows b) (rows c) l.up m.up;
}

has_low : (i : Interval) → HasNumber i i.low
has_low i = let o = i.ordered in record { from = omega (arith, ints); to = omega (arith, ints) }

has_high : (i : Interval) → HasNumber i i.high
has_high i = let o = i.ordered in record { from = omega (arith, ints); to = omega (arith, ints) }

pub lies_from_points : (a b : Rect) → ((p : Point) → HasPoint a p → HasPoint b p) → LiesIn a b
lies_from_points a b h =
    let low : Point = record { x = a.x0; y = a.y0 } in
    let high : Point = record { x = a.x1; y = a.y1 } in
    let l = h low (record { across = has_low (columns a); up = has_low (rows a) }) in
    let m = h high (record { across = has_high (columns a); up = has_high (rows a) }) in
    record {
      across = record { from = l.across.from; to = m.across.to };
      up = record { from = l.up.from; to = m.up.to };
    }

-- one strip
module _ (domain area piece : Rect) (label : Label) (owner : Option NetId) (old : Point → Label) where
  pub unchanged_piece : joined label owner ≡ label → ((p : Point) → HaveInCommon area piece p → old p ≡ label) → IsPieceJoined domain area piece label owner old old
  unchanged_piece e h = record { within = λ p c. h p c ∙ sym e; elsewhere = λ p d n. refl }

  pub painted_piece : (part : Rect) (new : Point → Label) (m : Label) → IsMeet area piece part → m ≡ joined label owner → IsPainted domain part m old new → IsPieceJoined domain area piece label owner old new
  painted_piece part new m meet e h = record {
    within = λ p c. h.within p (meet.all p c.in_first c.in_second) ∙ e;
    elsewhere = λ p d n. h.elsewhere p d (λ q. n (record { in_first = meet.first p q; in_second = meet.second p q }));
  }

pub part_inside : (domain area piece part : Rect) → IsMeet area piece part → LiesIn area domain → LiesIn part domain
part_inside domain area piece part meet l = lies_on part area domain (lies_from_points part area meet.first) l

pub not_apart : (area piece : Rect) → Meets piece area → ShareNoPoint area piece → ⊥
not_apart area piece m n = n m.at m.in_second m.in_first

-- the strips so far
pub record IsJoinedSoFar (domain area : Rect) (done : List Strip) (owner : Option NetId) (old new : Point → Label) : Type 0 where
  pub within : (p : Point) → HasPoint area p → IsHeld done p → new p ≡ joined (old p) owner
  pub elsewhere : (p : Point) → HasPoint domain p → (HasPoint area p → IsHeld done p → ⊥) → new p ≡ old p

pub none_joined : (domain area : Rect) (owner : Option NetId) (old : Point → Label) → IsJoinedSoFar domain area [] owner old old
none_joined domain area owner old = record { within = λ p a h. absurd (has_none h.by h.is_listed); elsewhere = λ p d n. refl }

held_more : (done : List Strip) (s : Strip) (p : Point) → IsHeld done p → IsHeld (done ++ s ∷ []) p
held_more done s p h = record { by = h.by; is_listed = Contains-append_left done (s ∷ []) h.by h.is_listed; has_point = h.has_point }

held_last : (done : List Strip) (s : Strip) (p : Point) → HasPoint s.area p → IsHeld (done ++ s ∷ []) p
held_last done s p h = record { by = s; is_listed = Contains-push done s; has_point = h }

module _ (domain area : Rect) (owner : Option NetId) (old : Point → Label) (inside : LiesIn area domain) where
  pub one_more_joined : (done : List Strip) (s : Strip) (mid new : Point → Label)
      → ((p : Point) → HasPoint s.area p → old p ≡ s.label)
      → ((p : Point) → HasPoint s.area p → IsHeld done p → ⊥)
      → IsJoinedSoFar domain area done owner old mid
      → IsPieceJoined domain area s.area s.label owner mid new
      → IsJoinedSoFar domain area (done ++ s ∷ []) owner old new
  one_more_joined done s mid new labelled fresh before step = record {
    within = λ p a h. elim (Contains-push_cases done s h.by h.is_listed) [
      | inl listed ↦
          let held : IsHeld done p = record { by = h.by; is_listed = listed; has_point = h.has_point } in
          step.elsewhere p (point_within area domain p inside a) (λ c. fresh p c.in_second held) ∙ before.within p a held
      | inr same ↦
          let here : HasPoint s.area p = subst (λ (t : Strip). HasPoint t.area p) (sym same) h.has_point in
          step.within p (record { in_first = a; in_second = here }) ∙ ap (λ l. joined l owner) (sym (labelled p here))
    ];
    elsewhere = λ p d n.
        step.elsewhere p d (λ c. n c.in_first (held_last done s p c.in_second))
        ∙ before.elsewhere p d (λ a h. n a (held_more done s p h));
  }

  pub all_joined : (found : List Strip) (new : Point → Label) → ((p : Point) → HasPoint area p → IsHeld found p) → IsJoinedSoFar domain area found owner old new → IsJoined domain area owner old new
  all_joined found new covered h = record {
    within = λ p a. h.within p a (covered p a);
    elsewhere = λ p d n. h.elsewhere p d (λ a k. n a);
  }

-- a strip of a list in order is held by none before it
precedes_later : (xs ys : List Strip) (s t : Strip) → IsInOrder (xs ++ s ∷ ys) → Contains xs t → Precedes t s
precedes_later [] ys s t o c = absurd (has_none t c)
precedes_later (x ∷ xs) ys s t o c =
    elim (has_cases x xs t c) [
      | inl e ↦ subst (λ (z : Strip). Precedes z s) e (o.0 s (Contains-append_right xs (s ∷ ys) s (has_head s ys)))
      | inr k ↦ precedes_later xs ys s t o.1 k
    ]

module _ (domain : Rect) (strips : List Strip) (plane : IsPlane domain strips) where
  pub strip_labelled : (s : Strip) (p : Point) → Contains strips s → HasPoint s.area p → label_of strips p ≡ s.label
  strip_labelled s p c h = (local_from_strips domain (label_of strips) strips plane).labelled s c p h

  pub strip_fresh : (xs ys : List Strip) (s : Strip) (p : Point) → ((t : Strip) → Contains (xs ++ s ∷ ys) t → Contains strips t) → IsInOrder (xs ++ s ∷ ys) → HasPoint s.area p → IsHeld xs p → ⊥
  strip_fresh xs ys s p listed o h k =
      let t : Strip = k.by in
      let here : Contains (xs ++ s ∷ ys) s = Contains-append_right xs (s ∷ ys) s (has_head s ys) in
      let there : Contains (xs ++ s ∷ ys) t = Contains-append_left xs (s ∷ ys) t k.is_listed in
      let e : t ≡ s = (local_from_strips domain (label_of strips) strips plane).apart t s (listed t there) (listed s here) p k.has_point h in
      let before : Precedes t s = precedes_later xs ys s t o k.is_listed in
      precedes_not_itself s (subst (λ (z : Strip). Precedes z s) e before)

-- the strip at a place of those that were found
module _ (domain area : Rect) (strips found : List Strip) (plane : IsPlane domain strips) (choice : IsChoice strips (λ s. Meets s.area area) found) (i : ℕ) (s : Strip) (e : s ≡ get_or found i s) (h : i < length found) where
  found_here : Contains found s
  found_here = subst (Contains found) (sym e) (Contains-get_or found i s h)

  split_here : found ≡ take i found ++ s ∷ drop (suc i) found
  split_here = split_at found i s h ∙ ap (λ (t : Strip). take i found ++ t ∷ drop (suc i) found) (sym e)

  pub meets_here : Meets s.area area
  meets_here = choice.wanted s found_here

  pub labelled_here : (p : Point) → HasPoint s.area p → label_of strips p ≡ s.label
  labelled_here p k = strip_labelled domain strips plane s p (choice.listed s found_here) k

  pub fresh_here : (p : Point) → HasPoint s.area p → IsHeld (take i found) p → ⊥
  fresh_here p k held =
      let rest : List Strip = drop (suc i) found in
      let listed : (t : Strip) → Contains (take i found ++ s ∷ rest) t → Contains strips t = λ t c. choice.listed t (subst (λ (ts : List Strip). Contains ts t) (sym split_here) c) in
      let order : IsInOrder (take i found ++ s ∷ rest) = subst IsInOrder split_here choice.in_order in
      strip_fresh domain strips plane (take i found) rest s p listed order k held

  pub still_labelled : (owner : Option NetId) (mid : Point → Label) → LiesIn area domain → IsJoinedSoFar domain area (take i found) owner (label_of strips) mid → (p : Point) → HaveInCommon area s.area p → mid p ≡ s.label
  still_labelled owner mid inside before p k =
      before.elsewhere p (point_within area domain p inside k.in_first) (λ a held. fresh_here p k.in_second held)
      ∙ labelled_here p k.in_second

  pub joined_here : (owner : Option NetId) (mid new : Point → Label) → LiesIn area domain → IsJoinedSoFar domain area (take i found) owner (label_of strips) mid → IsPieceJoined domain area s.area s.label owner mid new → IsJoinedSoFar domain area (take (i + 1) found) owner (label_of strips) new
  joined_here owner mid new inside before step =
      let more : take (i + 1) found ≡ take i found ++ s ∷ [] = take_more found i s h ∙ ap (λ (t : Strip). take i found ++ t ∷ []) (sym e) in
      subst (λ (done : List Strip). IsJoinedSoFar domain area done owner (label_of strips) new) (sym more)
      (one_more_joined domain area owner (label_of strips) inside (take i found) s mid new labelled_here fresh_here before step)
