-- The four rectangles of a frame.
use Rattle.std.proofs.Common.{◌≡◌, ℤ, pos, ◌+ℤ◌, ◌≤ℤ◌, ◌<ℤ◌, List, [], ◌∷◌, All, Any, ◌⊎◌, inl, inr, refl, sym, subst, arith}
use Rattle.std.proofs.lemmas.Int.{ints, by_lt_z}
use Rattle.std.proofs.lemmas.List.Elements.{All-nil, All-cons}
use Rattle.geo_rect.specs.declared.shapes.Interval.{Interval}
use Rattle.geo_rect.specs.declared.shapes.Point.{Point}
use Rattle.geo_rect.specs.declared.shapes.Rect.{Rect}
use Rattle.geo_rect.specs.Axis.{HasNumber}
use Rattle.geo_rect.specs.Plane.{HasPoint, rect_of, square}
use Rattle.board_parts.specs.declared.parts.BoardParts.{BoardParts}
use Rattle.board_parts.specs.Rules.{IsOnBoard}
use Rattle.grow_rules.specs.Frames.{IsBoardPoint, IsWhole, IsLowEnd, IsHighEnd}

-- the rectangle has exactly the points of the board of one sort, and their squares leave the board
pub record IsPart (b : BoardParts) (half : ℤ) (sort : Point → Type 0) (r : Rect) : Type 0 where
  pub point : (p : Point) → HasPoint r p → IsBoardPoint b p
  pub out : (p : Point) → HasPoint r p → IsOnBoard b.width b.height (square p half) → ⊥
  pub all : (p : Point) → IsBoardPoint b p → sort p → HasPoint r p

module _ (b : BoardParts) (half : ℤ) where
  abbrev pub IsLeft : Point → Type 0
  IsLeft p = p.x <ℤ half

  abbrev pub IsRight : Point → Type 0
  IsRight p = b.width <ℤ (p.x +ℤ half)

  abbrev pub IsBelow : Point → Type 0
  IsBelow p = p.y <ℤ half

  abbrev pub IsAbove : Point → Type 0
  IsAbove p = b.height <ℤ (p.y +ℤ half)

  module _ (some : pos 1 ≤ℤ half) (r : Rect) (i j : Interval) (is : r ≡ rect_of i j) (w h z : ℤ) (ew : w ≡ b.width) (eh : h ≡ b.height) (ez : z ≡ half) where
    there : (p : Point) → HasPoint r p → HasPoint (rect_of i j) p
    there p q = subst (λ (x : Rect). HasPoint x p) is q

    back : (p : Point) → HasNumber i p.x → HasNumber j p.y → HasPoint r p
    back p q t = let m : HasPoint (rect_of i j) p = record { across = q; up = t } in subst (λ (x : Rect). HasPoint x p) (sym is) m

    pub left_part : IsLowEnd w z i → IsWhole h j → IsPart b half IsLeft r
    left_part e u = record {
      point = λ p q. let a = e.inside p.x (there p q).across in let o = u.inside p.y (there p q).up in
          record { across = record { from = a.from; to = omega (arith, ints) }; up = record { from = o.from; to = omega (arith, ints) } };
      out = λ p q on. let a = e.low p.x (there p q).across in let left = on.left in omega (arith, ints);
      all = λ p q t. back p
          (e.all p.x (record { from = q.across.from; to = omega (arith, ints) }) (omega (arith, ints)))
          (u.all p.y (record { from = q.up.from; to = omega (arith, ints) }));
    }

    pub right_part : IsHighEnd w z i → IsWhole h j → IsPart b half IsRight r
    right_part e u = record {
      point = λ p q. let a = e.inside p.x (there p q).across in let o = u.inside p.y (there p q).up in
          record { across = record { from = a.from; to = omega (arith, ints) }; up = record { from = o.from; to = omega (arith, ints) } };
      out = λ p q on. let a = e.high p.x (there p q).across in let right = on.right in omega (arith, ints);
      all = λ p q t. back p
          (e.all p.x (record { from = q.across.from; to = omega (arith, ints) }) (omega (arith, ints)))
          (u.all p.y (record { from = q.up.from; to = omega (arith, ints) }));
    }

    pub lower_part : IsWhole w i → IsLowEnd h z j → IsPart b half IsBelow r
    lower_part u e = record {
      point = λ p q. let o = u.inside p.x (there p q).across in let a = e.inside p.y (there p q).up in
          record { across = record { from = o.from; to = omega (arith, ints) }; up = record { from = a.from; to = omega (arith, ints) } };
      out = λ p q on. let a = e.low p.y (there p q).up in let below = on.below in omega (arith, ints);
      all = λ p q t. back p
          (u.all p.x (record { from = q.across.from; to = omega (arith, ints) }))
          (e.all p.y (record { from = q.up.from; to = omega (arith, ints) }) (omega (arith, ints)));
    }

    pub upper_part : IsWhole w i → IsHighEnd h z j → IsPart b half IsAbove r
    upper_part u e = record {
      point = λ p q. let o = u.inside p.x (there p q).across in let a = e.inside p.y (there p q).up in
          record { across = record { from = o.from; to = omega (arith, ints) }; up = record { from = a.from; to = omega (arith, ints) } };
      out = λ p q on. let a = e.high p.y (there p q).up in let above = on.above in omega (arith, ints);
      all = λ p q t. back p
          (u.all p.x (record { from = q.across.from; to = omega (arith, ints) }))
          (e.all p.y (record { from = q.up.from; to = omega (arith, ints) }) (omega (arith, ints)));
    }

  part_on_board : (sort : Point → Type 0) (r : Rect) → IsPart b half sort r → IsOnBoard b.width b.height r
  part_on_board sort r s =
      let low : Point = record { x = r.x0; y = r.y0 } in
      let high : Point = record { x = r.x1; y = r.y1 } in
      let has_low : HasPoint r low = record { across = record { from = omega (arith, ints); to = r.x_ordered }; up = record { from = omega (arith, ints); to = r.y_ordered } } in
      let has_high : HasPoint r high = record { across = record { from = r.x_ordered; to = omega (arith, ints) }; up = record { from = r.y_ordered; to = omega (arith, ints) } } in
      let first = s.point low has_low in
      let last = s.point high has_high in
      record { left = first.across.from; below = first.up.from; right = last.across.to; above = last.up.to }

  -- what is so of each is so of some
  all_any : (P Q : Rect → Type 0) (R : Type 0) (xs : List Rect) → All P xs → Any Q xs → ((x : Rect) → P x → Q x → R) → R
  all_any P Q R xs all any f = f any.1 (subst P any.3 (all any.0 any.1 any.2)) any.4

  module _ (some : pos 1 ≤ℤ half) (e w s n : Rect) (left : IsPart b half IsLeft e) (right : IsPart b half IsRight w) (below : IsPart b half IsBelow s) (above : IsPart b half IsAbove n) where
    pub all_inside : All (λ (r : Rect). IsOnBoard b.width b.height r) (e ∷ w ∷ s ∷ n ∷ [])
    all_inside =
        let P : Rect → Type 0 = λ r. IsOnBoard b.width b.height r in
        All-cons P e (w ∷ s ∷ n ∷ []) (part_on_board IsLeft e left) (All-cons P w (s ∷ n ∷ []) (part_on_board IsRight w right) (All-cons P s (n ∷ []) (part_on_board IsBelow s below) (All-cons P n [] (part_on_board IsAbove n above) (All-nil P))))

    pub any_leaves : (p : Point) → Any (λ (r : Rect). HasPoint r p) (e ∷ w ∷ s ∷ n ∷ []) → IsOnBoard b.width b.height (square p half) → ⊥
    any_leaves p any on =
        let P : Rect → Type 0 = λ r. HasPoint r p → IsOnBoard b.width b.height (square p half) → ⊥ in
        let each : All P (e ∷ w ∷ s ∷ n ∷ []) = All-cons P e (w ∷ s ∷ n ∷ []) (left.out p) (All-cons P w (s ∷ n ∷ []) (right.out p) (All-cons P s (n ∷ []) (below.out p) (All-cons P n [] (above.out p) (All-nil P)))) in
        all_any P (λ (r : Rect). HasPoint r p) ⊥ (e ∷ w ∷ s ∷ n ∷ []) each any (λ x f q. f q on)

    pub others_fit : (p : Point) → IsBoardPoint b p → Any (λ (r : Rect). HasPoint r p) (e ∷ w ∷ s ∷ n ∷ []) ⊎ IsOnBoard b.width b.height (square p half)
    others_fit p q =
        by_lt_z p.x half (λ t. inl (0, e, omega arith, refl, left.all p q t)) (λ l.
        by_lt_z b.width (p.x +ℤ half) (λ t. inl (1, w, omega arith, refl, right.all p q t)) (λ r.
        by_lt_z p.y half (λ t. inl (2, s, omega arith, refl, below.all p q t)) (λ d.
        by_lt_z b.height (p.y +ℤ half) (λ t. inl (3, n, omega arith, refl, above.all p q t)) (λ u.
        inr (record { left = omega (arith, ints); below = omega (arith, ints); right = omega (arith, ints); above = omega (arith, ints) })))))
