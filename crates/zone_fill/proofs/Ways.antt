-- Ways of allowed points: how they go on, and that they reach each point of an allowed rectangle.
use Rattle.std.proofs.Common.{ℕ, zero, suc, ℤ, pos, ◌≡◌, ◌≤◌, ◌+ℤ◌, ◌-ℤ◌, List, [], ◌∷◌, ◌++◌, refl, ap, subst, ◌∙◌, arith}
use Rattle.std.proofs.lemmas.Int.{ints, by_lt_z}
use Rattle.geo_rect.specs.declared.shapes.Interval.{Interval}
use Rattle.geo_rect.specs.declared.shapes.Point.{Point}
use Rattle.geo_rect.specs.declared.shapes.Rect.{Rect}
use Rattle.geo_rect.specs.Axis.{HasNumber}
use Rattle.geo_rect.specs.Distance.{apart}
use Rattle.geo_rect.specs.Line.{between}
use Rattle.geo_rect.specs.Plane.{columns, rows, HasPoint}
use Rattle.geo_rect.proofs.Steps.{between-self, between-zero}
use Rattle.zone_fill.specs.Pour.{IsWay, end_of_way, IsReachedBy}

-- points that are no unit apart are one
same_point : (p q : Point) → apart p q ≡ 0 → p ≡ q
same_point p q e =
    let made : ℤ → ℤ → Point = λ x y. record { x = x; y = y } in
    ap (λ x. made x p.y) (between-zero p.x q.x (omega arith)) ∙ ap (made q.x) (between-zero p.y q.y (omega arith))

-- t is a number of the interval one unit from x, and n units from y
record IsCloser (i : Interval) (x y t : ℤ) (n : ℕ) : Type 0 where
  inside : HasNumber i t
  step : between x t ≡ 1
  rest : between t y ≡ n

closer : (i : Interval) (x y : ℤ) (n : ℕ) → HasNumber i x → HasNumber i y → between x y ≡ suc n → (t : ℤ) × IsCloser i x y t n
closer i x y n h k e =
    by_lt_z x y
    (λ l. (x +ℤ pos 1, record { inside = record { from = omega (arith, ints); to = omega (arith, ints) }; step = omega (arith, ints); rest = omega (arith, ints) }))
    (λ l. (x -ℤ pos 1, record { inside = record { from = omega (arith, ints); to = omega (arith, ints) }; step = omega (arith, ints); rest = omega (arith, ints) }))

-- t is a point of the rectangle one step from p, and n steps from q
record IsNearer (r : Rect) (p q t : Point) (n : ℕ) : Type 0 where
  inside : HasPoint r t
  step : apart p t ≡ 1
  rest : apart t q ≡ n

nearer_by : (r : Rect) (p q : Point) (n k : ℕ) → HasPoint r p → HasPoint r q → apart p q ≡ suc n → between p.x q.x ≡ k → (t : Point) × IsNearer r p q t n
nearer_by r p q n zero h i e z =
    let t = closer (rows r) p.y q.y n h.up i.up (omega arith) in
    (record { x = p.x; y = t.0 }, record { inside = record { across = h.across; up = t.1.inside }; step = omega (arith, between-self p.x, t.1.step); rest = omega (arith, t.1.rest) })
nearer_by r p q n (suc k) h i e z =
    let t = closer (columns r) p.x q.x k h.across i.across z in
    (record { x = t.0; y = p.y }, record { inside = record { across = t.1.inside; up = h.up }; step = omega (arith, between-self p.y, t.1.step); rest = omega (arith, t.1.rest) })

nearer : (r : Rect) (p q : Point) (n : ℕ) → HasPoint r p → HasPoint r q → apart p q ≡ suc n → (t : Point) × IsNearer r p q t n
nearer r p q n h i e = nearer_by r p q n (between p.x q.x) h i e refl

module _ (IsStart IsAllowed : Point → Type 0) where
  abbrev Reached : Point → Type 0
  Reached p = IsReachedBy IsStart IsAllowed p

  end_allowed : (p : Point) (qs : List Point) → IsWay IsAllowed p qs → IsAllowed (end_of_way p qs)
  end_allowed p [] w = w
  end_allowed p (q ∷ qs) w = end_allowed q qs w.2

  way_push : (p q : Point) (qs : List Point) → IsWay IsAllowed p qs → apart (end_of_way p qs) q ≡ 1 → IsAllowed q → IsWay IsAllowed p (qs ++ q ∷ [])
  way_push p q [] w e a = (w, e, a)
  way_push p q (r ∷ rs) w e a = (w.0, w.1, way_push r q rs w.2 e a)

  end_push : (p q : Point) (qs : List Point) → end_of_way p (qs ++ q ∷ []) ≡ q
  end_push p q [] = refl
  end_push p q (r ∷ rs) = end_push r q rs

  pub reached_allowed : (p : Point) → Reached p → IsAllowed p
  reached_allowed p h = subst IsAllowed h.ends (end_allowed h.start h.points h.way)

  pub reached_start : (p : Point) → IsStart p → IsAllowed p → Reached p
  reached_start p s a = record { start = p; starts = s; points = []; way = a; ends = refl }

  pub reached_step : (p q : Point) → Reached p → apart p q ≡ 1 → IsAllowed q → Reached q
  reached_step p q h e a = record {
    start = h.start;
    starts = h.starts;
    points = h.points ++ q ∷ [];
    way = way_push h.start q h.points h.way (ap (λ (t : Point). apart t q) h.ends ∙ e) a;
    ends = end_push h.start q h.points;
  }

  near_by : (p q : Point) (n : ℕ) → Reached p → apart p q ≡ n → n ≤ 1 → IsAllowed q → Reached q
  near_by p q zero h e l a = subst Reached (same_point p q e) h
  near_by p q (suc n) h e l a = reached_step p q h (omega arith) a

  -- what is at most one step from a reached point is reached, if it is allowed
  pub reached_near : (p q : Point) → Reached p → apart p q ≤ 1 → IsAllowed q → Reached q
  reached_near p q h l a = near_by p q (apart p q) h refl l a

  -- where all points of a rectangle are allowed and one is reached, each is
  module _ (r : Rect) (allowed : (p : Point) → HasPoint r p → IsAllowed p) where
    within_by : (n : ℕ) (p q : Point) → HasPoint r p → HasPoint r q → apart p q ≡ n → Reached p → Reached q
    within_by zero p q h i e f = subst Reached (same_point p q e) f
    within_by (suc n) p q h i e f =
        let t = nearer r p q n h i e in
        within_by n t.0 q t.1.inside i t.1.rest (reached_step p t.0 f t.1.step (allowed t.0 t.1.inside))

    pub reached_within : (p q : Point) → HasPoint r p → HasPoint r q → Reached p → Reached q
    reached_within p q h i f = within_by (apart p q) p q h i refl f

  -- what holds of allowed starts and goes on by steps over allowed points holds of each reached point
  module _ (P : Point → Type 0) (begins : (p : Point) → IsStart p → IsAllowed p → P p) (goes_on : (p q : Point) → P p → apart p q ≡ 1 → IsAllowed q → P q) where
    along : (p : Point) (qs : List Point) → P p → IsWay IsAllowed p qs → P (end_of_way p qs)
    along p [] h w = h
    along p (q ∷ []) h w = goes_on p q h w.1 w.2
    along p (q ∷ (r ∷ rs)) h w = along q (r ∷ rs) (goes_on p q h w.1 w.2.0) w.2

    first_allowed : (p : Point) (qs : List Point) → IsWay IsAllowed p qs → IsAllowed p
    first_allowed p [] w = w
    first_allowed p (q ∷ qs) w = w.0

    pub reached_holds : (p : Point) → Reached p → P p
    reached_holds p h = subst P h.ends (along h.start h.points (begins h.start h.starts (first_allowed h.start h.points h.way)) h.way)
