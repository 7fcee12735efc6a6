-- What a sort by the lowest row and then by the leftmost column gives.
use Rattle.std.proofs.Common.{ℕ, zero, suc, ℤ, ◌<ℤ◌, ◌≤ℤ◌, ◌≡◌, ◌<◌, ◌+◌, ◌-◌, refl, sym, subst, ap, ◌∙◌, true, false, List, length, get_or, arith}
use Rattle.std.specs.declared.cmp.Ordering.{Ordering}
use Rattle.std.specs.declared.cmp.Ordering.TheVariants.{Less, Equal}
use Rattle.std.specs.Cmp.{int_cmp_is}
use Rattle.std.specs.List.Sorted.{IsSortedByKey}
use Rattle.std.specs.Ordering.{int_cmp, is_lt, ordering_then}
use Rattle.std.proofs.lemmas.Int.{ints, by_lt_z}
use Rattle.plane_core.specs.declared.strips.Strip.{Strip}
use Rattle.plane_core.specs.Strips.{Precedes}
use Rattle.strip_merge.proofs.Under.{NoneBack}

-- the lowest row and the leftmost column
abbrev pub place_of : Strip → ℤ × ℤ
place_of s = (s.area.y0, s.area.x0)

-- how two such places compare
abbrev pub compared : ℤ × ℤ → ℤ × ℤ → Ordering
compared p q = ordering_then (int_cmp p.0 q.0) (int_cmp p.1 q.1)

less_is : (a b : ℤ) → a <ℤ b → int_cmp a b ≡ Less
less_is a b h = sym (int_cmp_is a b Less h)

equal_is : (a b : ℤ) → a ≡ b → int_cmp a b ≡ Equal
equal_is a b h = sym (int_cmp_is a b Equal h)

-- a strip that precedes another compares as less
compares_less : (s t : Strip) → Precedes s t → compared (place_of s) (place_of t) ≡ Less
compares_less s t p =
    by_lt_z s.area.y0 t.area.y0
    (λ less. ap (λ o. ordering_then o (int_cmp s.area.x0 t.area.x0)) (less_is s.area.y0 t.area.y0 less))
    (λ no_higher.
    let level : s.area.y0 ≡ t.area.y0 = (let h = p.no_higher in omega (arith, ints)) in
    ap (λ o. ordering_then o (int_cmp s.area.x0 t.area.x0)) (equal_is s.area.y0 t.area.y0 level)
    ∙ less_is s.area.x0 t.area.x0 (p.in_one_row no_higher))

not_less : (s t : Strip) → is_lt (compared (place_of s) (place_of t)) ≡ false → ¬ Precedes s t
not_less s t e p = let less : compared (place_of s) (place_of t) ≡ Less = compares_less s t p in let yes' : is_lt (compared (place_of s) (place_of t)) ≡ true = ap is_lt less in cc

-- not preceding goes on from strip to strip
not_back_on : (s t u : Strip) → ¬ Precedes t s → ¬ Precedes u t → ¬ Precedes u s
not_back_on s t u n m p =
    by_lt_z u.area.y0 t.area.y0
    (λ less. m (record { no_higher = omega (arith, ints); in_one_row = λ h. absurd (omega (arith, ints)) }))
    (λ h. by_lt_z t.area.y0 s.area.y0
    (λ less. n (record { no_higher = omega (arith, ints); in_one_row = λ k. absurd (omega (arith, ints)) }))
    (λ k. level h k))
  where
    level : t.area.y0 ≤ℤ u.area.y0 → s.area.y0 ≤ℤ t.area.y0 → ⊥
    level h k =
        let l = p.no_higher in
        let less = p.in_one_row (omega (arith, ints)) in
        by_lt_z t.area.x0 s.area.x0
        (λ left. n (record { no_higher = omega (arith, ints); in_one_row = λ _. left }))
        (λ right. m (record { no_higher = omega (arith, ints); in_one_row = λ _. omega (arith, ints) }))

-- neighbours that are not out of order make a list of which no two are
far : (ps : List Strip) → ((k : ℕ) (d : Strip) → k + 1 < length ps → ¬ Precedes (get_or ps (k + 1) d) (get_or ps k d)) → (n i j : ℕ) (d : Strip) → j ≡ i + suc n → j < length ps → ¬ Precedes (get_or ps j d) (get_or ps i d)
far ps near zero i j d e h =
    let P : ℕ → Type 0 = λ m. ¬ Precedes (get_or ps m d) (get_or ps i d) in
    let next : i + 1 ≡ j = omega arith in
    subst P next (near i d (omega arith))
far ps near (suc n) i j d e h =
    let P : ℕ → Type 0 = λ m. ¬ Precedes (get_or ps m d) (get_or ps i d) in
    let next : i + suc n + 1 ≡ j = omega arith in
    subst P next (not_back_on (get_or ps i d) (get_or ps (i + suc n) d) (get_or ps (i + suc n + 1) d)
    (far ps near n i (i + suc n) d refl (omega arith)) (near (i + suc n) d (omega arith)))

-- what a sort gives has no two strips out of order
pub sorted_none_back : (ps : List Strip) → IsSortedByKey place_of compared ps → NoneBack ps
sorted_none_back ps sorted i j d less within =
    let near : (k : ℕ) (e : Strip) → k + 1 < length ps → ¬ Precedes (get_or ps (k + 1) e) (get_or ps k e) =
    λ k e h. not_less (get_or ps (k + 1) e) (get_or ps k e) (sorted k e (omega arith) h) in
    far ps near (j - suc i) i j d (omega arith) within
