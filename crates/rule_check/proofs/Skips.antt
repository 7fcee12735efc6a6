-- A run that lies in a rectangle which no gap reaches from a shape has nothing that is too close to it.
use Rattle.std.proofs.Common.{◌≡◌, ℕ, ◌-◌, ◌*◌, ◌/◌, ◌%◌, ◌<◌, ◌≤◌, ℤ, ◌≤ℤ◌, Bool, true, false, cond, List, [], ◌∷◌, ◌++◌, length, map, drop, get_or, ◌⊎◌, inl, inr, refl, sym, ap, ◌∙◌, subst, arith, length-append, append_assoc, take-append-drop, drop-drop}
use Rattle.std.specs.List.{AllByRecursion, filter}
use Rattle.std.proofs.lemmas.Bool.{false≢true, cases_lt}
use Rattle.std.proofs.lemmas.Int.{ints}
use Rattle.std.proofs.lemmas.Nat.{div-add-mod'}
use Rattle.std.proofs.lemmas.List.{get_or_append_left, get_or_push, map-append}
use Rattle.std.proofs.lemmas.List.Elements.{recursion_from_All, filter-append}
use Rattle.geo_rect.specs.declared.shapes.Interval.{Interval}
use Rattle.geo_rect.specs.declared.shapes.Rect.{Rect}
use Rattle.geo_rect.specs.Axis.{LiesWithin, IsNear}
use Rattle.geo_rect.specs.Plane.{LiesIn, IsTooClose, columns, rows}
use Rattle.geo_rect.specs.Tests.{are_too_close}
use Rattle.geo_rect.proofs.Tests.{Decides-are_too_close}
use Rattle.board_parts.specs.declared.parts.BoardParts.{BoardParts}
use Rattle.board_parts.specs.Gaps.{gap_between}
use Rattle.board_model.specs.declared.shapes.Shape.{Shape}
use Rattle.board_model.specs.declared.shapes.Violation.{Violation}
use Rattle.board_model.specs.Spacing.{breaks_gap}
use Rattle.board_model.specs.Violations.{close_pair, close_of}
use Rattle.rule_check.specs.Bounds.{NoGapIsGreater}
use Rattle.rule_check.specs.Hulls.{AllLieIn, AreHulls, run_at}
use Rattle.rule_check.proofs.Exact.{Decides-breaks_gap}

-- what is near a part is near the whole, for a gap that is no less
near_whole : (i part whole : Interval) (g most : ℤ) → LiesWithin part whole → g ≤ℤ most → IsNear i part g → IsNear i whole most
near_whole i part whole g most w m n = record { after = omega (arith, ints); before = omega (arith, ints) }

close_whole : (a part whole : Rect) (g most : ℤ) → LiesIn part whole → g ≤ℤ most → IsTooClose a part g → IsTooClose a whole most
close_whole a part whole g most w m c =
    record {
      across = near_whole (columns a) (columns part) (columns whole) g most w.across m c.across;
      up = near_whole (rows a) (rows part) (rows whole) g most w.up m c.up;
    }

module _ (b : BoardParts) (s : Shape) (hull : Rect) (most : ℤ) (bound : NoGapIsGreater b most) (far : are_too_close s.area hull most ≡ false) where
  keeps_gap : (t : Shape) → LiesIn t.area hull → breaks_gap b s t ≡ false
  keeps_gap t l = by (breaks_gap b s t) refl
    where
      by : (k : Bool) → breaks_gap b s t ≡ k → breaks_gap b s t ≡ false
      by false e = e
      by true e =
          let close = ((Decides-breaks_gap b s t).0 e).close in
          let whole = close_whole s.area t.area hull (gap_between b s.layer s.owner t.owner) most l (bound s.layer s.owner t.owner) close in
          absurd (false≢true (sym far ∙ (Decides-are_too_close s.area hull most).1 whole))

  none_close : (run : List Shape) → AllByRecursion (λ (t : Shape). LiesIn t.area hull) run → filter (breaks_gap b s) run ≡ []
  none_close [] h = refl
  none_close (t ∷ run) h = ap (λ k. cond k (t ∷ filter (breaks_gap b s) run) (filter (breaks_gap b s) run)) (keeps_gap t h.0) ∙ none_close run h.1

  -- a whole run has no violation
  pub far_run : (run : List Shape) → AllLieIn hull run → close_of b s run ≡ []
  far_run run h = ap (map (close_pair s)) (none_close run (recursion_from_All (λ (t : Shape). LiesIn t.area hull) run h))

-- a run that begins at a place lies in the hull of its number
pub hull_at : (shapes : List Shape) (size : ℕ) (hulls : List Rect) (place : ℕ) (hull : Rect) → AreHulls shapes size hulls → place % size ≡ 0 → place / size < length hulls → hull ≡ get_or hulls (place / size) hull → AllLieIn hull (run_at shapes place size)
hull_at shapes size hulls place hull h e l i =
    let start : place / size * size ≡ place = omega (arith, div-add-mod' place size) in
    let here : AllLieIn hull (run_at shapes (place / size * size) size) = subst (λ r. AllLieIn r (run_at shapes (place / size * size) size)) (sym i) (h (place / size) hull l) in
    subst (λ n. AllLieIn hull (run_at shapes n size)) start here

-- what the test of a run says
pub far_at : (b : BoardParts) (s : Shape) (shapes : List Shape) (size : ℕ) (hulls : List Rect) (place : ℕ) (hull : Rect) (most : ℤ) → NoGapIsGreater b most → AreHulls shapes size hulls → place % size ≡ 0 → place / size < length hulls → hull ≡ get_or hulls (place / size) hull → are_too_close s.area hull most ≡ false → close_of b s (run_at shapes place size) ≡ []
far_at b s shapes size hulls place hull most bound h e l i far = far_run b s hull most bound far (run_at shapes place size) (hull_at shapes size hulls place hull h e l i)

-- one run more has its hull
pub hulls_more : (shapes : List Shape) (size : ℕ) (hulls : List Rect) (place : ℕ) (hull : Rect) → AreHulls shapes size hulls → place ≡ length hulls * size → AllLieIn hull (run_at shapes place size) → AreHulls shapes size (hulls ++ hull ∷ [])
hulls_more shapes size hulls place hull h e l k d below = by (cases_lt k (length hulls))
  where
    by : (k < length hulls) ⊎ (length hulls ≤ k) → AllLieIn (get_or (hulls ++ hull ∷ []) k d) (run_at shapes (k * size) size)
    by (inl before) = subst (λ r. AllLieIn r (run_at shapes (k * size) size)) (sym (get_or_append_left hulls (hull ∷ []) d k before)) (h k d before)
    by (inr after) =
        let last : length hulls ≡ k = omega (arith, below, after, length-append hulls (hull ∷ [])) in
        let start : place ≡ k * size = e ∙ ap (λ n. n * size) last in
        subst (λ r. AllLieIn r (run_at shapes (k * size) size)) (sym (get_or_push hulls hull d k last)) (subst (λ n. AllLieIn hull (run_at shapes n size)) start l)

-- the shapes from a place on are those of a run and those after it
pub close_run : (b : BoardParts) (s : Shape) (shapes : List Shape) (p q : ℕ) (f g all : List Violation) → p < q → g ≡ f ++ close_of b s (run_at shapes p (q - p)) → f ++ close_of b s (drop p shapes) ≡ all → g ++ close_of b s (drop q shapes) ≡ all
close_run b s shapes p q f g all l e h =
    let test = breaks_gap b s in
    let run = run_at shapes p (q - p) in
    let after : drop (q - p) (drop p shapes) ≡ drop q shapes = drop-drop (q - p) p shapes ∙ ap (λ n. drop n shapes) (omega arith) in
    let parts : run ++ drop q shapes ≡ drop p shapes = ap (λ r. run ++ r) (sym after) ∙ take-append-drop (q - p) (drop p shapes) in
    let both : close_of b s run ++ close_of b s (drop q shapes) ≡ close_of b s (drop p shapes) =
    sym (map-append (close_pair s) (filter test run) (filter test (drop q shapes))) ∙ ap (map (close_pair s)) (sym (filter-append test run (drop q shapes))) ∙ ap (close_of b s) parts in
    ap (λ v. v ++ close_of b s (drop q shapes)) e ∙ append_assoc f (close_of b s run) (close_of b s (drop q shapes)) ∙ ap (λ v. f ++ v) both ∙ h

within-trans : (i j k : Interval) → LiesWithin i j → LiesWithin j k → LiesWithin i k
within-trans i j k l m = record { from = omega (arith, ints); to = omega (arith, ints) }

pub lies_in-trans : (a b c : Rect) → LiesIn a b → LiesIn b c → LiesIn a c
lies_in-trans a b c l m =
    record {
      across = within-trans (columns a) (columns b) (columns c) l.across m.across;
      up = within-trans (rows a) (rows b) (rows c) l.up m.up;
    }
