-- One row: the runs after the numbers of an interval have got a label.
use Rattle.std.proofs.Common.{ℤ, pos, ◌-ℤ◌, ◌+ℤ◌, ◌≤ℤ◌, ◌<ℤ◌, ◌≡◌, ◌≢◌, sym, subst, ◌∙◌, arith}
use Rattle.std.proofs.lemmas.Int.{ints, by_lt_z}
use Rattle.geo_rect.specs.declared.ids.Label.{Label}
use Rattle.geo_rect.specs.declared.shapes.Interval.{Interval}
use Rattle.geo_rect.specs.Axis.{HasNumber, LiesWithin}
use Rattle.plane_core.specs.Strips.{IsRun}

-- in one row, new has the label in the interval and is old elsewhere
pub record IsPaintedRow (area : Interval) (m : Label) (old new : ℤ → Label) : Type 0 where
  pub within : (x : ℤ) → HasNumber area x → new x ≡ m
  pub elsewhere : (x : ℤ) → ¬ HasNumber area x → new x ≡ old x

before_area : (area : Interval) (x : ℤ) → x <ℤ area.low → ¬ HasNumber area x
before_area area x less h = let a = h.from in omega (arith, ints)

after_area : (area : Interval) (x : ℤ) → area.high <ℤ x → ¬ HasNumber area x
after_area area x more h = let a = h.to in omega (arith, ints)

-- what of a run lies to the left of the painted numbers
pub left_part : (d area s e : Interval) (m l : Label) (f g : ℤ → Label) → IsPaintedRow area m f g → IsRun d f s l → HasNumber s (area.low -ℤ pos 1) → ¬ (l ≡ m) → e.low ≡ s.low → e.high ≡ area.low -ℤ pos 1 → IsRun d g e l
left_part d area s e m l f g p r h n low high =
    let h1 = h.from in let h2 = h.to in let i1 = r.inside.from in let i2 = r.inside.to in let o = area.ordered in
    record {
      inside = record { from = omega (arith, ints); to = omega (arith, ints) };
      same = λ x hx.
          let a = hx.from in let b = hx.to in
          p.elsewhere x (before_area area x (omega (arith, ints))) ∙ r.same x (record { from = omega (arith, ints); to = omega (arith, ints) });
      ends_left = λ dx eq.
          let k : (e.low -ℤ pos 1) ≡ (s.low -ℤ pos 1) = omega (arith, ints) in
          let D : ℤ → Type 0 = λ x. HasNumber d x in
          let E : ℤ → Type 0 = λ x. g x ≡ l in
          r.ends_left (subst D k dx) (sym (p.elsewhere (s.low -ℤ pos 1) (before_area area (s.low -ℤ pos 1) (omega (arith, ints)))) ∙ subst E k eq);
      ends_right = λ dx eq.
          let k : (e.high +ℤ pos 1) ≡ area.low = omega (arith, ints) in
          let E : ℤ → Type 0 = λ x. g x ≡ l in
          n (sym (subst E k eq) ∙ p.within area.low (record { from = omega (arith, ints); to = o }));
    }

-- what of a run lies to the right of the painted numbers
pub right_part : (d area s e : Interval) (m l : Label) (f g : ℤ → Label) → IsPaintedRow area m f g → IsRun d f s l → HasNumber s (area.high +ℤ pos 1) → ¬ (l ≡ m) → e.low ≡ area.high +ℤ pos 1 → e.high ≡ s.high → IsRun d g e l
right_part d area s e m l f g p r h n low high =
    let h1 = h.from in let h2 = h.to in let i1 = r.inside.from in let i2 = r.inside.to in let o = area.ordered in
    record {
      inside = record { from = omega (arith, ints); to = omega (arith, ints) };
      same = λ x hx.
          let a = hx.from in let b = hx.to in
          p.elsewhere x (after_area area x (omega (arith, ints))) ∙ r.same x (record { from = omega (arith, ints); to = omega (arith, ints) });
      ends_left = λ dx eq.
          let k : (e.low -ℤ pos 1) ≡ area.high = omega (arith, ints) in
          let E : ℤ → Type 0 = λ x. g x ≡ l in
          n (sym (subst E k eq) ∙ p.within area.high (record { from = o; to = omega (arith, ints) }));
      ends_right = λ dx eq.
          let k : (e.high +ℤ pos 1) ≡ (s.high +ℤ pos 1) = omega (arith, ints) in
          let D : ℤ → Type 0 = λ x. HasNumber d x in
          let E : ℤ → Type 0 = λ x. g x ≡ l in
          r.ends_right (subst D k dx) (sym (p.elsewhere (s.high +ℤ pos 1) (after_area area (s.high +ℤ pos 1) (omega (arith, ints)))) ∙ subst E k eq);
    }

-- the new label's run can start here: it has the label up to the painted numbers, and not before
pub record IsLeftEdge (d area : Interval) (m : Label) (g : ℤ → Label) (low : ℤ) : Type 0 where
  pub inside : d.low ≤ℤ low
  pub before : low ≤ℤ area.low
  pub same : (x : ℤ) → low ≤ℤ x → x <ℤ area.low → g x ≡ m
  pub ends : HasNumber d (low -ℤ pos 1) → g (low -ℤ pos 1) ≢ m

pub record IsRightEdge (d area : Interval) (m : Label) (g : ℤ → Label) (high : ℤ) : Type 0 where
  pub inside : high ≤ℤ d.high
  pub after : area.high ≤ℤ high
  pub same : (x : ℤ) → x ≤ℤ high → area.high <ℤ x → g x ≡ m
  pub ends : HasNumber d (high +ℤ pos 1) → g (high +ℤ pos 1) ≢ m

pub left_edge_none : (d area : Interval) (m : Label) (f g : ℤ → Label) → LiesWithin area d → ¬ HasNumber d (area.low -ℤ pos 1) → IsLeftEdge d area m g area.low
left_edge_none d area m f g w n = record {
  inside = w.from;
  before = omega (arith, ints);
  same = λ x a b. absurd (omega (arith, ints));
  ends = λ h. absurd (n h);
}

pub right_edge_none : (d area : Interval) (m : Label) (f g : ℤ → Label) → LiesWithin area d → ¬ HasNumber d (area.high +ℤ pos 1) → IsRightEdge d area m g area.high
right_edge_none d area m f g w n = record {
  inside = w.to;
  after = omega (arith, ints);
  same = λ x a b. absurd (omega (arith, ints));
  ends = λ h. absurd (n h);
}

pub left_edge_apart : (d area s : Interval) (m l : Label) (f g : ℤ → Label) → IsPaintedRow area m f g → LiesWithin area d → IsRun d f s l → HasNumber s (area.low -ℤ pos 1) → ¬ (l ≡ m) → IsLeftEdge d area m g area.low
left_edge_apart d area s m l f g p w r h n = record {
  inside = w.from;
  before = omega (arith, ints);
  same = λ x a b. absurd (omega (arith, ints));
  ends = λ dx eq. n (sym (r.same (area.low -ℤ pos 1) h) ∙ sym (p.elsewhere (area.low -ℤ pos 1) (before_area area (area.low -ℤ pos 1) (omega (arith, ints)))) ∙ eq);
}

pub right_edge_apart : (d area s : Interval) (m l : Label) (f g : ℤ → Label) → IsPaintedRow area m f g → LiesWithin area d → IsRun d f s l → HasNumber s (area.high +ℤ pos 1) → ¬ (l ≡ m) → IsRightEdge d area m g area.high
right_edge_apart d area s m l f g p w r h n = record {
  inside = w.to;
  after = omega (arith, ints);
  same = λ x a b. absurd (omega (arith, ints));
  ends = λ dx eq. n (sym (r.same (area.high +ℤ pos 1) h) ∙ sym (p.elsewhere (area.high +ℤ pos 1) (after_area area (area.high +ℤ pos 1) (omega (arith, ints)))) ∙ eq);
}

pub left_edge_joined : (d area s : Interval) (m l : Label) (f g : ℤ → Label) → IsPaintedRow area m f g → IsRun d f s l → HasNumber s (area.low -ℤ pos 1) → l ≡ m → IsLeftEdge d area m g s.low
left_edge_joined d area s m l f g p r h e =
    let h1 = h.from in let h2 = h.to in
    record {
      inside = r.inside.from;
      before = omega (arith, ints);
      same = λ x a b. p.elsewhere x (before_area area x b) ∙ r.same x (record { from = a; to = omega (arith, ints) }) ∙ e;
      ends = λ dx eq. r.ends_left dx (sym (p.elsewhere (s.low -ℤ pos 1) (before_area area (s.low -ℤ pos 1) (omega (arith, ints)))) ∙ eq ∙ sym e);
    }

pub right_edge_joined : (d area s : Interval) (m l : Label) (f g : ℤ → Label) → IsPaintedRow area m f g → IsRun d f s l → HasNumber s (area.high +ℤ pos 1) → l ≡ m → IsRightEdge d area m g s.high
right_edge_joined d area s m l f g p r h e =
    let h1 = h.from in let h2 = h.to in
    record {
      inside = r.inside.to;
      after = omega (arith, ints);
      same = λ x a b. p.elsewhere x (after_area area x b) ∙ r.same x (record { from = omega (arith, ints); to = a }) ∙ e;
      ends = λ dx eq. r.ends_right dx (sym (p.elsewhere (s.high +ℤ pos 1) (after_area area (s.high +ℤ pos 1) (omega (arith, ints)))) ∙ eq ∙ sym e);
    }

-- between its two edges the new label has a run
pub middle_run : (d area e : Interval) (m : Label) (f g : ℤ → Label) → IsPaintedRow area m f g → IsLeftEdge d area m g e.low → IsRightEdge d area m g e.high → IsRun d g e m
middle_run d area e m f g p l r = record {
  inside = record { from = l.inside; to = r.inside };
  same = λ x h.
      by_lt_z x area.low
      (λ before. l.same x h.from before)
      (λ from. by_lt_z area.high x
      (λ after. r.same x h.to after)
      (λ to. p.within x (record { from = from; to = to })));
  ends_left = l.ends;
  ends_right = r.ends;
}
