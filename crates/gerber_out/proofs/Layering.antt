-- The machine reads the text of a layer, and fills its rectangles.
use Rattle.std.proofs.Common.{◌≡◌, ◌≢◌, ℕ, ℤ, pos, ◌≤ℤ◌, Bool, true, false, List, [], ◌∷◌, ◌++◌, decimal, All, refl, sym, ap, ◌∙◌, subst, arith, append_assoc, if◌then◌else◌}
use Rattle.std.proofs.lemmas.Int.{ints}
use Rattle.std.proofs.lemmas.List.{append-nil}
use Rattle.std.proofs.lemmas.List.Elements.{recursion_from_All}
use Rattle.std.specs.List.{flat_map, AllByRecursion as ByRecursion}
use Rattle.geo_rect.specs.declared.ids.LayerId.{LayerId}
use Rattle.geo_rect.specs.declared.shapes.Rect.{Rect}
use Rattle.board_model.specs.declared.shapes.Shape.{Shape}
use Rattle.gerber_out.specs.Contours.{corner_at, contour, IsFillable, IsInUnits}
use Rattle.gerber_out.specs.Layers.{is_wanted, wanted, region, lines_text, region_text, first_lines, first_text, areas_text, IsWritable}
use Rattle.gerber_out.specs.Lines.{lines, onto}
use Rattle.gerber_out.specs.Machine.{no_lines, Leads}
use Rattle.gerber_out.specs.Reading.{Reads, IsRead}
use Rattle.gerber_out.specs.Spelling.{word_text, pen_text, line_text, IsInRange}
use Rattle.gerber_out.specs.declared.contours.Corner.{Corner}
use Rattle.gerber_out.specs.declared.machine.Machine.{Machine}
use Rattle.gerber_out.specs.declared.machine.Stage.TheVariants.{Second, Third, Fourth, Outside, Inside, Ended}
use Rattle.gerber_out.specs.declared.spelling.Line.{Line}
use Rattle.gerber_out.specs.declared.spelling.Line.TheVariants.{Plain, Draw}
use Rattle.gerber_out.specs.declared.spelling.Pen.{Pen}
use Rattle.gerber_out.specs.declared.spelling.Pen.TheVariants.{Up, Down}
use Rattle.gerber_out.specs.declared.spelling.Word.{Word}
use Rattle.gerber_out.specs.declared.spelling.Word.TheVariants.{Format, Measure, Polarity, Linear, Begin, Close, End}
use Rattle.gerber_out.proofs.Cutting.{lines-other}
use Rattle.gerber_out.proofs.Decimals.{no_feed}
use Rattle.gerber_out.proofs.Filling.{units_most}
use Rattle.gerber_out.proofs.Wanted.{wanted_is_fillable}

-- bytes without a line feed before a line are part of it
lines-onto : (bytes t l : List ℕ) (ls : List (List ℕ)) → ByRecursion (λ c. c ≢ 10) bytes → lines t ≡ l ∷ ls → lines (bytes ++ t) ≡ (bytes ++ l) ∷ ls
lines-onto [] t l ls h e = e
lines-onto (b ∷ bs) t l ls h e = lines-other b (bs ++ t) h.0 ∙ ap (onto b) (lines-onto bs t l ls h.1 e)

lines-word : (w : Word) (rest : List ℕ) → lines (word_text w ++ rest) ≡ word_text w ∷ lines rest
lines-word Format rest = refl
lines-word Measure rest = refl
lines-word Polarity rest = refl
lines-word Linear rest = refl
lines-word Begin rest = refl
lines-word Close rest = refl
lines-word End rest = refl

lines-pen : (p : Pen) (rest : List ℕ) → lines (pen_text p ++ rest) ≡ pen_text p ∷ lines rest
lines-pen Up rest = refl
lines-pen Down rest = refl

lines-draw : (p : Pen) (c : Corner) (rest : List ℕ) → IsInUnits c → lines (line_text (Draw p c) ++ rest) ≡ line_text (Draw p c) ∷ lines rest
lines-draw p c rest h =
    let y = lines-onto (decimal c.y) (pen_text p ++ rest) (pen_text p) (lines rest) (no_feed c.y (omega (arith, h.up))) (lines-pen p rest) in
    let behind : (decimal c.y ++ pen_text p) ++ rest ≡ decimal c.y ++ (pen_text p ++ rest) = append_assoc (decimal c.y) (pen_text p) rest in
    let tail : lines (89 ∷ ((decimal c.y ++ pen_text p) ++ rest)) ≡ (89 ∷ (decimal c.y ++ pen_text p)) ∷ lines rest =
    ap (λ (t : List ℕ). onto 89 (lines t)) behind ∙ ap (onto 89) y in
    let x = lines-onto (decimal c.x) (89 ∷ ((decimal c.y ++ pen_text p) ++ rest)) (89 ∷ (decimal c.y ++ pen_text p)) (lines rest) (no_feed c.x (omega (arith, h.across))) tail in
    let all : (decimal c.x ++ 89 ∷ (decimal c.y ++ pen_text p)) ++ rest ≡ decimal c.x ++ 89 ∷ ((decimal c.y ++ pen_text p) ++ rest) =
    append_assoc (decimal c.x) (89 ∷ (decimal c.y ++ pen_text p)) rest in
    ap (λ (t : List ℕ). onto 88 (lines t)) all ∙ ap (onto 88) x

lines-line : (l : Line) (rest : List ℕ) → IsInRange l → lines (line_text l ++ rest) ≡ line_text l ∷ lines rest
lines-line (Plain w) rest h = lines-word w rest
lines-line (Draw p c) rest h = lines-draw p c rest h

-- lines that may stand one after the other, from old to new
Runs : List Line → Machine → Machine → Type 0
Runs [] old new = old ≡ new
Runs (l ∷ ls) old new = (mid : Machine) × IsInRange l × Leads l old mid × Runs ls mid new

-- before the text that is left to read
reads_line : (l : Line) (rest : List ℕ) (old mid last : Machine) → IsInRange l → Leads l old mid → Reads (lines rest) mid last → Reads (lines (line_text l ++ rest)) old last
reads_line l rest old mid last within leads r =
    subst (λ (ls : List (List ℕ)). Reads ls old last) (sym (lines-line l rest within))
    (mid, record { line = l; spelled = record { text = refl; in_range = within }; leads = leads }, r)

reads_lines : (ls : List Line) (rest : List ℕ) (old mid last : Machine) → Runs ls old mid → Reads (lines rest) mid last → Reads (lines (lines_text ls ++ rest)) old last
unfolding Runs
reads_lines [] rest old mid last run r = subst (λ (m : Machine). Reads (lines rest) m last) (sym run) r
reads_lines (l ∷ ls) rest old mid last run r =
    subst (λ (t : List ℕ). Reads (lines t) old last) (sym (append_assoc (line_text l) (lines_text ls) rest))
    (reads_line l (lines_text ls ++ rest) old run.0 last run.1 run.2 (reads_lines ls rest run.0 mid last run.3 r))

outside : List Rect → Machine
outside areas = record { stage = Outside; contour = []; filled = areas }

inside : List Rect → List Corner → Machine
inside areas points = record { stage = Inside; contour = points; filled = areas }

corner_fits : (x y : ℤ) → pos 0 ≤ℤ x → x ≤ℤ pos 9999999 → pos 0 ≤ℤ y → y ≤ℤ pos 9999999 → IsInUnits (corner_at x y)
corner_fits x y x0 x1 y0 y1 = record { across = units_most x x0 x1; up = units_most y y0 y1 }

region_runs : (r : Rect) (areas : List Rect) → IsFillable r → Runs (region r) (outside areas) (outside (areas ++ r ∷ []))
unfolding Runs outside inside
region_runs r areas h =
    let across = h.across in let up = h.up in
    let a = corner_at r.x0 r.y0 in let b = corner_at r.x1 r.y0 in let d = corner_at r.x1 r.y1 in let e = corner_at r.x0 r.y1 in
    let to_left : r.x0 ≤ℤ pos 9999999 = omega (arith, ints, across.long, across.to) in
    let from_right : pos 0 ≤ℤ r.x1 = omega (arith, ints, across.long, across.from) in
    let to_below : r.y0 ≤ℤ pos 9999999 = omega (arith, ints, up.long, up.to) in
    let from_above : pos 0 ≤ℤ r.y1 = omega (arith, ints, up.long, up.from) in
    let fa = corner_fits r.x0 r.y0 across.from to_left up.from to_below in
    let fb = corner_fits r.x1 r.y0 from_right across.to up.from to_below in
    let fd = corner_fits r.x1 r.y1 from_right across.to from_above up.to in
    let fe = corner_fits r.x0 r.y1 across.from to_left from_above up.to in (
      inside areas [],
      tt,
      record { before = refl; after = refl },
      (
        inside areas (a ∷ []),
        fa,
        record { none = refl; more = record { before = refl; after = refl } },
        (
          inside areas (a ∷ b ∷ []),
          fb,
          record { some = omega arith; few = omega arith; more = record { before = refl; after = refl } },
          (
            inside areas (a ∷ b ∷ d ∷ []),
            fd,
            record { some = omega arith; few = omega arith; more = record { before = refl; after = refl } },
            (
              inside areas (a ∷ b ∷ d ∷ e ∷ []),
              fe,
              record { some = omega arith; few = omega arith; more = record { before = refl; after = refl } },
              (
                inside areas (contour r),
                fa,
                record { some = omega arith; few = omega arith; more = record { before = refl; after = refl } },
                (
                  outside (areas ++ r ∷ []),
                  tt,
                  record { area = r; before = refl; drawn = record { fillable = h; same = refl }; after = refl },
                  refl,
                ),
              ),
            ),
          ),
        ),
      ),
    )

reads_region : (r : Rect) (areas : List Rect) (rest : List ℕ) (last : Machine) → IsFillable r → Reads (lines rest) (outside (areas ++ r ∷ [])) last
    → Reads (lines (region_text r ++ rest)) (outside areas) last
unfolding region_text
reads_region r areas rest last h next = reads_lines (region r) rest (outside areas) (outside (areas ++ r ∷ [])) last (region_runs r areas h) next

reads_regions : (rs areas : List Rect) (rest : List ℕ) (last : Machine) → ByRecursion IsFillable rs → Reads (lines rest) (outside (areas ++ rs)) last
    → Reads (lines (flat_map region_text rs ++ rest)) (outside areas) last
reads_regions [] areas rest last h next = subst (λ (l : List Rect). Reads (lines rest) (outside l) last) (append-nil areas) next
reads_regions (r ∷ rs) areas rest last h next =
    let all : Reads (lines rest) (outside ((areas ++ r ∷ []) ++ rs)) last =
    subst (λ (l : List Rect). Reads (lines rest) (outside l) last) (sym (append_assoc areas (r ∷ []) rs)) next in
    subst (λ (t : List ℕ). Reads (lines t) (outside areas) last) (sym (append_assoc (region_text r) (flat_map region_text rs) rest))
    (reads_region r areas (flat_map region_text rs ++ rest) last h.0 (reads_regions rs (areas ++ r ∷ []) rest last h.1 all))

first_run : Runs first_lines no_lines (outside [])
unfolding Runs outside
first_run = (
  record { stage = Second; contour = []; filled = [] },
  tt,
  record { before = refl; after = refl },
  (
    record { stage = Third; contour = []; filled = [] },
    tt,
    record { before = refl; after = refl },
    (
      record { stage = Fourth; contour = []; filled = [] },
      tt,
      record { before = refl; after = refl },
      (outside [], tt, record { before = refl; after = refl }, refl),
    ),
  ),
)

ended : List Rect → Machine
ended areas = record { stage = Ended; contour = []; filled = areas }

reads_end : (areas : List Rect) → Reads (lines (line_text (Plain End))) (outside areas) (ended areas)
unfolding outside ended
reads_end areas = (ended areas, record { line = Plain End; spelled = record { text = refl; in_range = tt }; leads = record { before = refl; after = refl } }, refl)

areas_read : (areas : List Rect) → ByRecursion IsFillable areas → IsRead (areas_text areas) areas
unfolding first_text ended
areas_read areas h =
    let rest = flat_map region_text areas ++ line_text (Plain End) in
    let whole : areas_text areas ≡ lines_text first_lines ++ rest = append_assoc (lines_text first_lines) (flat_map region_text areas) (line_text (Plain End)) in
    record {
      last = ended areas;
      reads = subst (λ (t : List ℕ). Reads (lines t) no_lines (ended areas)) (sym whole)
          (reads_lines first_lines rest no_lines (outside []) (ended areas) first_run
          (reads_regions areas [] (line_text (Plain End)) (ended areas) h (reads_end areas)));
      ended = refl;
      fills = refl;
    }

wanted_fillable : (l : LayerId) (shapes : List Shape) → ByRecursion (IsWritable l) shapes → ByRecursion IsFillable (wanted l shapes)
wanted_fillable l [] h = tt
wanted_fillable l (s ∷ ss) h = by (is_wanted l s) (wanted_is_fillable l s h.0) (wanted_fillable l ss h.1)
  where
    by : (b : Bool) → (b ≡ true → IsFillable s.area) → ByRecursion IsFillable (wanted l ss) → ByRecursion IsFillable ((if b then s.area ∷ [] else []) ++ wanted l ss)
    by true f rest = (f refl, rest)
    by false f rest = rest

pub layer_read : (l : LayerId) (shapes : List Shape) → All (IsWritable l) shapes → IsRead (areas_text (wanted l shapes)) (wanted l shapes)
layer_read l shapes h = areas_read (wanted l shapes) (wanted_fillable l shapes (recursion_from_All (IsWritable l) shapes h))
