-- A line is told by its bytes.
use Rattle.std.proofs.Common.{◌≡◌, ℕ, ◌<◌, ◌≤◌, List, ◌∷◌, ◌++◌, get_or, lit<, Option, Some, None, cond, codes, decimal, refl, sym, ap, ◌∙◌, arith}
use Rattle.std.specs.Str.{bytes_eq}
use Rattle.gerber_out.specs.declared.contours.Corner.{Corner}
use Rattle.gerber_out.specs.declared.contours.TheConstants.{MOST_UNITS}
use Rattle.gerber_out.specs.declared.spelling.Line.{Line}
use Rattle.gerber_out.specs.declared.spelling.Line.TheVariants.{Plain, Draw}
use Rattle.gerber_out.specs.declared.spelling.Pen.{Pen}
use Rattle.gerber_out.specs.declared.spelling.Pen.TheVariants.{Up, Down}
use Rattle.gerber_out.specs.declared.spelling.Word.{Word}
use Rattle.gerber_out.specs.declared.spelling.Word.TheVariants.{Format, Measure, Polarity, Linear, Begin, Close, End}
use Rattle.gerber_out.specs.Spelling.{word_text, pen_text, IsSpelled}
use Rattle.gerber_out.proofs.Decimals.{before_once}

-- what stands behind the byte D
abbrev pub pen_tail : Pen → List ℕ
pen_tail Up = codes "02*\n"
pen_tail Down = codes "01*\n"

pen_head : (p : Pen) → pen_text p ≡ 68 ∷ pen_tail p
pen_head Up = refl
pen_head Down = refl

behind_x : (bytes numbers : List ℕ) (p : Pen) (c : Corner) → IsSpelled (Draw p c) bytes → bytes ≡ 88 ∷ numbers → numbers ≡ decimal c.x ++ 89 ∷ (decimal c.y ++ pen_text p)
behind_x bytes numbers p c s e = let same : 88 ∷ numbers ≡ 88 ∷ (decimal c.x ++ 89 ∷ (decimal c.y ++ pen_text p)) = sym e ∙ sym s.text in cc

-- what stands behind the first number
pub behind_y : (bytes numbers rest : List ℕ) (x : ℕ) (p : Pen) (c : Corner) → IsSpelled (Draw p c) bytes → bytes ≡ 88 ∷ numbers
    → numbers ≡ decimal x ++ 89 ∷ rest → x ≤ MOST_UNITS → (x ≡ c.x) × (rest ≡ decimal c.y ++ 68 ∷ pen_tail p)
behind_y bytes numbers rest x p c s e f le =
    let r = before_once numbers 89 x c.x rest (decimal c.y ++ pen_text p) (omega arith) (omega arith) (omega (arith, s.in_range.across)) f (behind_x bytes numbers p c s e) in
    (r.0, r.1 ∙ ap (λ (t : List ℕ). decimal c.y ++ t) (pen_head p))

-- what stands behind both
pub behind_d : (bytes numbers rest end : List ℕ) (x y : ℕ) (p : Pen) (c : Corner) → IsSpelled (Draw p c) bytes → bytes ≡ 88 ∷ numbers
    → numbers ≡ decimal x ++ 89 ∷ rest → x ≤ MOST_UNITS → rest ≡ decimal y ++ 68 ∷ end → y ≤ MOST_UNITS → (y ≡ c.y) × (pen_text p ≡ 68 ∷ end)
behind_d bytes numbers rest end x y p c s e f le g ley =
    let q = behind_y bytes numbers rest x p c s e f le in
    let r = before_once rest 68 y c.y end (pen_tail p) (omega arith) (omega arith) (omega (arith, s.in_range.up)) g q.1 in
    (r.0, pen_head p ∙ sym (ap (λ (t : List ℕ). 68 ∷ t) r.1))

apart : (m n : ℕ) → m < n → m ≡ n → ⊥
apart m n lt e = omega arith

same_pen : (p q : Pen) → pen_text p ≡ pen_text q → p ≡ q
same_pen Up Up e = refl
same_pen Down Down e = refl
same_pen Up Down e = absurd (apart 49 50 (lit< tt) (sym (ap (λ (t : List ℕ). get_or t 2 0) e)))
same_pen Down Up e = absurd (apart 49 50 (lit< tt) (ap (λ (t : List ℕ). get_or t 2 0) e))

-- the words, by their bytes
word_of : List ℕ → Option Word
word_of t =
    cond (bytes_eq t (word_text Format)) (Some Format) (cond (bytes_eq t (word_text Measure)) (Some Measure)
    (cond (bytes_eq t (word_text Polarity)) (Some Polarity) (cond (bytes_eq t (word_text Linear)) (Some Linear)
    (cond (bytes_eq t (word_text Begin)) (Some Begin) (cond (bytes_eq t (word_text Close)) (Some Close)
    (cond (bytes_eq t (word_text End)) (Some End) None))))))

told : (w : Word) → word_of (word_text w) ≡ Some w
unfolding word_of
told Format = refl
told Measure = refl
told Polarity = refl
told Linear = refl
told Begin = refl
told Close = refl
told End = refl

same_word : (v w : Word) → word_text v ≡ word_text w → v ≡ w
same_word v w e = let same : Some v ≡ Some w = sym (told v) ∙ ap word_of e ∙ told w in cc

no_word : (w : Word) (t : List ℕ) → word_text w ≡ 88 ∷ t → ⊥
no_word Format t e = apart 37 88 (lit< tt) (ap (λ (s : List ℕ). get_or s 0 0) e)
no_word Measure t e = apart 37 88 (lit< tt) (ap (λ (s : List ℕ). get_or s 0 0) e)
no_word Polarity t e = apart 37 88 (lit< tt) (ap (λ (s : List ℕ). get_or s 0 0) e)
no_word Linear t e = apart 71 88 (lit< tt) (ap (λ (s : List ℕ). get_or s 0 0) e)
no_word Begin t e = apart 71 88 (lit< tt) (ap (λ (s : List ℕ). get_or s 0 0) e)
no_word Close t e = apart 71 88 (lit< tt) (ap (λ (s : List ℕ). get_or s 0 0) e)
no_word End t e = apart 77 88 (lit< tt) (ap (λ (s : List ℕ). get_or s 0 0) e)

same_draw : (bytes : List ℕ) (p q : Pen) (c d : Corner) → IsSpelled (Draw p c) bytes → IsSpelled (Draw q d) bytes → Draw p c ≡ Draw q d
same_draw bytes p q c d s t =
    let first = behind_d bytes _ _ (pen_tail p) c.x c.y q d t (sym s.text) refl s.in_range.across (ap (λ (r : List ℕ). decimal c.y ++ r) (pen_head p)) s.in_range.up in
    let second = behind_y bytes _ _ c.x q d t (sym s.text) refl s.in_range.across in
    let pens : p ≡ q = same_pen p q (pen_head p ∙ sym first.1) in
    let x = second.0 in
    let y = first.0 in
    λ i. Draw (pens i) (record { x = x i; y = y i })

pub same_line : (l m : Line) (bytes : List ℕ) → IsSpelled l bytes → IsSpelled m bytes → l ≡ m
same_line (Plain v) (Plain w) bytes s t = ap (λ (u : Word). Plain u) (same_word v w (s.text ∙ sym t.text))
same_line (Plain v) (Draw q d) bytes s t = absurd (no_word v _ (s.text ∙ sym t.text))
same_line (Draw p c) (Plain w) bytes s t = absurd (no_word w _ (t.text ∙ sym s.text))
same_line (Draw p c) (Draw q d) bytes s t = same_draw bytes p q c d s t
