-- Of each text the machine makes one thing at most.
use Rattle.std.proofs.Common.{◌≡◌, ℕ, suc, List, [], ◌∷◌, ◌++◌, length, inl, inr, refl, sym, ap, ◌∙◌, subst, arith}
use Rattle.geo_rect.specs.declared.shapes.Rect.{Rect}
use Rattle.gerber_out.specs.Lines.{lines}
use Rattle.gerber_out.specs.Machine.{no_lines, Leads, Passes, Appends, Fills}
use Rattle.gerber_out.specs.Reading.{IsNext, MayNotStand, Reads, IsRead, IsRefused}
use Rattle.gerber_out.specs.declared.contours.Corner.{Corner}
use Rattle.gerber_out.specs.declared.machine.Machine.{Machine}
use Rattle.gerber_out.specs.declared.machine.Stage.{Stage}
use Rattle.gerber_out.specs.declared.machine.Stage.TheVariants.{Outside}
use Rattle.gerber_out.specs.declared.spelling.Line.{Line}
use Rattle.gerber_out.specs.declared.spelling.Line.TheVariants.{Plain, Draw}
use Rattle.gerber_out.specs.declared.spelling.Pen.TheVariants.{Up, Down}
use Rattle.gerber_out.specs.declared.spelling.Word.TheVariants.{Format, Measure, Polarity, Linear, Begin, Close, End}
use Rattle.gerber_out.proofs.Draws.{same_line}
use Rattle.gerber_out.proofs.Filling.{same_area}

same_pass : (from to : Stage) (old a b : Machine) → Passes from to old a → Passes from to old b → a ≡ b
same_pass from to old a b p q = p.after ∙ sym q.after

same_append : (c : Corner) (old a b : Machine) → Appends c old a → Appends c old b → a ≡ b
same_append c old a b p q = p.after ∙ sym q.after

same_fill : (old a b : Machine) → Fills old a → Fills old b → a ≡ b
same_fill old a b p q =
    let area = same_area old.contour p.area q.area p.drawn q.drawn in
    let with_area : Rect → Machine = λ r. record { stage = Outside; contour = []; filled = old.filled ++ r ∷ [] } in
    p.after ∙ ap with_area area ∙ sym q.after

same_leads : (l : Line) (old a b : Machine) → Leads l old a → Leads l old b → a ≡ b
same_leads (Plain Format) old a b p q = same_pass _ _ old a b p q
same_leads (Plain Measure) old a b p q = same_pass _ _ old a b p q
same_leads (Plain Polarity) old a b p q = same_pass _ _ old a b p q
same_leads (Plain Linear) old a b p q = same_pass _ _ old a b p q
same_leads (Plain Begin) old a b p q = same_pass _ _ old a b p q
same_leads (Plain Close) old a b p q = same_fill old a b p q
same_leads (Plain End) old a b p q = same_pass _ _ old a b p q
same_leads (Draw Up c) old a b p q = same_append c old a b p.more q.more
same_leads (Draw Down c) old a b p q = same_append c old a b p.more q.more

same_next : (bytes : List ℕ) (old a b : Machine) → IsNext bytes old a → IsNext bytes old b → a ≡ b
same_next bytes old a b p q =
    let line = same_line q.line p.line bytes q.spelled p.spelled in
    same_leads p.line old a b p.leads (subst (λ (l : Line). Leads l old b) line q.leads)

-- the same line of the same machine, after two readings of what stands before
next_from : (bytes : List ℕ) (a b new : Machine) → a ≡ b → IsNext bytes a new → IsNext bytes b new
next_from bytes a b new e n = subst (λ (m : Machine). IsNext bytes m new) e n

reads_from : (ls : List (List ℕ)) (a b new : Machine) → a ≡ b → Reads ls a new → Reads ls b new
reads_from ls a b new e r = subst (λ (m : Machine). Reads ls m new) e r

same_reads : (ls : List (List ℕ)) (old a b : Machine) → Reads ls old a → Reads ls old b → a ≡ b
same_reads [] old a b r s = sym r ∙ s
same_reads (l ∷ ls) old a b r s =
    same_reads ls r.0 a b r.2 (reads_from ls s.0 r.0 b (same_next l old s.0 r.0 s.1 r.1) s.2)

-- no text with a line that may not stand is read
wrong_reads : (before : List (List ℕ)) (l : List ℕ) (after : List (List ℕ)) (old here last : Machine) → Reads before old here → MayNotStand l here
    → Reads (before ++ l ∷ after) old last → ⊥
wrong_reads [] l after old here last r wrong s = wrong s.0 (next_from l old here s.0 r s.1)
wrong_reads (k ∷ ks) l after old here last r wrong s =
    wrong_reads ks l after r.0 here last r.2 wrong (reads_from (ks ++ l ∷ after) s.0 r.0 last (same_next k old s.0 r.0 s.1 r.1) s.2)

-- two lines that may not stand have one place
wrong_once : (xs ys : List (List ℕ)) (k l : List ℕ) (s t : List (List ℕ)) (old here there : Machine) → Reads xs old here → MayNotStand k here
    → Reads ys old there → MayNotStand l there → xs ++ k ∷ s ≡ ys ++ l ∷ t → length xs ≡ length ys
wrong_once [] [] k l s t old here there r wrong q bad e = refl
wrong_once [] (y ∷ ys) k l s t old here there r wrong q bad e =
    let same : y ≡ k = cc in
    absurd (wrong q.0 (next_from k old here q.0 r (subst (λ (x : List ℕ). IsNext x old q.0) same q.1)))
wrong_once (x ∷ xs) [] k l s t old here there r wrong q bad e =
    let same : x ≡ l = cc in
    absurd (bad r.0 (next_from l old there r.0 q (subst (λ (y : List ℕ). IsNext y old r.0) same r.1)))
wrong_once (x ∷ xs) (y ∷ ys) k l s t old here there r wrong q bad e =
    let same : y ≡ x = cc in
    let rest : xs ++ k ∷ s ≡ ys ++ l ∷ t = cc in
    let next = subst (λ (z : List ℕ). IsNext z old q.0) same q.1 in
    let both = same_next x old q.0 r.0 next r.1 in
    ap (λ n. suc n) (wrong_once xs ys k l s t r.0 here there r.2 wrong (reads_from ys q.0 r.0 there both q.2) bad rest)

pub read_once : (bytes : List ℕ) (a b : List Rect) → IsRead bytes a → IsRead bytes b → a ≡ b
read_once bytes a b p q =
    let last = same_reads (lines bytes) no_lines p.last q.last p.reads q.reads in
    sym p.fills ∙ ap (λ (m : Machine). m.filled) last ∙ q.fills

pub refused_once : (bytes : List ℕ) (m n : ℕ) → IsRefused bytes m → IsRefused bytes n → m ≡ n
refused_once bytes m n (inl p) (inl q) =
    let same = wrong_once p.before q.before p.line q.line p.after q.after no_lines p.here q.here p.reads p.refused q.reads q.refused (sym p.cut ∙ q.cut) in
    let one = p.number in let other = q.number in omega arith
refused_once bytes m n (inl p) (inr q) =
    absurd (wrong_reads p.before p.line p.after no_lines p.here q.here p.reads p.refused (subst (λ (ls : List (List ℕ)). Reads ls no_lines q.here) p.cut q.reads))
refused_once bytes m n (inr p) (inl q) =
    absurd (wrong_reads q.before q.line q.after no_lines q.here p.here q.reads q.refused (subst (λ (ls : List (List ℕ)). Reads ls no_lines p.here) q.cut p.reads))
refused_once bytes m n (inr p) (inr q) = p.number ∙ sym q.number

pub never_both : (bytes : List ℕ) (a : List Rect) (n : ℕ) → IsRead bytes a → IsRefused bytes n → ⊥
never_both bytes a n p (inl q) =
    wrong_reads q.before q.line q.after no_lines q.here p.last q.reads q.refused (subst (λ (ls : List (List ℕ)). Reads ls no_lines p.last) q.cut p.reads)
never_both bytes a n p (inr q) =
    let last = same_reads (lines bytes) no_lines q.here p.last q.reads p.reads in
    q.open_ended (ap (λ (m : Machine). m.stage) last ∙ p.ended)
