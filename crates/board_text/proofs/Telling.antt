-- What parts of a text add to what was read before, one after the other.
use Rattle.std.proofs.Common.{◌≡◌, ℕ, ◌+◌, ◌<◌, suc, zero, Bool, false, List, [], ◌∷◌, ◌++◌, Some, None, Ok, length, get_or, refl, sym, ap, ◌∙◌, arith, subst, append_assoc}
use Rattle.std.specs.Prelude.{find, codes}
use Rattle.std.specs.List.{flat_map, range_with_len, list_any, AllByRecursion}
use Rattle.std.proofs.lemmas.Bool.{cond-false}
use Rattle.std.proofs.lemmas.List.{append-nil}
use Rattle.board_reader.specs.declared.drafts.Draft.{Draft}
use Rattle.board_reader.specs.declared.forms.Form.{Form}
use Rattle.board_reader.specs.declared.forms.Stage.TheVariants.{Commands}
use Rattle.board_reader.specs.Checks.{applies, kind_with, kind_of_line, order}
use Rattle.board_reader.specs.Drafts.{after_form}
use Rattle.board_reader.specs.Forms.{spelling, form_of}
use Rattle.line_words.specs.Lines.{lines, words, word, is_other_byte}
use Rattle.board_reader.specs.Passing.{BreaksNone}
use Rattle.board_reader.specs.Reading.{told, step, reading_from}
use Rattle.board_reader.proofs.Lining.{lines-next, ended}
use Rattle.board_reader.proofs.Stepping.{passed}
use Rattle.board_text.specs.Spelled.{spaced, line}
use Rattle.board_text.proofs.Lines.{IsGood, good-spelling, form-spelled, counts-spelled, line-words, line-plain, no-other, first-line}

-- the lines of the text take the one draft to the other, whatever follows
abbrev pub Tells : Draft → List ℕ → Draft → Type 0
Tells d text e = (rest : List ℕ) (n : ℕ) → (m : ℕ) × (reading_from d n (lines (text ++ rest)) ≡ reading_from e m (lines rest))

pub tells-none : (d : Draft) → Tells d [] d
tells-none d rest n = (n, refl)

pub tells-more : (d e f : Draft) (t u : List ℕ) → Tells d t e → Tells e u f → Tells d (t ++ u) f
tells-more d e f t u one more rest n =
    let a = one (u ++ rest) n in
    let b = more rest a.0 in
    (b.0, ap (λ x. reading_from d n (lines x)) (append_assoc t u rest) ∙ (a.1 ∙ b.1))

pub tells-all : (d e : Draft) (t : List ℕ) → Tells d t e → e.stage ≡ Commands → reading_from d 1 (lines t) ≡ Ok (told e)
tells-all d e t h stage =
    let a = h [] 1 in
    sym (ap (λ x. reading_from d 1 (lines x)) (append-nil t)) ∙ (a.1 ∙ ended e a.0 stage)

-- an item after the other
pub tells-each : {X : Type 0} (xs : List X) (text : X → List ℕ) (at : ℕ → Draft)
    → ((k : ℕ) (d : X) → k < length xs → Tells (at k) (text (get_or xs k d)) (at (suc k))) → Tells (at 0) (flat_map text xs) (at (length xs))
tells-each [] text at h = tells-none (at 0)
tells-each (x ∷ xs) text at h =
    tells-more (at 0) (at 1) (at (suc (length xs))) (text x) (flat_map text xs) (h 0 x (omega arith))
    (tells-each xs text (λ k. at (suc k)) (λ k d l. h (suc k) d (omega arith)))

-- a number after the other
pub tells-range : (n a : ℕ) (text : ℕ → List ℕ) (at : ℕ → Draft)
    → ((k : ℕ) → k < a + n → Tells (at k) (text k) (at (suc k))) → Tells (at a) (flat_map text (range_with_len a n)) (at (a + n))
tells-range zero a text at h = let e : a ≡ a + 0 = omega arith in subst (λ m. Tells (at a) [] (at m)) e (tells-none (at a))
tells-range (suc n) a text at h =
    let e : a + 1 + n ≡ a + suc n = omega arith in
    let one : suc a ≡ a + 1 = omega arith in
    tells-more (at a) (at (a + 1)) (at (a + suc n)) (text a) (flat_map text (range_with_len (a + 1) n))
    (subst (λ m. Tells (at a) (text a) (at m)) one (h a (omega arith)))
    (subst (λ m. Tells (at (a + 1)) (flat_map text (range_with_len (a + 1) n)) (at m)) e (tells-range n (a + 1) text at (λ k l. h k (omega arith))))

find-none : {X : Type 0} (p : X → Bool) (xs : List X) → AllByRecursion (λ x. p x ≡ false) xs → find p xs ≡ None
find-none p [] h = refl
find-none p (x ∷ xs) h = cond-false _ _ _ h.0 ∙ find-none p xs h.1

kind-none : (d : Draft) (line : List ℕ) (f : Form) (ws : List (List ℕ)) → list_any is_other_byte line ≡ false → form_of (word ws 0) ≡ Some f → BreaksNone d f ws → kind_with d line ws ≡ None
unfolding kind_with applies
kind-none d line f ws plain is h =
    ap (λ o. find (applies d line o ws) order) is
    ∙ find-none (applies d line (Some f) ws) order (plain, (h.spelled, (h.placed, (h.numbers, (h.known, (h.fresh, (h.ranges, (h.corners, (h.few, (h.whole, tt))))))))))

line-kind-none : (d : Draft) (line : List ℕ) (f : Form) (ws : List (List ℕ)) → words line ≡ ws → list_any is_other_byte line ≡ false → form_of (word ws 0) ≡ Some f → BreaksNone d f ws → kind_of_line d line ≡ None
unfolding kind_of_line
line-kind-none d line f ws e plain is h = ap (kind_with d line) e ∙ kind-none d line f ws plain is h

line-steps : (d : Draft) (f : Form) (ws : List (List ℕ)) → AllByRecursion IsGood ws → BreaksNone d f (spelling f ∷ ws)
    → step d (spelling f ++ flat_map spaced ws) ≡ Ok (after_form d f (spelling f ∷ ws))
line-steps d f ws good h =
    let body = spelling f ++ flat_map spaced ws in
    let w = line-words (spelling f) ws (good-spelling f) good in
    let plain = no-other body (line-plain (spelling f) ws (good-spelling f) good) in
    passed d body (Some f) (counts-spelled f (flat_map spaced ws)) (line-kind-none d body f (spelling f ∷ ws) w plain (form-spelled f) h) (ap (λ vs. form_of (word vs 0)) w ∙ form-spelled f)
    ∙ ap (λ vs. Ok (after_form d f vs)) w

-- a line that breaks no rule
pub tells-line : (d e : Draft) (f : Form) (ws : List (List ℕ)) → AllByRecursion IsGood ws → BreaksNone d f (spelling f ∷ ws) → after_form d f (spelling f ∷ ws) ≡ e → Tells d (line f ws) e
unfolding line
tells-line d e f ws good h after rest n =
    let body = spelling f ++ flat_map spaced ws in
    let text = (spelling f ++ flat_map spaced ws ++ codes "\n") ++ rest in
    let cut : lines text ≡ body ∷ lines rest = ap lines (append_assoc body (codes "\n") rest) ∙ first-line body rest (line-plain (spelling f) ws (good-spelling f) good) in
    (n + 1, sym (lines-next d e n text body rest cut (sym (line-steps d f ws good h ∙ ap (λ x. Ok x) after))))
