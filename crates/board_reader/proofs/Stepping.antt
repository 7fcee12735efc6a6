-- One line: what its first nine words say of it, and what a line leaves.
use Rattle.std.proofs.Common.{◌≡◌, ℕ, ◌+◌, ◌<◌, ◌≤◌, min, Bool, true, false, List, [], ◌∷◌, All, ◌⊎◌, Option, Some, None, Ok, Err, length, take, refl, sym, ap, ◌∙◌, arith, inl, inr, subst}
use Rattle.std.specs.Prelude.{◌||◌, ◌==◌, find}
use Rattle.std.specs.List.{list_any, AllByRecursion}
use Rattle.std.proofs.lemmas.Bool.{ne_eqb, cases_Bool, cases_lt, cond-true, cond-false}
use Rattle.std.proofs.lemmas.List.{take_all, length-take}
use Rattle.std.proofs.lemmas.List.Elements.{All-take}
use Rattle.board_reader.specs.declared.drafts.Draft.{Draft}
use Rattle.board_reader.specs.declared.forms.Form.{Form}
use Rattle.board_reader.specs.declared.forms.Form.TheVariants as form
use Rattle.board_reader.specs.declared.refusals.RefusalKind.{RefusalKind}
use Rattle.board_reader.specs.declared.refusals.RefusalKind.TheVariants.{NotAscii, BadWord}
use Rattle.board_reader.specs.Checks.{applies, breaks, some_fails, fails_whole, kind_with, kind_of_line, order}
use Rattle.board_reader.specs.Drafts.{after_form}
use Rattle.board_reader.specs.Forms.{form_of, places}
use Rattle.board_reader.specs.Kept.{IsDraft, IsWord}
use Rattle.line_words.specs.Lines.{word, words, counts, is_other_byte}
use Rattle.board_reader.specs.Passing.{BreaksNone}
use Rattle.board_reader.specs.Reading.{step, unless, after_line, after_words}
use Rattle.board_reader.proofs.GoodWords.{words-are-words}
use Rattle.board_reader.proofs.Keeping.{keeps-form}
use Rattle.board_reader.proofs.Unbroken.{word-count}

or-true : (x : Bool) → (x || true) ≡ true
or-true true = refl
or-true false = refl

find-none : {X : Type 0} (p : X → Bool) (x : X) (xs : List X) → find p (x ∷ xs) ≡ None → (p x ≡ false) × (find p xs ≡ None)
find-none p x xs e =
    elim (cases_Bool (p x)) [
      | inl t ↦ let said : find p (x ∷ xs) ≡ Some x = cond-true _ _ _ t in absurd (cc)
      | inr f ↦ (f, sym (cond-false _ _ _ f) ∙ e)
    ]

pub few-places : (f : Form) → length (places f) ≤ 7
few-places form.Board = omega arith
few-places form.Layer = omega arith
few-places form.Class = omega arith
few-places form.Rule = omega arith
few-places form.Clear = omega arith
few-places form.ViaKind = omega arith
few-places form.Pad = omega arith
few-places form.Inner = omega arith
few-places form.Block = omega arith
few-places form.Keepout = omega arith
few-places form.Net = omega arith
few-places form.Pin = omega arith
few-places form.End = omega arith
few-places form.Route = omega arith
few-places form.All = omega arith
few-places form.Rip = omega arith
few-places form.Show = omega arith
few-places form.Rules = omega arith
few-places form.Strips = omega arith

-- no form has more than eight words
long-breaks : (d : Draft) (f : Form) (ws : List (List ℕ)) → 8 < length ws → breaks d f ws BadWord ≡ true
unfolding breaks fails_whole
long-breaks d f ws long =
    let few = few-places f in
    let ne : (length ws == length (places f) + 1) ≡ false = ne_eqb (length ws) (length (places f) + 1) (λ e. omega (arith, few)) in
    rw ne (or-true (some_fails d BadWord ws 1 (places f)))

long-applies : (d : Draft) (line : List ℕ) (o : Option Form) (ws : List (List ℕ)) → 8 < length ws → applies d line o ws BadWord ≡ true
unfolding applies
long-applies d line None ws long = refl
long-applies d line (Some f) ws long = long-breaks d f ws long

other-first : (d : Draft) (line : List ℕ) (ws : List (List ℕ)) → list_any is_other_byte line ≡ true → kind_with d line ws ≡ Some NotAscii
unfolding kind_with applies
other-first d line ws e = cond-true _ _ _ e

other-applies : (d : Draft) (line : List ℕ) (o : Option Form) (ws : List (List ℕ)) → applies d line o ws NotAscii ≡ list_any is_other_byte line
unfolding applies
other-applies d line None ws = refl
other-applies d line (Some f) ws = refl

long-bad : (d : Draft) (line : List ℕ) (ws : List (List ℕ)) → list_any is_other_byte line ≡ false → 8 < length ws → kind_with d line ws ≡ Some BadWord
unfolding kind_with
long-bad d line ws e long =
    let first : applies d line (form_of (word ws 0)) ws NotAscii ≡ false = other-applies d line (form_of (word ws 0)) ws ∙ e in
    cond-false _ _ _ first ∙ cond-true _ _ _ (long-applies d line (form_of (word ws 0)) ws long)

-- the first nine words tell the kind
pub kind-of-nine : (d : Draft) (line : List ℕ) → kind_with d line (take 9 (words line)) ≡ kind_of_line d line
unfolding kind_of_line
kind-of-nine d line =
    let ws = words line in
    elim (cases_lt 9 (length ws)) [
      | inl long ↦ elim (cases_Bool (list_any is_other_byte line)) [
        | inl e ↦ other-first d line (take 9 ws) e ∙ sym (other-first d line ws e)
        | inr e ↦ long-bad d line (take 9 ws) e (simp length-take (omega arith)) ∙ sym (long-bad d line ws e (omega arith))
      ]
      | inr short ↦ ap (kind_with d line) (take_all 9 ws short)
    ]

none-pass : {X : Type 0} (p : X → Bool) (xs : List X) → find p xs ≡ None → AllByRecursion (λ x. p x ≡ false) xs
none-pass p [] e = tt
none-pass p (x ∷ xs) e = let r = find-none p x xs e in (r.0, none-pass p xs r.1)

-- where no kind is told, the bytes are ASCII and no rule is broken
pub passes : (d : Draft) (line : List ℕ) (ws : List (List ℕ)) (f : Form) → kind_with d line ws ≡ None → form_of (word ws 0) ≡ Some f
    → (list_any is_other_byte line ≡ false) × BreaksNone d f ws
unfolding kind_with applies
passes d line ws f e is =
    let none : find (applies d line (Some f) ws) order ≡ None = subst (λ o. find (applies d line o ws) order ≡ None) is e in
    let a : AllByRecursion (λ k. applies d line (Some f) ws k ≡ false) order = none-pass (applies d line (Some f) ws) order none in (
      a.0,
      record {
        spelled = a.1.0;
        placed = a.1.1.0;
        numbers = a.1.1.1.0;
        known = a.1.1.1.1.0;
        fresh = a.1.1.1.1.1.0;
        ranges = a.1.1.1.1.1.1.0;
        corners = a.1.1.1.1.1.1.1.0;
        few = a.1.1.1.1.1.1.1.1.0;
        whole = a.1.1.1.1.1.1.1.1.1.0;
      },
    )

pub first-word : (ws : List (List ℕ)) → word (take 9 ws) 0 ≡ word ws 0
first-word [] = refl
first-word (w ∷ ws) = refl

-- a line with the words of its form has no more than nine
pub all-words : (d : Draft) (f : Form) (ws : List (List ℕ)) → BreaksNone d f (take 9 ws) → take 9 ws ≡ ws
all-words d f ws h =
    let n : min 9 (length ws) ≡ length (places f) + 1 = sym (length-take 9 ws) ∙ word-count h in
    let few = few-places f in
    take_all 9 ws (omega arith)

pub skipped : (d : Draft) (line : List ℕ) → counts line ≡ false → step d line ≡ Ok d
unfolding step
skipped d line e = cond-false _ _ _ e

pub refused : (d : Draft) (line : List ℕ) (kind : RefusalKind) → counts line ≡ true → kind_of_line d line ≡ Some kind → step d line ≡ Err kind
unfolding step
refused d line kind e k = cond-true _ _ _ e ∙ ap (λ o. unless o (after_line d line)) k

pub passed : (d : Draft) (line : List ℕ) (o : Option Form) → counts line ≡ true → kind_of_line d line ≡ None → form_of (word (words line) 0) ≡ o → step d line ≡ Ok (after_words d o (words line))
unfolding step
passed d line o e k f = cond-true _ _ _ e ∙ (ap (λ q. unless q (after_line d line)) k ∙ ap (λ q. Ok (after_words d q (words line))) f)

pub cases_option : {X : Type 0} (o : Option X) → (o ≡ None) ⊎ ((x : X) × (o ≡ Some x))
cases_option None = inl refl
cases_option (Some x) = inr (x, refl)

passes-line : (d : Draft) (line : List ℕ) (f : Form) → kind_of_line d line ≡ None → form_of (word (words line) 0) ≡ Some f → (list_any is_other_byte line ≡ false) × BreaksNone d f (words line)
unfolding kind_of_line
passes-line d line f e is = passes d line (words line) f e is

-- a line that breaks no rule leaves a draft
pub step-keeps : (d e : Draft) (line : List ℕ) → IsDraft d → step d line ≡ Ok e → IsDraft e
step-keeps d e line k said =
    elim (cases_Bool (counts line)) [
      | inr blank ↦ let same : d ≡ e = let s = skipped d line blank in cc in subst (λ x. IsDraft x) same k
      | inl some ↦ elim (cases_option (kind_of_line d line)) [
        | inr bad ↦ let s = refused d line bad.0 some bad.1 in absurd (cc)
        | inl none ↦ elim (cases_option (form_of (word (words line) 0))) [
          | inl f ↦ let s = passed d line None some none f in let same : d ≡ e = cc in subst (λ x. IsDraft x) same k
          | inr f ↦
              let s = passed d line (Some f.0) some none f.1 in
              let same : after_form d f.0 (words line) ≡ e = cc in
              let p = passes-line d line f.0 none f.1 in
              subst (λ x. IsDraft x) same (keeps-form d f.0 (words line) k (words-are-words line p.0) p.1)
        ]
      ]
    ]

-- the same of a list that has the first nine words
pub line-kind : (d : Draft) (line : List ℕ) (ws : List (List ℕ)) (o : Option RefusalKind) → ws ≡ take 9 (words line) → o ≡ kind_with d line ws → kind_of_line d line ≡ o
line-kind d line ws o nine is = sym (kind-of-nine d line) ∙ (ap (kind_with d line) (sym nine) ∙ sym is)

pub line-form : (line : List ℕ) (ws : List (List ℕ)) (w : List ℕ) (o : Option Form) → ws ≡ take 9 (words line) → w ≡ word ws 0 → o ≡ form_of w → form_of (word (words line) 0) ≡ o
line-form line ws w o nine first is = sym (is ∙ ap form_of (first ∙ (ap (λ xs. word xs 0) nine ∙ first-word (words line))))

pub record PassingWords (d : Draft) (line : List ℕ) (ws : List (List ℕ)) (f : Form) : Type 0 where
  pub good : All IsWord ws
  pub breaks_none : BreaksNone d f ws
  pub whole : ws ≡ words line

pub passing-words : (d : Draft) (line : List ℕ) (ws : List (List ℕ)) (w : List ℕ) (f : Form) → ws ≡ take 9 (words line) → None ≡ kind_with d line ws → w ≡ word ws 0 → Some f ≡ form_of w
    → PassingWords d line ws f
passing-words d line ws w f nine none first is =
    let p = passes d line ws f (sym none) (sym (is ∙ ap form_of first)) in
    record {
      good = subst (λ xs. All IsWord xs) (sym nine) (All-take IsWord 9 (words line) (words-are-words line p.0));
      breaks_none = p.1;
      whole = nine ∙ all-words d f (words line) (subst (λ xs. BreaksNone d f xs) nine p.1);
    }
