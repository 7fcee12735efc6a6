-- A reading against its first line that breaks a rule, both ways.
use Rattle.std.proofs.Common.{◌≡◌, ◌≢◌, ◌⊎◌, ◌↔◌, ℕ, ◌+◌, true, false, List, [], ◌∷◌, ◌++◌, Some, None, Result, Ok, Err, length, refl, sym, ap, ◌∙◌, arith, inl, inr, subst}
use Rattle.std.specs.Prelude.{find}
use Rattle.std.proofs.lemmas.Bool.{cases_Bool, cond-true, cond-false, false≢true}
use Rattle.board_reader.specs.declared.drafts.Draft.{Draft}
use Rattle.board_reader.specs.declared.forms.Stage.{Stage}
use Rattle.board_reader.specs.declared.forms.Stage.TheVariants.{Start, Parts, Commands}
use Rattle.board_reader.specs.declared.refusals.Refusal.{Refusal}
use Rattle.board_reader.specs.declared.refusals.RefusalKind.{RefusalKind}
use Rattle.board_reader.specs.declared.refusals.RefusalKind.TheVariants.{NoEnd}
use Rattle.board_reader.specs.Checks.{applies, order, kind_of_line, kind_with}
use Rattle.board_reader.specs.Drafts.{no_draft}
use Rattle.board_reader.specs.Forms.{form_of, is_stage}
use Rattle.board_reader.specs.Law.{NoneApplies, IsFirst, BreaksNoRule, with_line, BreakNoRule, IsFirstBroken, HasNoEnd, IsRefusal, IsTold}
use Rattle.line_words.specs.Lines.{lines, counts, words, word}
use Rattle.board_reader.specs.Reading.{Told, told, step, after_line, reading_from, reading, goes_on}
use Rattle.board_reader.proofs.Lining.{ended, not-ended}
use Rattle.board_reader.proofs.Stepping.{skipped, refused, passed, cases_option}

-- the first of some kinds, as a search finds it
found-first : (d : Draft) (line : List ℕ) (ks : List RefusalKind) (kind : RefusalKind)
    → find (applies d line (form_of (word (words line) 0)) (words line)) ks ≡ Some kind → IsFirst d line ks kind
found-first d line [] kind e = absurd (cc)
found-first d line (k ∷ ks) kind e =
    elim (cases_Bool (applies d line (form_of (word (words line) 0)) (words line) k)) [
      | inl t ↦ inl (t, let s = sym (cond-true _ (Some k) (find (applies d line (form_of (word (words line) 0)) (words line)) ks) t) ∙ e in cc)
      | inr f ↦ inr (λ t. false≢true (sym f ∙ t), found-first d line ks kind (sym (cond-false _ (Some k) (find (applies d line (form_of (word (words line) 0)) (words line)) ks) f) ∙ e))
    ]

first-found : (d : Draft) (line : List ℕ) (ks : List RefusalKind) (kind : RefusalKind)
    → IsFirst d line ks kind → find (applies d line (form_of (word (words line) 0)) (words line)) ks ≡ Some kind
first-found d line [] kind h = absurd h
first-found d line (k ∷ ks) kind (inl h) = cond-true _ (Some k) (find (applies d line (form_of (word (words line) 0)) (words line)) ks) h.0 ∙ ap (λ x. Some x) (sym h.1)
first-found d line (k ∷ ks) kind (inr h) =
    elim (cases_Bool (applies d line (form_of (word (words line) 0)) (words line) k)) [
      | inl t ↦ absurd (h.0 t)
      | inr f ↦ cond-false _ (Some k) (find (applies d line (form_of (word (words line) 0)) (words line)) ks) f ∙ first-found d line ks kind h.1
    ]

found-none : (d : Draft) (line : List ℕ) (ks : List RefusalKind)
    → find (applies d line (form_of (word (words line) 0)) (words line)) ks ≡ None → NoneApplies d line ks
found-none d line [] e = tt
found-none d line (k ∷ ks) e =
    elim (cases_Bool (applies d line (form_of (word (words line) 0)) (words line) k)) [
      | inl t ↦ let s = sym (cond-true _ (Some k) (find (applies d line (form_of (word (words line) 0)) (words line)) ks) t) ∙ e in absurd (cc)
      | inr f ↦ (λ t. false≢true (sym f ∙ t), found-none d line ks (sym (cond-false _ (Some k) (find (applies d line (form_of (word (words line) 0)) (words line)) ks) f) ∙ e))
    ]

none-found : (d : Draft) (line : List ℕ) (ks : List RefusalKind)
    → NoneApplies d line ks → find (applies d line (form_of (word (words line) 0)) (words line)) ks ≡ None
none-found d line [] h = refl
none-found d line (k ∷ ks) h =
    elim (cases_Bool (applies d line (form_of (word (words line) 0)) (words line) k)) [
      | inl t ↦ absurd (h.0 t)
      | inr f ↦ cond-false _ (Some k) (find (applies d line (form_of (word (words line) 0)) (words line)) ks) f ∙ none-found d line ks h.1
    ]

kind-is : (d : Draft) (line : List ℕ) → kind_of_line d line ≡ find (applies d line (form_of (word (words line) 0)) (words line)) order
unfolding kind_of_line kind_with
kind-is d line = refl

-- what a step says of a line
step-ok : (d e : Draft) (line : List ℕ) → step d line ≡ Ok e → BreaksNoRule d line × (with_line d line ≡ e)
step-ok d e line said =
    elim (cases_Bool (counts line)) [
      | inr blank ↦ (λ t. absurd (false≢true (sym blank ∙ t)), cond-false _ (after_line d line) d blank ∙ (let s = skipped d line blank in cc))
      | inl some ↦ elim (cases_option (kind_of_line d line)) [
        | inr bad ↦ let s = refused d line bad.0 some bad.1 in absurd (cc)
        | inl none ↦
            let s = passed d line (form_of (word (words line) 0)) some none refl in
            (λ _. found-none d line order (sym (kind-is d line) ∙ none), cond-true _ (after_line d line) d some ∙ (cc))
      ]
    ]

ok-step : (d : Draft) (line : List ℕ) → BreaksNoRule d line → step d line ≡ Ok (with_line d line)
ok-step d line h =
    elim (cases_Bool (counts line)) [
      | inr blank ↦ skipped d line blank ∙ ap (λ e. Ok e) (sym (cond-false _ (after_line d line) d blank))
      | inl some ↦
          passed d line (form_of (word (words line) 0)) some (kind-is d line ∙ none-found d line order (h some)) refl
          ∙ ap (λ e. Ok e) (sym (cond-true _ (after_line d line) d some))
    ]

step-err : (d : Draft) (line : List ℕ) (kind : RefusalKind) → step d line ≡ Err kind → (counts line ≡ true) × IsFirst d line order kind
step-err d line kind said =
    elim (cases_Bool (counts line)) [
      | inr blank ↦ let s = skipped d line blank in absurd (cc)
      | inl some ↦ elim (cases_option (kind_of_line d line)) [
        | inr bad ↦
            let s = refused d line bad.0 some bad.1 in
            let same : bad.0 ≡ kind = cc in
            (some, found-first d line order kind (sym (kind-is d line) ∙ (bad.1 ∙ ap (λ k. Some k) same)))
        | inl none ↦ let s = passed d line (form_of (word (words line) 0)) some none refl in absurd (cc)
      ]
    ]

err-step : (d : Draft) (line : List ℕ) (kind : RefusalKind) → counts line ≡ true → IsFirst d line order kind → step d line ≡ Err kind
err-step d line kind some h = refused d line kind some (kind-is d line ∙ first-found d line order kind h)

cases_result : {A B : Type 0} (r : Result A B) → ((x : A) × (r ≡ Ok x)) ⊎ ((e : B) × (r ≡ Err e))
cases_result (Ok x) = inl (x, refl)
cases_result (Err e) = inr (e, refl)

from-ok : (d e : Draft) (n : ℕ) (line : List ℕ) (rest : List (List ℕ)) → step d line ≡ Ok e → reading_from d n (line ∷ rest) ≡ reading_from e (n + 1) rest
unfolding reading_from
from-ok d e n line rest s = ap (λ r. goes_on r n (λ x. reading_from x (n + 1) rest)) s

from-err : (d : Draft) (kind : RefusalKind) (n : ℕ) (line : List ℕ) (rest : List (List ℕ)) → step d line ≡ Err kind → reading_from d n (line ∷ rest) ≡ Err (record { line = n; kind = kind })
unfolding reading_from
from-err d kind n line rest s = ap (λ r. goes_on r n (λ x. reading_from x (n + 1) rest)) s

stage-cases : (s : Stage) → (s ≡ Commands) ⊎ (is_stage s Commands ≡ false)
stage-cases Start = inr refl
stage-cases Parts = inr refl
stage-cases Commands = inl refl

not-commands : (s : Stage) → s ≢ Commands → is_stage s Commands ≡ false
not-commands Start h = refl
not-commands Parts h = refl
not-commands Commands h = absurd (h refl)

is-not-commands : (s : Stage) → is_stage s Commands ≡ false → s ≢ Commands
is-not-commands s f e = false≢true (sym f ∙ ap (λ x. is_stage x Commands) e)

broken-later : (d : Draft) (n : ℕ) (line : List ℕ) (rest : List (List ℕ)) (r : Refusal) → BreaksNoRule d line
    → IsFirstBroken (with_line d line) (n + 1) rest r → IsFirstBroken d n (line ∷ rest) r
broken-later d n line rest r here h = record {
  before = line ∷ h.before;
  line = h.line;
  after = h.after;
  cut = ap (λ xs. line ∷ xs) h.cut;
  number = omega (arith, h.number);
  said = h.said;
  none = (here, h.none);
  counted = h.counted;
  kind = h.kind;
}

open-later : (d : Draft) (n : ℕ) (line : List ℕ) (rest : List (List ℕ)) (r : Refusal) → BreaksNoRule d line
    → HasNoEnd (with_line d line) (n + 1) rest r → HasNoEnd d n (line ∷ rest) r
open-later d n line rest r here h = record { said = h.said; none = (here, h.none); open_ended = h.open_ended; number = omega (arith, h.number); kind = h.kind }

abbrev refusal_at : ℕ → RefusalKind → Refusal
refusal_at n kind = record { line = n; kind = kind }

pub refused-first : (d : Draft) (n : ℕ) (all : List (List ℕ)) (r : Refusal) → reading_from d n all ≡ Err r → IsFirstBroken d n all r ⊎ HasNoEnd d n all r
refused-first d n [] r e =
    elim (stage-cases d.stage) [
      | inl s ↦ let t = ended d n s in absurd (cc)
      | inr s ↦
          let t = sym (not-ended d n s) ∙ e in
          let same : refusal_at n NoEnd ≡ r = cc in
          let line : n ≡ r.line = ap (λ x. x.line) same in
          inr (record { said = d; none = refl; open_ended = is-not-commands d.stage s; number = omega (arith, line); kind = sym (ap (λ x. x.kind) same) })
    ]
refused-first d n (line ∷ rest) r e =
    elim (cases_result (step d line)) [
      | inl ok ↦
          let p = step-ok d ok.0 line ok.1 in
          let later : reading_from (with_line d line) (n + 1) rest ≡ Err r = subst (λ x. reading_from x (n + 1) rest ≡ Err r) (sym p.1) (sym (from-ok d ok.0 n line rest ok.1) ∙ e) in
          elim (refused-first (with_line d line) (n + 1) rest r later) [
            | inl h ↦ inl (broken-later d n line rest r p.0 h)
            | inr h ↦ inr (open-later d n line rest r p.0 h)
          ]
      | inr bad ↦
          let p = step-err d line bad.0 bad.1 in
          let s = sym (from-err d bad.0 n line rest bad.1) ∙ e in
          let same : refusal_at n bad.0 ≡ r = cc in
          let number : n ≡ r.line = ap (λ x. x.line) same in
          inl (record {
            before = [];
            line = line;
            after = rest;
            cut = refl;
            number = omega (arith, number);
            said = d;
            none = refl;
            counted = p.0;
            kind = subst (λ k. IsFirst d line order k) (ap (λ x. x.kind) same) p.1;
          })
    ]

broken-reads : (d : Draft) (n : ℕ) (before : List (List ℕ)) (line : List ℕ) (after : List (List ℕ)) (r : Refusal) (said : Draft)
    → BreakNoRule d before said → counts line ≡ true → IsFirst said line order r.kind → r.line ≡ n + length before → reading_from d n (before ++ line ∷ after) ≡ Err r
broken-reads d n [] line after r said none some kind number =
    let first : IsFirst d line order r.kind = subst (λ x. IsFirst x line order r.kind) (sym none) kind in
    let here : n ≡ r.line = omega (arith, number) in
    from-err d r.kind n line after (err-step d line r.kind some first) ∙ (λ i. Err (refusal_at (here i) r.kind))
broken-reads d n (l ∷ ls) line after r said none some kind number =
    from-ok d (with_line d l) n l (ls ++ line ∷ after) (ok-step d l none.0)
    ∙ broken-reads (with_line d l) (n + 1) ls line after r said none.1 some kind (omega (arith, number))

open-reads : (d : Draft) (n : ℕ) (all : List (List ℕ)) (r : Refusal) (said : Draft)
    → BreakNoRule d all said → said.stage ≢ Commands → r.line ≡ n + length all → r.kind ≡ NoEnd → reading_from d n all ≡ Err r
open-reads d n [] r said none open_ended number kind =
    let here : n ≡ r.line = omega (arith, number) in
    not-ended d n (ap (λ x. is_stage x.stage Commands) none ∙ not-commands said.stage open_ended) ∙ (λ i. Err (refusal_at (here i) (sym kind i)))
open-reads d n (l ∷ ls) r said none open_ended number kind =
    from-ok d (with_line d l) n l ls (ok-step d l none.0) ∙ open-reads (with_line d l) (n + 1) ls r said none.1 open_ended (omega (arith, number)) kind

pub first-refused : (d : Draft) (n : ℕ) (all : List (List ℕ)) (r : Refusal) → IsFirstBroken d n all r ⊎ HasNoEnd d n all r → reading_from d n all ≡ Err r
first-refused d n all r (inl h) = ap (λ ls. reading_from d n ls) h.cut ∙ broken-reads d n h.before h.line h.after r h.said h.none h.counted h.kind h.number
first-refused d n all r (inr h) = open-reads d n all r h.said h.none h.open_ended h.number h.kind

pub read-told : (d : Draft) (n : ℕ) (all : List (List ℕ)) (t : Told) → reading_from d n all ≡ Ok t → IsTold d all t
read-told d n [] t e =
    elim (stage-cases d.stage) [
      | inl s ↦ let u = sym (ended d n s) ∙ e in record { said = d; none = refl; ended = s; told = sym (let same : told d ≡ t = cc in same) }
      | inr s ↦ let u = not-ended d n s in absurd (cc)
    ]
read-told d n (line ∷ rest) t e =
    elim (cases_result (step d line)) [
      | inl ok ↦
          let p = step-ok d ok.0 line ok.1 in
          let later : reading_from (with_line d line) (n + 1) rest ≡ Ok t = subst (λ x. reading_from x (n + 1) rest ≡ Ok t) (sym p.1) (sym (from-ok d ok.0 n line rest ok.1) ∙ e) in
          let h = read-told (with_line d line) (n + 1) rest t later in
          record { said = h.said; none = (p.0, h.none); ended = h.ended; told = h.told }
      | inr bad ↦ let s = from-err d bad.0 n line rest bad.1 in absurd (cc)
    ]

told-reads : (d : Draft) (n : ℕ) (all : List (List ℕ)) (t : Told) (said : Draft) → BreakNoRule d all said → said.stage ≡ Commands → t ≡ told said → reading_from d n all ≡ Ok t
told-reads d n [] t said none stage e = ended d n (ap (λ x. x.stage) none ∙ stage) ∙ ap (λ x. Ok x) (ap told none ∙ sym e)
told-reads d n (l ∷ ls) t said none stage e =
    from-ok d (with_line d l) n l ls (ok-step d l none.0) ∙ told-reads (with_line d l) (n + 1) ls t said none.1 stage e

pub refusal-law : (text : List ℕ) (r : Refusal) → (reading text ≡ Err r) ↔ IsRefusal text r
unfolding reading
refusal-law text r = (refused-first no_draft 1 (lines text) r, first-refused no_draft 1 (lines text) r)

pub told-law : (text : List ℕ) (t : Told) → (reading text ≡ Ok t) ↔ IsTold no_draft (lines text) t
unfolding reading
told-law text t = (read-told no_draft 1 (lines text) t, λ h. told-reads no_draft 1 (lines text) t h.said h.none h.ended h.told)
