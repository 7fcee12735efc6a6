-- What a line says that breaks no rule.
use Rattle.std.proofs.Common.{◌≡◌, ℕ, ◌+◌, ◌≤◌, Bool, true, false, List, [], ◌∷◌, length, refl, sym}
use Rattle.std.specs.Prelude.{◌||◌, ◌==◌, not, nat_lt}
use Rattle.std.proofs.lemmas.Bool.{ltb-false, not-false, eqb-true, false≢true}
use Rattle.board_reader.specs.declared.drafts.Draft.{Draft}
use Rattle.board_reader.specs.declared.forms.Form.{Form}
use Rattle.board_reader.specs.declared.forms.Place.{Place}
use Rattle.board_reader.specs.declared.forms.Place.TheVariants.{Title, NewName, KnownName, Number, Across, Up}
use Rattle.board_reader.specs.declared.forms.Sort.{Sort}
use Rattle.board_reader.specs.declared.forms.Stage.{Stage}
use Rattle.board_reader.specs.declared.forms.Stage.TheVariants.{Start, Parts, Commands}
use Rattle.board_reader.specs.declared.refusals.RefusalKind.{RefusalKind}
use Rattle.board_reader.specs.declared.refusals.RefusalKind.TheVariants.{BadWord, OutOfRange, UnknownName, TwiceNamed, WrongPlace}
use Rattle.board_reader.specs.Checks.{breaks, fails, some_fails, fails_whole, is_too_new, names_of}
use Rattle.board_reader.specs.Forms.{places, stage_of, is_stage}
use Rattle.line_words.specs.Lines.{word}
use Rattle.board_reader.specs.Names.{is_in}
use Rattle.line_words.specs.Numbers.{number}
use Rattle.board_reader.specs.Passing.{BreaksNone}

pub or-left : (x y : Bool) → (x || y) ≡ false → x ≡ false
or-left true y e = e
or-left false y e = refl

pub or-right : (x y : Bool) → (x || y) ≡ false → y ≡ false
or-right true y e = absurd (false≢true (sym e))
or-right false y e = e

-- no word breaks a rule of its place, place by place
abbrev pub NoneFail : Draft → RefusalKind → List (List ℕ) → ℕ → List Place → Type 0
NoneFail d kind ws i [] = Unit {0}
NoneFail d kind ws i (p ∷ ps) = (fails d kind p (word ws i) ≡ false) × NoneFail d kind ws (i + 1) ps

none-fail : (d : Draft) (kind : RefusalKind) (ws : List (List ℕ)) (i : ℕ) (ps : List Place) → some_fails d kind ws i ps ≡ false → NoneFail d kind ws i ps
none-fail d kind ws i [] e = tt
none-fail d kind ws i (p ∷ ps) e =
    (or-left (fails d kind p (word ws i)) (some_fails d kind ws (i + 1) ps) e, none-fail d kind ws (i + 1) ps (or-right (fails d kind p (word ws i)) (some_fails d kind ws (i + 1) ps) e))

pub each-place : (d : Draft) (f : Form) (ws : List (List ℕ)) (kind : RefusalKind) → breaks d f ws kind ≡ false → NoneFail d kind ws 1 (places f)
unfolding breaks
each-place d f ws kind e = none-fail d kind ws 1 (places f) (or-left (some_fails d kind ws 1 (places f)) (fails_whole d kind f ws) e)

pub whole-line : (d : Draft) (f : Form) (ws : List (List ℕ)) (kind : RefusalKind) → breaks d f ws kind ≡ false → fails_whole d kind f ws ≡ false
unfolding breaks
whole-line d f ws kind e = or-right (some_fails d kind ws 1 (places f)) (fails_whole d kind f ws) e

pub in-range : (d : Draft) (a b : ℕ) (w : List ℕ) → fails d OutOfRange (Number a b) w ≡ false → (a ≤ number w) × (number w ≤ b)
unfolding fails
in-range d a b w e =
    (ltb-false (number w) a (or-left (nat_lt (number w) a) (nat_lt b (number w)) e), ltb-false b (number w) (or-right (nat_lt (number w) a) (nat_lt b (number w)) e))

pub in-width : (d : Draft) (w : List ℕ) → fails d OutOfRange Across w ≡ false → number w ≤ d.heading.width
unfolding fails
in-width d w e = ltb-false d.heading.width (number w) e

pub in-height : (d : Draft) (w : List ℕ) → fails d OutOfRange Up w ≡ false → number w ≤ d.heading.height
unfolding fails
in-height d w e = ltb-false d.heading.height (number w) e

pub is-known : (d : Draft) (s : Sort) (w : List ℕ) → fails d UnknownName (KnownName s) w ≡ false → is_in (names_of d s) w ≡ true
unfolding fails
is-known d s w e = not-false (is_in (names_of d s) w) e

pub is-fresh : (d : Draft) (s : Sort) (w : List ℕ) → fails d TwiceNamed (NewName s) w ≡ false → is_in (names_of d s) w ≡ false
unfolding fails
is-fresh d s w e = e

pub is-short : (d : Draft) (s : Sort) (w : List ℕ) → fails d BadWord (NewName s) w ≡ false → length w ≤ 64
unfolding fails
is-short d s w e = ltb-false 64 (length w) e

pub is-short-title : (d : Draft) (w : List ℕ) → fails d BadWord Title w ≡ false → length w ≤ 64
unfolding fails
is-short-title d w e = ltb-false 64 (length w) e

pub same-stage : (s t : Stage) → is_stage s t ≡ true → t ≡ s
same-stage Start Start e = refl
same-stage Start Parts e = absurd (false≢true e)
same-stage Start Commands e = absurd (false≢true e)
same-stage Parts Start e = absurd (false≢true e)
same-stage Parts Parts e = refl
same-stage Parts Commands e = absurd (false≢true e)
same-stage Commands Start e = absurd (false≢true e)
same-stage Commands Parts e = absurd (false≢true e)
same-stage Commands Commands e = refl

-- the line stands in its part of the text
pub stands : {d : Draft} {f : Form} {ws : List (List ℕ)} → BreaksNone d f ws → d.stage ≡ stage_of f
unfolding fails_whole
stands {d} {f} {ws} h = same-stage (stage_of f) d.stage (not-false (is_stage (stage_of f) d.stage) (whole-line d f ws WrongPlace h.placed))

-- it has the words of its form
pub word-count : {d : Draft} {f : Form} {ws : List (List ℕ)} → BreaksNone d f ws → length ws ≡ length (places f) + 1
unfolding fails_whole
word-count {d} {f} {ws} h =
    let same = or-left (not (length ws == length (places f) + 1)) (is_too_new d f) (whole-line d f ws BadWord h.spelled) in
    eqb-true (length ws) (length (places f) + 1) (not-false _ same)
