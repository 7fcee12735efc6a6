-- What a reading is, in words about lines: the first line that breaks a rule, or what all lines say.
use Rattle.std.specs.Prelude.{◌≡◌, ◌≢◌, ◌⊎◌, ℕ, ◌+◌, true, List, [], ◌∷◌, ◌++◌, length, if◌then◌else◌}
use Rattle.board_reader.specs.declared.drafts.Draft.{Draft}
use Rattle.board_reader.specs.declared.forms.Stage.TheVariants.{Commands}
use Rattle.board_reader.specs.declared.refusals.Refusal.{Refusal}
use Rattle.board_reader.specs.declared.refusals.RefusalKind.{RefusalKind}
use Rattle.board_reader.specs.declared.refusals.RefusalKind.TheVariants.{NoEnd}
use Rattle.board_reader.specs.Checks.{applies, order}
use Rattle.board_reader.specs.Drafts.{no_draft}
use Rattle.board_reader.specs.Forms.{form_of}
use Rattle.line_words.specs.Lines.{lines, counts, words, word}
use Rattle.board_reader.specs.Reading.{Told, told, after_line}

-- the line breaks a rule of the kind, given what the lines before it say
abbrev pub Applies : Draft → List ℕ → RefusalKind → Type 0
Applies d line kind = applies d line (form_of (word (words line) 0)) (words line) kind ≡ true

-- of these kinds, none applies
abbrev pub NoneApplies : Draft → List ℕ → List RefusalKind → Type 0
NoneApplies d line [] = Unit {0}
NoneApplies d line (k ∷ ks) = (Applies d line k → ⊥) × NoneApplies d line ks

-- of these kinds, this one is the first that applies
abbrev pub IsFirst : Draft → List ℕ → List RefusalKind → RefusalKind → Type 0
IsFirst d line [] kind = ⊥
IsFirst d line (k ∷ ks) kind = (Applies d line k × (kind ≡ k)) ⊎ ((Applies d line k → ⊥) × IsFirst d line ks kind)

-- the line breaks no rule: it is blank or a comment, or no kind applies
abbrev pub BreaksNoRule : Draft → List ℕ → Type 0
BreaksNoRule d line = counts line ≡ true → NoneApplies d line order

-- what the lines say with one more, which says nothing where it is blank or a comment
abbrev pub with_line : Draft → List ℕ → Draft
with_line d line = if counts line then after_line d line else d

-- no line breaks a rule, given what those before it say; after all of them they say new
abbrev pub BreakNoRule : Draft → List (List ℕ) → Draft → Type 0
BreakNoRule d [] new = d ≡ new
BreakNoRule d (line ∷ rest) new = BreaksNoRule d line × BreakNoRule (with_line d line) rest new

-- the first line that breaks a rule has the number of the refusal, and its kind is the first that applies there
pub record IsFirstBroken (d : Draft) (n : ℕ) (all : List (List ℕ)) (r : Refusal) : Type 0 where
  pub before : List (List ℕ)
  pub line : List ℕ
  pub after : List (List ℕ)
  pub cut : all ≡ before ++ line ∷ after
  pub number : r.line ≡ n + length before
  pub said : Draft
  pub none : BreakNoRule d before said
  pub counted : counts line ≡ true
  pub kind : IsFirst said line order r.kind

-- no line breaks a rule and there is no line `end`; the refusal has the number of the lines plus one
pub record HasNoEnd (d : Draft) (n : ℕ) (all : List (List ℕ)) (r : Refusal) : Type 0 where
  pub said : Draft
  pub none : BreakNoRule d all said
  pub open_ended : said.stage ≢ Commands
  pub number : r.line ≡ n + length all
  pub kind : r.kind ≡ NoEnd

-- what a refusal of a text means
abbrev pub IsRefusal : List ℕ → Refusal → Type 0
IsRefusal text r = IsFirstBroken no_draft 1 (lines text) r ⊎ HasNoEnd no_draft 1 (lines text) r

-- no line breaks a rule, there is a line `end`, and this is what the lines say
pub record IsTold (d : Draft) (all : List (List ℕ)) (t : Told) : Type 0 where
  pub said : Draft
  pub none : BreakNoRule d all said
  pub ended : said.stage ≡ Commands
  pub told : t ≡ told said
