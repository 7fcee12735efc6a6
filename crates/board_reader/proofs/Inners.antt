-- Inner pads: each is that of its line, or else the pad, and a kind of two layers has no line.
use Rattle.std.proofs.Common.{◌≡◌, ℕ, ◌+◌, ◌<◌, ℤ, pos, true, Bool, List, [], ◌∷◌, ◌++◌, All, Some, None, unwrap_or, length, refl, sym, ap, ◌∙◌, arith, inl, inr, subst}
use Rattle.std.specs.Prelude.{◌&&◌, ◌==◌, is_some}
use Rattle.std.specs.List.{range_with_len, list_all}
use Rattle.std.proofs.lemmas.Bool.{and_parts, cases_Bool, cond-true, cond-false, eqb-true}
use Rattle.std.proofs.lemmas.List.Elements.{All-head, All-tail}
use Rattle.board_parts.specs.Rules.{IsPlainWithoutInner}
use Rattle.board_parts.specs.declared.parts.ViaKind.{ViaKind}
use Rattle.board_reader.specs.declared.drafts.Draft.{Draft}
use Rattle.board_reader.specs.declared.tables.Entry.{Entry}
use Rattle.board_reader.specs.Drafts.{nth_kind, parts_of}
use Rattle.board_reader.specs.Kept.{IsDraft, IsInnerOf}
use Rattle.board_reader.specs.Tables.{value_at, is_full_row, is_full}
use Rattle.board_reader.proofs.Cells.{cell}

-- a kind of two layers has no line
none-given : (kinds : List ViaKind) (es : List (Entry ℤ)) (k c : ℕ) → All (IsInnerOf kinds) es → (nth_kind kinds k).last.0 ≡ (nth_kind kinds k).first.0 + 1 → value_at es k c ≡ None
unfolding value_at
none-given kinds [] k c h two = refl
none-given kinds (x ∷ xs) k c h two =
    elim (cases_Bool (x.row == k && x.column == c)) [
      | inl here ↦
          let row = eqb-true x.row k (and_parts (x.row == k) (x.column == c) here).0 in
          absurd ((All-head (IsInnerOf kinds) x xs h).deep (subst (λ n. (nth_kind kinds n).last.0 ≡ (nth_kind kinds n).first.0 + 1) (sym row) two))
      | inr other ↦ cond-false (x.row == k && x.column == c) (Some x.value) (value_at xs k c) other ∙ none-given kinds xs k c (All-tail (IsInnerOf kinds) x xs h) two
    ]

-- where the first entries have no value, it is that of the others
value-after : {T : Type 0} (es fs : List (Entry T)) (r c : ℕ) → value_at es r c ≡ None → value_at (es ++ fs) r c ≡ value_at fs r c
unfolding value_at
value-after [] fs r c none = refl
value-after (x ∷ xs) fs r c none =
    elim (cases_Bool (x.row == r && x.column == c)) [
      | inl here ↦ let found = sym (cond-true (x.row == r && x.column == c) (Some x.value) (value_at xs r c) here) ∙ none in absurd (cc)
      | inr other ↦
          cond-false (x.row == r && x.column == c) (Some x.value) (value_at (xs ++ fs) r c) other
          ∙ value-after xs fs r c (sym (cond-false (x.row == r && x.column == c) (Some x.value) (value_at xs r c) other) ∙ none)
    ]

-- more entries leave none without a value
some-more : {T : Type 0} (es fs : List (Entry T)) (r c : ℕ) → is_some (value_at fs r c) ≡ true → is_some (value_at (es ++ fs) r c) ≡ true
unfolding value_at
some-more [] fs r c some = some
some-more (x ∷ xs) fs r c some =
    elim (cases_Bool (x.row == r && x.column == c)) [
      | inl here ↦ ap is_some (cond-true (x.row == r && x.column == c) (Some x.value) (value_at (xs ++ fs) r c) here)
      | inr other ↦ ap is_some (cond-false (x.row == r && x.column == c) (Some x.value) (value_at (xs ++ fs) r c) other) ∙ some-more xs fs r c some
    ]

all-weaker : (p q : ℕ → Bool) → ((x : ℕ) → p x ≡ true → q x ≡ true) → (xs : List ℕ) → list_all p xs ≡ true → list_all q xs ≡ true
all-weaker p q h [] e = refl
all-weaker p q h (x ∷ xs) e =
    let parts = and_parts (p x) (list_all p xs) e in
    rw (h x parts.0, all-weaker p q h xs parts.1) refl

pub full-more : {T : Type 0} (es fs : List (Entry T)) (rows columns : ℕ) → is_full fs rows columns ≡ true → is_full (es ++ fs) rows columns ≡ true
full-more es fs rows columns full =
    all-weaker (is_full_row fs columns) (is_full_row (es ++ fs) columns)
    (λ r. all-weaker (λ c. is_some (value_at fs r c)) (λ c. is_some (value_at (es ++ fs) r c)) (λ c. some-more es fs r c) (range_with_len 0 columns))
    (range_with_len 0 rows) full

pub plain-without-inner : (d : Draft) → IsDraft d → is_full d.pads (length d.kind_names) (length d.classes) ≡ true → IsPlainWithoutInner (parts_of d)
unfolding parts_of
plain-without-inner d kept full k c kind class two =
    let rows = length d.kind_names in
    let columns = length d.classes in
    let same = kept.kinds.even in
    let known : k.0 < rows = omega (arith, kind, same) in
    cell (d.inners ++ d.pads) rows columns k.0 c.0 (pos 1) (full-more d.inners d.pads rows columns full) known class
    ∙ (ap (λ o. unwrap_or o (pos 1)) (value-after d.inners d.pads k.0 c.0 (none-given d.kinds d.inners k.0 c.0 kept.inners two))
    ∙ sym (cell d.pads rows columns k.0 c.0 (pos 1) full known class))
