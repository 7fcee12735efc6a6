-- The gaps of two classes are read back: those of the lines, and the others from the rules.
use Rattle.std.proofs.Common.{◌≡◌, ℕ, ℤ, pos, ◌+◌, ◌*◌, ◌<◌, ◌≤◌, min, max, true, false, Bool, List, [], ◌∷◌, ◌++◌, Option, Some, None, length, get_or, map, refl, sym, ap, ◌∙◌, arith, inl, inr}
use Rattle.std.specs.Prelude.{is_some, not, ◌==◌, if◌then◌else◌, unwrap_or}
use Rattle.std.specs.Fmt.{signed_decimal}
use Rattle.std.specs.Int.{int_max}
use Rattle.std.specs.List.{flat_map, range_with_len}
use Rattle.std.specs.Ordering.{int_eq}
use Rattle.std.proofs.lemmas.Bool.{cases_lt}
use Rattle.std.proofs.lemmas.Bool.Decides.{Decides-int_eq}
use Rattle.std.proofs.lemmas.Int.{ints, clamps}
use Rattle.board_parts.specs.Lookup.{layer_at, gap_of}
use Rattle.board_parts.specs.Rules.{IsBoard, IsMeasure}
use Rattle.board_parts.specs.declared.parts.BoardParts.{BoardParts}
use Rattle.board_parts.specs.declared.parts.Rule.{Rule}
use Rattle.board_reader.specs.declared.forms.Form.TheVariants as form
use Rattle.board_reader.specs.declared.gaps.Clear.{Clear}
use Rattle.board_reader.specs.declared.tables.Entry.{Entry}
use Rattle.board_reader.specs.Drafts.{after_form, layer_of, class_of}
use Rattle.board_reader.specs.Forms.{spelling}
use Rattle.board_reader.specs.Gaps.{clear_at, gap_in, gap_between, gaps_from, gaps_on, all_gaps}
use Rattle.board_reader.specs.Tables.{value_at}
use Rattle.board_text.specs.declared.spelling.Version.{Version}
use Rattle.board_text.specs.declared.spelling.Version.TheVariants.{First, Second}
use Rattle.board_text.specs.Spelled.{line, greater_gap, clear_line, clear_lines, class_at}
use Rattle.board_text.proofs.Cells.{with_value, AreGiven, Gives, own-line}
use Rattle.board_text.proofs.Drafts.{version_of, with_clears}
use Rattle.board_text.proofs.Fitting.{breaks-none}
use Rattle.board_text.proofs.Known.{number-of-name, name-known, good-of-names}
use Rattle.board_text.proofs.Laid.{HasEach, laid, cell-inside, range-same, range-flat, list-by-squares}
use Rattle.board_text.proofs.Numerals.{IsWritten, written}
use Rattle.board_text.proofs.Pairs.{Pair, pair, clear_for, pair_at, clear-is-pair, IsPairDone, pairs-give, given-pair}
use Rattle.board_text.proofs.Telling.{Tells, tells-line}
use Rattle.board_text.proofs.Versions.{IsOfVersion}
use Rattle.board_text.proofs.WiresRead.{rule_at}

-- the gap of two classes and that of their rules, by numbers
abbrev pub gap_at : BoardParts → ℕ → ℕ → ℕ → ℤ
gap_at b l c d = gap_of b (layer_at l) (class_at c) (class_at d)

abbrev pub greater_at : BoardParts → ℕ → ℕ → ℕ → ℤ
greater_at b l c d = greater_gap b (layer_at l) (class_at c) (class_at d)

-- a pair has a line where its gap is not that of the rules
abbrev pub is_plain_gap : BoardParts → ℕ → ℕ → ℕ → Bool
is_plain_gap b l c d = int_eq (gap_at b l c d) (greater_at b l c d)

abbrev pub given_gap : BoardParts → Pair → Option ℤ
given_gap b k = if is_plain_gap b k.layer k.low k.high then None else Some (gap_at b k.layer k.low k.high)

gap-holds : (b : BoardParts) → IsBoard b → (l c d : ℕ) → l < length b.layers → c < length b.classes → d < length b.classes → IsMeasure (gap_at b l c d)
gap-holds b h l c d inside first second =
    let row : l * length b.classes + c < length b.layers * length b.classes = cell-inside (length b.layers) (length b.classes) l c (length b.layers * length b.classes) refl inside first in
    h.each_gap ((l * length b.classes + c) * length b.classes + d) (pos 1) (cell-inside (length b.layers * length b.classes) (length b.classes) (l * length b.classes + c) d (length b.gaps) h.gaps row second)

-- in the first version no pair has a line
has-lines : (v : Version) (b : BoardParts) → IsOfVersion v b → (l c d : ℕ) → l < length b.layers → c < length b.classes → d < length b.classes → is_plain_gap b l c d ≡ false → not (version_of v == 2) ≡ false
has-lines First b fits l c d inside first second own =
    let plain : is_plain_gap b l c d ≡ true = (Decides-int_eq (gap_at b l c d) (greater_at b l c d)).1 (fits.gaps (layer_at l) (class_at c) (class_at d) inside first second) in
    absurd (cc)
has-lines Second b fits l c d inside first second own = refl

not-given : (gs : List Clear) (l c d k m n : ℕ) → k ≡ l → m ≡ c → n ≡ d → c ≤ d → pair_at gs (pair l c d) ≡ None → is_some (clear_at gs k m n) ≡ false
not-given gs l c d k m n ek em en order none =
    let low : min m n ≡ c = omega arith in
    let high : max m n ≡ d = omega arith in
    ap is_some (clear-is-pair gs k m n ∙ ((λ i. pair_at gs (record { layer = ek i; low = low i; high = high i })) ∙ none))

clear-back : (l c d k m n : ℕ) (x y : ℤ) → k ≡ l → m ≡ c → n ≡ d → c ≤ d → y ≡ x → record { layer = k; low = min m n; high = max m n; gap = y } ≡ clear_for (pair l c d) x
clear-back l c d k m n x y ek em en order ex =
    let low : min m n ≡ c = omega arith in
    let high : max m n ≡ d = omega arith in
    λ i. record { layer = ek i; low = low i; high = high i; gap = ex i }

gap-tells : (v : Version) (b : BoardParts) (rs : List (Entry Rule)) → IsOfVersion v b → IsBoard b → (l c d : ℕ) (gs : List Clear) → l < length b.layers → c ≤ d → d < length b.classes → pair_at gs (pair l c d) ≡ None → is_plain_gap b l c d ≡ false
    → Tells (with_clears v b rs gs) (line form.Clear (get_or b.layers l [] ∷ get_or b.classes c [] ∷ get_or b.classes d [] ∷ signed_decimal (gap_at b l c d) ∷ [])) (with_clears v b rs (gs ++ clear_for (pair l c d) (gap_at b l c d) ∷ []))
unfolding after_form
gap-tells v b rs fits h l c d gs inside order within none own =
    let now = with_clears v b rs gs in
    let first : c < length b.classes = omega arith in
    let holds = gap-holds b h l c d inside first within in
    let gap : IsWritten (gap_at b l c d) 1 65535 = written (gap_at b l c d) 1 65535 holds.from holds.to (omega arith) in
    let on = get_or b.layers l [] in
    let one = get_or b.classes c [] in
    let other = get_or b.classes d [] in
    let ln : layer_of now on ≡ l = number-of-name 8 b.layers l [] h.layers inside in
    let cn : class_of now one ≡ c = number-of-name 4 b.classes c [] h.classes first in
    let dn : class_of now other ≡ d = number-of-name 4 b.classes d [] h.classes within in
    let ws = on ∷ one ∷ other ∷ signed_decimal (gap_at b l c d) ∷ [] in
    tells-line now (with_clears v b rs (gs ++ clear_for (pair l c d) (gap_at b l c d) ∷ [])) form.Clear ws
    (good-of-names 8 b.layers l [] h.layers inside, (good-of-names 4 b.classes c [] h.classes first, (good-of-names 4 b.classes d [] h.classes within, (gap.good, tt))))
    (breaks-none now form.Clear (spelling form.Clear ∷ ws)
    (name-known 8 b.layers l [] h.layers inside, (name-known 4 b.classes c [] h.classes first, (name-known 4 b.classes d [] h.classes within, (gap.has, tt)))) (record {
      count = refl;
      placed = refl;
      allowed = has-lines v b fits l c d inside first within own;
      fresh = not-given gs l c d (layer_of now on) (class_of now one) (class_of now other) ln cn dn order none;
      small = refl;
      corners = refl;
      few = refl;
      complete = refl;
    }))
    (ap (λ e. with_clears v b rs (gs ++ e ∷ [])) (clear-back l c d (layer_of now on) (class_of now one) (class_of now other) (gap_at b l c d) _ ln cn dn order gap.says))

clear-tells : (v : Version) (b : BoardParts) (rs : List (Entry Rule)) → IsOfVersion v b → IsBoard b → (l c d : ℕ) (gs : List Clear) → l < length b.layers → c ≤ d → d < length b.classes → pair_at gs (pair l c d) ≡ None
    → Tells (with_clears v b rs gs) (clear_line b (layer_at l) (class_at c) (class_at d)) (with_clears v b rs (with_value clear_for gs (pair l c d) (given_gap b (pair l c d))))
clear-tells v b rs fits h l c d gs inside order within none =
    own-line clear_for (with_clears v b rs) gs (pair l c d) (gap_at b l c d) (line form.Clear (get_or b.layers l [] ∷ get_or b.classes c [] ∷ get_or b.classes d [] ∷ signed_decimal (gap_at b l c d) ∷ []))
    (is_plain_gap b l c d) (gap-tells v b rs fits h l c d gs inside order within none)

-- the gaps that the lines give
pub clears-given : (v : Version) (b : BoardParts) (rs : List (Entry Rule)) → IsOfVersion v b → IsBoard b → Gives pair_at (given_gap b) (with_clears v b rs) [] (clear_lines b) (IsPairDone (length b.classes) (length b.layers) 0 0)
unfolding clear_lines
clears-given v b rs fits h = pairs-give (with_clears v b rs) (λ l c d. clear_line b (layer_at l) (class_at c) (class_at d)) (given_gap b) (length b.layers) (length b.classes) (clear-tells v b rs fits h)

-- a value of its own, or else the other one, to which it is equal
own-or-other : (x y : ℤ) (plain : Bool) → (plain ≡ true → y ≡ x) → unwrap_or (if plain then None else Some x) y ≡ x
own-or-other x y true same = same refl
own-or-other x y false same = refl

greater-either : (x y : ℤ) → int_max x y ≡ int_max y x
greater-either x y = omega (arith, ints, clamps)

-- the gap of two classes in order, from its line or from the rules
gap-in-order : (b : BoardParts) (l c d : ℕ) → unwrap_or (given_gap b (pair l c d)) (greater_at b l c d) ≡ gap_at b l c d
gap-in-order b l c d =
    own-or-other (gap_at b l c d) (greater_at b l c d) (is_plain_gap b l c d) (λ t. sym ((Decides-int_eq (gap_at b l c d) (greater_at b l c d)).0 t))

gap-from-either : (b : BoardParts) → IsBoard b → (l c d : ℕ) → l < length b.layers → c < length b.classes → d < length b.classes → unwrap_or (given_gap b (pair l (min c d) (max c d))) (greater_at b l c d) ≡ gap_at b l c d
gap-from-either b h l c d inside first second =
    elim (cases_lt d c) [
      | inr order ↦
          let low : min c d ≡ c = omega arith in
          let high : max c d ≡ d = omega arith in
          (λ i. unwrap_or (given_gap b (pair l (low i) (high i))) (greater_at b l c d)) ∙ gap-in-order b l c d
      | inl order ↦
          let low : min c d ≡ d = omega arith in
          let high : max c d ≡ c = omega arith in
          (λ i. unwrap_or (given_gap b (pair l (low i) (high i))) (greater-either (rule_at b l c).gap (rule_at b l d).gap i))
          ∙ (gap-in-order b l d c ∙ h.pairs (layer_at l) (class_at d) (class_at c) inside second first)
    ]

gap-back : (b : BoardParts) (rs : List (Entry Rule)) (gs : List Clear) → IsBoard b → HasEach rs (rule_at b) (length b.layers) (length b.classes) → AreGiven pair_at (given_gap b) gs (IsPairDone (length b.classes) (length b.layers) 0 0)
    → (l c d : ℕ) → l < length b.layers → c < length b.classes → d < length b.classes → gap_between rs gs l c d ≡ gap_at b l c d
unfolding gap_between
gap-back b rs gs h rules g l c d inside first second =
    let given : clear_at gs l c d ≡ given_gap b (pair l (min c d) (max c d))
    = clear-is-pair gs l c d ∙ given-pair (given_gap b) (length b.layers) (length b.classes) gs g l (min c d) (max c d) inside (omega arith) (omega arith) in
    let one : value_at rs l c ≡ Some (rule_at b l c) = rules l c inside first in
    let other : value_at rs l d ≡ Some (rule_at b l d) = rules l d inside second in
    (λ i. unwrap_or (given i) (int_max (gap_in (one i)) (gap_in (other i)))) ∙ gap-from-either b h l c d inside first second

-- the gaps of the draft are those of the board
pub gaps-back : (b : BoardParts) (rs : List (Entry Rule)) (gs : List Clear) → IsBoard b → HasEach rs (rule_at b) (length b.layers) (length b.classes) → AreGiven pair_at (given_gap b) gs (IsPairDone (length b.classes) (length b.layers) 0 0)
    → all_gaps rs gs (length b.layers) (length b.classes) ≡ b.gaps
gaps-back b rs gs h rules g =
    let n = length b.classes in
    range-flat (gaps_on rs gs n) (λ l. flat_map (λ c. map (laid b.gaps (pos 1) n (l * n + c)) (range_with_len 0 n)) (range_with_len 0 n)) (length b.layers) 0 (λ l i.
    range-flat (gaps_from rs gs n l) (λ c. map (laid b.gaps (pos 1) n (l * n + c)) (range_with_len 0 n)) n 0 (λ c j.
    range-same (gap_between rs gs l c) (laid b.gaps (pos 1) n (l * n + c)) n 0 (λ d k. gap-back b rs gs h rules g l c d (omega arith) (omega arith) (omega arith))))
    ∙ list-by-squares b.gaps (pos 1) (length b.layers) n h.gaps
