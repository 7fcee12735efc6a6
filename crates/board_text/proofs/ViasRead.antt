-- The kinds of vias and their pads are read back.
use Rattle.std.proofs.Common.{◌≡◌, ℕ, ℤ, pos, ◌+◌, ◌*◌, ◌<◌, ◌≤◌, min, max, suc, true, false, Bool, Option, Some, List, [], ◌∷◌, ◌++◌, None, length, get_or, take, refl, sym, ap, ◌∙◌, arith, subst}
use Rattle.std.specs.Prelude.{is_some, decimal, ◌==◌, if◌then◌else◌}
use Rattle.std.specs.Fmt.{signed_decimal}
use Rattle.std.specs.List.{flat_map, range_with_len}
use Rattle.std.proofs.Math.Seq.{take-suc}
use Rattle.std.specs.Ordering.{int_eq}
use Rattle.std.proofs.lemmas.Bool.{ne_eqb}
use Rattle.std.proofs.lemmas.Bool.Decides.{Decides-int_eq}
use Rattle.std.proofs.lemmas.List.{take_all}
use Rattle.board_parts.specs.Lookup.{kind_of}
use Rattle.board_parts.specs.Rules.{IsBoard, IsKind, IsMeasure}
use Rattle.board_parts.specs.declared.parts.BoardParts.{BoardParts}
use Rattle.board_parts.specs.declared.parts.Rule.{Rule}
use Rattle.board_parts.specs.declared.parts.ViaKind.{ViaKind}
use Rattle.board_reader.specs.declared.forms.Form.TheVariants as form
use Rattle.board_reader.specs.declared.tables.Entry.{Entry}
use Rattle.board_reader.specs.declared.gaps.Clear.{Clear}
use Rattle.board_reader.specs.Checks.{has_two_layers}
use Rattle.board_reader.specs.Drafts.{after_form, layer_of, class_of, nth_kind}
use Rattle.board_reader.specs.Drafts as drafts
use Rattle.board_reader.specs.Forms.{spelling}
use Rattle.line_words.specs.Numbers.{number}
use Rattle.board_reader.specs.Tables.{value_at}
use Rattle.board_text.specs.declared.spelling.Version.{Version}
use Rattle.board_text.specs.Spelled.{line, kind_line, pad_line, pad_lines, inner_line, inner_lines, kind_at, class_at}
use Rattle.board_text.proofs.Cells.{Cell, cell, entry_at, value_in, with_value, AreGiven, Gives, own-line, IsDone, grid-gives, given-cell, none-before, found-stays}
use Rattle.board_text.proofs.Drafts.{with_clears, with_kinds, with_pads, with_inners}
use Rattle.board_text.proofs.Fitting.{breaks-none}
use Rattle.board_text.proofs.Known.{number-of-name, name-known, name-new, good-of-names, room}
use Rattle.board_text.proofs.Laid.{HasEach, laid, cell-inside}
use Rattle.board_text.proofs.Numerals.{IsWritten, written, has-decimal, good-decimal, number-decimal}
use Rattle.board_text.proofs.Telling.{Tells, tells-line, tells-range}

-- what stands in the list of kinds where it has none
abbrev pub some_kind : ViaKind
some_kind = record { first = record { 0 = 0 }; last = record { 0 = 0 }; charge = 0 }

-- the two layers are not one
apart : (a b x y : ℕ) → a ≡ x → b ≡ y → x < y → (a == b) ≡ false
apart a b x y ea eb e = ne_eqb a b (λ f. omega (arith, f, ea, eb))

-- the kind of two layers in their order
kind-of-layers : (v : ViaKind) (a b charge : ℕ) → a ≡ v.first.0 → b ≡ v.last.0 → charge ≡ v.charge → v.first.0 ≤ v.last.0
    → record { first = record { 0 = min a b }; last = record { 0 = max a b }; charge = charge } ≡ v
kind-of-layers v a b charge ea eb ec order =
    let low : min a b ≡ v.first.0 = omega arith in
    let high : max a b ≡ v.last.0 = omega arith in
    λ i. record { first = record { 0 = low i }; last = record { 0 = high i }; charge = ec i }

kind-tells : (v : Version) (b : BoardParts) (rs : List (Entry Rule)) (gs : List Clear) → IsBoard b → (k : ℕ) → k < length b.kinds
    → Tells (with_kinds v b rs gs (take k b.kind_names) (take k b.kinds)) (kind_line b (kind_at k)) (with_kinds v b rs gs (take (suc k) b.kind_names) (take (suc k) b.kinds))
unfolding after_form
kind-tells v b rs gs h k inside =
    let now = with_kinds v b rs gs (take k b.kind_names) (take k b.kinds) in
    let x = kind_of b (kind_at k) in
    let is : IsKind (length b.layers) x = h.each_kind k some_kind inside in
    let within : k < length b.kind_names = omega (arith, h.kinds) in
    let first : x.first.0 < length b.layers = omega (arith, is.order, is.known) in
    let last : x.last.0 < length b.layers = is.known in
    let w = get_or b.kind_names k [] in
    let one = get_or b.layers x.first.0 [] in
    let other = get_or b.layers x.last.0 [] in
    let small : x.charge ≤ 65535 = is.charge in
    let n1 : layer_of now one ≡ x.first.0 = number-of-name 8 b.layers x.first.0 [] h.layers first in
    let n2 : layer_of now other ≡ x.last.0 = number-of-name 8 b.layers x.last.0 [] h.layers last in
    let charge : number (decimal x.charge) ≡ x.charge = number-decimal x.charge (omega (arith, small)) in
    let ws = w ∷ one ∷ other ∷ decimal x.charge ∷ [] in
    let same = kind-of-layers x (layer_of now one) (layer_of now other) (number (decimal x.charge)) n1 n2 charge (omega (arith, is.order)) in
    let names = take-suc b.kind_names k [] within in
    let kinds = take-suc b.kinds k some_kind inside in
    tells-line now (with_kinds v b rs gs (take (suc k) b.kind_names) (take (suc k) b.kinds)) form.ViaKind ws
    (good-of-names 8 b.kind_names k [] h.kind_names within, (good-of-names 8 b.layers x.first.0 [] h.layers first, (good-of-names 8 b.layers x.last.0 [] h.layers last, (good-decimal x.charge (omega (arith, small)), tt))))
    (breaks-none now form.ViaKind (spelling form.ViaKind ∷ ws)
    (name-new 8 b.kind_names k [] h.kind_names within, (name-known 8 b.layers x.first.0 [] h.layers first, (name-known 8 b.layers x.last.0 [] h.layers last, (has-decimal x.charge 0 65535 (omega (arith, small)) (omega arith) small, tt)))) (record {
      count = refl;
      placed = refl;
      allowed = refl;
      fresh = refl;
      small = refl;
      corners = apart (layer_of now one) (layer_of now other) x.first.0 x.last.0 n1 n2 is.order;
      few = room 8 b.kind_names k within h.kind_names.few;
      complete = refl;
    }))
    ((λ i. with_kinds v b rs gs (take k b.kind_names ++ w ∷ []) (take k b.kinds ++ same i ∷ [])) ∙ (λ i. with_kinds v b rs gs (sym names i) (sym kinds i)))

pub kinds-tell : (v : Version) (b : BoardParts) (rs : List (Entry Rule)) (gs : List Clear) → IsBoard b
    → Tells (with_clears v b rs gs) (flat_map (λ k. kind_line b (kind_at k)) (range_with_len 0 (length b.kinds))) (with_kinds v b rs gs b.kind_names b.kinds)
kinds-tell v b rs gs h =
    let text = flat_map (λ k. kind_line b (kind_at k)) (range_with_len 0 (length b.kinds)) in
    let n = length b.kinds in
    let none : 0 + n ≡ n = omega arith in
    let all : Tells (with_clears v b rs gs) text (with_kinds v b rs gs (take (0 + n) b.kind_names) (take (0 + n) b.kinds))
    = tells-range n 0 (λ k. kind_line b (kind_at k)) (λ k. with_kinds v b rs gs (take k b.kind_names) (take k b.kinds)) (λ k l. kind-tells v b rs gs h k (omega arith)) in
    let names : take (0 + n) b.kind_names ≡ b.kind_names = take_all (0 + n) b.kind_names (omega (arith, h.kinds)) in
    let kinds : take (0 + n) b.kinds ≡ b.kinds = take_all (0 + n) b.kinds (omega arith) in
    subst (λ d. Tells (with_clears v b rs gs) text d) (λ i. with_kinds v b rs gs (names i) (kinds i)) all

-- the pads of a board by kind and class
abbrev pub pad_at : BoardParts → ℕ → ℕ → ℤ
pad_at b = laid b.pads (pos 1) (length b.classes)

-- each is given
abbrev pub given_pad : BoardParts → Cell → Option ℤ
given_pad b k = Some (pad_at b k.row k.column)

pad-holds : (b : BoardParts) → IsBoard b → (r c : ℕ) → r < length b.kinds → c < length b.classes → IsMeasure (pad_at b r c)
pad-holds b h r c inside within = h.each_pad (r * length b.classes + c) (pos 1) (cell-inside (length b.kinds) (length b.classes) r c (length b.pads) h.pads inside within)

pad-tells : (v : Version) (b : BoardParts) (rs : List (Entry Rule)) (gs : List Clear) → IsBoard b → (r c : ℕ) (es : List (Entry ℤ)) → r < length b.kinds → c < length b.classes → value_at es r c ≡ None
    → Tells (with_pads v b rs gs es) (pad_line b (kind_at r) (class_at c)) (with_pads v b rs gs (es ++ entry_at (cell r c) (pad_at b r c) ∷ []))
unfolding after_form
pad-tells v b rs gs h r c es inside within none =
    let now = with_pads v b rs gs es in
    let pad = pad_at b r c in
    let holds = pad-holds b h r c inside within in
    let half : IsWritten pad 1 65535 = written pad 1 65535 holds.from holds.to (omega arith) in
    let row : r < length b.kind_names = omega (arith, h.kinds) in
    let l = get_or b.kind_names r [] in
    let k = get_or b.classes c [] in
    let ln : drafts.kind_of now l ≡ r = number-of-name 8 b.kind_names r [] h.kind_names row in
    let kn : class_of now k ≡ c = number-of-name 4 b.classes c [] h.classes within in
    let ws = l ∷ k ∷ signed_decimal pad ∷ [] in
    tells-line now (with_pads v b rs gs (es ++ entry_at (cell r c) pad ∷ [])) form.Pad ws
    (good-of-names 8 b.kind_names r [] h.kind_names row, (good-of-names 4 b.classes c [] h.classes within, (half.good, tt)))
    (breaks-none now form.Pad (spelling form.Pad ∷ ws)
    (name-known 8 b.kind_names r [] h.kind_names row, (name-known 4 b.classes c [] h.classes within, (half.has, tt))) (record {
      count = refl;
      placed = refl;
      allowed = refl;
      fresh = (λ i. is_some (value_at es (ln i) (kn i))) ∙ ap is_some none;
      small = refl;
      corners = refl;
      few = refl;
      complete = refl;
    }))
    (λ i. with_pads v b rs gs (es ++ record { row = ln i; column = kn i; value = half.says i } ∷ []))

-- the pads that the lines give
pub pads-given : (v : Version) (b : BoardParts) (rs : List (Entry Rule)) (gs : List Clear) → IsBoard b → Gives value_in (given_pad b) (with_pads v b rs gs) [] (flat_map (λ k. pad_lines b (kind_at k)) (range_with_len 0 (length b.kinds))) (IsDone (length b.classes) (length b.kinds) 0)
pads-given v b rs gs h = grid-gives (with_pads v b rs gs) (λ r c. pad_line b (kind_at r) (class_at c)) (given_pad b) (length b.kinds) (length b.classes) (pad-tells v b rs gs h)

-- the inner pads of a board by kind and class
abbrev pub inner_at : BoardParts → ℕ → ℕ → ℤ
inner_at b = laid b.inners (pos 1) (length b.classes)

-- one that is the pad has no line
abbrev pub is_plain_inner : BoardParts → ℕ → ℕ → Bool
is_plain_inner b r c = int_eq (inner_at b r c) (pad_at b r c)

abbrev pub given_inner : BoardParts → Cell → Option ℤ
given_inner b k = if is_plain_inner b k.row k.column then None else Some (inner_at b k.row k.column)

inner-holds : (b : BoardParts) → IsBoard b → (r c : ℕ) → r < length b.kinds → c < length b.classes → IsMeasure (inner_at b r c)
inner-holds b h r c inside within = h.each_inner (r * length b.classes + c) (pos 1) (cell-inside (length b.kinds) (length b.classes) r c (length b.inners) h.inners inside within)

-- a kind of two layers has none of its own
is-deep : (b : BoardParts) → IsBoard b → (r c : ℕ) → r < length b.kinds → c < length b.classes → is_plain_inner b r c ≡ false → has_two_layers (nth_kind b.kinds r) ≡ false
is-deep b h r c inside within own =
    ne_eqb (nth_kind b.kinds r).last.0 ((nth_kind b.kinds r).first.0 + 1) (λ e.
    let plain : is_plain_inner b r c ≡ true = (Decides-int_eq (inner_at b r c) (pad_at b r c)).1 (h.plain (kind_at r) (class_at c) inside within e) in
    absurd (cc))

own-inner-tells : (v : Version) (b : BoardParts) (rs : List (Entry Rule)) (gs : List Clear) (ps : List (Entry ℤ)) → IsBoard b → (r c : ℕ) (es : List (Entry ℤ)) → r < length b.kinds → c < length b.classes → value_at es r c ≡ None → is_plain_inner b r c ≡ false
    → Tells (with_inners v b rs gs ps es) (line form.Inner (get_or b.kind_names r [] ∷ get_or b.classes c [] ∷ signed_decimal (inner_at b r c) ∷ [])) (with_inners v b rs gs ps (es ++ entry_at (cell r c) (inner_at b r c) ∷ []))
unfolding after_form
own-inner-tells v b rs gs ps h r c es inside within none own =
    let now = with_inners v b rs gs ps es in
    let inner = inner_at b r c in
    let holds = inner-holds b h r c inside within in
    let half : IsWritten inner 1 65535 = written inner 1 65535 holds.from holds.to (omega arith) in
    let row : r < length b.kind_names = omega (arith, h.kinds) in
    let l = get_or b.kind_names r [] in
    let k = get_or b.classes c [] in
    let ln : drafts.kind_of now l ≡ r = number-of-name 8 b.kind_names r [] h.kind_names row in
    let kn : class_of now k ≡ c = number-of-name 4 b.classes c [] h.classes within in
    let ws = l ∷ k ∷ signed_decimal inner ∷ [] in
    tells-line now (with_inners v b rs gs ps (es ++ entry_at (cell r c) inner ∷ [])) form.Inner ws
    (good-of-names 8 b.kind_names r [] h.kind_names row, (good-of-names 4 b.classes c [] h.classes within, (half.good, tt)))
    (breaks-none now form.Inner (spelling form.Inner ∷ ws)
    (name-known 8 b.kind_names r [] h.kind_names row, (name-known 4 b.classes c [] h.classes within, (half.has, tt))) (record {
      count = refl;
      placed = refl;
      allowed = refl;
      fresh = (λ i. is_some (value_at es (ln i) (kn i))) ∙ ap is_some none;
      small = refl;
      corners = ap (λ n. has_two_layers (nth_kind b.kinds n)) ln ∙ is-deep b h r c inside within own;
      few = refl;
      complete = refl;
    }))
    (λ i. with_inners v b rs gs ps (es ++ record { row = ln i; column = kn i; value = half.says i } ∷ []))

inner-tells : (v : Version) (b : BoardParts) (rs : List (Entry Rule)) (gs : List Clear) (ps : List (Entry ℤ)) → IsBoard b → (r c : ℕ) (es : List (Entry ℤ)) → r < length b.kinds → c < length b.classes → value_at es r c ≡ None
    → Tells (with_inners v b rs gs ps es) (inner_line b (kind_at r) (class_at c)) (with_inners v b rs gs ps (with_value entry_at es (cell r c) (given_inner b (cell r c))))
inner-tells v b rs gs ps h r c es inside within none =
    own-line entry_at (with_inners v b rs gs ps) es (cell r c) (inner_at b r c) (line form.Inner (get_or b.kind_names r [] ∷ get_or b.classes c [] ∷ signed_decimal (inner_at b r c) ∷ []))
    (is_plain_inner b r c) (own-inner-tells v b rs gs ps h r c es inside within none)

-- the inner pads that the lines give
pub inners-given : (v : Version) (b : BoardParts) (rs : List (Entry Rule)) (gs : List Clear) (ps : List (Entry ℤ)) → IsBoard b → Gives value_in (given_inner b) (with_inners v b rs gs ps) [] (flat_map (λ k. inner_lines b (kind_at k)) (range_with_len 0 (length b.kinds))) (IsDone (length b.classes) (length b.kinds) 0)
inners-given v b rs gs ps h = grid-gives (with_inners v b rs gs ps) (λ r c. inner_line b (kind_at r) (class_at c)) (given_inner b) (length b.kinds) (length b.classes) (inner-tells v b rs gs ps h)

own-or-pad : (es ps : List (Entry ℤ)) (r c : ℕ) (x y : ℤ) (plain : Bool) → value_at es r c ≡ (if plain then None else Some x) → value_at ps r c ≡ Some y → (plain ≡ true → y ≡ x) → value_at (es ++ ps) r c ≡ Some x
own-or-pad es ps r c x y true own pad same = none-before es ps r c own ∙ (pad ∙ ap (λ z. Some z) (same refl))
own-or-pad es ps r c x y false own pad same = found-stays es ps r c x own

-- with the pads behind the inner pads that are given each cell has its inner pad
pub inners-all : (b : BoardParts) (ps es : List (Entry ℤ)) → HasEach ps (pad_at b) (length b.kinds) (length b.classes) → AreGiven value_in (given_inner b) es (IsDone (length b.classes) (length b.kinds) 0) → HasEach (es ++ ps) (inner_at b) (length b.kinds) (length b.classes)
inners-all b ps es pads g r c inside within =
    own-or-pad es ps r c (inner_at b r c) (pad_at b r c) (is_plain_inner b r c) (given-cell (given_inner b) (length b.kinds) (length b.classes) es g r c inside within) (pads r c inside within)
    (λ t. sym ((Decides-int_eq (inner_at b r c) (pad_at b r c)).0 t))
