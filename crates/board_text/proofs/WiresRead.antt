-- The first line, the layers, the classes and the rules of a board are read back.
use Rattle.std.proofs.Common.{◌≡◌, ℕ, pos, ◌+◌, ◌*◌, ◌<◌, ◌≤◌, suc, false, Option, Some, List, [], ◌∷◌, ◌++◌, None, length, get_or, take, refl, sym, ap, ◌∙◌, arith, subst}
use Rattle.std.specs.Prelude.{codes, is_some, nat_lt, ◌==◌, ◌&&◌, ◌||◌}
use Rattle.std.specs.Fmt.{signed_decimal}
use Rattle.std.specs.List.{flat_map, range_with_len}
use Rattle.std.proofs.Math.Seq.{take-suc}
use Rattle.std.proofs.lemmas.Bool.{le-ltb, or_from, and_left, and_right, ne_eqb}
use Rattle.std.proofs.lemmas.List.{take_all}
use Rattle.board_parts.specs.Lookup.{layer_at}
use Rattle.board_parts.specs.Rules.{IsBoard, IsRule}
use Rattle.board_parts.specs.declared.parts.BoardParts.{BoardParts}
use Rattle.board_parts.specs.declared.parts.Rule.{Rule}
use Rattle.board_reader.specs.declared.forms.Form.TheVariants as form
use Rattle.board_reader.specs.declared.tables.Entry.{Entry}
use Rattle.board_reader.specs.Drafts.{no_draft, after_form, layer_of, class_of}
use Rattle.board_reader.specs.Forms.{spelling}
use Rattle.line_words.specs.Numbers.{number}
use Rattle.board_reader.specs.Tables.{value_at}
use Rattle.board_text.specs.declared.spelling.Version.{Version}
use Rattle.board_text.specs.declared.spelling.Version.TheVariants.{First, Second}
use Rattle.board_text.specs.Spelled.{version_word, board_line, layer_line, class_line, rule_line, rule_lines, class_at}
use Rattle.board_text.proofs.Versions.{IsOfVersion}
use Rattle.board_text.proofs.Cells.{Cell, cell, entry_at, value_in, Gives, IsDone, grid-gives}
use Rattle.board_text.proofs.Drafts.{version_of, with_layers, with_classes, with_rules}
use Rattle.board_text.proofs.Fitting.{HasNumber, breaks-none}
use Rattle.board_text.proofs.Known.{number-of-name, name-known, name-new, good-of-names, room}
use Rattle.board_text.proofs.Laid.{laid, cell-inside}
use Rattle.board_text.proofs.Lines.{IsGood, good-name, good-tested}
use Rattle.board_text.proofs.Numerals.{size, size-most, IsWritten, written}
use Rattle.board_text.proofs.Telling.{Tells, tells-line, tells-each}

-- the version, as the first line writes it
version-fits : (v : Version) → HasNumber (version_word v) 1 2
unfolding number
version-fits First = record { digits = refl; least = omega arith; most = omega arith }
version-fits Second = record { digits = refl; least = omega arith; most = omega arith }

version-says : (v : Version) → number (version_word v) ≡ version_of v
unfolding number
version-says First = refl
version-says Second = refl

good-version : (v : Version) → IsGood (version_word v)
good-version First = good-tested (codes "1") refl refl
good-version Second = good-tested (codes "2") refl refl

-- the board is not too great for the version
fits-sides : (v : Version) (b : BoardParts) (n w h : ℕ) → IsOfVersion v b → n ≡ version_of v → w ≡ size b.width → h ≡ size b.height → (n == 1 && (nat_lt 1048576 w || nat_lt 1048576 h)) ≡ false
fits-sides First b n w h fits en ew eh =
    let width : w ≤ 1048576 = omega (arith, size-most b.width 1048576 fits.width, ew) in
    let height : h ≤ 1048576 = omega (arith, size-most b.height 1048576 fits.height, eh) in
    and_right (n == 1) (nat_lt 1048576 w || nat_lt 1048576 h) (or_from (nat_lt 1048576 w) (nat_lt 1048576 h) (le-ltb 1048576 w width) (le-ltb 1048576 h height))
fits-sides Second b n w h fits en ew eh = and_left (n == 1) (nat_lt 1048576 w || nat_lt 1048576 h) (ne_eqb n 1 (λ e. omega (arith, en, e)))

after-board : (v : Version) (b : BoardParts) → (n w h : ℕ) → n ≡ version_of v → w ≡ size b.width → h ≡ size b.height
    → record (with_layers v b []) { heading = record { version = n; name = b.name; width = w; height = h } } ≡ with_layers v b []
after-board v b n w h ev ew eh = λ i. record (with_layers v b []) { heading = record { version = ev i; name = b.name; width = ew i; height = eh i } }

pub board-tells : (v : Version) (b : BoardParts) → IsOfVersion v b → IsBoard b → Tells no_draft (board_line v b) (with_layers v b [])
unfolding after_form
board-tells v b fits k =
    let w : IsWritten b.width 1 8388608 = written b.width 1 8388608 k.width.from k.width.to (omega arith) in
    let h : IsWritten b.height 1 8388608 = written b.height 1 8388608 k.height.from k.height.to (omega arith) in
    let ws = version_word v ∷ b.name ∷ signed_decimal b.width ∷ signed_decimal b.height ∷ [] in
    tells-line no_draft (with_layers v b []) form.Board ws (good-version v, (good-name b.name k.name, (w.good, (h.good, tt))))
    (breaks-none no_draft form.Board (spelling form.Board ∷ ws) (version-fits v, (k.name.short, (w.has, (h.has, tt)))) (record {
      count = refl;
      placed = refl;
      allowed = refl;
      fresh = refl;
      small = fits-sides v b (number (version_word v)) (number (signed_decimal b.width)) (number (signed_decimal b.height)) fits (version-says v) w.sized h.sized;
      corners = refl;
      few = refl;
      complete = refl;
    }))
    (after-board v b (number (version_word v)) (number (signed_decimal b.width)) (number (signed_decimal b.height)) (version-says v) w.sized h.sized)

layer-tells : (v : Version) (b : BoardParts) → IsBoard b → (k : ℕ) (d : List ℕ) → k < length b.layers → Tells (with_layers v b (take k b.layers)) (layer_line (get_or b.layers k d)) (with_layers v b (take (suc k) b.layers))
unfolding after_form
layer-tells v b h k d inside =
    let now = with_layers v b (take k b.layers) in
    let w = get_or b.layers k d in
    tells-line now (with_layers v b (take (suc k) b.layers)) form.Layer (w ∷ []) (good-of-names 8 b.layers k d h.layers inside, tt)
    (breaks-none now form.Layer (spelling form.Layer ∷ w ∷ []) (name-new 8 b.layers k d h.layers inside, tt) (record {
      count = refl;
      placed = refl;
      allowed = refl;
      fresh = refl;
      small = refl;
      corners = refl;
      few = room 8 b.layers k inside h.layers.few;
      complete = refl;
    }))
    (ap (with_layers v b) (sym (take-suc b.layers k d inside)))

pub layers-tell : (v : Version) (b : BoardParts) → IsBoard b → Tells (with_layers v b []) (flat_map layer_line b.layers) (with_layers v b b.layers)
layers-tell v b h =
    subst (λ ls. Tells (with_layers v b []) (flat_map layer_line b.layers) (with_layers v b ls)) (take_all (length b.layers) b.layers (omega arith))
    (tells-each b.layers layer_line (λ k. with_layers v b (take k b.layers)) (layer-tells v b h))

class-tells : (v : Version) (b : BoardParts) → IsBoard b → (k : ℕ) (d : List ℕ) → k < length b.classes → Tells (with_classes v b (take k b.classes)) (class_line (get_or b.classes k d)) (with_classes v b (take (suc k) b.classes))
unfolding after_form
class-tells v b h k d inside =
    let now = with_classes v b (take k b.classes) in
    let w = get_or b.classes k d in
    tells-line now (with_classes v b (take (suc k) b.classes)) form.Class (w ∷ []) (good-of-names 4 b.classes k d h.classes inside, tt)
    (breaks-none now form.Class (spelling form.Class ∷ w ∷ []) (name-new 4 b.classes k d h.classes inside, tt) (record {
      count = refl;
      placed = refl;
      allowed = refl;
      fresh = refl;
      small = refl;
      corners = refl;
      few = room 4 b.classes k inside h.classes.few;
      complete = refl;
    }))
    (ap (with_classes v b) (sym (take-suc b.classes k d inside)))

pub classes-tell : (v : Version) (b : BoardParts) → IsBoard b → Tells (with_classes v b []) (flat_map class_line b.classes) (with_classes v b b.classes)
classes-tell v b h =
    subst (λ ls. Tells (with_classes v b []) (flat_map class_line b.classes) (with_classes v b ls)) (take_all (length b.classes) b.classes (omega arith))
    (tells-each b.classes class_line (λ k. with_classes v b (take k b.classes)) (class-tells v b h))

-- what stands in the list of rules where it has none
abbrev pub some_rule : Rule
some_rule = record { half = pos 1; gap = pos 1 }

-- the rules of a board by layer and class
abbrev pub rule_at : BoardParts → ℕ → ℕ → Rule
rule_at b = laid b.rules some_rule (length b.classes)

-- each is given
abbrev pub given_rule : BoardParts → Cell → Option Rule
given_rule b k = Some (rule_at b k.row k.column)

rule-holds : (b : BoardParts) → IsBoard b → (r c : ℕ) → r < length b.layers → c < length b.classes → IsRule (rule_at b r c)
rule-holds b h r c inside within = h.each_rule (r * length b.classes + c) some_rule (cell-inside (length b.layers) (length b.classes) r c (length b.rules) h.rules inside within)

rule-tells : (v : Version) (b : BoardParts) → IsBoard b → (r c : ℕ) (es : List (Entry Rule)) → r < length b.layers → c < length b.classes → value_at es r c ≡ None
    → Tells (with_rules v b es) (rule_line b (layer_at r) (class_at c)) (with_rules v b (es ++ entry_at (cell r c) (rule_at b r c) ∷ []))
unfolding after_form
rule-tells v b h r c es inside within none =
    let now = with_rules v b es in
    let rule = rule_at b r c in
    let holds = rule-holds b h r c inside within in
    let half : IsWritten rule.half 1 65535 = written rule.half 1 65535 holds.half.from holds.half.to (omega arith) in
    let gap : IsWritten rule.gap 1 65535 = written rule.gap 1 65535 holds.gap.from holds.gap.to (omega arith) in
    let l = get_or b.layers r [] in
    let k = get_or b.classes c [] in
    let ln : layer_of now l ≡ r = number-of-name 8 b.layers r [] h.layers inside in
    let kn : class_of now k ≡ c = number-of-name 4 b.classes c [] h.classes within in
    let ws = l ∷ k ∷ signed_decimal rule.half ∷ signed_decimal rule.gap ∷ [] in
    tells-line now (with_rules v b (es ++ entry_at (cell r c) (rule_at b r c) ∷ [])) form.Rule ws
    (good-of-names 8 b.layers r [] h.layers inside, (good-of-names 4 b.classes c [] h.classes within, (half.good, (gap.good, tt))))
    (breaks-none now form.Rule (spelling form.Rule ∷ ws)
    (name-known 8 b.layers r [] h.layers inside, (name-known 4 b.classes c [] h.classes within, (half.has, (gap.has, tt)))) (record {
      count = refl;
      placed = refl;
      allowed = refl;
      small = refl;
      fresh = (λ i. is_some (value_at es (ln i) (kn i))) ∙ ap is_some none;
      corners = refl;
      few = refl;
      complete = refl;
    }))
    (λ i. with_rules v b (es ++ record { row = ln i; column = kn i; value = record { half = half.says i; gap = gap.says i } } ∷ []))

-- the rules that the lines give
pub rules-given : (v : Version) (b : BoardParts) → IsBoard b → Gives value_in (given_rule b) (with_rules v b) [] (flat_map (λ l. rule_lines b (layer_at l)) (range_with_len 0 (length b.layers))) (IsDone (length b.classes) (length b.layers) 0)
rules-given v b h = grid-gives (with_rules v b) (λ r c. rule_line b (layer_at r) (class_at c)) (given_rule b) (length b.layers) (length b.classes) (rule-tells v b h)
