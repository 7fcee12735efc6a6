-- The generated board keeps every rule of the board text, so that its text is read back.
use Rattle.std.proofs.Common.{◌≡◌, ◌≢◌, ℕ, ℤ, pos, ◌+◌, ◌-◌, ◌*◌, ◌%◌, ◌^◌, ◌<◌, ◌≤◌, suc, zero, true, List, [], ◌∷◌, ◌++◌, All, Ok, length, get_or, drop, map, refl, sym, ap, ◌∙◌, arith, length-append}
use Rattle.std.specs.Prelude.{codes, decimal, AllPairs, IfOk, Result, Err, ◌==◌, nat_lt, if◌then◌else◌}
use Rattle.std.specs.Int.{int_max}
use Rattle.std.specs.List.{range_with_len, flat_map, list_all}
use Rattle.std.proofs.lemmas.Bool.{ltb-true, cond_both}
use Rattle.std.proofs.lemmas.Fmt.{decimal_injective, length-decimal-le}
use Rattle.std.proofs.lemmas.Int.{ints}
use Rattle.std.proofs.lemmas.List.Elements.{All-nil, All-cons, All-append, All-from_recursion}
use Rattle.std.proofs.lemmas.List.FromFn.{get_or-map-range_with_len, length-map-range_with_len}
use Rattle.geo_rect.specs.declared.ids.ClassId.{ClassId}
use Rattle.board_parts.specs.Commands.{IsCommandOf}
use Rattle.board_parts.specs.Lookup.{layer_at, rule_of, gap_of}
use Rattle.board_parts.specs.Rules.{IsBoard, IsBlock, IsKeepout, IsPin, IsKind, IsRule, IsMeasure, IsName, AreNames, IsOnBoard, IsWordByte}
use Rattle.board_parts.specs.declared.commands.Command.TheVariants as command
use Rattle.board_parts.specs.declared.parts.Block.{Block}
use Rattle.board_parts.specs.declared.parts.BoardParts.{BoardParts}
use Rattle.board_parts.specs.declared.parts.Keepout.{Keepout}
use Rattle.board_parts.specs.declared.parts.Pin.{Pin}
use Rattle.board_parts.specs.declared.parts.Rule.{Rule}
use Rattle.board_parts.specs.declared.parts.ViaKind.{ViaKind}
use Rattle.line_words.specs.Lines.{is_word_byte}
use Rattle.board_reader.specs.Reading.{reading}
use Rattle.board_text.specs.declared.spelling.Version.TheVariants.{First}
use Rattle.board_text.specs.Spelled.{spelled, told_of, class_at, IsOfFirstVersion}
use Rattle.board_text.proofs.Lines.{word-bytes}
use Rattle.board_text.proofs.Numerals.{good-decimal}
use Rattle.board_text.proofs.Whole.{spelled-is-read}
use Rattle.board_gen.specs.Generated.{generated, generated_board, asked, wire, block_of, net_name_of, pins_of, pin_at, partner, area_at}
use Rattle.board_gen.proofs.Counting.{map-all, flat_map-all, flat_map-pairs}

tested-name : (w : List ℕ) → 0 < length w → length w ≤ 64 → list_all is_word_byte w ≡ true → IsName w
tested-name w some short each = record { some = some; short = short; word = All-from_recursion IsWordByte w (word-bytes w each) }

-- some letters and a number
numbered-name : (w : List ℕ) (n : ℕ) → 0 < length w → length w ≤ 44 → list_all is_word_byte w ≡ true → n < 2 ^ 63 → IsName (w ++ decimal n)
numbered-name w n some short each small =
    let digits : length (decimal n) ≤ 20 = length-decimal-le 20 n (omega arith) (omega arith) (omega arith) in
    let sum : length (w ++ decimal n) ≡ length w + length (decimal n) = length-append w (decimal n) in
    record {
      some = omega (arith, sum);
      short = omega (arith, sum);
      word = All-append IsWordByte w (decimal n) (All-from_recursion IsWordByte w (word-bytes w each)) (All-from_recursion IsWordByte (decimal n) (good-decimal n small).bytes);
    }

one-apart : (w : List ℕ) → AllPairs (λ a b. a ≢ b) (w ∷ [])
one-apart w i j d lt inside = absurd (omega arith)

two-apart : (v w : List ℕ) → v ≢ w → AllPairs (λ a b. a ≢ b) (v ∷ w ∷ [])
two-apart v w n i zero d lt inside = absurd (omega arith)
two-apart v w n zero (suc zero) d lt inside = n
two-apart v w n (suc i) (suc zero) d lt inside = absurd (omega arith)
two-apart v w n i (suc (suc j)) d lt inside = absurd (omega arith)

one-name : (most : ℕ) (w : List ℕ) → 1 ≤ most → IsName w → AreNames most (w ∷ [])
one-name most w few h = record { few = few; each = All-cons IsName w [] h (All-nil IsName); apart = one-apart w }

layer-names : AreNames 8 (codes "top" ∷ codes "bot" ∷ [])
layer-names = record {
  few = omega arith;
  each = All-cons IsName (codes "top") (codes "bot" ∷ []) (tested-name (codes "top") (omega arith) (omega arith) refl)
      (All-cons IsName (codes "bot") [] (tested-name (codes "bot") (omega arith) (omega arith) refl) (All-nil IsName));
  apart = two-apart (codes "top") (codes "bot") (λ e. let f : 116 ≡ 98 = ap (λ w. get_or w 0 0) e in omega (arith, f));
}

-- the names of nets of different numbers are different
other-net : (a b : ℕ) → a < 2 ^ 63 → b < 2 ^ 63 → a < b → net_name_of a ≢ net_name_of b
other-net a b sa sb lt e =
    let same : decimal a ≡ decimal b = ap (λ w. drop 1 w) e in
    let equal = decimal_injective a b (omega arith) (omega arith) same in
    omega (arith, equal)

net-names : (n : ℕ) → n ≤ 2000 → AreNames 16384 (map net_name_of (range_with_len 1 n))
net-names n few =
    let size = length-map-range_with_len net_name_of 1 n in
    record {
      few = omega (arith, size);
      each = map-all IsName net_name_of 1 n (λ k l m. numbered-name (codes "n") k (omega arith) (omega arith) refl (omega arith));
      apart = λ i j d lt inside.
          let here : j < n = omega (arith, size) in
          let at_i = get_or-map-range_with_len net_name_of 1 n i (1 + i) d (omega arith) refl in
          let at_j = get_or-map-range_with_len net_name_of 1 n j (1 + j) d here refl in
          λ e. other-net (1 + i) (1 + j) (omega arith) (omega arith) (omega arith) (sym at_i ∙ (e ∙ at_j));
    }

on-board : (n x y width height : ℕ) → x + width ≤ 20000 → y + height ≤ 100 * n + 200 → IsOnBoard (pos 20000) (pos (100 * n + 200)) (area_at x y width height)
on-board n x y width height h v = record {
  left = omega (arith, ints);
  below = omega (arith, ints);
  right = omega (arith, ints);
  above = omega (arith, ints);
}

block-fits : (n i : ℕ) → i ≤ n → IsBlock (generated_board n) (block_of i)
unfolding generated_board
block-fits n i most = record { layer = omega arith; area = on-board n (2000 + (7001 * i) % 16000) (100 * i + 60) 200 20 (omega arith) (omega arith) }

partner-most : (n i : ℕ) → i ≤ n → partner n i ≤ n
partner-most n i most =
    cond_both (i % 2 == 0) (i - 1) (if nat_lt i n then i + 1 else i) (λ j. j ≤ n) (λ e. omega arith)
    (λ e. cond_both (nat_lt i n) (i + 1) i (λ j. j ≤ n) (λ f. let g = ltb-true i n f in omega (arith, g)) (λ f. most))

pin-fits : (n i x row : ℕ) → 1 ≤ i → i ≤ n → row ≤ n → x + 40 ≤ 20000 → IsPin (generated_board n) (pin_at i x row)
unfolding generated_board
pin-fits n i x row some most within across = record {
  net = omega (arith, length-map-range_with_len net_name_of 1 n);
  area = on-board n x (100 * row) 40 40 across (omega arith);
  order = omega arith;
  layer = omega arith;
}

pins-fit : (n i : ℕ) → 1 ≤ i → i ≤ n → All (IsPin (generated_board n)) (pins_of n i)
pins-fit n i some most =
    let P = IsPin (generated_board n) in
    All-cons P (pin_at i 100 i) (pin_at i 19860 (partner n i) ∷ []) (pin-fits n i 100 i some most most (omega arith))
    (All-cons P (pin_at i 19860 (partner n i)) [] (pin-fits n i 19860 (partner n i) some most (partner-most n i most) (omega arith)) (All-nil P))

measure : (n : ℕ) → 1 ≤ n → n ≤ 65535 → IsMeasure (pos n)
measure n low high = record { from = omega (arith, ints); to = omega (arith, ints) }

wire-is : IsRule wire
wire-is = record { half = measure 10 (omega arith) (omega arith); gap = measure 10 (omega arith) (omega arith) }

-- a list of two that are alike
two-alike : {T : Type 0} (x d : T) (k : ℕ) → k < 2 → get_or (x ∷ x ∷ []) k d ≡ x
two-alike x d zero h = refl
two-alike x d (suc zero) h = refl
two-alike x d (suc (suc k)) h = absurd (omega arith)

-- there is one class
one-class : (c d : ClassId) → c.0 < 1 → d.0 < 1 → c ≡ d
one-class c d first second = let e : c.0 ≡ d.0 = omega arith in λ i. record { 0 = e i }

pub generated-is-board : (n : ℕ) → 1 ≤ n → n ≤ 2000 → IsBoard (generated_board n)
unfolding generated_board
generated-is-board n some few =
    let kind : ViaKind = record { first = layer_at 0; last = layer_at 1; charge = 50 } in
    let blocks = length-map-range_with_len block_of 1 n in
    let names = length-map-range_with_len net_name_of 1 n in
    let classes = length-map-range_with_len (λ (i : ℕ). class_at 0) 1 n in
    record {
      name = numbered-name (codes "gen") n (omega arith) (omega arith) refl (omega arith);
      width = record { from = omega (arith, ints); to = omega (arith, ints) };
      height = record { from = omega (arith, ints); to = omega (arith, ints) };
      layers = layer-names;
      some_layer = omega arith;
      classes = one-name 4 (codes "sig") (omega arith) (tested-name (codes "sig") (omega arith) (omega arith) refl);
      some_class = omega arith;
      rules = refl;
      each_rule = All-cons IsRule wire (wire ∷ []) wire-is (All-cons IsRule wire [] wire-is (All-nil IsRule));
      gaps = refl;
      each_gap = All-cons IsMeasure (pos 10) (pos 10 ∷ []) (measure 10 (omega arith) (omega arith)) (All-cons IsMeasure (pos 10) [] (measure 10 (omega arith) (omega arith)) (All-nil IsMeasure));
      pairs = λ l c d inside first second. let e = one-class c d first second in λ i. gap_of (generated_board n) l (e i) (sym e i);
      kind_names = one-name 8 (codes "v") (omega arith) (tested-name (codes "v") (omega arith) (omega arith) refl);
      kinds = refl;
      each_kind = All-cons (IsKind 2) kind [] (record { order = omega arith; known = omega arith; charge = omega arith }) (All-nil (IsKind 2));
      pads = refl;
      each_pad = All-cons IsMeasure (pos 15) [] (measure 15 (omega arith) (omega arith)) (All-nil IsMeasure);
      inners = refl;
      each_inner = All-cons IsMeasure (pos 15) [] (measure 15 (omega arith) (omega arith)) (All-nil IsMeasure);
      plain = λ k c known of two. refl;
      blocks = omega (arith, blocks);
      each_keepout = All-nil (IsKeepout (generated_board n));
      each_block = map-all (IsBlock (generated_board n)) block_of 1 n (λ k l m. block-fits n k (omega arith));
      net_names = net-names n few;
      net_classes = classes ∙ sym names;
      each_class = map-all (λ (c : ClassId). c.0 < 1) (λ (i : ℕ). class_at 0) 1 n (λ k l m. omega arith);
      pins = omega (arith, flat_map-pairs (pins_of n) n 1 (λ k. refl));
      each_pin = flat_map-all (IsPin (generated_board n)) (pins_of n) n 1 (λ k l m. pins-fit n k l (omega arith));
    }

-- it fits the first version
pub generated-is-first : (n : ℕ) → n ≤ 2000 → IsOfFirstVersion (generated_board n)
unfolding generated_board
generated-is-first n few = record {
  width = omega (arith, ints);
  height = omega (arith, ints);
  gaps = λ l c d inside first second.
      let one : rule_of (generated_board n) l c ≡ wire = two-alike wire _ (l.0 * 1 + c.0) (omega arith) in
      let other : rule_of (generated_board n) l d ≡ wire = two-alike wire _ (l.0 * 1 + d.0) (omega arith) in
      two-alike (pos 10) (pos 1) ((l.0 * 1 + c.0) * 1 + d.0) (omega arith) ∙ (λ i. int_max (sym one i).gap (sym other i).gap);
}

-- what is asked for names nothing
pub asked-of-any : (b : BoardParts) → All (IsCommandOf b) asked
asked-of-any b = All-cons (IsCommandOf b) command.All (command.Rules ∷ []) tt (All-cons (IsCommandOf b) command.Rules [] tt (All-nil (IsCommandOf b)))

pub generated-is-read : (n : ℕ) → 1 ≤ n → n ≤ 2000 → reading (generated n) ≡ Ok (told_of (generated_board n) asked)
unfolding generated
generated-is-read n some few = spelled-is-read First (generated_board n) asked (generated-is-first n few) (generated-is-board n some few) (asked-of-any (generated_board n)) (omega arith)

-- the board whose lists are those of the generated one
pub same-board : (n : ℕ) (name : List ℕ) (height : ℤ) (layers classes : List (List ℕ)) (rules : List Rule) (gaps : List ℤ) (kind_names : List (List ℕ)) (kinds : List ViaKind) (pads inners : List ℤ) (blocks : List Block) (keepouts : List Keepout) (net_names : List (List ℕ)) (net_classes : List ClassId) (pins : List Pin)
    → name ≡ codes "gen" ++ decimal n → height ≡ pos (100 * n + 200) → layers ≡ codes "top" ∷ codes "bot" ∷ [] → classes ≡ codes "sig" ∷ [] → rules ≡ wire ∷ wire ∷ [] → gaps ≡ pos 10 ∷ pos 10 ∷ []
    → kind_names ≡ codes "v" ∷ [] → kinds ≡ record { first = layer_at 0; last = layer_at 1; charge = 50 } ∷ [] → pads ≡ pos 15 ∷ [] → inners ≡ pos 15 ∷ []
    → blocks ≡ map block_of (range_with_len 1 n) → keepouts ≡ [] → net_names ≡ map net_name_of (range_with_len 1 n) → net_classes ≡ map (λ i. class_at 0) (range_with_len 1 n) → pins ≡ flat_map (pins_of n) (range_with_len 1 n)
    → record { name = name; width = pos 20000; height = height; layers = layers; classes = classes; rules = rules; gaps = gaps; kind_names = kind_names; kinds = kinds; pads = pads; inners = inners; blocks = blocks; keepouts = keepouts; net_names = net_names; net_classes = net_classes; pins = pins } ≡ generated_board n
unfolding generated_board
same-board n name height layers classes rules gaps kind_names kinds pads inners blocks keepouts net_names net_classes pins e1 e2 e3 e4 e5 e6 e7 e8 e9 e10 e11 e12 e13 e14 e15 =
    λ i. record { name = e1 i; width = pos 20000; height = e2 i; layers = e3 i; classes = e4 i; rules = e5 i; gaps = e6 i; kind_names = e7 i; kinds = e8 i; pads = e9 i; inners = e10 i; blocks = e11 i; keepouts = e12 i; net_names = e13 i; net_classes = e14 i; pins = e15 i }

-- what was spelled of the board is the generated text
pub spelled-generated : {E : Type 0} (r : Result (List ℕ) E) (b : BoardParts) (n : ℕ) → b ≡ generated_board n → IfOk r (λ t. t ≡ spelled First b asked) → IfOk r (λ t. t ≡ generated n)
unfolding generated
spelled-generated (Ok t) b n e h = h ∙ ap (λ x. spelled First x asked) e
spelled-generated (Err x) b n e h = h

pub read-generated : {E : Type 0} (r : Result (List ℕ) E) (n : ℕ) → 1 ≤ n → n ≤ 2000 → IfOk r (λ t. t ≡ generated n) → IfOk r (λ t. reading t ≡ Ok (told_of (generated_board n) asked))
read-generated (Ok t) n some few h = ap reading h ∙ generated-is-read n some few
read-generated (Err x) n some few h = h
