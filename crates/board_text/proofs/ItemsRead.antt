-- The blockages, the nets and the pins of a board are read back.
use Rattle.std.proofs.Common.{◌≡◌, ℕ, ℤ, pos, ◌+◌, ◌<◌, ◌≤◌, ◌≤ℤ◌, min, max, suc, true, false, Bool, [], ◌∷◌, ◌++◌, length, get_or, take, refl, sym, ap, ◌∙◌, arith, subst}
use Rattle.std.specs.Prelude.{nat_lt, ◌||◌, codes}
use Rattle.std.specs.Fmt.{signed_decimal}
use Rattle.std.specs.List.{flat_map, range_with_len}
use Rattle.std.proofs.Math.Seq.{take-suc}
use Rattle.std.proofs.lemmas.Bool.{le-ltb, or_from}
use Rattle.std.proofs.lemmas.Int.{ints}
use Rattle.std.proofs.lemmas.List.{take_all}
use Rattle.geo_rect.specs.declared.shapes.Rect.{Rect}
use Rattle.geo_rect.specs.Plane.{rect_of}
use Rattle.board_parts.specs.Lookup.{class_of}
use Rattle.board_parts.specs.Rules.{IsBoard, IsBlock, IsKeepout, IsPin, IsOnBoard}
use Rattle.board_parts.specs.declared.parts.Block.{Block}
use Rattle.board_parts.specs.declared.parts.BoardParts.{BoardParts}
use Rattle.board_parts.specs.declared.parts.Keepout.{Keepout}
use Rattle.board_parts.specs.declared.parts.Pin.{Pin}
use Rattle.board_reader.specs.declared.forms.Form.TheVariants as form
use Rattle.board_reader.specs.Corners.{span}
use Rattle.board_reader.specs.Drafts.{after_form, layer_of, says_wires, says_vias}
use Rattle.board_reader.specs.Drafts as drafts
use Rattle.board_reader.specs.Forms.{spelling}
use Rattle.line_words.specs.Numbers.{number}
use Rattle.board_text.specs.declared.spelling.Version.{Version}
use Rattle.board_text.specs.Spelled.{block_line, kept_out, keepout_line, net_line, pin_line, net_at, corners_and}
use Rattle.board_text.proofs.Drafts.{Given, with_blocks, with_keepouts, with_nets, with_pins}
use Rattle.board_text.proofs.Fitting.{breaks-none}
use Rattle.board_text.proofs.Known.{number-of-name, name-known, name-new, good-of-names, room, room-with, room-after}
use Rattle.board_text.proofs.Lines.{IsGood, good-tested}
use Rattle.board_text.proofs.Numerals.{size, size-is, IsWritten, written, rect-of-corners}
use Rattle.board_text.proofs.Telling.{Tells, tells-line, tells-each, tells-range}

-- the corners of an area on the board, as they are written
record AreCorners (b : BoardParts) (r : Rect) : Type 0 where
  left : IsWritten r.x0 0 (size b.width)
  below : IsWritten r.y0 0 (size b.height)
  right : IsWritten r.x1 0 (size b.width)
  above : IsWritten r.y1 0 (size b.height)

between : (z low high side : ℤ) → pos 0 ≤ℤ low → low ≤ℤ z → z ≤ℤ high → high ≤ℤ side → side ≤ℤ pos 8388608 → IsWritten z 0 (size side)
between z low high side l m n o p =
    let e : pos (size side) ≡ side = size-is side (omega (arith, ints)) in
    let few : size side ≤ 8388608 = omega (arith, ints) in
    written z 0 (size side) (omega (arith, ints)) (omega (arith, ints)) (omega arith)

corners : (b : BoardParts) → IsBoard b → (r : Rect) → IsOnBoard b.width b.height r → AreCorners b r
corners b h r on =
    let same : (z : ℤ) → z ≤ℤ z = λ z. omega (arith, ints) in
    record {
      left = between r.x0 r.x0 r.x1 b.width on.left (same r.x0) r.x_ordered on.right h.width.to;
      below = between r.y0 r.y0 r.y1 b.height on.below (same r.y0) r.y_ordered on.above h.height.to;
      right = between r.x1 r.x0 r.x1 b.width on.left r.x_ordered (same r.x1) on.right h.width.to;
      above = between r.y1 r.y0 r.y1 b.height on.below r.y_ordered (same r.y1) on.above h.height.to;
    }

not-crossed : (y z : ℤ) (m n : ℕ) → pos m ≡ y → pos n ≡ z → y ≤ℤ z → nat_lt n m ≡ false
not-crossed y z m n e f le = le-ltb n m (let order : pos m ≤ℤ pos n = rw (e, f) le in omega (arith, ints))

-- the corners are in order
in-order : (b : BoardParts) (r : Rect) → AreCorners b r
    → (nat_lt (number (signed_decimal r.x1)) (number (signed_decimal r.x0)) || nat_lt (number (signed_decimal r.y1)) (number (signed_decimal r.y0))) ≡ false
in-order b r c =
    or_from _ _ (not-crossed r.x0 r.x1 (number (signed_decimal r.x0)) (number (signed_decimal r.x1)) c.left.says c.right.says r.x_ordered)
    (not-crossed r.y0 r.y1 (number (signed_decimal r.y0)) (number (signed_decimal r.y1)) c.below.says c.above.says r.y_ordered)

-- they give the area back
area-back : (b : BoardParts) (r : Rect) → AreCorners b r
    → rect_of (span (number (signed_decimal r.x0)) (number (signed_decimal r.x1))) (span (number (signed_decimal r.y0)) (number (signed_decimal r.y1))) ≡ r
area-back b r c =
    rect-of-corners r (number (signed_decimal r.x0)) (number (signed_decimal r.y0)) (number (signed_decimal r.x1)) (number (signed_decimal r.y1))
    c.left.says c.below.says c.right.says c.above.says

block-back : (k : Block) (l : ℕ) (r : Rect) → l ≡ k.layer.0 → r ≡ k.area → record { layer = record { 0 = l }; area = r } ≡ k
block-back k l r el er = λ i. record { layer = record { 0 = el i }; area = er i }

block-tells : (v : Version) (b : BoardParts) (t : Given) → IsBoard b → (k : ℕ) (d : Block) → k < length b.blocks
    → Tells (with_blocks v b t (take k b.blocks)) (block_line b (get_or b.blocks k d)) (with_blocks v b t (take (suc k) b.blocks))
unfolding after_form
block-tells v b t h k d inside =
    let now = with_blocks v b t (take k b.blocks) in
    let x = get_or b.blocks k d in
    let is : IsBlock b x = h.each_block k d inside in
    let c = corners b h x.area is.area in
    let l = get_or b.layers x.layer.0 [] in
    let ln : layer_of now l ≡ x.layer.0 = number-of-name 8 b.layers x.layer.0 [] h.layers is.layer in
    let ws = l ∷ corners_and x.area [] in
    tells-line now (with_blocks v b t (take (suc k) b.blocks)) form.Block ws
    (good-of-names 8 b.layers x.layer.0 [] h.layers is.layer, (c.left.good, (c.below.good, (c.right.good, (c.above.good, tt)))))
    (breaks-none now form.Block (spelling form.Block ∷ ws)
    (name-known 8 b.layers x.layer.0 [] h.layers is.layer, (c.left.has, (c.below.has, (c.right.has, (c.above.has, tt))))) (record {
      count = refl;
      placed = refl;
      allowed = refl;
      fresh = refl;
      small = refl;
      corners = in-order b x.area c;
      few = room-with 8192 b.blocks k 0 inside (omega (arith, h.blocks));
      complete = refl;
    }))
    (ap (λ y. with_blocks v b t (take k b.blocks ++ y ∷ [])) (block-back x (layer_of now l) _ ln (area-back b x.area c)) ∙ ap (with_blocks v b t) (sym (take-suc b.blocks k d inside)))

pub blocks-tell : (v : Version) (b : BoardParts) (t : Given) → IsBoard b
    → Tells (with_blocks v b t []) (flat_map (block_line b) b.blocks) (with_blocks v b t b.blocks)
blocks-tell v b t h =
    subst (λ x. Tells (with_blocks v b t []) (flat_map (block_line b) b.blocks) (with_blocks v b t x)) (take_all (length b.blocks) b.blocks (omega arith))
    (tells-each b.blocks (block_line b) (λ k. with_blocks v b t (take k b.blocks)) (block-tells v b t h))

kept-back : (k : Keepout) (w : Bool) (l : ℕ) (r : Rect) → w ≡ k.wires → l ≡ k.layer.0 → r ≡ k.area → record { wires = w; layer = record { 0 = l }; area = r } ≡ k
kept-back k w l r ew el er = λ i. record { wires = ew i; layer = record { 0 = el i }; area = er i }

good-kept : (w : Bool) → IsGood (kept_out w)
good-kept true = good-tested (codes "wires") refl refl
good-kept false = good-tested (codes "vias") refl refl

kept-known : (w : Bool) → (says_wires (kept_out w) || says_vias (kept_out w)) ≡ true
kept-known true = refl
kept-known false = refl

kept-says : (w : Bool) → says_wires (kept_out w) ≡ w
kept-says true = refl
kept-says false = refl

keepout-tells : (v : Version) (b : BoardParts) (t : Given) → IsBoard b → (k : ℕ) (d : Keepout) → k < length b.keepouts
    → Tells (with_keepouts v b t (take k b.keepouts)) (keepout_line b (get_or b.keepouts k d)) (with_keepouts v b t (take (suc k) b.keepouts))
unfolding after_form
keepout-tells v b t h k d inside =
    let now = with_keepouts v b t (take k b.keepouts) in
    let x = get_or b.keepouts k d in
    let is : IsKeepout b x = h.each_keepout k d inside in
    let c = corners b h x.area is.area in
    let l = get_or b.layers x.layer.0 [] in
    let ln : layer_of now l ≡ x.layer.0 = number-of-name 8 b.layers x.layer.0 [] h.layers is.layer in
    let ws = kept_out x.wires ∷ l ∷ corners_and x.area [] in
    tells-line now (with_keepouts v b t (take (suc k) b.keepouts)) form.Keepout ws
    (good-kept x.wires, (good-of-names 8 b.layers x.layer.0 [] h.layers is.layer, (c.left.good, (c.below.good, (c.right.good, (c.above.good, tt))))))
    (breaks-none now form.Keepout (spelling form.Keepout ∷ ws)
    (kept-known x.wires, (name-known 8 b.layers x.layer.0 [] h.layers is.layer, (c.left.has, (c.below.has, (c.right.has, (c.above.has, tt)))))) (record {
      count = refl;
      placed = refl;
      allowed = refl;
      fresh = refl;
      small = refl;
      corners = in-order b x.area c;
      few = room-after 8192 b.keepouts k (length b.blocks) inside h.blocks;
      complete = refl;
    }))
    (ap (λ y. with_keepouts v b t (take k b.keepouts ++ y ∷ [])) (kept-back x (says_wires (kept_out x.wires)) (layer_of now l) _ (kept-says x.wires) ln (area-back b x.area c))
    ∙ ap (with_keepouts v b t) (sym (take-suc b.keepouts k d inside)))

pub keepouts-tell : (v : Version) (b : BoardParts) (t : Given) → IsBoard b
    → Tells (with_keepouts v b t []) (flat_map (keepout_line b) b.keepouts) (with_keepouts v b t b.keepouts)
keepouts-tell v b t h =
    subst (λ x. Tells (with_keepouts v b t []) (flat_map (keepout_line b) b.keepouts) (with_keepouts v b t x)) (take_all (length b.keepouts) b.keepouts (omega arith))
    (tells-each b.keepouts (keepout_line b) (λ k. with_keepouts v b t (take k b.keepouts)) (keepout-tells v b t h))

net-tells : (v : Version) (b : BoardParts) (t : Given) → IsBoard b → (n : ℕ) → n < length b.net_names
    → Tells (with_nets v b t (take n b.net_names) (take n b.net_classes)) (net_line b (net_at n)) (with_nets v b t (take (suc n) b.net_names) (take (suc n) b.net_classes))
unfolding after_form
net-tells v b t h n inside =
    let now = with_nets v b t (take n b.net_names) (take n b.net_classes) in
    let within : n < length b.net_classes = omega (arith, h.net_classes) in
    let class = class_of b (net_at n) in
    let is : class.0 < length b.classes = h.each_class n (record { 0 = 0 }) within in
    let w = get_or b.net_names n [] in
    let k = get_or b.classes class.0 [] in
    let kn : drafts.class_of now k ≡ class.0 = number-of-name 4 b.classes class.0 [] h.classes is in
    let ws = w ∷ k ∷ [] in
    let names = take-suc b.net_names n [] inside in
    let classes = take-suc b.net_classes n (record { 0 = 0 }) within in
    tells-line now (with_nets v b t (take (suc n) b.net_names) (take (suc n) b.net_classes)) form.Net ws
    (good-of-names 16384 b.net_names n [] h.net_names inside, (good-of-names 4 b.classes class.0 [] h.classes is, tt))
    (breaks-none now form.Net (spelling form.Net ∷ ws)
    (name-new 16384 b.net_names n [] h.net_names inside, (name-known 4 b.classes class.0 [] h.classes is, tt)) (record {
      count = refl;
      placed = refl;
      allowed = refl;
      fresh = refl;
      small = refl;
      corners = refl;
      few = room 16384 b.net_names n inside h.net_names.few;
      complete = refl;
    }))
    ((λ i. with_nets v b t (take n b.net_names ++ w ∷ []) (take n b.net_classes ++ record { 0 = kn i } ∷ [])) ∙ (λ i. with_nets v b t (sym names i) (sym classes i)))

pub nets-tell : (v : Version) (b : BoardParts) (t : Given) → IsBoard b
    → Tells (with_keepouts v b t b.keepouts) (flat_map (λ n. net_line b (net_at n)) (range_with_len 0 (length b.net_names))) (with_nets v b t b.net_names b.net_classes)
nets-tell v b t h =
    let text = flat_map (λ n. net_line b (net_at n)) (range_with_len 0 (length b.net_names)) in
    let n = length b.net_names in
    let all : Tells (with_keepouts v b t b.keepouts) text (with_nets v b t (take (0 + n) b.net_names) (take (0 + n) b.net_classes))
    = tells-range n 0 (λ k. net_line b (net_at k)) (λ k. with_nets v b t (take k b.net_names) (take k b.net_classes)) (λ k l. net-tells v b t h k (omega arith)) in
    let names : take (0 + n) b.net_names ≡ b.net_names = take_all (0 + n) b.net_names (omega arith) in
    let classes : take (0 + n) b.net_classes ≡ b.net_classes = take_all (0 + n) b.net_classes (omega (arith, h.net_classes)) in
    subst (λ d. Tells (with_keepouts v b t b.keepouts) text d) (λ i. with_nets v b t (names i) (classes i)) all

pin-back : (p : Pin) (n : ℕ) (r : Rect) (k l : ℕ) → n ≡ p.net.0 → r ≡ p.area → k ≡ p.first.0 → l ≡ p.last.0 → p.first.0 ≤ p.last.0
    → record { net = record { 0 = n }; area = r; first = record { 0 = min k l }; last = record { 0 = max k l } } ≡ p
pin-back p n r k l en er ek el order =
    let low : min k l ≡ p.first.0 = omega arith in
    let high : max k l ≡ p.last.0 = omega arith in
    λ i. record { net = record { 0 = en i }; area = er i; first = record { 0 = low i }; last = record { 0 = high i } }

pin-tells : (v : Version) (b : BoardParts) (t : Given) → IsBoard b → (k : ℕ) (d : Pin) → k < length b.pins
    → Tells (with_pins v b t (take k b.pins)) (pin_line b (get_or b.pins k d)) (with_pins v b t (take (suc k) b.pins))
unfolding after_form
pin-tells v b t h k d inside =
    let now = with_pins v b t (take k b.pins) in
    let x = get_or b.pins k d in
    let is : IsPin b x = h.each_pin k d inside in
    let c = corners b h x.area is.area in
    let low : x.first.0 < length b.layers = omega (arith, is.order, is.layer) in
    let n = get_or b.net_names x.net.0 [] in
    let f = get_or b.layers x.first.0 [] in
    let l = get_or b.layers x.last.0 [] in
    let nn : (drafts.net_of now n).0 ≡ x.net.0 = number-of-name 16384 b.net_names x.net.0 [] h.net_names is.net in
    let fn : layer_of now f ≡ x.first.0 = number-of-name 8 b.layers x.first.0 [] h.layers low in
    let ln : layer_of now l ≡ x.last.0 = number-of-name 8 b.layers x.last.0 [] h.layers is.layer in
    let ws = n ∷ corners_and x.area (f ∷ l ∷ []) in
    tells-line now (with_pins v b t (take (suc k) b.pins)) form.Pin ws
    (good-of-names 16384 b.net_names x.net.0 [] h.net_names is.net, (c.left.good, (c.below.good, (c.right.good, (c.above.good, (good-of-names 8 b.layers x.first.0 [] h.layers low, (good-of-names 8 b.layers x.last.0 [] h.layers is.layer, tt)))))))
    (breaks-none now form.Pin (spelling form.Pin ∷ ws)
    (name-known 16384 b.net_names x.net.0 [] h.net_names is.net, (c.left.has, (c.below.has, (c.right.has, (c.above.has, (name-known 8 b.layers x.first.0 [] h.layers low, (name-known 8 b.layers x.last.0 [] h.layers is.layer, tt))))))) (record {
      count = refl;
      placed = refl;
      allowed = refl;
      fresh = refl;
      small = refl;
      corners = in-order b x.area c;
      few = room 32768 b.pins k inside h.pins;
      complete = refl;
    }))
    (ap (λ y. with_pins v b t (take k b.pins ++ y ∷ [])) (pin-back x (drafts.net_of now n).0 _ (layer_of now f) (layer_of now l) nn (area-back b x.area c) fn ln is.order) ∙ ap (with_pins v b t) (sym (take-suc b.pins k d inside)))

pub pins-tell : (v : Version) (b : BoardParts) (t : Given) → IsBoard b
    → Tells (with_pins v b t []) (flat_map (pin_line b) b.pins) (with_pins v b t b.pins)
pins-tell v b t h =
    subst (λ x. Tells (with_pins v b t []) (flat_map (pin_line b) b.pins) (with_pins v b t x)) (take_all (length b.pins) b.pins (omega arith))
    (tells-each b.pins (pin_line b) (λ k. with_pins v b t (take k b.pins)) (pin-tells v b t h))
