-- What the parts of a draft keep when one item more is added, or another list grows.
use Rattle.std.proofs.Common.{◌≡◌, ◌≢◌, ℕ, ℤ, pos, ◌+◌, ◌<◌, ◌≤◌, List, [], ◌∷◌, ◌++◌, All, length, sym, ap, ◌∙◌, arith, subst}
use Rattle.std.proofs.lemmas.Int.{ints}
use Rattle.std.proofs.lemmas.List.{length_push, get_or_append_left}
use Rattle.std.proofs.lemmas.List.Elements.{All-push, All-weaker, All-nil}
use Rattle.geo_rect.specs.declared.ids.ClassId.{ClassId}
use Rattle.board_parts.specs.Rules.{IsSide, IsMeasure, IsRule, IsKind}
use Rattle.board_parts.specs.declared.parts.Block.{Block}
use Rattle.board_parts.specs.declared.parts.Keepout.{Keepout}
use Rattle.board_parts.specs.declared.parts.Pin.{Pin}
use Rattle.board_parts.specs.declared.parts.Rule.{Rule}
use Rattle.board_parts.specs.declared.parts.ViaKind.{ViaKind}
use Rattle.board_reader.specs.declared.drafts.Heading.{Heading}
use Rattle.board_reader.specs.declared.gaps.Clear.{Clear}
use Rattle.board_reader.specs.declared.tables.Entry.{Entry}
use Rattle.board_reader.specs.Drafts.{nth_kind}
use Rattle.board_reader.specs.Kept.{AreTables, AreKinds, IsInnerOf, AreNets, IsBlockOf, IsKeepoutOf, AreBlocks, IsPinOf, ArePins}

pub rules-push : (rules : List (Entry Rule)) (clears : List Clear) (pads : List (Entry ℤ)) (e : Entry Rule)
    → AreTables rules clears pads → IsRule e.value → AreTables (rules ++ e ∷ []) clears pads
rules-push rules clears pads e h r = record { rules = All-push (λ (x : Entry Rule). IsRule x.value) rules e h.rules r; clears = h.clears; pads = h.pads }

pub clears-push : (rules : List (Entry Rule)) (clears : List Clear) (pads : List (Entry ℤ)) (e : Clear)
    → AreTables rules clears pads → IsMeasure e.gap → AreTables rules (clears ++ e ∷ []) pads
clears-push rules clears pads e h m = record { rules = h.rules; clears = All-push (λ (x : Clear). IsMeasure x.gap) clears e h.clears m; pads = h.pads }

pub pads-push : (rules : List (Entry Rule)) (clears : List Clear) (pads : List (Entry ℤ)) (e : Entry ℤ)
    → AreTables rules clears pads → IsMeasure e.value → AreTables rules clears (pads ++ e ∷ [])
pads-push rules clears pads e h m = record { rules = h.rules; clears = h.clears; pads = All-push (λ (x : Entry ℤ). IsMeasure x.value) pads e h.pads m }

inner-grow : (kinds : List ViaKind) (k : ViaKind) (e : Entry ℤ) → IsInnerOf kinds e → IsInnerOf (kinds ++ k ∷ []) e
inner-grow kinds k e is =
    let same : nth_kind (kinds ++ k ∷ []) e.row ≡ nth_kind kinds e.row = get_or_append_left kinds (k ∷ []) _ e.row is.known in
    let more = length_push kinds k in
    record { known = omega (arith, is.known, more); deep = subst (λ (x : ViaKind). x.last.0 ≢ x.first.0 + 1) (sym same) is.deep; half = is.half }

-- a kind more leaves the inner pads of the others
pub inners-grow : (kinds : List ViaKind) (k : ViaKind) (inners : List (Entry ℤ)) → All (IsInnerOf kinds) inners → All (IsInnerOf (kinds ++ k ∷ [])) inners
inners-grow kinds k inners h = All-weaker (IsInnerOf kinds) (IsInnerOf (kinds ++ k ∷ [])) (inner-grow kinds k) inners h

pub kinds-push : (layers names : ℕ) (kinds : List ViaKind) (k : ViaKind) (more : ℕ) → more ≡ names + 1 → AreKinds layers names kinds → IsKind layers k → AreKinds layers more (kinds ++ k ∷ [])
kinds-push layers names kinds k more e h is = record {
  even = length_push kinds k ∙ (ap (λ n. n + 1) h.even ∙ sym e);
  each = All-push (IsKind layers) kinds k h.each is;
}

pub kinds-grow : (layers more names : ℕ) (kinds : List ViaKind) → more ≡ layers + 1 → AreKinds layers names kinds → AreKinds more names kinds
kinds-grow layers more names kinds e h = record {
  even = h.even;
  each = All-weaker (IsKind layers) (IsKind more) (λ k is. record { order = is.order; known = omega (arith, is.known); charge = is.charge }) kinds h.each;
}

pub nets-push : (classes names : ℕ) (net_classes : List ClassId) (c : ClassId) (more : ℕ) → more ≡ names + 1 → AreNets classes names net_classes → c.0 < classes → AreNets classes more (net_classes ++ c ∷ [])
nets-push classes names net_classes c more e h is = record {
  even = length_push net_classes c ∙ (ap (λ n. n + 1) h.even ∙ sym e);
  each = All-push (λ (x : ClassId). x.0 < classes) net_classes c h.each is;
}

pub nets-grow : (classes more names : ℕ) (net_classes : List ClassId) → more ≡ classes + 1 → AreNets classes names net_classes → AreNets more names net_classes
nets-grow classes more names net_classes e h = record {
  even = h.even;
  each = All-weaker (λ (x : ClassId). x.0 < classes) (λ (x : ClassId). x.0 < more) (λ x is. omega (arith, is)) net_classes h.each;
}

pub blocks-push : (layers : ℕ) (h : Heading) (blocks : List Block) (keepouts : List Keepout) (k : Block)
    → AreBlocks layers h blocks keepouts → IsBlockOf layers h k → length blocks + length keepouts + 1 ≤ 8192 → AreBlocks layers h (blocks ++ k ∷ []) keepouts
blocks-push layers h blocks keepouts k are is room =
    let more = length_push blocks k in
    record { few = omega (arith, more, room); each = All-push (IsBlockOf layers h) blocks k are.each is; each_keepout = are.each_keepout }

pub keepouts-push : (layers : ℕ) (h : Heading) (blocks : List Block) (keepouts : List Keepout) (k : Keepout)
    → AreBlocks layers h blocks keepouts → IsKeepoutOf layers h k → length blocks + length keepouts + 1 ≤ 8192 → AreBlocks layers h blocks (keepouts ++ k ∷ [])
keepouts-push layers h blocks keepouts k are is room =
    let more = length_push keepouts k in
    record { few = omega (arith, more, room); each = are.each; each_keepout = All-push (IsKeepoutOf layers h) keepouts k are.each_keepout is }

pub blocks-grow : (layers more : ℕ) (h : Heading) (blocks : List Block) (keepouts : List Keepout) → more ≡ layers + 1 → AreBlocks layers h blocks keepouts → AreBlocks more h blocks keepouts
blocks-grow layers more h blocks keepouts e are = record {
  few = are.few;
  each = All-weaker (IsBlockOf layers h) (IsBlockOf more h) (λ k is. record { layer = omega (arith, is.layer); area = is.area }) blocks are.each;
  each_keepout = All-weaker (IsKeepoutOf layers h) (IsKeepoutOf more h) (λ k is. record { layer = omega (arith, is.layer); area = is.area }) keepouts are.each_keepout;
}

pub blocks-none : (layers : ℕ) (h : Heading) (blocks : List Block) (keepouts : List Keepout) → blocks ≡ [] → keepouts ≡ [] → AreBlocks layers h blocks keepouts
blocks-none layers h blocks keepouts e f = record {
  few = rw (e, f) (omega arith);
  each = subst (λ bs. All (IsBlockOf layers h) bs) (sym e) (All-nil (IsBlockOf layers h));
  each_keepout = subst (λ ks. All (IsKeepoutOf layers h) ks) (sym f) (All-nil (IsKeepoutOf layers h));
}

pub pins-push : (layers nets : ℕ) (h : Heading) (pins : List Pin) (p : Pin) → ArePins layers nets h pins → IsPinOf layers nets h p → length pins + 1 ≤ 32768 → ArePins layers nets h (pins ++ p ∷ [])
pins-push layers nets h pins p are is room = record { few = rw (length_push pins p) room; each = All-push (IsPinOf layers nets h) pins p are.each is }

pub pins-grow : (layers nets more others : ℕ) (h : Heading) (pins : List Pin) → layers ≤ more → nets ≤ others → ArePins layers nets h pins → ArePins more others h pins
pins-grow layers nets more others h pins l n are = record {
  few = are.few;
  each = All-weaker (IsPinOf layers nets h) (IsPinOf more others h) (λ p is. record { net = omega (arith, is.net); area = is.area; order = is.order; layer = omega (arith, is.layer) }) pins are.each;
}

pub pins-none : (layers nets : ℕ) (h : Heading) (pins : List Pin) → pins ≡ [] → ArePins layers nets h pins
pins-none layers nets h pins e = record {
  few = rw e (omega arith);
  each = subst (λ ps. All (IsPinOf layers nets h) ps) (sym e) (All-nil (IsPinOf layers nets h));
}

pub measure-in : (n : ℕ) → (1 ≤ n) × (n ≤ 65535) → IsMeasure (pos n)
measure-in n h = record { from = omega (arith, ints, h.0); to = omega (arith, ints, h.1) }

pub side-in : (n : ℕ) → (1 ≤ n) × (n ≤ 8388608) → IsSide (pos n)
side-in n h = record { from = omega (arith, ints, h.0); to = omega (arith, ints, h.1) }
