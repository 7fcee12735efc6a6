-- What the lists of a board must keep: the rules of the board text that outlive the text.
use Rattle.std.specs.Prelude.{◌≡◌, ◌≢◌, ℕ, ◌+◌, ◌*◌, ◌<◌, ◌≤◌, ℤ, pos, ◌≤ℤ◌, List, length, All, AllPairs}
use Rattle.geo_rect.specs.declared.ids.ClassId.{ClassId}
use Rattle.geo_rect.specs.declared.ids.KindId.{KindId}
use Rattle.geo_rect.specs.declared.ids.LayerId.{LayerId}
use Rattle.geo_rect.specs.declared.shapes.Rect.{Rect}
use Rattle.board_parts.specs.declared.limits.TheConstants.{MAX_SIDE, MAX_LAYERS, MAX_CLASSES, MAX_KINDS, MAX_NETS, MAX_PINS, MAX_BLOCKS, MAX_MEASURE, MAX_CHARGE, MAX_NAME}
use Rattle.board_parts.specs.declared.parts.BoardParts.{BoardParts}
use Rattle.board_parts.specs.declared.parts.Rule.{Rule}
use Rattle.board_parts.specs.declared.parts.ViaKind.{ViaKind}
use Rattle.board_parts.specs.declared.parts.Block.{Block}
use Rattle.board_parts.specs.declared.parts.Keepout.{Keepout}
use Rattle.board_parts.specs.declared.parts.Pin.{Pin}
use Rattle.board_parts.specs.Lookup.{gap_of, pad_of, inner_of, kind_of}

-- a byte that words are made of: printable ASCII, without the blank
pub record IsWordByte (b : ℕ) : Type 0 where
  pub from : 33 ≤ b
  pub to : b ≤ 126

-- a word that is not too long
pub record IsName (bytes : List ℕ) : Type 0 where
  pub some : 0 < length bytes
  pub short : length bytes ≤ MAX_NAME
  pub word : All IsWordByte bytes

-- at most so many names, no two of them alike
pub record AreNames (most : ℕ) (names : List (List ℕ)) : Type 0 where
  pub few : length names ≤ most
  pub each : All IsName names
  pub apart : AllPairs (λ a b. a ≢ b) names

-- the width or the height of a board
pub record IsSide (n : ℤ) : Type 0 where
  pub from : pos 1 ≤ℤ n
  pub to : n ≤ℤ MAX_SIDE

-- a half width or a gap
pub record IsMeasure (n : ℤ) : Type 0 where
  pub from : pos 1 ≤ℤ n
  pub to : n ≤ℤ MAX_MEASURE

pub record IsRule (r : Rule) : Type 0 where
  pub half : IsMeasure r.half
  pub gap : IsMeasure r.gap

-- it joins two different layers of those that there are, and all layers between them
pub record IsKind (layers : ℕ) (k : ViaKind) : Type 0 where
  pub order : k.first.0 < k.last.0
  pub known : k.last.0 < layers
  pub charge : k.charge ≤ MAX_CHARGE

-- each point of the area is one of the board
pub record IsOnBoard (width height : ℤ) (area : Rect) : Type 0 where
  pub left : pos 0 ≤ℤ area.x0
  pub below : pos 0 ≤ℤ area.y0
  pub right : area.x1 ≤ℤ width
  pub above : area.y1 ≤ℤ height

pub record IsBlock (b : BoardParts) (k : Block) : Type 0 where
  pub layer : k.layer.0 < length b.layers
  pub area : IsOnBoard b.width b.height k.area

pub record IsKeepout (b : BoardParts) (k : Keepout) : Type 0 where
  pub layer : k.layer.0 < length b.layers
  pub area : IsOnBoard b.width b.height k.area

-- the gap of two classes on a layer is one, whichever of them is named first
abbrev pub IsGapOfPairs : BoardParts → Type 0
IsGapOfPairs b =
    (l : LayerId) (c d : ClassId) → l.0 < length b.layers → c.0 < length b.classes → d.0 < length b.classes
    → gap_of b l c d ≡ gap_of b l d c

-- the kind has no layer between its first and its last
abbrev pub HasNoInnerLayer : BoardParts → KindId → Type 0
HasNoInnerLayer b k = (kind_of b k).last.0 ≡ (kind_of b k).first.0 + 1

-- a kind without a layer between its two has its pad for an inner pad
abbrev pub IsPlainWithoutInner : BoardParts → Type 0
IsPlainWithoutInner b =
    (k : KindId) (c : ClassId) → k.0 < length b.kinds → c.0 < length b.classes → HasNoInnerLayer b k
    → inner_of b k c ≡ pad_of b k c

pub record IsPin (b : BoardParts) (p : Pin) : Type 0 where
  pub net : p.net.0 < length b.net_names
  pub area : IsOnBoard b.width b.height p.area
  pub order : p.first.0 ≤ p.last.0
  pub layer : p.last.0 < length b.layers

-- the lists of a board keep every rule of the board text
pub record IsBoard (b : BoardParts) : Type 0 where
  pub name : IsName b.name
  pub width : IsSide b.width
  pub height : IsSide b.height
  pub layers : AreNames MAX_LAYERS b.layers
  pub some_layer : 0 < length b.layers
  pub classes : AreNames MAX_CLASSES b.classes
  pub some_class : 0 < length b.classes
  -- a rule for each layer and class
  pub rules : length b.rules ≡ length b.layers * length b.classes
  pub each_rule : All IsRule b.rules
  -- a gap for each layer and two classes
  pub gaps : length b.gaps ≡ (length b.layers * length b.classes) * length b.classes
  pub each_gap : All IsMeasure b.gaps
  pub pairs : IsGapOfPairs b
  pub kind_names : AreNames MAX_KINDS b.kind_names
  pub kinds : length b.kinds ≡ length b.kind_names
  pub each_kind : All (IsKind (length b.layers)) b.kinds
  -- a pad for each kind and class
  pub pads : length b.pads ≡ length b.kinds * length b.classes
  pub each_pad : All IsMeasure b.pads
  -- an inner pad for each kind and class
  pub inners : length b.inners ≡ length b.kinds * length b.classes
  pub each_inner : All IsMeasure b.inners
  pub plain : IsPlainWithoutInner b
  pub blocks : length b.blocks + length b.keepouts ≤ MAX_BLOCKS
  pub each_block : All (IsBlock b) b.blocks
  pub each_keepout : All (IsKeepout b) b.keepouts
  pub net_names : AreNames MAX_NETS b.net_names
  pub net_classes : length b.net_classes ≡ length b.net_names
  -- the class of each net is one of the board's
  pub each_class : All (λ (c : ClassId). c.0 < length b.classes) b.net_classes
  pub pins : length b.pins ≤ MAX_PINS
  pub each_pin : All (IsPin b) b.pins
