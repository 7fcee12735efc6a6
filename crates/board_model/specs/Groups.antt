-- The rules of a board, by the lists that they speak of, as they are tested one after another.
use Rattle.std.specs.Prelude.{◌≡◌, ◌+◌, ◌*◌, ◌<◌, ◌≤◌, length, All}
use Rattle.geo_rect.specs.declared.ids.ClassId.{ClassId}
use Rattle.board_parts.specs.declared.limits.TheConstants.{MAX_LAYERS, MAX_CLASSES, MAX_KINDS, MAX_NETS, MAX_PINS, MAX_BLOCKS}
use Rattle.board_parts.specs.declared.parts.BoardParts.{BoardParts}
use Rattle.board_parts.specs.Rules.{IsName, IsSide, AreNames, IsRule, IsKind, IsMeasure, IsBlock, IsKeepout, IsPin, IsGapOfPairs, IsPlainWithoutInner}

-- the board's own name, and its size
pub record HasFrame (b : BoardParts) : Type 0 where
  pub name : IsName b.name
  pub width : IsSide b.width
  pub height : IsSide b.height

-- layers and classes, at least one of each
pub record HasLayers (b : BoardParts) : Type 0 where
  pub layers : AreNames MAX_LAYERS b.layers
  pub some_layer : 0 < length b.layers
  pub classes : AreNames MAX_CLASSES b.classes
  pub some_class : 0 < length b.classes

-- a rule for each layer and class
pub record HasRules (b : BoardParts) : Type 0 where
  pub rules : length b.rules ≡ length b.layers * length b.classes
  pub each_rule : All IsRule b.rules

-- a gap for each layer and two classes
pub record HasGaps (b : BoardParts) : Type 0 where
  pub gaps : length b.gaps ≡ (length b.layers * length b.classes) * length b.classes
  pub each_gap : All IsMeasure b.gaps
  pub pairs : IsGapOfPairs b

-- kinds of vias, and a pad for each kind and class
pub record HasKinds (b : BoardParts) : Type 0 where
  pub kind_names : AreNames MAX_KINDS b.kind_names
  pub kinds : length b.kinds ≡ length b.kind_names
  pub each_kind : All (IsKind (length b.layers)) b.kinds
  pub pads : length b.pads ≡ length b.kinds * length b.classes
  pub each_pad : All IsMeasure b.pads

-- an inner pad for each kind and class
pub record HasInners (b : BoardParts) : Type 0 where
  pub inners : length b.inners ≡ length b.kinds * length b.classes
  pub each_inner : All IsMeasure b.inners
  pub plain : IsPlainWithoutInner b

-- nets, each of a class
pub record HasNets (b : BoardParts) : Type 0 where
  pub net_names : AreNames MAX_NETS b.net_names
  pub net_classes : length b.net_classes ≡ length b.net_names
  pub each_class : All (λ (c : ClassId). c.0 < length b.classes) b.net_classes

-- blockages, keep-outs and pins
pub record HasAreas (b : BoardParts) : Type 0 where
  pub blocks : length b.blocks + length b.keepouts ≤ MAX_BLOCKS
  pub each_block : All (IsBlock b) b.blocks
  pub each_keepout : All (IsKeepout b) b.keepouts
  pub pins : length b.pins ≤ MAX_PINS
  pub each_pin : All (IsPin b) b.pins
