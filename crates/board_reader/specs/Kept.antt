-- What the lines so far say keeps every rule but those of `end`.
use Rattle.std.specs.Prelude.{◌≡◌, ◌≢◌, ℕ, ◌+◌, ◌≤◌, ◌<◌, ℤ, pos, true, List, [], length, All}
use Rattle.geo_rect.specs.declared.ids.ClassId.{ClassId}
use Rattle.board_parts.specs.Rules.{IsName, AreNames, IsSide, IsMeasure, IsRule, IsKind, IsOnBoard, IsWordByte}
use Rattle.board_parts.specs.declared.limits.TheConstants.{MAX_LAYERS, MAX_CLASSES, MAX_KINDS, MAX_NETS, MAX_PINS, MAX_BLOCKS}
use Rattle.board_parts.specs.declared.parts.Block.{Block}
use Rattle.board_parts.specs.declared.parts.Keepout.{Keepout}
use Rattle.board_parts.specs.declared.parts.Pin.{Pin}
use Rattle.board_parts.specs.declared.parts.Rule.{Rule}
use Rattle.board_parts.specs.declared.parts.ViaKind.{ViaKind}
use Rattle.board_reader.specs.declared.drafts.Draft.{Draft}
use Rattle.board_reader.specs.declared.drafts.Heading.{Heading}
use Rattle.board_reader.specs.declared.forms.Stage.TheVariants.{Start, Commands}
use Rattle.board_reader.specs.declared.gaps.Clear.{Clear}
use Rattle.board_reader.specs.declared.tables.Entry.{Entry}
use Rattle.board_reader.specs.Checks.{is_complete}
use Rattle.board_reader.specs.Drafts.{nth_kind}

-- a word that the line of a board may hold
pub record IsWord (w : List ℕ) : Type 0 where
  pub some : 0 < length w
  pub each : All IsWordByte w

pub record IsHeading (h : Heading) : Type 0 where
  pub name : IsName h.name
  pub width : IsSide (pos h.width)
  pub height : IsSide (pos h.height)

pub record AreTables (given_rules : List (Entry Rule)) (given_clears : List Clear) (given_pads : List (Entry ℤ)) : Type 0 where
  pub rules : All (λ (e : Entry Rule). IsRule e.value) given_rules
  pub clears : All (λ (e : Clear). IsMeasure e.gap) given_clears
  pub pads : All (λ (e : Entry ℤ). IsMeasure e.value) given_pads

pub record AreKinds (layers kind_names : ℕ) (kinds : List ViaKind) : Type 0 where
  pub even : length kinds ≡ kind_names
  pub each : All (IsKind layers) kinds

-- an inner pad of a kind that has a layer between its two
pub record IsInnerOf (kinds : List ViaKind) (e : Entry ℤ) : Type 0 where
  pub known : e.row < length kinds
  pub deep : (nth_kind kinds e.row).last.0 ≢ (nth_kind kinds e.row).first.0 + 1
  pub half : IsMeasure e.value

pub record AreNets (classes net_names : ℕ) (net_classes : List ClassId) : Type 0 where
  pub even : length net_classes ≡ net_names
  pub each : All (λ (c : ClassId). c.0 < classes) net_classes

pub record IsBlockOf (layers : ℕ) (h : Heading) (k : Block) : Type 0 where
  pub layer : k.layer.0 < layers
  pub area : IsOnBoard (pos h.width) (pos h.height) k.area

pub record IsKeepoutOf (layers : ℕ) (h : Heading) (k : Keepout) : Type 0 where
  pub layer : k.layer.0 < layers
  pub area : IsOnBoard (pos h.width) (pos h.height) k.area

pub record AreBlocks (layers : ℕ) (h : Heading) (blocks : List Block) (keepouts : List Keepout) : Type 0 where
  pub few : length blocks + length keepouts ≤ MAX_BLOCKS
  pub each : All (IsBlockOf layers h) blocks
  pub each_keepout : All (IsKeepoutOf layers h) keepouts

pub record IsPinOf (layers nets : ℕ) (h : Heading) (p : Pin) : Type 0 where
  pub net : p.net.0 < nets
  pub area : IsOnBoard (pos h.width) (pos h.height) p.area
  pub order : p.first.0 ≤ p.last.0
  pub layer : p.last.0 < layers

pub record ArePins (layers nets : ℕ) (h : Heading) (pins : List Pin) : Type 0 where
  pub few : length pins ≤ MAX_PINS
  pub each : All (IsPinOf layers nets h) pins

-- what lines that break no rule say
pub record IsDraft (d : Draft) : Type 0 where
  pub layers : AreNames MAX_LAYERS d.layers
  pub classes : AreNames MAX_CLASSES d.classes
  pub kind_names : AreNames MAX_KINDS d.kind_names
  pub net_names : AreNames MAX_NETS d.net_names
  pub tables : AreTables d.rules d.clears d.pads
  pub kinds : AreKinds (length d.layers) (length d.kind_names) d.kinds
  pub inners : All (IsInnerOf d.kinds) d.inners
  pub nets : AreNets (length d.classes) (length d.net_names) d.net_classes
  pub blocks : AreBlocks (length d.layers) d.heading d.blocks d.keepouts
  pub pins : ArePins (length d.layers) (length d.net_names) d.heading d.pins
  pub empty : d.stage ≡ Start → (d.blocks ≡ []) × ((d.keepouts ≡ []) × (d.pins ≡ []))
  pub heading : d.stage ≢ Start → IsHeading d.heading
  pub complete : d.stage ≡ Commands → is_complete d ≡ true
