-- What each line of a text of replies says, and how it stands in the words of the line.
use Rattle.std.specs.Prelude.{◌≡◌, ℕ, ◌+◌, ◌<◌, ◌≤◌, List, [], ◌∷◌, ◌++◌, length, Option, Some, None, codes, decimal}
use Rattle.std.specs.Fmt.{signed_decimal}
use Rattle.geo_rect.specs.declared.ids.ClassId.{ClassId}
use Rattle.geo_rect.specs.declared.ids.KindId.{KindId}
use Rattle.geo_rect.specs.declared.ids.Label.{Label}
use Rattle.geo_rect.specs.declared.ids.Label.TheVariants.{Free, One, Many}
use Rattle.geo_rect.specs.declared.ids.LayerId.{LayerId}
use Rattle.geo_rect.specs.declared.ids.NetId.{NetId}
use Rattle.geo_rect.specs.declared.ids.Node.{Node}
use Rattle.geo_rect.specs.declared.shapes.Rect.{Rect}
use Rattle.board_model.specs.declared.made.Leg.{Leg}
use Rattle.board_model.specs.declared.made.Leg.TheVariants as leg
use Rattle.board_parts.specs.declared.parts.BoardParts.{BoardParts}
use Rattle.board_model.specs.declared.shapes.Owned.{Owned}
use Rattle.board_model.specs.declared.shapes.Violation.{Violation}
use Rattle.board_model.specs.declared.shapes.Violation.TheVariants.{Close, Outline}
use Rattle.plane_core.specs.declared.strips.Strip.{Strip}
use Rattle.route_law.specs.declared.certs.Entry.{Entry}
use Rattle.route_law.specs.declared.certs.Origin.{Origin}
use Rattle.route_law.specs.declared.certs.Origin.TheVariants as origin
use Rattle.route_law.specs.Regular.{IsLayerOf, IsKindOf, IsNetOf, IsRegularNode, IsRegularLeg, IsRegularEntry, IsRegularViolation, IsRegularStrip}
use Rattle.route_law.specs.Routing.{conns_needed}
use Rattle.board_parts.specs.Lookup.{layer_name, class_name, kind_name, net_name}
use Rattle.reply_text.specs.Texts.{conn_line, at_line, leg_text, bound_text, cert_line, entry_text, none_line, route_line, all_line, rip_line, show_line, rules_line, violation_text, strips_line, strip_text}
use Rattle.reply_reader.specs.declared.heads.CertHead.{CertHead}
use Rattle.reply_reader.specs.declared.heads.ConnHead.{ConnHead}
use Rattle.reply_reader.specs.declared.heads.Head.{Head}
use Rattle.reply_reader.specs.declared.heads.Head.TheVariants as head
use Rattle.reply_reader.specs.declared.heads.NoneHead.{NoneHead}
use Rattle.reply_reader.specs.declared.heads.RouteHead.{RouteHead}
use Rattle.reply_reader.specs.InRange.{IsCount, IsCost, IsBoundInRange, IsNodeInRange, IsLegInRange, IsEntryInRange, IsViolationInRange, IsStripInRange}
use Rattle.reply_reader.specs.Fields.{IsForm, IsClassOf, IsAreaAt, IsNodeAt}
use Rattle.reply_reader.specs.Forms.{word}
use Rattle.reply_reader.specs.Parts.{Part}

-- the first line of a connection
abbrev pub conn_head : Part ConnHead
conn_head = record {
  IsGood = λ (h : ConnHead). IsCount h.number × IsCost h.cost × IsCount h.legs;
  text = λ (h : ConnHead). conn_line h.number h.cost h.legs;
}

abbrev pub conn_head_words : ConnHead → List (List ℕ)
conn_head_words h = codes "conn" ∷ decimal h.number ∷ decimal h.cost ∷ decimal h.legs ∷ []

pub record IsConnHeadAt (words : List (List ℕ)) (h : ConnHead) : Type 0 where
  pub form : IsForm words (codes "conn") 4
  pub number : (decimal h.number ≡ word words 1) × IsCount h.number
  pub cost : (decimal h.cost ≡ word words 2) × IsCost h.cost
  pub legs : (decimal h.legs ≡ word words 3) × IsCount h.legs

-- the line of the node in which a connection starts
abbrev pub start : BoardParts → Part Node
start b = record {
  IsGood = λ (v : Node). IsRegularNode b v × IsNodeInRange v;
  text = at_line b;
}

abbrev pub node_words : BoardParts → Node → List (List ℕ)
node_words b v = signed_decimal v.x ∷ signed_decimal v.y ∷ layer_name b v.layer ∷ []

abbrev pub start_words : BoardParts → Node → List (List ℕ)
start_words b v = codes "at" ∷ node_words b v

pub record IsStartAt (b : BoardParts) (words : List (List ℕ)) (v : Node) : Type 0 where
  pub form : IsForm words (codes "at") 4
  pub node : IsNodeAt b words 1 v

-- the line of a leg
abbrev pub leg_line : BoardParts → Part Leg
leg_line b = record {
  IsGood = λ (l : Leg). IsRegularLeg b l × IsLegInRange l;
  text = leg_text b;
}

abbrev pub leg_words : BoardParts → Leg → List (List ℕ)
leg_words b (leg.Wire v) = codes "to" ∷ node_words b v
leg_words b (leg.Via k v) = codes "via" ∷ kind_name b k ∷ node_words b v

pub record IsWireAt (b : BoardParts) (words : List (List ℕ)) (v : Node) : Type 0 where
  pub form : IsForm words (codes "to") 4
  pub node : IsNodeAt b words 1 v

pub record IsViaAt (b : BoardParts) (words : List (List ℕ)) (k : KindId) (v : Node) : Type 0 where
  pub form : IsForm words (codes "via") 5
  pub known : IsKindOf b k
  pub kind : kind_name b k ≡ word words 1
  pub node : IsNodeAt b words 2 v

abbrev pub IsLegAt : BoardParts → List (List ℕ) → Leg → Type 0
IsLegAt b words (leg.Wire v) = IsWireAt b words v
IsLegAt b words (leg.Via k v) = IsViaAt b words k v

-- the first line of a certificate
abbrev pub cert_head : Part CertHead
cert_head = record {
  IsGood = λ (h : CertHead). IsBoundInRange h.bound × IsCount h.entries;
  text = λ (h : CertHead). cert_line h.bound h.entries;
}

abbrev pub cert_head_words : CertHead → List (List ℕ)
cert_head_words h = codes "cert" ∷ bound_text h.bound ∷ decimal h.entries ∷ []

pub record IsBoundAt (words : List (List ℕ)) (place : ℕ) (bound : Option ℕ) : Type 0 where
  pub spelled : bound_text bound ≡ word words place
  pub range : IsBoundInRange bound

pub record IsCertHeadAt (words : List (List ℕ)) (h : CertHead) : Type 0 where
  pub form : IsForm words (codes "cert") 3
  pub bound : IsBoundAt words 1 h.bound
  pub entries : (decimal h.entries ≡ word words 2) × IsCount h.entries

-- the line of an entry
abbrev pub entry_line : BoardParts → Part Entry
entry_line b = record {
  IsGood = λ (e : Entry). IsRegularEntry b e × IsEntryInRange e;
  text = entry_text b;
}

abbrev pub area_words : Rect → List (List ℕ)
area_words r = signed_decimal r.x0 ∷ signed_decimal r.y0 ∷ signed_decimal r.x1 ∷ signed_decimal r.y1 ∷ []

abbrev pub entry_rest_words : BoardParts → Entry → List (List ℕ)
entry_rest_words b e = layer_name b e.layer ∷ area_words e.strip ++ (area_words e.front ++ decimal e.cost ∷ [])

abbrev pub origin_words : BoardParts → Origin → List (List ℕ)
origin_words b (origin.Source n) = codes "src" ∷ decimal n ∷ []
origin_words b (origin.Step n) = codes "step" ∷ decimal n ∷ []
origin_words b (origin.Via n k) = codes "via" ∷ decimal n ∷ kind_name b k ∷ []

abbrev pub entry_words : BoardParts → Entry → List (List ℕ)
entry_words b e = origin_words b e.origin ++ entry_rest_words b e

-- how many words tell where an entry comes from
abbrev pub origin_place : Origin → ℕ
origin_place (origin.Source n) = 2
origin_place (origin.Step n) = 2
origin_place (origin.Via n k) = 3

pub record IsViaOriginAt (b : BoardParts) (words : List (List ℕ)) (n : ℕ) (k : KindId) : Type 0 where
  pub form : IsForm words (codes "via") 13
  pub entry : (decimal n ≡ word words 1) × IsCount n
  pub known : IsKindOf b k
  pub kind : kind_name b k ≡ word words 2

pub record IsOriginOfAt (words : List (List ℕ)) (keyword : List ℕ) (n : ℕ) : Type 0 where
  pub form : IsForm words keyword 12
  pub number : (decimal n ≡ word words 1) × IsCount n

abbrev pub IsOriginAt : BoardParts → List (List ℕ) → Origin → Type 0
IsOriginAt b words (origin.Source n) = IsOriginOfAt words (codes "src") n
IsOriginAt b words (origin.Step n) = IsOriginOfAt words (codes "step") n
IsOriginAt b words (origin.Via n k) = IsViaOriginAt b words n k

-- the layer, the strip, the front and the cost of an entry, from a place on
pub record IsEntryRestAt (b : BoardParts) (words : List (List ℕ)) (place : ℕ) (e : Entry) : Type 0 where
  pub known : IsLayerOf b e.layer
  pub layer : layer_name b e.layer ≡ word words place
  pub strip : IsAreaAt words (place + 1) e.strip
  pub front : IsAreaAt words (place + 5) e.front
  pub cost : (decimal e.cost ≡ word words (place + 9)) × IsCost e.cost

pub record IsEntryAt (b : BoardParts) (words : List (List ℕ)) (e : Entry) : Type 0 where
  pub source : IsOriginAt b words e.origin
  pub rest : IsEntryRestAt b words (origin_place e.origin) e

-- the line of the connection that cannot be made
abbrev pub none_head : Part NoneHead
none_head = record {
  IsGood = λ (h : NoneHead). IsCount h.number;
  text = λ (h : NoneHead). none_line h.number;
}

abbrev pub none_head_words : NoneHead → List (List ℕ)
none_head_words h = codes "none" ∷ decimal h.number ∷ []

pub record IsNoneHeadAt (words : List (List ℕ)) (h : NoneHead) : Type 0 where
  pub form : IsForm words (codes "none") 2
  pub number : (decimal h.number ≡ word words 1) × IsCount h.number

-- the first line of what came of a net
abbrev pub IsRouteHead : BoardParts → RouteHead → Type 0
IsRouteHead b h = IsNetOf b h.net × IsCount h.missing × (h.made ≤ h.missing)

abbrev pub route_head : BoardParts → Part RouteHead
route_head b = record {
  IsGood = IsRouteHead b;
  text = λ (h : RouteHead). route_line b h.net h.made h.missing;
}

abbrev pub route_head_words : BoardParts → RouteHead → List (List ℕ)
route_head_words b h = codes "route" ∷ net_name b h.net ∷ codes "made" ∷ decimal h.made ∷ codes "of" ∷ decimal h.missing ∷ []

pub record IsNetAt (b : BoardParts) (words : List (List ℕ)) (place : ℕ) (n : NetId) : Type 0 where
  pub known : IsNetOf b n
  pub net : net_name b n ≡ word words place

pub record IsRouteHeadAt (b : BoardParts) (words : List (List ℕ)) (h : RouteHead) : Type 0 where
  pub form : IsForm words (codes "route") 6
  pub net : IsNetAt b words 1 h.net
  pub made_word : word words 2 ≡ codes "made"
  pub made : decimal h.made ≡ word words 3
  pub of_word : word words 4 ≡ codes "of"
  pub missing : (decimal h.missing ≡ word words 5) × IsCount h.missing
  pub order : h.made ≤ h.missing

-- the first line of a reply
abbrev pub IsHead : BoardParts → Head → Type 0
IsHead b (head.Route h) = IsRouteHead b h
IsHead b (head.All n) = IsCount n × (0 < n → 0 < length b.net_names)
IsHead b (head.Rip n removed) = IsNetOf b n × IsCount removed
IsHead b (head.Show n needed conns) = IsNetOf b n × (needed ≡ conns_needed b n) × IsCount needed × IsCount conns
IsHead b (head.Rules violations) = IsCount violations
IsHead b (head.Strips l c strips) = IsLayerOf b l × IsClassOf b c × IsCount strips

abbrev pub head_text : BoardParts → Head → List ℕ
head_text b (head.Route h) = route_line b h.net h.made h.missing
head_text b (head.All n) = all_line n
head_text b (head.Rip n removed) = rip_line b n removed
head_text b (head.Show n needed conns) = show_line b n conns needed
head_text b (head.Rules violations) = rules_line violations
head_text b (head.Strips l c strips) = strips_line b l c strips

abbrev pub head_line : BoardParts → Part Head
head_line b = record { IsGood = IsHead b; text = head_text b }

abbrev pub head_words : BoardParts → Head → List (List ℕ)
head_words b (head.Route h) = route_head_words b h
head_words b (head.All n) = codes "all" ∷ decimal n ∷ []
head_words b (head.Rip n removed) = codes "rip" ∷ net_name b n ∷ codes "removed" ∷ decimal removed ∷ []
head_words b (head.Show n needed conns) = codes "show" ∷ net_name b n ∷ decimal conns ∷ codes "of" ∷ decimal needed ∷ []
head_words b (head.Rules violations) = codes "rules" ∷ decimal violations ∷ []
head_words b (head.Strips l c strips) = codes "strips" ∷ layer_name b l ∷ class_name b c ∷ decimal strips ∷ []

pub record IsAllAt (b : BoardParts) (words : List (List ℕ)) (n : ℕ) : Type 0 where
  pub form : IsForm words (codes "all") 2
  pub number : (decimal n ≡ word words 1) × IsCount n
  pub some : 0 < n → 0 < length b.net_names

pub record IsRipAt (b : BoardParts) (words : List (List ℕ)) (n : NetId) (removed : ℕ) : Type 0 where
  pub form : IsForm words (codes "rip") 4
  pub net : IsNetAt b words 1 n
  pub removed_word : word words 2 ≡ codes "removed"
  pub number : (decimal removed ≡ word words 3) × IsCount removed

pub record IsShowAt (b : BoardParts) (words : List (List ℕ)) (n : NetId) (needed conns : ℕ) : Type 0 where
  pub form : IsForm words (codes "show") 5
  pub net : IsNetAt b words 1 n
  pub number : (decimal conns ≡ word words 2) × IsCount conns
  pub of_word : word words 3 ≡ codes "of"
  pub all : (decimal needed ≡ word words 4) × IsCount needed
  pub board : needed ≡ conns_needed b n

pub record IsRulesAt (words : List (List ℕ)) (violations : ℕ) : Type 0 where
  pub form : IsForm words (codes "rules") 2
  pub number : (decimal violations ≡ word words 1) × IsCount violations

pub record IsStripsAt (b : BoardParts) (words : List (List ℕ)) (l : LayerId) (c : ClassId) (strips : ℕ) : Type 0 where
  pub form : IsForm words (codes "strips") 4
  pub known : IsLayerOf b l
  pub layer : layer_name b l ≡ word words 1
  pub known_class : IsClassOf b c
  pub class : class_name b c ≡ word words 2
  pub number : (decimal strips ≡ word words 3) × IsCount strips

abbrev pub IsHeadAt : BoardParts → List (List ℕ) → Head → Type 0
IsHeadAt b words (head.Route h) = IsRouteHeadAt b words h
IsHeadAt b words (head.All n) = IsAllAt b words n
IsHeadAt b words (head.Rip n removed) = IsRipAt b words n removed
IsHeadAt b words (head.Show n needed conns) = IsShowAt b words n needed conns
IsHeadAt b words (head.Rules violations) = IsRulesAt words violations
IsHeadAt b words (head.Strips l c strips) = IsStripsAt b words l c strips

-- the line of a violation
abbrev pub violation_line : BoardParts → Part Violation
violation_line b = record {
  IsGood = λ (v : Violation). IsRegularViolation b v × IsViolationInRange v;
  text = violation_text b;
}

abbrev pub owner_words : BoardParts → Option NetId → List (List ℕ)
owner_words b None = codes "block" ∷ []
owner_words b (Some n) = codes "net" ∷ net_name b n ∷ []

abbrev pub owned_words : BoardParts → Owned → List (List ℕ)
owned_words b o = owner_words b o.owner ++ area_words o.area

abbrev pub violation_words : BoardParts → Violation → List (List ℕ)
violation_words b (Close l o q) = codes "close" ∷ layer_name b l ∷ owned_words b o ++ owned_words b q
violation_words b (Outline l o) = codes "outline" ∷ layer_name b l ∷ owned_words b o

-- how many words tell whose a shape is
abbrev pub owner_place : Option NetId → ℕ
owner_place None = 1
owner_place (Some n) = 2

abbrev pub IsOwnerAt : BoardParts → List (List ℕ) → ℕ → Option NetId → Type 0
IsOwnerAt b words place None = word words place ≡ codes "block"
IsOwnerAt b words place (Some n) = (word words place ≡ codes "net") × IsNetAt b words (place + 1) n

pub record IsOwnedAt (b : BoardParts) (words : List (List ℕ)) (place : ℕ) (o : Owned) : Type 0 where
  pub whose : IsOwnerAt b words place o.owner
  pub where_it_is : IsAreaAt words (place + owner_place o.owner) o.area

-- where the shape after this one stands
abbrev pub after_owned : ℕ → Owned → ℕ
after_owned place o = place + owner_place o.owner + 4

pub record IsCloseAt (b : BoardParts) (words : List (List ℕ)) (l : LayerId) (o q : Owned) : Type 0 where
  pub keyword : word words 0 ≡ codes "close"
  pub known : IsLayerOf b l
  pub layer : layer_name b l ≡ word words 1
  pub first : IsOwnedAt b words 2 o
  pub second : IsOwnedAt b words (after_owned 2 o) q
  pub long : length words ≡ after_owned (after_owned 2 o) q

pub record IsOutlineAt (b : BoardParts) (words : List (List ℕ)) (l : LayerId) (o : Owned) : Type 0 where
  pub keyword : word words 0 ≡ codes "outline"
  pub known : IsLayerOf b l
  pub layer : layer_name b l ≡ word words 1
  pub shape : IsOwnedAt b words 2 o
  pub long : length words ≡ after_owned 2 o

abbrev pub IsViolationAt : BoardParts → List (List ℕ) → Violation → Type 0
IsViolationAt b words (Close l o q) = IsCloseAt b words l o q
IsViolationAt b words (Outline l o) = IsOutlineAt b words l o

-- the line of a strip
abbrev pub strip_line : BoardParts → Part Strip
strip_line b = record {
  IsGood = λ (s : Strip). IsRegularStrip b s × IsStripInRange s;
  text = strip_text b;
}

abbrev pub label_words : BoardParts → Label → List (List ℕ)
label_words b Free = codes "free" ∷ []
label_words b (One n) = codes "one" ∷ net_name b n ∷ []
label_words b Many = codes "many" ∷ []

abbrev pub strip_words : BoardParts → Strip → List (List ℕ)
strip_words b s = label_words b s.label ++ area_words s.area

-- how many words tell for whom points are free
abbrev pub label_place : Label → ℕ
label_place Free = 1
label_place (One n) = 2
label_place Many = 1

pub record IsOneAt (b : BoardParts) (words : List (List ℕ)) (n : NetId) : Type 0 where
  pub form : IsForm words (codes "one") 6
  pub net : IsNetAt b words 1 n

abbrev pub IsLabelAt : BoardParts → List (List ℕ) → Label → Type 0
IsLabelAt b words Free = IsForm words (codes "free") 5
IsLabelAt b words (One n) = IsOneAt b words n
IsLabelAt b words Many = IsForm words (codes "many") 5

pub record IsStripAt (b : BoardParts) (words : List (List ℕ)) (s : Strip) : Type 0 where
  pub free : IsLabelAt b words s.label
  pub area : IsAreaAt words (label_place s.label) s.area
