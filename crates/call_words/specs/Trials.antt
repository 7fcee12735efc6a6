-- The trial of what a call asks for against a board: the first rule that its names and numbers break, or what they stand for.
use Rattle.std.specs.Prelude.{◌≡◌, ◌≢◌, ℕ, ◌<◌, ◌≤◌, pos, ◌≤ℤ◌, List, ◌∷◌, length, map, All, AllPairs, Contains, ⊤}
use Rattle.geo_rect.specs.declared.ids.LayerId.{LayerId}
use Rattle.geo_rect.specs.declared.ids.NetId.{NetId}
use Rattle.geo_rect.specs.declared.shapes.Rect.{Rect}
use Rattle.board_parts.specs.declared.parts.BoardParts.{BoardParts}
use Rattle.board_parts.specs.Lookup.{layer_name, net_name}
use Rattle.board_parts.specs.Rules.{IsOnBoard}
use Rattle.board_reader.specs.declared.refusals.RefusalKind.{RefusalKind}
use Rattle.board_reader.specs.declared.refusals.RefusalKind.TheVariants.{OutOfRange, UnknownName, TwiceNamed, BadRect}
use Rattle.call_words.specs.declared.plans.Plan.{Plan}
use Rattle.call_words.specs.declared.plans.Plan.TheVariants as plan
use Rattle.call_words.specs.declared.plans.PlanError.{PlanError}
use Rattle.call_words.specs.declared.plans.PlanError.TheVariants.{Refused, NoMemory}
use Rattle.call_words.specs.declared.requests.Corners.{Corners}
use Rattle.call_words.specs.declared.subjects.Subject.{Subject}
use Rattle.call_words.specs.declared.subjects.Subject.TheVariants as subject
use Rattle.call_words.specs.Asked.{ReportAsked, Fill, Gerber, Trace, SequelAsked, Through, Auto}
use Rattle.call_words.specs.Numbers.{IsRounds}

-- both corners are points of the board
pub record AreOnBoard (b : BoardParts) (c : Corners) : Type 0 where
  pub x0 : pos c.x0 ≤ℤ b.width
  pub y0 : pos c.y0 ≤ℤ b.height
  pub x1 : pos c.x1 ≤ℤ b.width
  pub y1 : pos c.y1 ≤ℤ b.height

-- the first corner is the left one, and the lower one
pub record AreInOrder (c : Corners) : Type 0 where
  pub x : c.x0 ≤ c.x1
  pub y : c.y0 ≤ c.y1

-- the board has the nets and layers that a report names
abbrev pub HasNames : BoardParts → ReportAsked → Type 0
HasNames b (Fill net layer c) = Contains b.net_names net × Contains b.layers layer
HasNames b (Gerber layer) = Contains b.layers layer
HasNames b Trace = ⊤

-- the board has the corners of a report
abbrev pub HasCorners : BoardParts → ReportAsked → Type 0
HasCorners b (Fill net layer c) = AreOnBoard b c
HasCorners b (Gerber layer) = ⊤
HasCorners b Trace = ⊤

-- the corners of a report are in order
abbrev pub HasOrder : ReportAsked → Type 0
HasOrder (Fill net layer c) = AreInOrder c
HasOrder (Gerber layer) = ⊤
HasOrder Trace = ⊤

-- a report breaks no rule on this board
pub record IsSoundReport (b : BoardParts) (r : ReportAsked) : Type 0 where
  pub names : HasNames b r
  pub corners : HasCorners b r
  pub order : HasOrder r

-- the kind of the first rule that a report breaks on this board
abbrev pub IsReportFault : BoardParts → ReportAsked → RefusalKind → Type 0
IsReportFault b r UnknownName = HasNames b r → ⊥
IsReportFault b r OutOfRange = HasNames b r × (HasCorners b r → ⊥)
IsReportFault b r BadRect = HasNames b r × HasCorners b r × (HasOrder r → ⊥)
IsReportFault b r _ = ⊥

-- the board has the nets that a sequel names
abbrev pub HasNets : BoardParts → SequelAsked → Type 0
HasNets b (Through net others) = All (Contains b.net_names) (net ∷ others)
HasNets b (Auto rounds) = ⊤

-- a sequel names no net twice
abbrev pub NamesOnce : SequelAsked → Type 0
NamesOnce (Through net others) = AllPairs (λ a b. a ≢ b) (net ∷ others)
NamesOnce (Auto rounds) = ⊤

-- a sequel breaks no rule on this board
pub record IsSoundSequel (b : BoardParts) (s : SequelAsked) : Type 0 where
  pub nets : HasNets b s
  pub once : NamesOnce s

-- the kind of the first rule that a sequel breaks on this board
abbrev pub IsSequelFault : BoardParts → SequelAsked → RefusalKind → Type 0
IsSequelFault b s UnknownName = HasNets b s → ⊥
IsSequelFault b s TwiceNamed = HasNets b s × (NamesOnce s → ⊥)
IsSequelFault b s _ = ⊥

-- a plan was refused, with line 0, for the first rule that the sequel breaks; or there was no memory
abbrev pub IsRefusedPlan : BoardParts → SequelAsked → PlanError → Type 0
IsRefusedPlan b s (Refused r) = (r.line ≡ 0) × IsSequelFault b s r.kind
IsRefusedPlan b s NoMemory = ⊤

-- the rectangle has these corners
pub record IsZone (c : Corners) (zone : Rect) : Type 0 where
  pub x0 : zone.x0 ≡ pos c.x0
  pub y0 : zone.y0 ≡ pos c.y0
  pub x1 : zone.x1 ≡ pos c.x1
  pub y1 : zone.y1 ≡ pos c.y1

-- the net and the layer have these names, and the rectangle has these corners
pub record IsFilling (b : BoardParts) (net layer : List ℕ) (c : Corners) (n : NetId) (l : LayerId) (zone : Rect) : Type 0 where
  pub of_net : net_name b n ≡ net
  pub of_layer : layer_name b l ≡ layer
  pub of_corners : IsZone c zone

-- what a report is made on stands for what is asked
abbrev pub IsSubject : BoardParts → ReportAsked → Subject → Type 0
IsSubject b (Fill net layer c) (subject.Fill n l zone) = IsFilling b net layer c n l zone
IsSubject b (Gerber layer) (subject.Gerber l) = layer_name b l ≡ layer
IsSubject b Trace subject.Trace = ⊤
IsSubject b _ _ = ⊥

-- a net and a layer of the board, and a rectangle on it
pub record IsPlaceOf (b : BoardParts) (n : NetId) (l : LayerId) (zone : Rect) : Type 0 where
  pub net : n.0 < length b.net_names
  pub layer : l.0 < length b.layers
  pub on_board : IsOnBoard b.width b.height zone

-- what a report is made on is of the board
abbrev pub IsSubjectOf : BoardParts → Subject → Type 0
IsSubjectOf b (subject.Fill n l zone) = IsPlaceOf b n l zone
IsSubjectOf b (subject.Gerber l) = l.0 < length b.layers
IsSubjectOf b subject.Trace = ⊤

-- the net and the others have these names
pub record AreNamed (b : BoardParts) (net : List ℕ) (others : List (List ℕ)) (n : NetId) (ids : List NetId) : Type 0 where
  pub of_net : net_name b n ≡ net
  pub of_others : map (net_name b) ids ≡ others

-- a plan stands for what is asked
abbrev pub IsPlan : BoardParts → SequelAsked → Plan → Type 0
IsPlan b (Through net others) (plan.Through n ids) = AreNamed b net others n ids
IsPlan b (Auto rounds) (plan.Auto n) = n ≡ rounds
IsPlan b _ _ = ⊥

-- the nets are nets of the board, all different
pub record AreNets (b : BoardParts) (n : NetId) (ids : List NetId) : Type 0 where
  pub net : n.0 < length b.net_names
  pub others : All (λ (m : NetId). m.0 < length b.net_names) ids
  pub apart : AllPairs (λ (p q : NetId). p ≢ q) (n ∷ ids)

-- a plan is of the board, and its number of rounds is in its range
abbrev pub IsPlanOf : BoardParts → Plan → Type 0
IsPlanOf b (plan.Through n ids) = AreNets b n ids
IsPlanOf b (plan.Auto n) = IsRounds n
