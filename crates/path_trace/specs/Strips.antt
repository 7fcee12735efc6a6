-- The strips of entries in which a walk stays.
use Rattle.std.specs.Prelude.{◌≡◌, List, [], ◌∷◌, Contains}
use Rattle.geo_rect.specs.declared.ids.Node.{Node}
use Rattle.geo_rect.specs.Plane.{HasPoint}
use Rattle.board_model.specs.declared.made.Leg.{Leg}
use Rattle.board_model.specs.Shapes.{place_of, end_of}
use Rattle.route_law.specs.declared.certs.Entry.{Entry}

-- the node is on the layer of the entry and in its strip
pub record IsInStripOf (e : Entry) (v : Node) : Type 0 where
  pub same_layer : v.layer ≡ e.layer
  pub here : HasPoint e.strip (place_of v)

-- the node is in the strip of one of the entries
pub record IsInSomeStrip (entries : List Entry) (v : Node) : Type 0 where
  pub entry : Entry
  pub listed : Contains entries entry
  pub inside : IsInStripOf entry v

-- each node of the steps from v is in the strip of one of the entries
abbrev pub StaysInStrips : List Entry → Node → List Leg → Type 0
StaysInStrips entries v [] = IsInSomeStrip entries v
StaysInStrips entries v (step ∷ steps) = IsInSomeStrip entries v × StaysInStrips entries (end_of step) steps
