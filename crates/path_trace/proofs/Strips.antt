-- Walks that stay in the strips of entries.
use Rattle.std.proofs.Common.{ℕ, zero, suc, ℤ, ◌≡◌, sym, subst, List, [], ◌∷◌, ◌++◌, Contains, arith}
use Rattle.std.proofs.lemmas.Int.{ints}
use Rattle.geo_rect.specs.declared.ids.Node.{Node}
use Rattle.geo_rect.specs.declared.shapes.Interval.{Interval}
use Rattle.geo_rect.specs.declared.shapes.Rect.{Rect}
use Rattle.geo_rect.specs.Axis.{HasNumber}
use Rattle.geo_rect.specs.Plane.{HasPoint, columns, rows}
use Rattle.board_model.specs.declared.made.Leg.{Leg}
use Rattle.board_model.specs.Shapes.{place_of, end_of}
use Rattle.route_law.specs.declared.certs.Entry.{Entry}
use Rattle.route_law.specs.Connections.{toward, node_toward, units, steps_of_leg, steps_of_legs}
use Rattle.route_law.specs.Walks.{last_node}
use Rattle.route_law.proofs.Wires.{Toward, rises, falls, stays, toward_is}
use Rattle.path_trace.specs.Paths.{IsLedTo}
use Rattle.path_trace.specs.Strips.{IsInStripOf, IsInSomeStrip, StaysInStrips}

toward_within : (i : Interval) (x y t : ℤ) → Toward x y t → HasNumber i x → HasNumber i y → HasNumber i t
toward_within i x y t (rises h e) k l = record { from = omega (arith, ints); to = omega (arith, ints) }
toward_within i x y t (falls h e) k l = record { from = omega (arith, ints); to = omega (arith, ints) }
toward_within i x y t (stays h e) k l = record { from = omega (arith, ints); to = omega (arith, ints) }

unit_within : (t : Rect) (v w : Node) → HasPoint t (place_of v) → HasPoint t (place_of w) → HasPoint t (place_of (node_toward v w))
unit_within t v w h k = record {
  across = toward_within (columns t) v.x w.x (toward v.x w.x) (toward_is v.x w.x) h.across k.across;
  up = toward_within (rows t) v.y w.y (toward v.y w.y) (toward_is v.y w.y) h.up k.up;
}

-- the units of a wire stay in a strip that has both its ends
pub units_stay : (entries : List Entry) (e : Entry) (n : ℕ) (v w : Node) → Contains entries e → IsInStripOf e v → HasPoint e.strip (place_of w) → StaysInStrips entries v (units n v w)
units_stay entries e zero v w listed h k = record { entry = e; listed = listed; inside = h }
units_stay entries e (suc n) v w listed h k =
    let on : IsInStripOf e (node_toward v w) = record { same_layer = h.same_layer; here = unit_within e.strip v w h.here k } in
    let here : IsInSomeStrip entries v = record { entry = e; listed = listed; inside = h } in
    (here, units_stay entries e n (node_toward v w) w listed on k)

stays-append : (entries : List Entry) (v : Node) (first second : List Leg) → StaysInStrips entries v first → StaysInStrips entries (last_node v first) second → StaysInStrips entries v (first ++ second)
stays-append entries v [] second h k = k
stays-append entries v (step ∷ steps) second h k = (h.0, stays-append entries (end_of step) steps second h.1 k)

-- a path stays in strips if the leg put before it does
pub led_stays : (entries : List Entry) (u : Node) (leg : Leg) (legs more : List Leg) → IsLedTo u leg legs more → last_node u (steps_of_leg u leg) ≡ end_of leg → StaysInStrips entries u (steps_of_leg u leg) → StaysInStrips entries (end_of leg) (steps_of_legs (end_of leg) legs) → StaysInStrips entries u (steps_of_legs u more)
led_stays entries u leg legs more l last first rest =
    let onward = subst (λ (x : Node). StaysInStrips entries x (steps_of_legs (end_of leg) legs)) (sym last) rest in
    subst (λ (steps : List Leg). StaysInStrips entries u steps) (sym l.steps) (stays-append entries u (steps_of_leg u leg) (steps_of_legs (end_of leg) legs) first onward)
