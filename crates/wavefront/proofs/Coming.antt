-- That some entry of a list comes before an arrival.
use Rattle.std.proofs.Common.{ℕ, ◌≡◌, ◌+◌, ◌≤◌, ◌<◌, subst, sym, List, length, get_or, arith}
use Rattle.std.proofs.lemmas.List.Elements.{Contains-get_or}
use Rattle.geo_rect.specs.declared.shapes.Rect.{Rect}
use Rattle.geo_rect.specs.Distance.{IsReach}
use Rattle.geo_rect.proofs.Reaches.{reach_one}
use Rattle.route_law.specs.declared.certs.Entry.{Entry}
use Rattle.route_law.specs.Moves.{Arrival}
use Rattle.route_law.specs.Covers.{IsReachedBefore}
use Rattle.wavefront.specs.Reached.{ComesBefore, IsInTime}

-- the entry at a place comes before
pub reached_at : (xs : List Entry) (i : ℕ) (d : Entry) (a : Arrival) → i < length xs → ComesBefore (get_or xs i d) a → IsReachedBefore xs a
reached_at xs i d a l h = record {
  entry = get_or xs i d;
  listed = Contains-get_or xs i d l;
  same_layer = h.same_layer;
  same_strip = h.same_strip;
  way = h.in_time.way;
  reach = h.in_time.reach;
  enough = h.in_time.enough;
}

-- no entry comes before
pub none_reached : (xs : List Entry) (a : Arrival) → ((k : ℕ) (d : Entry) → k < length xs → ComesBefore (get_or xs k d) a → ⊥) → IsReachedBefore xs a → ⊥
none_reached xs a none h =
    let P : Entry → Type 0 = λ e. ComesBefore e a in
    let before : P h.entry = record { same_layer = h.same_layer; same_strip = h.same_strip; in_time = record { way = h.way; reach = h.reach; enough = h.enough } } in
    none h.listed.0 h.entry h.listed.1 (subst P (sym h.listed.2) before)

-- what the way is decides whether it is in time
pub in_time_by : (from to : Rect) (paid cost way : ℕ) → IsReach from to way → IsInTime from paid to cost → paid + way ≤ cost
in_time_by from to paid cost way r h = let e : h.way ≡ way = reach_one from to h.way way h.reach r in omega (arith, h.enough, e)
