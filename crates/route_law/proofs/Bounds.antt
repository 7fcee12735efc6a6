-- What a certificate says of a node: some entry, or the bound, keeps the cost of ways to it from below.
use Rattle.std.proofs.Common.{ℕ, ◌≡◌, ◌+◌, ◌≤◌, ◌⊎◌, inl, inr, refl, sym, subst, ◌∙◌, List, Contains, Option, Some, None, arith}
use Rattle.std.specs.Prelude.{IsSomeAnd}
use Rattle.geo_rect.specs.declared.ids.Node.{Node}
use Rattle.geo_rect.specs.declared.ids.Spot.{Spot}
use Rattle.geo_rect.specs.declared.shapes.Point.{Point}
use Rattle.geo_rect.specs.declared.shapes.Rect.{Rect}
use Rattle.geo_rect.specs.Distance.{IsAway}
use Rattle.geo_rect.specs.Plane.{HasPoint}
use Rattle.geo_rect.proofs.Distances.{find_distance, distance_triangle}
use Rattle.geo_rect.proofs.Nearest.{find_away, apart-self}
use Rattle.geo_rect.proofs.Reaches.{reach_covers}
use Rattle.board_model.specs.Shapes.{place_of}
use Rattle.route_law.specs.declared.certs.Cert.{Cert}
use Rattle.route_law.specs.declared.certs.Entry.{Entry}
use Rattle.route_law.specs.Covers.{IsTooLate, IsCovered}
use Rattle.route_law.specs.Ground.{Ground, IsGround, IsPassableNode}
use Rattle.route_law.specs.Moves.{Arrival}
use Rattle.route_law.specs.Right.{IsStart, IsRight}
use Rattle.route_law.specs.Walks.{HasNode}
use Rattle.route_law.proofs.Doors.{find_meet}
use Rattle.route_law.proofs.Passed.{wire_at}

-- an entry whose strip has the node comes to it for c or less
pub record IsNearEntry (entries : List Entry) (v : Node) (c : ℕ) : Type 0 where
  pub entry : Entry
  pub listed : Contains entries entry
  pub same_layer : entry.layer ≡ v.layer
  pub has_point : HasPoint entry.strip (place_of v)
  pub way : ℕ
  pub away : IsAway entry.front (place_of v) way
  pub enough : entry.cost + way ≤ c

-- there is a bound, and from the node to any target box it is too far to stay below it after a cost of c
pub record IsFarFromTargets (targets : List Spot) (bound : Option ℕ) (v : Node) (c : ℕ) : Type 0 where
  pub least : ℕ
  pub is_bound : bound ≡ Some least
  pub far : (box : Spot) (n : ℕ) → Contains targets box → IsAway box.area (place_of v) n → least ≤ c + n

-- no way to the node that costs c can be the start of a walk below the bound that the entries do not know
abbrev pub IsBounded : List Spot → Cert → Node → ℕ → Type 0
IsBounded targets cert v c = IsNearEntry cert.entries v c ⊎ IsFarFromTargets targets cert.bound v c

pub bounded_more : (targets : List Spot) (cert : Cert) (v : Node) (c d : ℕ) → c ≤ d → IsBounded targets cert v c → IsBounded targets cert v d
bounded_more targets cert v c d m (inl e) =
    inl (record { entry = e.entry; listed = e.listed; same_layer = e.same_layer; has_point = e.has_point; way = e.way; away = e.away; enough = omega (arith, m, e.enough) })
bounded_more targets cert v c d m (inr f) =
    inr (record { least = f.least; is_bound = f.is_bound; far = λ box n k a. omega (arith, m, f.far box n k a) })

some_with : (o : Option ℕ) (P : ℕ → Type 0) → IsSomeAnd o P → (d : ℕ) × (o ≡ Some d) × P d
some_with None P h = absurd h
some_with (Some d) P h = (d, refl, h)

too_late_far : (targets : List Spot) (d : ℕ) (a : Arrival) (p : Point) (n : ℕ) (box : Spot) (m : ℕ) → IsTooLate targets d a → IsAway a.front p n → Contains targets box → IsAway box.area p m → d ≤ (a.cost + n) + m
too_late_far targets d a p n box m t w k x =
    let way = find_distance a.front box.area in
    omega (arith, t.late, t.is_low.least box way.0 k way.1, distance_triangle a.front box.area p n m way.0 w x way.1)

-- a covered arrival bounds each node of its strip as an entry would
pub covered_bounds : (targets : List Spot) (cert : Cert) (a : Arrival) (v : Node) (n : ℕ) → IsCovered targets cert a → a.layer ≡ v.layer → HasPoint a.strip (place_of v) → IsAway a.front (place_of v) n → IsBounded targets cert v (a.cost + n)
covered_bounds targets cert a v n (inl r) l h w =
    let k = find_away r.entry.front (place_of v) in
    inl (record {
      entry = r.entry;
      listed = r.listed;
      same_layer = r.same_layer ∙ l;
      has_point = subst (λ (t : Rect). HasPoint t (place_of v)) (sym r.same_strip) h;
      way = k.0;
      away = k.1;
      enough = omega (arith, r.enough, reach_covers r.entry.front a.front (place_of v) k.0 r.way n k.1 r.reach w);
    })
covered_bounds targets cert a v n (inr s) l h w =
    let t = some_with cert.bound (λ d. IsTooLate targets d a) s in
    inr (record { least = t.0; is_bound = t.1; far = λ box m k x. too_late_far targets t.0 a (place_of v) n box m t.2 w k x })

-- a rectangle is no way off from a point that it has
pub away_inside : (r : Rect) (p : Point) → HasPoint r p → IsAway r p 0
away_inside r p h = record { reached = (p, h, apart-self p); least = λ q k. omega arith }

-- a node of a source box is bounded by 0
pub start_bounded : (g : Ground) (sources targets : List Spot) (cert : Cert) (v : Node) → IsGround g → IsRight g sources targets cert → HasNode sources v → IsPassableNode g v → IsBounded targets cert v 0
start_bounded g sources targets cert v ground right s p =
    let t = wire_at g v ground p in
    let m = find_meet t.area s.box.area (place_of v) t.has_point s.has_point in
    let a : Arrival = record { layer = v.layer; strip = t.area; front = m.0; cost = 0 } in
    let starts : IsStart g s.box a = record { same_layer = sym s.same_layer; passable = record { on_layer = p.on_layer; strip = t.strip }; common = m.1; cost = refl } in
    covered_bounds targets cert a v 0 (right.complete.starts s.box a s.listed starts) refl t.has_point (away_inside m.0 (place_of v) (m.1.all (place_of v) t.has_point s.has_point))
