-- The ground of a net on a board, and a right certificate over it.
use Rattle.std.proofs.Common.{ℕ, ◌≡◌, ◌+◌, ◌<◌, refl, sym, ap, subst, ◌∙◌, inl, inr, List, [], Some, length, arith}
use Rattle.std.specs.Prelude.{slice_get}
use Rattle.std.proofs.lemmas.Int.{ints}
use Rattle.std.proofs.lemmas.Option.{same_Some, slice_get_cases}
use Rattle.geo_rect.specs.declared.ids.NetId.{NetId}
use Rattle.geo_rect.specs.declared.ids.Node.{Node}
use Rattle.geo_rect.specs.declared.ids.Spot.{Spot}
use Rattle.geo_rect.specs.declared.shapes.Point.{Point}
use Rattle.geo_rect.specs.Distance.{IsAway}
use Rattle.geo_rect.specs.Plane.{HasPoint}
use Rattle.geo_rect.proofs.Nearest.{away_one, find_away}
use Rattle.board_model.specs.declared.made.Conn.{Conn}
use Rattle.board_model.specs.declared.made.Leg.{Leg}
use Rattle.board_parts.specs.declared.parts.BoardParts.{BoardParts}
use Rattle.board_parts.specs.Rules.{IsBoard}
use Rattle.board_model.specs.Shapes.{place_of}
use Rattle.board_model.specs.WellFormed.{IsPlace, IsWellFormed}
use Rattle.plane_set.specs.Standing.{PlaneTable, HasPlanes}
use Rattle.route_law.specs.declared.certs.Cert.{Cert}
use Rattle.route_law.specs.declared.certs.Entry.{Entry}
use Rattle.route_law.specs.Connections.{steps_of, steps_of_legs, cost_of_legs}
use Rattle.route_law.specs.Ground.{Ground}
use Rattle.route_law.specs.Right.{IsRight}
use Rattle.route_law.specs.Walks.{IsWalk, HasNode, last_node, walk_cost}
use Rattle.route_law.proofs.Joining.{walk_cost-legs}
use Rattle.strip_moves.specs.Grounds.{board_area, ground_of}
use Rattle.strip_moves.proofs.Grounds.{is_ground}
use Rattle.path_trace.specs.declared.paths.Path.{Path}
use Rattle.path_trace.specs.Lines.{HasOnlyTurns}
use Rattle.path_trace.specs.Paths.{legs_of, IsBoardGround, IsPath}
use Rattle.path_trace.specs.Strips.{IsInStripOf, StaysInStrips}
use Rattle.path_trace.specs.Traces.{IsSound, IsTrace, IsWhole}
use Rattle.path_trace.proofs.Backwards.{listed_at}
use Rattle.path_trace.proofs.Grows.{passable_at, corner_at}

is_place : (b : BoardParts) (p : Point) → IsBoard b → HasPoint (board_area b) p → IsPlace p
is_place b p board h =
    let w = board.width in
    let t = board.height in
    let a = h.across in
    let u = h.up in
    record {
      across = record { from = omega (arith, ints, a.from); to = omega (arith, ints, a.to, w.from, w.to) };
      up = record { from = omega (arith, ints, u.from); to = omega (arith, ints, u.to, t.from, t.to) };
    }

pub board_ground : (b : BoardParts) (n : NetId) (set : PlaneTable) → IsBoard b → n.0 < length b.net_names → HasPlanes b set → IsBoardGround b (ground_of b set n)
board_ground b n set board known h = record {
  proper = is_ground b board n known set h;
  layers = refl;
  kinds = refl;
  kind = λ k. refl;
  places = λ p i. is_place b p board i;
}

pub is_sound : (b : BoardParts) (n : NetId) (set : PlaneTable) (sources targets : List Spot) (cert : Cert) → IsBoard b → n.0 < length b.net_names → HasPlanes b set → IsRight (ground_of b set n) sources targets cert → IsSound b (ground_of b set n) sources cert.entries
is_sound b n set sources targets cert board known h right = record { ground = board_ground b n set board known h; placed = right.placed; founded = right.founded }

-- the path without legs
pub at_end : (b : BoardParts) (g : Ground) (sources : List Spot) (entries : List Entry) (n : ℕ) (e : Entry) (way : ℕ) (v : Node) (p : Path) → IsSound b g sources entries → slice_get entries n ≡ Some e → IsInStripOf e v → IsAway e.front (place_of v) way → p.start ≡ v → legs_of p ≡ [] → IsTrace b g entries v (e.cost + way) n p
at_end b g sources entries n e way v p sound i inside away start none =
    let passes = passable_at g e.layer e.strip v sound.ground.proper (sound.placed e (listed_at entries n e i)).passable inside.same_layer inside.here in
    let path : IsPath b g v v [] 0 = record {
      corner = corner_at b g v sound.ground passes;
      form = tt;
      turns = tt;
      walk = passes;
      stops = refl;
      ends = refl;
      cost = refl;
    } in
    let held : StaysInStrips entries v [] = record { entry = e; listed = listed_at entries n e i; inside = inside } in
    let placed : IsPath b g v p.start [] 0 = subst (λ (x : Node). IsPath b g v x [] 0) (sym start) path in
    record {
      entry = e;
      numbered = i;
      inside = subst (λ (x : Node). IsInStripOf e x) (sym start) inside;
      way = way;
      away = subst (λ (x : Node). IsAway e.front (place_of x) way) (sym start) away;
      made = 0;
      path = subst (λ (legs : List Leg). IsPath b g v p.start legs 0) (sym none) placed;
      sum = omega arith;
      strips = subst (λ (legs : List Leg). StaysInStrips entries p.start (steps_of_legs p.start legs)) (sym none) (subst (λ (x : Node). StaysInStrips entries x []) (sym start) held);
    }

-- a whole path that costs what the entry of the number promises for the node
pub record IsPromised (b : BoardParts) (g : Ground) (sources : List Spot) (entries : List Entry) (n : ℕ) (v : Node) (p : Path) : Type 0 where
  pub entry : Entry
  pub numbered : slice_get entries n ≡ Some entry
  pub way : ℕ
  pub away : IsAway entry.front (place_of v) way
  pub whole : IsWhole b g sources entries v (entry.cost + way) p

abbrev pub BringsBack : List Entry → ℕ → Path → Path → Type 0
BringsBack entries n old new = (b : BoardParts) (g : Ground) (sources : List Spot) (goal : Node) (total : ℕ) → IsSound b g sources entries → IsTrace b g entries goal total n old → IsWhole b g sources entries goal total new

pub promised : (b : BoardParts) (g : Ground) (sources : List Spot) (entries : List Entry) (n : ℕ) (v : Node) (old new : Path) → IsSound b g sources entries → n < length entries → ((e : Entry) → slice_get entries n ≡ Some e → IsInStripOf e v) → old.start ≡ v → legs_of old ≡ [] → BringsBack entries n old new → IsPromised b g sources entries n v new
promised b g sources entries n v old new sound within inside start none back =
    elim ((slice_get_cases entries n).1) [
      | inl h ↦ (let e : Entry = h.0 in let far = find_away e.front (place_of v) in record {
        entry = e;
        numbered = h.2;
        way = far.0;
        away = far.1;
        whole = back b g sources v (e.cost + far.0) sound (at_end b g sources entries n e far.0 v old sound h.2 (inside e h.2) far.1 start none);
      })
      | inr h ↦ (let past = h.0 in absurd (omega arith))
    ]

-- what the connection of a whole path is
pub record IsTraced (b : BoardParts) (g : Ground) (sources : List Spot) (entries : List Entry) (n : ℕ) (v : Node) (conn : Conn) : Type 0 where
  pub well_formed : IsWellFormed b conn
  pub turns : HasOnlyTurns conn.start conn.legs
  pub starts : HasNode sources conn.start
  pub walk : IsWalk g conn.start (steps_of conn)
  pub strips : StaysInStrips entries conn.start (steps_of conn)
  pub stops : last_node conn.start (steps_of conn) ≡ v
  pub ends : last_node conn.start conn.legs ≡ v
  pub cost : walk_cost g (steps_of conn) ≡ conn.cost
  pub promise : (e : Entry) (m : ℕ) → slice_get entries n ≡ Some e → IsAway e.front (place_of v) m → conn.cost ≡ e.cost + m

pub traced : (b : BoardParts) (g : Ground) (sources : List Spot) (entries : List Entry) (n : ℕ) (v : Node) (p : Path) (conn : Conn) → IsPromised b g sources entries n v p → conn.start ≡ p.start → conn.legs ≡ legs_of p → conn.cost ≡ cost_of_legs g p.start (legs_of p) → IsTraced b g sources entries n v conn
traced b g sources entries n v p conn h start legs cost =
    let total : ℕ = h.entry.cost + h.way in
    let there : IsPath b g v conn.start (legs_of p) total = subst (λ (x : Node). IsPath b g v x (legs_of p) total) (sym start) h.whole.path in
    let path : IsPath b g v conn.start conn.legs total = subst (λ (xs : List Leg). IsPath b g v conn.start xs total) (sym legs) there in
    let held = subst (λ (x : Node). StaysInStrips entries x (steps_of_legs x (legs_of p))) (sym start) h.whole.strips in
    let costs : walk_cost g (steps_of_legs p.start (legs_of p)) ≡ total = h.whole.path.cost in
    let sum : conn.cost ≡ total = cost ∙ sym (walk_cost-legs g p.start (legs_of p)) ∙ costs in
    record {
      well_formed = record { start = path.corner; steps = path.form };
      turns = path.turns;
      starts = subst (λ (x : Node). HasNode sources x) (sym start) h.whole.starts;
      walk = path.walk;
      strips = subst (λ (legs : List Leg). StaysInStrips entries conn.start (steps_of_legs conn.start legs)) (sym legs) held;
      stops = path.stops;
      ends = path.ends;
      cost = path.cost ∙ sym sum;
      promise = λ e m i a.
          let is : h.entry ≡ e = same_Some h.entry e (sym h.numbered ∙ i) in
          let away : IsAway e.front (place_of v) h.way = subst (λ (x : Entry). IsAway x.front (place_of v) h.way) is h.away in
          let same : h.entry.cost ≡ e.cost = ap (λ (x : Entry). x.cost) is in
          omega (arith, sum, same, away_one e.front (place_of v) h.way m away a);
    }
