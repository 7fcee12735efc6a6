-- At a target, what bounds a node is the certificate's bound or more.
use Rattle.std.proofs.Common.{ℕ, ◌≡◌, ◌+◌, ◌≤◌, inl, inr, refl, sym, ◌∙◌, List, Option, Some, None, arith}
use Rattle.geo_rect.specs.declared.ids.Node.{Node}
use Rattle.geo_rect.specs.declared.ids.Spot.{Spot}
use Rattle.geo_rect.proofs.Distances.{find_distance}
use Rattle.board_model.specs.Shapes.{place_of}
use Rattle.route_law.specs.declared.certs.Cert.{Cert}
use Rattle.route_law.specs.declared.certs.Entry.{Entry}
use Rattle.route_law.specs.Right.{IsEnd, IsLeastEnd, HasNoEnd}
use Rattle.route_law.specs.Walks.{HasNode}
use Rattle.route_law.proofs.Bounds.{IsNearEntry, IsFarFromTargets, IsBounded, away_inside}
use Rattle.route_law.proofs.Doors.{find_meet}

near_end : (targets : List Spot) (entries : List Entry) (v : Node) (c d : ℕ) → IsLeastEnd targets entries d → HasNode targets v → IsNearEntry entries v c → d ≤ c
near_end targets entries v c d l h e =
    let m = find_meet e.entry.strip h.box.area (place_of v) e.has_point h.has_point in
    let n = find_distance e.entry.front m.0 in
    let r = e.away.reached in
    let end : IsEnd targets e.entry (e.entry.cost + n.0) = record {
      box = h.box;
      listed = h.listed;
      same_layer = h.same_layer ∙ sym e.same_layer;
      common = m.0;
      is_common = m.1;
      way = n.0;
      distance = n.1;
      sum = refl;
    } in
    omega (arith, e.enough, l.least e.entry (e.entry.cost + n.0) e.listed end, n.1.least r.0 (place_of v) r.1 (m.1.all (place_of v) e.has_point h.has_point), r.2)

far_end : (targets : List Spot) (bound : Option ℕ) (v : Node) (c d : ℕ) → bound ≡ Some d → HasNode targets v → IsFarFromTargets targets bound v c → d ≤ c
far_end targets bound v c d e h f =
    let k = f.far h.box 0 h.listed (away_inside h.box.area (place_of v) h.has_point) in
    let same : d ≡ f.least = (let i = f.is_bound in cc) in
    omega (arith, k, same)

pub end_bound : (targets : List Spot) (cert : Cert) (v : Node) (c d : ℕ) → cert.bound ≡ Some d → IsLeastEnd targets cert.entries d → HasNode targets v → IsBounded targets cert v c → d ≤ c
end_bound targets cert v c d e l h (inl n) = near_end targets cert.entries v c d l h n
end_bound targets cert v c d e l h (inr f) = far_end targets cert.bound v c d e h f

pub no_end : (targets : List Spot) (cert : Cert) (v : Node) (c : ℕ) → cert.bound ≡ None → HasNoEnd targets cert.entries → HasNode targets v → IsBounded targets cert v c → ⊥
no_end targets cert v c e n h (inl b) = n b.entry h.box b.listed h.listed (h.same_layer ∙ sym b.same_layer) (place_of v) b.has_point h.has_point
no_end targets cert v c e n h (inr f) = let i = f.is_bound in cc
