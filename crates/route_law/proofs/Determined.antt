-- Where a start or a move goes decides its front and its cost.
use Rattle.std.proofs.Common.{ℕ, ◌≡◌, sym, ap, subst, ◌∙◌, arith}
use Rattle.geo_rect.specs.declared.ids.KindId.{KindId}
use Rattle.geo_rect.specs.declared.ids.LayerId.{LayerId}
use Rattle.geo_rect.specs.declared.ids.Spot.{Spot}
use Rattle.geo_rect.specs.declared.shapes.Rect.{Rect}
use Rattle.geo_rect.specs.Edges.{IsEdge}
use Rattle.geo_rect.specs.Plane.{IsMeet}
use Rattle.geo_rect.proofs.Clamps.{clamped_one}
use Rattle.geo_rect.proofs.Distances.{distance_one}
use Rattle.geo_rect.proofs.Parts.{same_points}
use Rattle.route_law.specs.Ground.{Ground}
use Rattle.route_law.specs.Moves.{Arrival, IsMeetOfThree, IsMovedFront, IsEdgeMove, IsViaMove}
use Rattle.route_law.specs.Right.{IsStart}

same_arrival : (a b : Arrival) → a.layer ≡ b.layer → a.strip ≡ b.strip → a.front ≡ b.front → a.cost ≡ b.cost → a ≡ b
same_arrival a b l s f c =
    let by_layer : LayerId → Arrival = λ x. record { layer = x; strip = a.strip; front = a.front; cost = a.cost } in
    let by_strip : Rect → Arrival = λ x. record { layer = b.layer; strip = x; front = a.front; cost = a.cost } in
    let by_front : Rect → Arrival = λ x. record { layer = b.layer; strip = b.strip; front = x; cost = a.cost } in
    let by_cost : ℕ → Arrival = λ x. record { layer = b.layer; strip = b.strip; front = b.front; cost = x } in
    ap by_layer l ∙ ap by_strip s ∙ ap by_front f ∙ ap by_cost c

one_meet : (a b r s : Rect) → IsMeet a b r → IsMeet a b s → r ≡ s
one_meet a b r s m n = same_points r s (λ p h. n.all p (m.first p h) (m.second p h)) (λ p h. m.all p (n.first p h) (n.second p h))

one_edge : (t u r s : Rect) → IsEdge t u r → IsEdge t u s → r ≡ s
one_edge t u r s m n = same_points r s (λ p h. n.all p (m.in_u p h) (m.beside_t p h)) (λ p h. m.all p (n.in_u p h) (n.beside_t p h))

one_meet_of_three : (a b c r s : Rect) → IsMeetOfThree a b c r → IsMeetOfThree a b c s → r ≡ s
one_meet_of_three a b c r s m n =
    let P : Rect → Type 0 = λ x. IsMeet x c r in
    one_meet n.shared c r s (subst P (one_meet a b m.shared n.shared m.of_two n.of_two) m.of_all) n.of_all

record IsSameMove (r s : Rect) (m n : ℕ) : Type 0 where
  front : r ≡ s
  way : m ≡ n

one_moved : (f d e r s : Rect) (m n : ℕ) → d ≡ e → IsMovedFront f d r m → IsMovedFront f e s n → IsSameMove r s m n
one_moved f d e r s m n same a b =
    let P : Rect → Type 0 = λ x. IsMovedFront f x r m in
    let c : IsMovedFront f e r m = subst P same a in
    record { front = clamped_one f e r s c.clamped b.clamped; way = distance_one f e m n c.distance b.distance }

pub one_start : (g : Ground) (box : Spot) (a b : Arrival) → IsStart g box a → IsStart g box b → a.strip ≡ b.strip → a ≡ b
one_start g box a b m n s =
    let P : Rect → Type 0 = λ x. IsMeet x box.area a.front in
    same_arrival a b (m.same_layer ∙ sym n.same_layer) s (one_meet b.strip box.area a.front b.front (subst P s m.common) n.common) (m.cost ∙ sym n.cost)

pub one_edge_move : (g : Ground) (from a b : Arrival) → IsEdgeMove g from a → IsEdgeMove g from b → a.strip ≡ b.strip → a ≡ b
one_edge_move g from a b m n s =
    let P : Rect → Type 0 = λ x. IsEdge from.strip x m.edge in
    let edges : m.edge ≡ n.edge = one_edge from.strip b.strip m.edge n.edge (subst P s m.is_edge) n.is_edge in
    let same = one_moved from.front m.edge n.edge a.front b.front m.way n.way edges m.moved n.moved in
    same_arrival a b (m.same_layer ∙ sym n.same_layer) s same.front (omega (arith, m.cost, n.cost, same.way))

pub one_via_move : (g : Ground) (k : KindId) (from a b : Arrival) (m : IsViaMove g k from a) (n : IsViaMove g k from b) → a.layer ≡ b.layer → a.strip ≡ b.strip → m.via_strip ≡ n.via_strip → a ≡ b
one_via_move g k from a b m n l s w =
    let P : Rect → Type 0 = λ x. IsMeetOfThree from.strip x a.strip m.common in
    let Q : Rect → Type 0 = λ x. IsMeetOfThree from.strip n.via_strip x m.common in
    let commons : m.common ≡ n.common = one_meet_of_three from.strip n.via_strip b.strip m.common n.common (subst Q s (subst P w m.is_common)) n.is_common in
    let same = one_moved from.front m.common n.common a.front b.front m.way n.way commons m.moved n.moved in
    same_arrival a b l s same.front (omega (arith, m.cost, n.cost, same.way))
