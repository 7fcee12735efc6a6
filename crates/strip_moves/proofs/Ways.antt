-- Through a door, over an edge and within a part there is one way on at most.
use Rattle.std.proofs.Common.{ℕ, ◌≡◌, ◌+◌, sym, ◌∙◌, ap, subst}
use Rattle.geo_rect.specs.declared.ids.LayerId.{LayerId}
use Rattle.geo_rect.specs.declared.shapes.Point.{Point}
use Rattle.geo_rect.specs.declared.shapes.Rect.{Rect}
use Rattle.geo_rect.specs.Edges.{IsEdge, HasNoEdge}
use Rattle.geo_rect.specs.Plane.{columns, rows, HasPoint, IsMeet, ShareNoPoint}
use Rattle.geo_rect.proofs.Clamps.{clamped_one}
use Rattle.geo_rect.proofs.Distances.{distance_one}
use Rattle.geo_rect.proofs.Parts.{low_in, same_points}
use Rattle.route_law.specs.Moves.{Arrival}
use Rattle.strip_moves.specs.declared.departures.Departure.{Departure}
use Rattle.strip_moves.specs.Ways.{IsThroughDoor, IsOverEdge, IsWithin}

made : LayerId → Rect → Rect → ℕ → Arrival
made l t f c = record { layer = l; strip = t; front = f; cost = c }

same_made : (l m : LayerId) (t u f g : Rect) (c d : ℕ) → l ≡ m → t ≡ u → f ≡ g → c ≡ d → made l t f c ≡ made m u g d
same_made l m t u f g c d el et ef ec = cc

pub same_arrival : (a b : Arrival) → a.layer ≡ b.layer → a.strip ≡ b.strip → a.front ≡ b.front → a.cost ≡ b.cost → a ≡ b
unfolding made
same_arrival a b el et ef ec = same_made a.layer b.layer a.strip b.strip a.front b.front a.cost b.cost el et ef ec

-- what two rectangles have in common is one rectangle
pub same_meet : (a b x y : Rect) → IsMeet a b x → IsMeet a b y → x ≡ y
same_meet a b x y m n =
    same_points x y
    (λ p k. n.all p (m.first p k) (m.second p k))
    (λ p k. m.all p (n.first p k) (n.second p k))

module _ (d : Departure) (u : Rect) where
  pub one_through : (door : Rect) (a b : Arrival) → IsThroughDoor d u door a → IsThroughDoor d u door b → a ≡ b
  one_through door a b h k =
      let way : h.way ≡ k.way = distance_one d.from.front door h.way k.way h.moved.distance k.moved.distance in
      same_arrival a b (h.to_layer ∙ sym k.to_layer) (h.to_strip ∙ sym k.to_strip)
      (clamped_one d.from.front door a.front b.front h.moved.clamped k.moved.clamped)
      (h.cost ∙ ap (λ (n : ℕ). d.from.cost + n + d.charge) way ∙ sym k.cost)

  door_same : (x y : Rect) (a : Arrival) → x ≡ y → IsThroughDoor d u x a → IsThroughDoor d u y a
  door_same x y a e h = subst (λ (z : Rect). IsThroughDoor d u z a) e h

  -- the one edge is the door
  pub over_this : (edge : Rect) (a : Arrival) → IsEdge d.from.strip u edge → IsOverEdge d u a → IsThroughDoor d u edge a
  over_this edge a e h =
      door_same h.edge edge a
      (same_points h.edge edge
      (λ p k. e.all p (h.is_edge.in_u p k) (h.is_edge.beside_t p k))
      (λ p k. h.is_edge.all p (e.in_u p k) (e.beside_t p k)))
      h.through

  pub within_this : (part common : Rect) (a : Arrival) → IsMeet part u common → IsWithin d part u a → IsThroughDoor d u common a
  within_this part common a m h = door_same h.common common a (same_meet part u h.common common h.is_common m) h.through

-- the lower left point of a rectangle
abbrev pub first_point : Rect → Point
first_point r = record { x = r.x0; y = r.y0 }

pub has_first : (r : Rect) → HasPoint r (first_point r)
has_first r = record { across = low_in (columns r); up = low_in (rows r) }

pub over_none : (d : Departure) (u : Rect) (a : Arrival) → HasNoEdge d.from.strip u → IsOverEdge d u a → ⊥
over_none d u a n h =
    let p = first_point h.edge in
    let k = has_first h.edge in
    n p (h.is_edge.in_u p k) (h.is_edge.beside_t p k)

pub within_none : (d : Departure) (part u : Rect) (a : Arrival) → ShareNoPoint part u → IsWithin d part u a → ⊥
within_none d part u a n h =
    let p = first_point h.common in
    let k = has_first h.common in
    n p (h.is_common.first p k) (h.is_common.second p k)
