-- The moves by vias of a kind, to one layer after the other.
use Rattle.std.proofs.Common.{ℕ, ◌≡◌, ◌+◌, ◌<◌, ◌⊎◌, inl, inr, ap, List, arith}
use Rattle.geo_rect.specs.declared.ids.KindId.{KindId}
use Rattle.geo_rect.specs.declared.ids.LayerId.{LayerId}
use Rattle.board_parts.specs.Lookup.{layer_at}
use Rattle.route_law.specs.declared.certs.Entry.{Entry}
use Rattle.route_law.specs.declared.certs.Origin.{Origin}
use Rattle.route_law.specs.Ground.{Ground}
use Rattle.route_law.specs.Moves.{Arrival, IsViaMove}
use Rattle.strip_moves.specs.Gains.{Gains}
use Rattle.strip_moves.specs.Spans.{IsViaMoveTo}
use Rattle.strip_moves.proofs.AllMoves.{last_or_before}
use Rattle.strip_moves.proofs.Gains.{gains_none, gains_as, gains_both}

-- b comes from a to one of the first n layers, through a via of kind k
pub record IsViaMoveBelow (g : Ground) (k : KindId) (a : Arrival) (n : ℕ) (b : Arrival) : Type 0 where
  pub below : b.layer.0 < n
  pub move : IsViaMove g k a b

module _ (g : Ground) (k : KindId) (a : Arrival) (o : Origin) where
  pub no_layer_yet : (es : List Entry) → Gains es es o (IsViaMoveBelow g k a 0)
  no_layer_yet es = gains_none o es (IsViaMoveBelow g k a 0) (λ b h. let none = h.below in omega (arith, none))

  either_below : (n : ℕ) (b : Arrival) → IsViaMoveBelow g k a n b ⊎ IsViaMoveTo g k a (layer_at n) b → IsViaMoveBelow g k a (n + 1) b
  either_below n b (inl h) = record { below = omega (arith, h.below); move = h.move }
  either_below n b (inr h) = record { below = let e = ap (λ (l : LayerId). l.0) h.to_layer in omega (arith, e); move = h.move }

  below_either : (n : ℕ) (b : Arrival) → IsViaMoveBelow g k a (n + 1) b → IsViaMoveBelow g k a n b ⊎ IsViaMoveTo g k a (layer_at n) b
  below_either n b h =
      elim (last_or_before b.layer.0 n h.below) [
        | inl less ↦ inl (record { below = less; move = h.move })
        | inr same ↦ inr (record { to_layer = ap layer_at same; move = h.move })
      ]

  pub one_layer_more : (old mid new : List Entry) (n : ℕ) → Gains old mid o (IsViaMoveBelow g k a n) → Gains mid new o (IsViaMoveTo g k a (layer_at n)) → Gains old new o (IsViaMoveBelow g k a (n + 1))
  one_layer_more old mid new n before step =
      gains_as o old new (λ b. IsViaMoveBelow g k a n b ⊎ IsViaMoveTo g k a (layer_at n) b) (IsViaMoveBelow g k a (n + 1)) (either_below n) (below_either n)
      (gains_both o old mid new (IsViaMoveBelow g k a n) (IsViaMoveTo g k a (layer_at n)) before step)

  pub all_layers : (old new : List Entry) (n : ℕ) → n ≡ g.layers → Gains old new o (IsViaMoveBelow g k a n) → Gains old new o (IsViaMove g k a)
  all_layers old new n e h =
      gains_as o old new (IsViaMoveBelow g k a n) (IsViaMove g k a) (λ b m. m.move)
      (λ b m. let on = m.passable.on_layer in record { below = omega (arith, on, e); move = m }) h
