-- The layers that a kind of via joins with a layer, and the moves to one of them.
use Rattle.std.specs.Prelude.{◌≡◌, ◌≢◌}
use Rattle.geo_rect.specs.declared.ids.KindId.{KindId}
use Rattle.geo_rect.specs.declared.ids.LayerId.{LayerId}
use Rattle.board_parts.specs.declared.parts.ViaKind.{ViaKind}
use Rattle.board_model.specs.Labels.{IsInSpan}
use Rattle.route_law.specs.Ground.{Ground}
use Rattle.route_law.specs.Moves.{Arrival, IsViaMove}

-- a via of the kind joins l with another layer, m
pub record IsOtherLayer (k : ViaKind) (l m : LayerId) : Type 0 where
  pub from_span : IsInSpan k l
  pub to_span : IsInSpan k m
  pub other : m ≢ l

-- b comes from a to the layer l, through a via of kind k
pub record IsViaMoveTo (g : Ground) (k : KindId) (a : Arrival) (l : LayerId) (b : Arrival) : Type 0 where
  pub to_layer : b.layer ≡ l
  pub move : IsViaMove g k a b
