-- What the iteration gives first stands under its number.
use Rattle.tile_store.proofs.Listed.{first_is_present}
use Rattle.tile_store.proofs.stores.TileStore.some_id.Goals as goal

pub returns-clause-some : goal.returns-clause-some
returns-clause-some c =
    first_is_present _ c.self.inside.tiles c.self.inside.spare c.in_ok-key.key c.in_ok-key.field-0-1.now c.iter.result c.next.new.self c.self.view_is c.iter.ensures.rest c.in_ok-key.ensures.steps
