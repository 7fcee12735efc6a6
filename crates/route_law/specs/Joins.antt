-- When a connection is a walk that joins the sources and the targets.
use Rattle.std.specs.Prelude.{◌≡◌, List}
use Rattle.geo_rect.specs.declared.ids.Spot.{Spot}
use Rattle.board_model.specs.declared.made.Conn.{Conn}
use Rattle.board_parts.specs.declared.parts.BoardParts.{BoardParts}
use Rattle.board_model.specs.WellFormed.{IsWellFormed}
use Rattle.route_law.specs.Connections.{steps_of}
use Rattle.route_law.specs.Ground.{Ground}
use Rattle.route_law.specs.Walks.{IsJoiningWalk, IsLowerBound, walk_cost}

-- the connection is well formed, its steps are a walk from a source box to a target box, and its cost is
-- that of the walk
pub record IsConnection (b : BoardParts) (g : Ground) (conn : Conn) (sources targets : List Spot) : Type 0 where
  pub well_formed : IsWellFormed b conn
  pub walk : IsJoiningWalk g sources targets conn.start (steps_of conn)
  pub cost : walk_cost g (steps_of conn) ≡ conn.cost

-- the connection is a walk from a source box to a target box, at its own cost, and no such walk costs less
pub record IsLeastConnection (b : BoardParts) (g : Ground) (sources targets : List Spot) (conn : Conn) : Type 0 where
  pub connection : IsConnection b g conn sources targets
  pub least : IsLowerBound g sources targets conn.cost
