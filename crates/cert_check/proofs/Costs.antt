-- Of a list that has room in memory each cost is small.
use Rattle.std.proofs.Common.{◌^◌, ◌<◌, List, All, length, get_or, arith}
use Rattle.std.proofs.lemmas.Option.{slice_get-get_or}
use Rattle.geo_rect.specs.declared.ids.NetId.{NetId}
use Rattle.geo_rect.specs.declared.ids.Spot.{Spot}
use Rattle.board_parts.specs.declared.parts.BoardParts.{BoardParts}
use Rattle.board_parts.specs.Rules.{IsBoard}
use Rattle.plane_set.specs.Standing.{PlaneTable, HasPlanes}
use Rattle.route_law.specs.declared.certs.Entry.{Entry}
use Rattle.strip_moves.specs.Grounds.{ground_of}
use Rattle.strip_moves.proofs.Costs.{cost_by_number}
use Rattle.cert_check.specs.Fronts.{HasSmallCost}
use Rattle.cert_check.specs.Stages.{AreFounded}

pub small_costs : (b : BoardParts) (set : PlaneTable) (n : NetId) (board : IsBoard b) (planes : HasPlanes b set) (known : n.0 < length b.net_names) (sources : List Spot) (entries : List Entry) → AreFounded (ground_of b set n) sources entries → length entries < 2 ^ 64 → All HasSmallCost entries
small_costs b set n board planes known sources entries f l = λ k d i.
    let is = slice_get-get_or entries k d i in
    omega (arith, l, i, cost_by_number b set n board planes known sources entries f.placed f.founded k (get_or entries k d) is)
