-- What lies on the board has coordinates that are not large.
use Rattle.std.proofs.Common.{◌≡◌, ◌≢◌, ◌<◌, List, All, length, get_or}
use Rattle.std.proofs.lemmas.Option.{slice_get-get_or}
use Rattle.geo_rect.specs.declared.ids.NetId.{NetId}
use Rattle.geo_rect.specs.Plane.{ShareNoPoint}
use Rattle.board_parts.specs.declared.parts.BoardParts.{BoardParts}
use Rattle.board_parts.specs.Rules.{IsBoard}
use Rattle.plane_set.specs.Standing.{PlaneTable, HasPlanes}
use Rattle.route_law.specs.declared.certs.Entry.{Entry}
use Rattle.route_law.specs.Right.{IsWellPlaced}
use Rattle.strip_moves.specs.Grounds.{ground_of}
use Rattle.strip_moves.proofs.Bounded.{the_ground, strip_bounded, front_bounded}
use Rattle.cert_check.specs.Fronts.{IsBoundedEntry}
use Rattle.cert_check.specs.Stages.{ArePlaced}
use Rattle.cert_check.proofs.Placing.{strips_apart}

module _ (b : BoardParts) (set : PlaneTable) (n : NetId) (board : IsBoard b) (planes : HasPlanes b set) (known : n.0 < length b.net_names) where
  pub placed_bounded : (e : Entry) → IsWellPlaced (ground_of b set n) e → IsBoundedEntry e
  placed_bounded e p =
      record { strip = strip_bounded b set n board planes known e p; front = front_bounded b set n board planes known e p }

  pub all_placed_bounded : (entries : List Entry) → ArePlaced (ground_of b set n) entries → All IsBoundedEntry entries
  all_placed_bounded entries p = λ k d l. placed_bounded (get_or entries k d) (p k (get_or entries k d) (slice_get-get_or entries k d l))

  pub all_apart : (entries : List Entry) (e : Entry) → ArePlaced (ground_of b set n) entries → IsWellPlaced (ground_of b set n) e → All (λ (x : Entry). e.layer ≡ x.layer → e.strip ≢ x.strip → ShareNoPoint x.strip e.strip) entries
  all_apart entries e p h = λ k d l. strips_apart (ground_of b set n) (get_or entries k d) e (the_ground b set n board planes known) (p k (get_or entries k d) (slice_get-get_or entries k d l)) h
