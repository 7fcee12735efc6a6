-- The planes of a state are the ground that the state's shapes leave to each net.
use Rattle.std.proofs.Common.{◌<◌, ℤ, pos, ◌≤ℤ◌, List, ◌↔◌, length, refl, arith}
use Rattle.std.proofs.lemmas.Int.{ints}
use Rattle.geo_rect.specs.declared.ids.NetId.{NetId}
use Rattle.geo_rect.specs.declared.shapes.Point.{Point}
use Rattle.geo_rect.specs.Axis.{HasNumber}
use Rattle.geo_rect.specs.Plane.{HasPoint, lone}
use Rattle.board_parts.specs.declared.parts.BoardParts.{BoardParts}
use Rattle.board_model.specs.declared.shapes.Shape.{Shape}
use Rattle.board_parts.specs.Rules.{IsBoard, IsSide, IsOnBoard}
use Rattle.plane_set.specs.declared.families.Family.TheVariants.{Wires, Vias}
use Rattle.plane_set.specs.Standing.{PlaneTable, StandsFor}
use Rattle.route_law.specs.Boards.{IsGroundOf}
use Rattle.strip_moves.specs.Grounds.{board_area, ground_of, upto}
use Rattle.strip_moves.proofs.Grounds.{is_ground, label_there, wire_plane_found, via_plane_found}

upto_low : (n v : ℤ) → HasNumber (upto n) v → pos 0 ≤ℤ v
upto_low n v h = h.from

upto_high : (n v : ℤ) → IsSide n → HasNumber (upto n) v → v ≤ℤ n
upto_high n v side h = let f = side.from in let t = h.to in omega (arith, ints)

upto_has : (n v : ℤ) → pos 0 ≤ℤ v → v ≤ℤ n → HasNumber (upto n) v
upto_has n v f t = record { from = f; to = omega (arith, ints) }

-- the points of the board's area are those of the board
pub board_points : (b : BoardParts) → IsBoard b → (p : Point) → HasPoint (board_area b) p ↔ IsOnBoard b.width b.height (lone p)
board_points b board p = (
  λ h.
      let l = upto_low b.width p.x h.across in
      let d = upto_low b.height p.y h.up in
      let r = upto_high b.width p.x board.width h.across in
      let u = upto_high b.height p.y board.height h.up in
      record { left = omega (arith, ints); below = omega (arith, ints); right = omega (arith, ints); above = omega (arith, ints) },
  λ h.
      let l = h.left in
      let d = h.below in
      let r = h.right in
      let u = h.above in
      record { across = upto_has b.width p.x (omega (arith, ints)) (omega (arith, ints)); up = upto_has b.height p.y (omega (arith, ints)) (omega (arith, ints)) },
)

pub ground_of_shapes : (b : BoardParts) (board : IsBoard b) (n : NetId) (known : n.0 < length b.net_names) (shapes : List Shape) (set : PlaneTable) → StandsFor b shapes set → IsGroundOf b shapes n (ground_of b set n)
ground_of_shapes b board n known shapes set h = record {
  proper = is_ground b board n known set h.planes;
  net = refl;
  points = board_points b board;
  layers = refl;
  wires = λ l p k i.
      let size = h.planes.layers in
      label_there b board n known Wires shapes set.wires l.0 h.wires (omega arith) (wire_plane_found b board n known set h.planes l.0 k) p i;
  kinds = refl;
  kind = λ k i. refl;
  vias = λ k p i q.
      let size = h.planes.kinds in
      label_there b board n known Vias shapes set.vias k.0 h.vias (omega arith) (via_plane_found b board n known set h.planes k.0 i) p q;
}
