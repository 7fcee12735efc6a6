-- The strips that a wire plane of a state finds in its whole region are the ones that a reply must list.
use Rattle.std.proofs.Common.{◌≡◌, ◌↔◌, List, sym, subst, arith}
use Rattle.std.proofs.lemmas.Int.{ints, clamps}
use Rattle.geo_rect.specs.declared.ids.ClassId.{ClassId}
use Rattle.geo_rect.specs.declared.ids.LayerId.{LayerId}
use Rattle.geo_rect.specs.declared.shapes.Point.{Point}
use Rattle.geo_rect.specs.declared.shapes.Rect.{Rect}
use Rattle.geo_rect.specs.Plane.{HasPoint, lone}
use Rattle.geo_rect.proofs.Parts.{same_points}
use Rattle.board_model.specs.declared.made.Conn.{Conn}
use Rattle.board_parts.specs.declared.parts.BoardParts.{BoardParts}
use Rattle.board_model.specs.Labels.{wire_plane, label_among}
use Rattle.board_parts.specs.Rules.{IsOnBoard}
use Rattle.board_model.specs.Shapes.{state_shapes}
use Rattle.plane_core.specs.declared.strips.Strip.{Strip}
use Rattle.plane_core.specs.Choice.{IsChoice, Meets}
use Rattle.plane_core.specs.Labels.{label_of}
use Rattle.plane_core.specs.Strips.{AreStrips}
use Rattle.plane_core.proofs.Labelled.{strips_agree}
use Rattle.plane_core.proofs.Listed.{same_strips}
use Rattle.plane_core.proofs.Whole.{whole_choice}
use Rattle.plane_set.specs.Drawings.{Drawing, IsBoardArea, Shows}
use Rattle.route_law.specs.Steps.{AreWireStrips}

-- the points of the board's area are those of the board
area_points : (b : BoardParts) (r : Rect) → IsBoardArea b r → (p : Point) → HasPoint r p ↔ IsOnBoard b.width b.height (lone p)
area_points b r h p =
    let x0 = h.left in
    let y0 = h.below in
    let x1 = h.right in
    let y1 = h.above in (
      λ k.
          let a = k.across.from in
          let c = k.across.to in
          let d = k.up.from in
          let e = k.up.to in
          record { left = omega (arith, ints, clamps); below = omega (arith, ints, clamps); right = omega (arith, ints, clamps); above = omega (arith, ints, clamps) },
      λ k.
          let a = k.left in
          let c = k.below in
          let d = k.right in
          let e = k.above in
          record {
            across = record { from = omega (arith, ints, clamps); to = omega (arith, ints, clamps) };
            up = record { from = omega (arith, ints, clamps); to = omega (arith, ints, clamps) };
          },
    )

module _ (b : BoardParts) (lists : List (List Conn)) (l : LayerId) (c : ClassId) (d : Drawing) (area : Rect) (found : List Strip) (shows : Shows b (wire_plane b l c) (state_shapes b lists) d) (whole : area ≡ d.region) (choice : IsChoice d.strips (λ s. Meets s.area area) found) where
  found_strips : AreStrips d.region (label_among b (wire_plane b l c) (state_shapes b lists)) found
  found_strips =
      let inside : IsChoice d.strips (λ s. Meets s.area d.region) found = subst (λ (q : Rect). IsChoice d.strips (λ s. Meets s.area q) found) whole choice in
      let all : AreStrips d.region (label_among b (wire_plane b l c) (state_shapes b lists)) d.strips =
      strips_agree d.region (label_of d.strips) (label_among b (wire_plane b l c) (state_shapes b lists)) d.strips (λ p h. sym (shows.labels p h)) shows.canonical in
      subst (λ (ss : List Strip). AreStrips d.region (label_among b (wire_plane b l c) (state_shapes b lists)) ss) (sym (whole_choice d.region (label_of d.strips) d.strips found shows.canonical inside)) all

  pub found_are_wire_strips : AreWireStrips b lists l c found
  found_are_wire_strips = record { area = d.region; points = area_points b d.region shows.region; strips_of_labels = found_strips }

  pub wire_strips_are_found : (strips : List Strip) → AreWireStrips b lists l c strips → strips ≡ found
  wire_strips_are_found strips h =
      let there = area_points b d.region shows.region in
      let same : h.area ≡ d.region = same_points h.area d.region (λ p k. (there p).1 ((h.points p).0 k)) (λ p k. (h.points p).1 ((there p).0 k)) in
      let P : Rect → Type 0 = λ r. AreStrips r (label_among b (wire_plane b l c) (state_shapes b lists)) strips in
      same_strips d.region (label_among b (wire_plane b l c) (state_shapes b lists)) strips found (subst P same h.strips_of_labels) found_strips
