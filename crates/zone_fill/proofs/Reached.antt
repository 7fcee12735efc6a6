-- What follows from the definition of a pour.
use Rattle.std.proofs.Common.{◌≡◌, List, ◌↔◌, sym, subst, ◌∙◌}
use Rattle.std.proofs.lemmas.List.Elements.{All-contains}
use Rattle.std.proofs.lemmas.Option.{same_Some}
use Rattle.geo_rect.specs.declared.ids.LayerId.{LayerId}
use Rattle.geo_rect.specs.declared.ids.NetId.{NetId}
use Rattle.geo_rect.specs.declared.shapes.Point.{Point}
use Rattle.geo_rect.specs.declared.shapes.Rect.{Rect}
use Rattle.geo_rect.specs.Plane.{HasPoint}
use Rattle.geo_rect.proofs.Parts.{same_points}
use Rattle.board_parts.specs.declared.parts.BoardParts.{BoardParts}
use Rattle.board_parts.specs.declared.parts.Keepout.{Keepout}
use Rattle.board_parts.specs.Lookup.{class_of}
use Rattle.board_model.specs.declared.shapes.Shape.{Shape}
use Rattle.board_model.specs.Labels.{Shuts, label_among, wire_plane}
use Rattle.board_model.proofs.LabelHits.{wire_hits, wire_shuts}
use Rattle.plane_core.specs.declared.strips.Strip.{Strip}
use Rattle.plane_core.specs.Choice.{IsChoice}
use Rattle.plane_core.specs.Strips.{AreStrips}
use Rattle.plane_core.proofs.Listed.{same_strips}
use Rattle.plane_core.proofs.Ordered.{same_members}
use Rattle.plane_set.specs.Joins.{IsInOneOf}
use Rattle.zone_fill.specs.Pour.{IsOpen, IsInOwnShape, IsReached, HasReached, AreStripsAmong, AreParts, IsPour}
use Rattle.zone_fill.specs.Rules.{KeepsRules}
use Rattle.zone_fill.proofs.Marked.{place_of_item, item_at_place}
use Rattle.zone_fill.proofs.Parts.{part_of_strip, strip_of_part, one_list_of_parts}
use Rattle.zone_fill.proofs.Sites.{open_left, open_there, strip_admits, open_held}
use Rattle.zone_fill.proofs.Ways.{reached_allowed, reached_within}

module _ (b : BoardParts) (shapes : List Shape) (n : NetId) (l : LayerId) (zone : Rect) where
  pub reached_open : (p : Point) → IsReached b shapes n l zone p → IsOpen b shapes n l zone p
  reached_open p h = reached_allowed (IsInOwnShape shapes n l) (IsOpen b shapes n l zone) p h

  -- an open point keeps the rules
  open_keeps : (p : Point) → IsOpen b shapes n l zone p → KeepsRules b shapes n l p
  open_keeps p o =
      let left = open_left b shapes n l zone p o in
      record {
        outline = left.allowed.fits;
        gaps = λ s c on other close. other (left.own s c ((wire_hits b (class_of b n) p s l).1 (on, close)));
        keepouts = λ k c on wires close.
            All-contains (λ (j : Keepout). ¬ Shuts (wire_plane b l (class_of b n)) p j) b.keepouts k left.allowed.clear c
            ((wire_shuts b (class_of b n) p k l).1 ((wires, on), close));
      }

  pub reached_keeps : (p : Point) → IsReached b shapes n l zone p → KeepsRules b shapes n l p
  reached_keeps p h = open_keeps p (reached_open p h)

  module _ (boxes : List Rect) (pour : IsPour b shapes n l zone boxes) where
    in_a_box : (p : Point) → IsReached b shapes n l zone p → IsInOneOf boxes p
    in_a_box p h =
        let o = reached_open p h in
        let held = open_held b shapes n l zone pour.strips pour.all p o in
        let chosen = pour.choice.complete held.strip held.listed (record { point = p; reached = h; has_point = held.has_point }) in
        let at = place_of_item pour.chosen held.strip chosen in
        let part = part_of_strip zone pour.chosen boxes at.0 held.strip pour.parts at.1 in
        let same : held.strip ≡ part.strip = same_Some held.strip part.strip (sym at.1 ∙ part.is_strip) in
        record {
          area = part.part;
          listed = item_at_place boxes at.0 part.part part.is_part;
          has_point = part.common.all p o.in_zone (subst (λ (s : Strip). HasPoint s.area p) same held.has_point);
        }

    reached_there : (p : Point) → IsInOneOf boxes p → IsReached b shapes n l zone p
    reached_there p h =
        let at = place_of_item boxes h.area h.listed in
        let part = strip_of_part zone pour.chosen boxes at.0 h.area pour.parts at.1 in
        let same : h.area ≡ part.part = same_Some h.area part.part (sym at.1 ∙ part.is_part) in
        let s = part.strip in
        let c = item_at_place pour.chosen at.0 s part.is_strip in
        let listed = pour.choice.listed s c in
        let w = pour.choice.wanted s c in
        let o = reached_open w.point w.reached in
        let admits = strip_admits b shapes n l zone pour.strips pour.all s w.point listed w.has_point o in
        reached_within (IsInOwnShape shapes n l) (IsOpen b shapes n l zone) part.part
        (λ q i. open_there b shapes n l zone pour.strips pour.all s q listed admits (part.common.second q i) (part.common.first q i))
        w.point p (part.common.all w.point o.in_zone w.has_point) (subst (λ (r : Rect). HasPoint r p) same h.has_point) w.reached

    pub pour_points : (p : Point) → IsReached b shapes n l zone p ↔ IsInOneOf boxes p
    pour_points p = (in_a_box p, reached_there p)

    pub pour_keeps : (p : Point) → IsInOneOf boxes p → KeepsRules b shapes n l p
    pour_keeps p h = reached_keeps p (reached_there p h)

  -- the strips of a wire plane are one list
  strips_one : (ss ts : List Strip) → AreStripsAmong b shapes l (class_of b n) ss → AreStripsAmong b shapes l (class_of b n) ts → ss ≡ ts
  strips_one ss ts h k =
      let label : Point → _ = label_among b (wire_plane b l (class_of b n)) shapes in
      let same : k.area ≡ h.area = same_points k.area h.area (λ p i. (h.points p).1 ((k.points p).0 i)) (λ p i. (k.points p).1 ((h.points p).0 i)) in
      same_strips h.area label ss ts h.strips_of_labels (subst (λ (r : Rect). AreStrips r label ts) same k.strips_of_labels)

  chosen_one : (ss : List Strip) (W : Strip → Type 0) (cs ds : List Strip) → IsChoice ss W cs → IsChoice ss W ds → cs ≡ ds
  chosen_one ss W cs ds h k =
      same_members cs ds h.in_order k.in_order (λ s c. k.complete s (h.listed s c) (h.wanted s c)) (λ s c. h.complete s (k.listed s c) (k.wanted s c))

  pub one_pour : (xs ys : List Rect) → IsPour b shapes n l zone xs → IsPour b shapes n l zone ys → xs ≡ ys
  one_pour xs ys h k =
      let W = HasReached b shapes n l zone in
      let strips : k.strips ≡ h.strips = strips_one k.strips h.strips k.all h.all in
      let chosen : k.chosen ≡ h.chosen = chosen_one h.strips W k.chosen h.chosen (subst (λ (ss : List Strip). IsChoice ss W k.chosen) strips k.choice) h.choice in
      one_list_of_parts zone h.chosen xs ys h.parts (subst (λ (cs : List Strip). AreParts zone cs ys) chosen k.parts)
