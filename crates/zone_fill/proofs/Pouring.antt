-- What is marked of the open parts of a zone is the pour.
use Rattle.std.proofs.Common.{◌≡◌, ℕ, ◌<◌, ◌≤◌, List, Some, length, sym, ◌∙◌, subst, arith}
use Rattle.std.specs.Prelude.{Contains, slice_get}
use Rattle.std.proofs.lemmas.Option.{same_Some}
use Rattle.geo_rect.specs.declared.ids.LayerId.{LayerId}
use Rattle.geo_rect.specs.declared.ids.NetId.{NetId}
use Rattle.geo_rect.specs.declared.shapes.Point.{Point}
use Rattle.geo_rect.specs.declared.shapes.Rect.{Rect}
use Rattle.geo_rect.specs.Distance.{apart}
use Rattle.geo_rect.specs.Plane.{HasPoint}
use Rattle.geo_rect.proofs.Nearest.{apart-self}
use Rattle.board_parts.specs.declared.parts.BoardParts.{BoardParts}
use Rattle.board_parts.specs.Lookup.{class_of}
use Rattle.board_parts.specs.Rules.{IsBoard}
use Rattle.board_model.specs.declared.shapes.Shape.{Shape}
use Rattle.plane_core.specs.declared.strips.Strip.{Strip}
use Rattle.plane_core.specs.Choice.{IsChoice, Meets}
use Rattle.plane_set.specs.Standing.{PlaneTable, StandsFor}
use Rattle.strip_moves.specs.Grounds.{ground_of}
use Rattle.strip_moves.proofs.Ways.{first_point, has_first}
use Rattle.zone_fill.specs.Cuts.{AreOpenParts}
use Rattle.zone_fill.specs.Flooding.{AreNeighbours, IsMarked, IsFlooded}
use Rattle.zone_fill.specs.Flooding.IsFlooded.{begins, goes_on}
use Rattle.zone_fill.specs.Marks.{marked}
use Rattle.zone_fill.specs.Pour.{IsOpen, IsInOwnShape, IsReached, HasReached, AreStripsAmong, AreParts, IsPour}
use Rattle.zone_fill.specs.Poured.{AreFloodedParts}
use Rattle.zone_fill.proofs.Reached.{reached_open}
use Rattle.zone_fill.proofs.Marked.{place_of_item, item_at_place, marked_at, is_marked_item, marked_order}
use Rattle.zone_fill.proofs.Parts.{part_of_strip, strip_of_part, parts_marked}
use Rattle.zone_fill.proofs.Sites.{open_there, open_held, strip_admits, wire_strips_among}
use Rattle.zone_fill.proofs.Ways.{reached_start, reached_near, reached_within, reached_holds}

module _ (b : BoardParts) (shapes : List Shape) (n : NetId) (l : LayerId) (zone : Rect) (strips found : List Strip) (parts boxes : List Rect) (all : AreStripsAmong b shapes l (class_of b n) strips) (meeting : IsChoice strips (λ s. Meets s.area zone) found) (open_parts : AreOpenParts n zone found parts) (flooded : AreFloodedParts shapes n l parts boxes) where
  abbrev Start : Point → Type 0
  Start p = IsInOwnShape shapes n l p

  abbrev Allowed : Point → Type 0
  Allowed p = IsOpen b shapes n l zone p

  abbrev Reached : Point → Type 0
  Reached p = IsReached b shapes n l zone p

  -- a strip that the net may pass and that meets the zone is one of those whose parts are listed
  chosen : (s : Strip) (p : Point) → Contains strips s → HasPoint s.area p → Allowed p → Contains open_parts.chosen s
  chosen s p c h o =
      open_parts.choice.complete s (meeting.complete s c (record { at = p; in_first = h; in_second = o.in_zone }))
      (record { admits = strip_admits b shapes n l zone strips all s p c h o; meets = record { at = p; in_first = o.in_zone; in_second = h } })

  -- the part of this number has the point
  record IsInPart (i : ℕ) (p : Point) : Type 0 where
    part : Rect
    here : slice_get parts i ≡ Some part
    has_point : HasPoint part p

  part_of : (i : ℕ) (s : Strip) (p : Point) → slice_get open_parts.chosen i ≡ Some s → HasPoint s.area p → HasPoint zone p → IsInPart i p
  part_of i s p e h z =
      let at = part_of_strip zone open_parts.chosen parts i s open_parts.each e in
      let same : s ≡ at.strip = same_Some s at.strip (sym e ∙ at.is_strip) in
      record { part = at.part; here = at.is_part; has_point = at.common.all p z (subst (λ (t : Strip). HasPoint t.area p) same h) }

  -- each open point lies in a part
  in_a_part : (p : Point) → Allowed p → (i : ℕ) × IsInPart i p
  in_a_part p o =
      let held = open_held b shapes n l zone strips all p o in
      let at = place_of_item open_parts.chosen held.strip (chosen held.strip p held.listed held.has_point o) in
      (at.0, part_of at.0 held.strip p at.1 held.has_point o.in_zone)

  -- and each point of a part is open
  part_open : (i : ℕ) (r : Rect) → slice_get parts i ≡ Some r → (p : Point) → HasPoint r p → Allowed p
  part_open i r e p h =
      let at = strip_of_part zone open_parts.chosen parts i r open_parts.each e in
      let same : r ≡ at.part = same_Some r at.part (sym e ∙ at.is_part) in
      let k : HasPoint at.part p = subst (λ (q : Rect). HasPoint q p) same h in
      let c = item_at_place open_parts.chosen i at.strip at.is_strip in
      let is = open_parts.choice.listed at.strip c in
      open_there b shapes n l zone strips all at.strip p (meeting.listed at.strip is) (open_parts.choice.wanted at.strip c).admits (at.common.second p k) (at.common.first p k)

  -- where a point of a part is reached, each is
  part_reached : (i : ℕ) (r : Rect) → slice_get parts i ≡ Some r → (p q : Point) → HasPoint r p → HasPoint r q → Reached p → Reached q
  part_reached i r e p q h k f = reached_within Start Allowed r (part_open i r e) p q h k f

  -- each point of a flooded part is reached
  flooded_reached : (i : ℕ) → IsFlooded parts flooded.seeds i → (r : Rect) → slice_get parts i ≡ Some r → (p : Point) → HasPoint r p → Reached p
  flooded_reached i (begins _ m) r e p h =
      let s = (flooded.are_seeds.exact i r e).0 m in
      part_reached i r e s.point p s.in_part h (reached_start Start Allowed s.point s.in_shape (part_open i r e s.point s.in_part))
  flooded_reached i (goes_on k _ f t) r e p h =
      let first : Reached t.next.first = flooded_reached k f t.one t.is_one t.next.first t.next.in_first in
      let second : Reached t.next.second = reached_near Start Allowed t.next.first t.next.second first t.next.near (part_open i t.other t.is_other t.next.second t.next.in_second) in
      let same : t.other ≡ r = same_Some t.other r (sym t.is_other ∙ e) in
      part_reached i r e t.next.second p (subst (λ (q : Rect). HasPoint q t.next.second) same t.next.in_second) h second

  -- a marked part has the point
  record IsInMarked (p : Point) : Type 0 where
    number : ℕ
    inside : IsInPart number p
    is_marked : IsMarked flooded.marks number

  neighbours : (i j : ℕ) (p q : Point) → IsInPart i p → IsInPart j q → apart p q ≤ 1 → AreNeighbours parts i j
  neighbours i j p q h k near = record {
    one = h.part;
    other = k.part;
    is_one = h.here;
    is_other = k.here;
    next = record { first = p; second = q; in_first = h.has_point; in_second = k.has_point; near = near };
  }

  -- a part with a point at most one step from one of a marked part is marked
  mark_next : (p q : Point) (j : ℕ) → IsInMarked p → IsInPart j q → apart p q ≤ 1 → IsMarked flooded.marks j
  mark_next p q j h k near =
      flooded.flooded.all j (goes_on h.number j (flooded.flooded.sound h.number h.is_marked) (neighbours h.number j p q h.inside k near))

  mark_start : (p : Point) → Start p → Allowed p → IsInMarked p
  mark_start p s o =
      let at = in_a_part p o in
      let seed = (flooded.are_seeds.exact at.0 at.1.part at.1.here).1 (record { point = p; in_shape = s; in_part = at.1.has_point }) in
      record { number = at.0; inside = at.1; is_marked = flooded.flooded.all at.0 (begins at.0 seed) }

  mark_step : (p q : Point) → IsInMarked p → apart p q ≡ 1 → Allowed q → IsInMarked q
  mark_step p q h e o =
      let at = in_a_part q o in
      record { number = at.0; inside = at.1; is_marked = mark_next p q at.0 h at.1 (omega (arith, e)) }

  -- each reached point lies in a marked part
  reached_marked : (p : Point) → Reached p → IsInMarked p
  reached_marked p h = reached_holds Start Allowed IsInMarked mark_start mark_step p h

  -- and the strip that has it is marked
  strip_marked : (s : Strip) (p : Point) → Contains strips s → HasPoint s.area p → Reached p → Contains (marked flooded.marks open_parts.chosen) s
  strip_marked s p c h f =
      let o = reached_open b shapes n l zone p f in
      let at = place_of_item open_parts.chosen s (chosen s p c h o) in
      let inside = part_of at.0 s p at.1 h o.in_zone in
      is_marked_item flooded.marks open_parts.chosen at.0 s at.1 (mark_next p p at.0 (reached_marked p f) inside (omega (arith, apart-self p)))

  marked_reached : (s : Strip) → Contains (marked flooded.marks open_parts.chosen) s → HasReached b shapes n l zone s
  marked_reached s c =
      let at = marked_at flooded.marks open_parts.chosen s c in
      let part = part_of_strip zone open_parts.chosen parts at.number s open_parts.each at.here in
      let same : part.strip ≡ s = same_Some part.strip s (sym part.is_strip ∙ at.here) in
      let p = first_point part.part in
      let h = has_first part.part in
      record {
        point = p;
        reached = flooded_reached at.number (flooded.flooded.sound at.number at.is_marked) part.part part.is_part p h;
        has_point = subst (λ (t : Strip). HasPoint t.area p) same (part.common.second p h);
      }

  chosen_listed : (s : Strip) → Contains (marked flooded.marks open_parts.chosen) s → Contains strips s
  chosen_listed s c =
      let at = marked_at flooded.marks open_parts.chosen s c in
      meeting.listed s (open_parts.choice.listed s (item_at_place open_parts.chosen at.number s at.here))

  pub marked_is_pour : IsPour b shapes n l zone boxes
  marked_is_pour = record {
    strips = strips;
    all = all;
    chosen = marked flooded.marks open_parts.chosen;
    choice = record {
      listed = chosen_listed;
      wanted = marked_reached;
      complete = λ s c w. strip_marked s w.point c w.has_point w.reached;
      in_order = marked_order flooded.marks open_parts.chosen open_parts.choice.in_order;
    };
    parts = subst (AreParts zone (marked flooded.marks open_parts.chosen)) (sym flooded.is) (parts_marked zone flooded.marks open_parts.chosen parts open_parts.each);
  }

-- so it is with what a plane finds in the zone, the parts of that, and what is flooded of these
pub found_is_pour : (b : BoardParts) (shapes : List Shape) (n : NetId) (l : LayerId) (zone : Rect) (set : PlaneTable) → IsBoard b → n.0 < length b.net_names → l.0 < length b.layers → StandsFor b shapes set → (strips found items : List Strip) (cut parts : List Rect) → strips ≡ (ground_of b set n).wire_strips l → IsChoice strips (λ s. Meets s.area zone) found → items ≡ found → AreOpenParts n zone items cut → parts ≡ cut → (boxes : List Rect) → AreFloodedParts shapes n l parts boxes → IsPour b shapes n l zone boxes
found_is_pour b shapes n l zone set board known on_layer stands strips found items cut parts is choice same cuts same_parts boxes flooded =
    let all : AreStripsAmong b shapes l (class_of b n) strips = subst (AreStripsAmong b shapes l (class_of b n)) (sym is) (wire_strips_among b shapes n l set board known on_layer stands) in
    let chosen : IsChoice strips (λ s. Meets s.area zone) items = subst (IsChoice strips (λ (s : Strip). Meets s.area zone)) (sym same) choice in
    let parted : AreOpenParts n zone items parts = subst (AreOpenParts n zone items) (sym same_parts) cuts in
    marked_is_pour b shapes n l zone strips items parts boxes all chosen parted flooded
