-- What a session lists: connections with their numbers, and the strips of a plane.
use Rattle.std.proofs.Common.{◌≡◌, ◌<◌, ℕ, ◌+◌, List, [], ◌∷◌, ◌++◌, length, take, get_or, sym, ◌∙◌, ap, subst, arith}
use Rattle.std.proofs.lemmas.List.{take_more, length-append, length-take-le}
use Rattle.geo_rect.specs.declared.ids.ClassId.{ClassId}
use Rattle.geo_rect.specs.declared.ids.Label.{Label}
use Rattle.geo_rect.specs.declared.ids.LayerId.{LayerId}
use Rattle.geo_rect.specs.declared.shapes.Point.{Point}
use Rattle.geo_rect.specs.declared.shapes.Rect.{Rect}
use Rattle.board_model.specs.declared.made.Conn.{Conn}
use Rattle.board_parts.specs.declared.parts.BoardParts.{BoardParts}
use Rattle.board_model.specs.Labels.{wire_plane, label_among}
use Rattle.board_parts.specs.Rules.{IsBoard}
use Rattle.board_model.specs.Shapes.{state_shapes}
use Rattle.plane_core.specs.declared.strips.Strip.{Strip}
use Rattle.plane_core.specs.Labels.{label_of}
use Rattle.plane_core.specs.Strips.{AreStrips}
use Rattle.plane_core.proofs.Labelled.{strips_agree}
use Rattle.plane_set.specs.Drawings.{Drawing, Shows}
use Rattle.route_law.specs.declared.replies.Item.{Item}
use Rattle.route_law.specs.Steps.{AreWireStrips, items_from}
use Rattle.strip_moves.specs.Grounds.{board_area}
use Rattle.strip_moves.proofs.Grounds.{area_same}
use Rattle.strip_moves.proofs.OfShapes.{board_points}

pub length_pushed : {X : Type 0} (xs : List X) (x : X) (ys : List X) → ys ≡ xs ++ x ∷ [] → length ys ≡ length xs + 1
length_pushed xs x ys e = ap (λ zs. length zs) e ∙ length-append xs (x ∷ [])

-- one more connection at the end has the next number
items_from-append_one : (k : ℕ) (xs : List Conn) (c : Conn) → items_from k (xs ++ c ∷ []) ≡ items_from k xs ++ record { number = k + length xs; conn = c } ∷ []
items_from-append_one k [] c = ap (λ (m : ℕ). let one : Item = record { number = m; conn = c } in one ∷ []) (omega arith)
items_from-append_one k (x ∷ xs) c =
    let first : Item = record { number = k; conn = x } in
    ap (λ (items : List Item). first ∷ items)
    (items_from-append_one (k + 1) xs c ∙ ap (λ (m : ℕ). let last : Item = record { number = m; conn = c } in items_from (k + 1) xs ++ last ∷ []) (omega arith))

-- where the connections before number i are listed, this lists one more
pub items_more : (conns : List Conn) (i m : ℕ) (c x : Conn) (items : List Item) → i < length conns → items ≡ items_from 1 (take i conns) → m ≡ i + 1 → c ≡ x → x ≡ get_or conns i x → items ++ record { number = m; conn = c } ∷ [] ≡ items_from 1 (take (i + 1) conns)
items_more conns i m c x items l e number copied is =
    let item : ℕ → Conn → Item = λ k y. record { number = k; conn = y } in
    let last : m ≡ 1 + length (take i conns) = omega (arith, length-take-le i conns) in
    let more : take (i + 1) conns ≡ take i conns ++ x ∷ [] = take_more conns i x l ∙ ap (λ (y : Conn). take i conns ++ y ∷ []) (sym is) in
    ap (λ (k : ℕ). items ++ item k c ∷ []) last
    ∙ ap (λ (y : Conn). items ++ item (1 + length (take i conns)) y ∷ []) copied
    ∙ ap (λ (xs : List Item). xs ++ item (1 + length (take i conns)) x ∷ []) e
    ∙ sym (items_from-append_one 1 (take i conns) x)
    ∙ ap (λ (xs : List Conn). items_from 1 xs) (sym more)

-- the strips of a plane that shows the shapes of a state are those of its wire plane
pub shown_strips : (b : BoardParts) (lists : List (List Conn)) (l : LayerId) (c : ClassId) (d : Drawing) (strips : List Strip) → IsBoard b → strips ≡ d.strips → Shows b (wire_plane b l c) (state_shapes b lists) d → AreWireStrips b lists l c strips
shown_strips b lists l c d strips board e h =
    let area : Rect = board_area b in
    let same : d.region ≡ area = area_same b d.region board h.region in
    let label : Point → Label = label_among b (wire_plane b l c) (state_shapes b lists) in
    let shown : AreStrips d.region label d.strips = strips_agree d.region (label_of d.strips) label d.strips (λ p i. sym (h.labels p i)) h.canonical in
    record {
      area = area;
      points = board_points b board;
      strips_of_labels = subst (λ (ss : List Strip). AreStrips area label ss) (sym e) (subst (λ (r : Rect). AreStrips r label d.strips) same shown);
    }
