-- Rows of planes, and the same rows as contracts see them.
use Rattle.std.proofs.Common.{◌≡◌, ℕ, ◌<◌, ◌↔◌, List, [], ◌∷◌, length, map, get_or, All, Some, refl, sym, ◌∙◌, ap, subst, arith}
use Rattle.std.specs.Prelude.{slice_get, Contains}
use Rattle.std.proofs.lemmas.Option.{slice_get-get_or, slice_get_read, slice_get_within, get_or_from_slice_get}
use Rattle.std.proofs.lemmas.List.{length-map}
use Rattle.std.proofs.lemmas.List.Elements.{All-nil, All-cons, All-head, All-tail, All-map, All-weaker}
use Rattle.geo_rect.specs.declared.shapes.Rect.{Rect}
use Rattle.board_parts.specs.declared.parts.BoardParts.{BoardParts}
use Rattle.board_model.specs.declared.shapes.Shape.{Shape}
use Rattle.board_model.specs.Labels.{PlaneRule}
use Rattle.board_model.proofs.LabelLaws.{same_hits}
use Rattle.plane_set.specs.declared.families.Family.{Family}
use Rattle.plane_set.specs.declared.families.Family.TheVariants.{Wires, Vias}
use Rattle.plane_set.specs.Drawings.{Drawing, drawn_rows, IsBoardArea, IsBoardPlane, Shows}
use Rattle.plane_set.specs.Families.{rule_in, class_at, IsRow, AreRows, AreBoardPlanes, AreBoardRows, HaveAllClasses}
use Rattle.plane_set.specs.Relabelled.{IsRelabelled, IsRowRelabelled, AreRowsRelabelled}
use Rattle.plane_set.specs.Standing.{PlaneTable, HasPlanes, StandsFor}
use Rattle.plane_set.proofs.Places.{each_mapped, each_unmapped, each_beside, get_mapped, pairs_mapped}

all_unmapped : {X Y : Type 0} (P : Y → Type 0) (f : X → Y) (xs : List X) → All P (map f xs) → All (λ x. P (f x)) xs
all_unmapped P f [] h = All-nil (λ x. P (f x))
all_unmapped P f (x ∷ xs) h = All-cons (λ y. P (f y)) x xs (All-head P (f x) (map f xs) h) (all_unmapped P f xs (All-tail P (f x) (map f xs) h))

module _ {R A : Type 0} (planes_of : R → List A) (draw : A → Drawing) (b : BoardParts) where
  abbrev drawn : List R → List (List Drawing)
  drawn rows = drawn_rows planes_of draw rows

  pub rows_drawn : (f : Family) (shapes : List Shape) (rows : List R) → AreRows planes_of draw b f shapes rows → AreRows (λ (row : List Drawing). row) (λ (d : Drawing). d) b f shapes (drawn rows)
  rows_drawn f shapes rows h =
      each_mapped (λ (row : R). map draw (planes_of row)) (λ n (row : List Drawing). IsRow (λ (d : Drawing). d) b f n shapes row) rows
      (λ n row e. each_mapped draw (λ c (d : Drawing). Shows b (rule_in b f n (class_at c)) shapes d) (planes_of row) (h n row e))

  pub rows_undrawn : (f : Family) (shapes : List Shape) (rows : List R) → AreRows (λ (row : List Drawing). row) (λ (d : Drawing). d) b f shapes (drawn rows) → AreRows planes_of draw b f shapes rows
  rows_undrawn f shapes rows h n row e =
      each_unmapped draw (λ c (d : Drawing). Shows b (rule_in b f n (class_at c)) shapes d) (planes_of row)
      (each_unmapped (λ (r : R). map draw (planes_of r)) (λ m (r : List Drawing). IsRow (λ (d : Drawing). d) b f m shapes r) rows h n row e)

  pub planes_of_shown : (f : Family) (shapes : List Shape) (rows : List R) → AreRows planes_of draw b f shapes rows → AreBoardRows planes_of draw b rows
  planes_of_shown f shapes rows h n row e m plane k =
      let shown = h n row e m plane k in
      record { region = shown.region; canonical = shown.canonical }

  pub all_in : (rows : List R) → HaveAllClasses planes_of b rows → (n : ℕ) (row : R) → slice_get rows n ≡ Some row → length (planes_of row) ≡ length b.classes
  all_in rows all n row e = ap (λ (r : R). length (planes_of r)) (sym (get_or_from_slice_get rows n row row e)) ∙ all n row (slice_get_within rows n row e)

  board_drawn : (rows : List R) → AreBoardRows planes_of draw b rows → AreBoardRows (λ (row : List Drawing). row) (λ (d : Drawing). d) b (drawn rows)
  board_drawn rows h =
      each_mapped (λ (row : R). map draw (planes_of row)) (λ n (row : List Drawing). AreBoardPlanes (λ (d : Drawing). d) b row) rows
      (λ n row e. each_mapped draw (λ c (d : Drawing). IsBoardPlane b d) (planes_of row) (h n row e))

  relabelled_drawn : (f : Family) (gone : Shape) (shapes : List Shape) (old new : List R) → AreRowsRelabelled planes_of draw b f gone shapes old new → AreRowsRelabelled (λ (row : List Drawing). row) (λ (d : Drawing). d) b f gone shapes (drawn old) (drawn new)
  relabelled_drawn f gone shapes old new h =
      pairs_mapped (λ (row : R). map draw (planes_of row)) (λ (row : R). map draw (planes_of row)) (λ n (x y : List Drawing). IsRowRelabelled (λ (d : Drawing). d) b f n gone shapes x y) old new
      (λ n x y e k. pairs_mapped draw draw (λ c (d q : Drawing). IsRelabelled b (rule_in b f n (class_at c)) gone shapes d q) (planes_of x) (planes_of y) (h n x y e k))

  -- planes of the board that are relabelled are planes of the board
  pub board_relabelled : (f : Family) (gone : Shape) (shapes : List Shape) (old new : List R) → length new ≡ length old → HaveAllClasses planes_of b old → HaveAllClasses planes_of b new → AreRowsRelabelled planes_of draw b f gone shapes old new → AreBoardRows planes_of draw b old → AreBoardRows planes_of draw b new
  board_relabelled f gone shapes old new count all_old all_new h board =
      each_beside (λ n (x y : R). IsRowRelabelled draw b f n gone shapes (planes_of x) (planes_of y)) (λ n (row : R). AreBoardPlanes draw b (planes_of row)) (λ n (row : R). AreBoardPlanes draw b (planes_of row)) old new count
      (λ n x y e k pairs planes.
      each_beside (λ c (p q : A). IsRelabelled b (rule_in b f n (class_at c)) gone shapes (draw p) (draw q)) (λ c (p : A). IsBoardPlane b (draw p)) (λ c (p : A). IsBoardPlane b (draw p)) (planes_of x) (planes_of y)
      (all_in new all_new n y k ∙ sym (all_in old all_old n x e))
      (λ c p q d j again is. record { region = subst (λ (r : Rect). IsBoardArea b r) (sym again.region) is.region; canonical = again.canonical })
      pairs planes)
      h board

  board_undrawn : (rows : List R) → AreBoardRows (λ (row : List Drawing). row) (λ (d : Drawing). d) b (drawn rows) → AreBoardRows planes_of draw b rows
  board_undrawn rows h n row e =
      each_unmapped draw (λ c (d : Drawing). IsBoardPlane b d) (planes_of row)
      (each_unmapped (λ (r : R). map draw (planes_of r)) (λ m (r : List Drawing). AreBoardPlanes (λ (d : Drawing). d) b r) rows h n row e)

  classes_drawn : (rows : List R) → HaveAllClasses planes_of b rows → HaveAllClasses (λ (row : List Drawing). row) b (drawn rows)
  classes_drawn rows h =
      All-map (λ (row : List Drawing). length row ≡ length b.classes) (λ (row : R). map draw (planes_of row)) rows
      (All-weaker (λ (row : R). length (planes_of row) ≡ length b.classes) (λ (row : R). length (map draw (planes_of row)) ≡ length b.classes) (λ row e. length-map (planes_of row) draw ∙ e) rows h)

  classes_undrawn : (rows : List R) → HaveAllClasses (λ (row : List Drawing). row) b (drawn rows) → HaveAllClasses planes_of b rows
  classes_undrawn rows h =
      All-weaker (λ (row : R). length (map draw (planes_of row)) ≡ length b.classes) (λ (row : R). length (planes_of row) ≡ length b.classes) (λ row e. sym (length-map (planes_of row) draw) ∙ e) rows
      (all_unmapped (λ (row : List Drawing). length row ≡ length b.classes) (λ (row : R). map draw (planes_of row)) rows h)

  -- rows that are seen as this table
  pub classes_seen : (rows : List R) (table : List (List Drawing)) → drawn rows ≡ table → HaveAllClasses (λ (row : List Drawing). row) b table → HaveAllClasses planes_of b rows
  classes_seen rows table e h = classes_undrawn rows (subst (λ (t : List (List Drawing)). HaveAllClasses (λ (row : List Drawing). row) b t) (sym e) h)

  pub board_seen : (rows : List R) (table : List (List Drawing)) → drawn rows ≡ table → AreBoardRows (λ (row : List Drawing). row) (λ (d : Drawing). d) b table → AreBoardRows planes_of draw b rows
  board_seen rows table e h = board_undrawn rows (subst (λ (t : List (List Drawing)). AreBoardRows (λ (row : List Drawing). row) (λ (d : Drawing). d) b t) (sym e) h)

  pub relabelled_seen : (f : Family) (gone : Shape) (shapes : List Shape) (old new : List R) (table : List (List Drawing)) → drawn old ≡ table → AreRowsRelabelled planes_of draw b f gone shapes old new → AreRowsRelabelled (λ (row : List Drawing). row) (λ (d : Drawing). d) b f gone shapes table (drawn new)
  relabelled_seen f gone shapes old new table e h = subst (λ (t : List (List Drawing)). AreRowsRelabelled (λ (row : List Drawing). row) (λ (d : Drawing). d) b f gone shapes t (drawn new)) e (relabelled_drawn f gone shapes old new h)

  pub drawn_length : (rows : List R) → length (drawn rows) ≡ length rows
  drawn_length rows = length-map rows (λ (row : R). map draw (planes_of row))

  pub planes_drawn : (wires vias : List R) → length wires ≡ length b.layers → HaveAllClasses planes_of b wires → AreBoardRows planes_of draw b wires → length vias ≡ length b.kinds → HaveAllClasses planes_of b vias → AreBoardRows planes_of draw b vias → HasPlanes b (record { wires = drawn wires; vias = drawn vias })
  planes_drawn wires vias l w i k v j = record {
    layers = drawn_length wires ∙ l;
    wire_classes = classes_drawn wires w;
    wire_planes = board_drawn wires i;
    kinds = drawn_length vias ∙ k;
    via_classes = classes_drawn vias v;
    via_planes = board_drawn vias j;
  }

-- the plane at a place of rows that show some shapes
pub shown_at : (b : BoardParts) (f : Family) (shapes : List Shape) (rows : List (List Drawing)) (n m : ℕ) (d : Drawing) → AreRows (λ (row : List Drawing). row) (λ (x : Drawing). x) b f shapes rows → n < length rows → slice_get (get_or rows n []) m ≡ Some d → Shows b (rule_in b f n (class_at m)) shapes d
shown_at b f shapes rows n m d h l e = h n (get_or rows n []) (slice_get-get_or rows n [] l) m d e

-- the plane of a class's wires on a layer has the points of the board
pub wire_area : (b : BoardParts) (set : PlaneTable) → HasPlanes b set → (l : ℕ) → l < length b.layers → (c : ℕ) (d : Drawing) → slice_get (get_or set.wires l []) c ≡ Some d → IsBoardArea b d.region
wire_area b set h l known c d e =
    let inside : l < length set.wires = subst (λ (n : ℕ). l < n) (sym h.layers) known in
    (h.wire_planes l (get_or set.wires l []) (slice_get-get_or set.wires l [] inside) c d e).region

-- the plane at a place, as contracts see it
module _ {R A : Type 0} (planes_of : R → List A) (draw : A → Drawing) (rows : List R) (table : List (List Drawing)) (view : drawn_rows planes_of draw rows ≡ table) where
  row_at : (n : ℕ) (row : R) → n < length table → row ≡ get_or rows n row → get_or table n [] ≡ map draw (planes_of row)
  row_at n row l e =
      let count : length table ≡ length rows = ap length (sym view) ∙ length-map rows (λ (r : R). map draw (planes_of r)) in
      let inside : n < length rows = omega arith in
      let here : slice_get (drawn_rows planes_of draw rows) n ≡ Some (map draw (planes_of row)) = get_mapped (λ (r : R). map draw (planes_of r)) rows n row (slice_get_read rows (length rows) n row refl inside e) in
      get_or_from_slice_get table n (map draw (planes_of row)) [] (subst (λ (t : List (List Drawing)). slice_get t n ≡ Some (map draw (planes_of row))) view here)

  pub plane_at : (n m : ℕ) (row : R) (x : A) → n < length table → row ≡ get_or rows n row → m < length (get_or table n []) → x ≡ get_or (planes_of row) m x → slice_get (get_or table n []) m ≡ Some (draw x)
  plane_at n m row x l e k d =
      let at = row_at n row l e in
      let count : length (get_or table n []) ≡ length (planes_of row) = ap length at ∙ length-map (planes_of row) draw in
      let inside : m < length (planes_of row) = omega arith in
      subst (λ (r : List Drawing). slice_get r m ≡ Some (draw x)) (sym at)
      (get_mapped draw (planes_of row) m x (slice_get_read (planes_of row) (length (planes_of row)) m x refl inside d))

-- planes that show shapes show each list with the same members
module _ (b : BoardParts) (xs ys : List Shape) (same : (s : Shape) → Contains xs s ↔ Contains ys s) where
  shows_members : (rule : PlaneRule) (d : Drawing) → Shows b rule xs d → Shows b rule ys d
  shows_members rule d h = record {
    region = h.region;
    labels = λ p k. h.labels p k ∙ same_hits b rule p xs ys (λ s _. same s);
    canonical = h.canonical;
  }

  rows_members : (f : Family) (rows : List (List Drawing)) → AreRows (λ (row : List Drawing). row) (λ (d : Drawing). d) b f xs rows → AreRows (λ (row : List Drawing). row) (λ (d : Drawing). d) b f ys rows
  rows_members f rows h n row e m d k = shows_members (rule_in b f n (class_at m)) d (h n row e m d k)

pub stands_for_members : (b : BoardParts) (xs ys : List Shape) (set : PlaneTable) → StandsFor b xs set → ((s : Shape) → Contains xs s ↔ Contains ys s) → StandsFor b ys set
stands_for_members b xs ys set h same = record {
  planes = h.planes;
  wires = rows_members b xs ys same Wires set.wires h.wires;
  vias = rows_members b xs ys same Vias set.vias h.vias;
}
