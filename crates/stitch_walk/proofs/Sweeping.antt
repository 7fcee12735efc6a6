-- A sweep over an area: where it enters the tiles, and that it comes to each tile that meets the area.
use Rattle.std.proofs.Common.{ℕ, ℤ, pos, Bool, ◌≡◌, ◌≢◌, ◌<◌, ◌≤◌, ◌+◌, ◌⊎◌, inl, inr, ◌↔◌, IsTrue, ◌-ℤ◌, ◌≤ℤ◌, Some, None, List, [], ◌∷◌, ◌++◌, length, get_or, take, IsSome, Contains, refl, sym, subst, ◌∙◌, arith}
use Rattle.std.specs.declared.option.Option.{Option}
use Rattle.std.proofs.lemmas.Int.{ints, clamps}
use Rattle.geo_rect.specs.declared.shapes.Point.{Point}
use Rattle.geo_rect.specs.declared.shapes.Rect.{Rect}
use Rattle.geo_rect.specs.Axis.{HasNumber}
use Rattle.geo_rect.specs.Plane.{columns, rows, HasPoint}
use Rattle.geo_rect.proofs.Parts.{low_in}
use Rattle.plane_core.specs.declared.sides.Side.{Side}
use Rattle.plane_core.specs.declared.sides.Side.TheVariants.{Left, Below, Right, Above}
use Rattle.plane_core.specs.Choice.{Meets}
use Rattle.plane_core.specs.Sides.{turned, turned_point, IsBeside}
use Rattle.plane_core.proofs.Turns.{points_turn, mirrored_has}
use Rattle.tile_store.specs.declared.tiles.Tile.{Tile}
use Rattle.tile_store.specs.declared.tiles.TileId.{TileId}
use Rattle.tile_store.specs.Store.{Store, tile_at, IsPresent}
use Rattle.stitch_walk.specs.Links.{IsLinked}
use Rattle.stitch_walk.specs.Neighbours.{IsNeighbour, AreNeighbours, IsDistinct}
use Rattle.stitch_walk.specs.Sweeps.{IsLeftEntry, IsLowerEntry, IsEntry, IsEntryOf, EntersFrom, IsNext, AreEntered, AreAllEntered}
use Rattle.stitch_walk.proofs.Facing.{same_point, ends_left}
use Rattle.std.proofs.lemmas.List.{take_more, take_all}
use Rattle.std.proofs.lemmas.List.Elements.{Contains-append_left, Contains-append_right, Contains-append_cases}
use Rattle.plane_core.proofs.Members.{has_head, has_none}
use Rattle.stitch_walk.proofs.Linked.{one_tile}
use Rattle.stitch_walk.proofs.Pairs.{pairs_none, pairs_added, pairs_before, pairs_take, pairs_joined, last_cases}

-- a rectangle has one entry at most
left_entry_one : (area r : Rect) (p q : Point) → IsLeftEntry area r p → IsLeftEntry area r q → p ≡ q
left_entry_one area r p q a b = same_point p q (a.column ∙ sym b.column) (a.row ∙ sym b.row)

lower_entry_one : (area r : Rect) (p q : Point) → IsLowerEntry area r p → IsLowerEntry area r q → p ≡ q
lower_entry_one area r p q a b = same_point p q (a.column ∙ sym b.column) (a.row ∙ sym b.row)

not_both : (area r : Rect) (p q : Point) → IsLeftEntry area r p → IsLowerEntry area r q → ⊥
not_both area r p q a b = let x = a.begins_later in let y = b.begins_first in omega (arith, ints)

pub entry_one : (area r : Rect) (p q : Point) → IsEntry area r p → IsEntry area r q → p ≡ q
entry_one area r p q (inl a) (inl b) = left_entry_one area r p q a b
entry_one area r p q (inl a) (inr b) = absurd (not_both area r p q a b)
entry_one area r p q (inr a) (inl b) = absurd (not_both area r q p b a)
entry_one area r p q (inr a) (inr b) = lower_entry_one area r p q a b

-- a rectangle that begins where the area does has no entry
pub no_entry : (area r : Rect) (p : Point) → r.x0 ≤ℤ area.x0 → r.y0 ≤ℤ area.y0 → IsEntry area r p → ⊥
no_entry area r p x y (inl a) = let z = a.begins_later in omega (arith, ints)
no_entry area r p x y (inr a) = let z = a.begins_higher in omega (arith, ints)

-- the tests of the code
pub enters_if : (area t r : Rect) (p : Point) (o : Option Point) (b : Bool) → IsEntryOf area r o → o ≡ Some p → HasPoint t p → (IsTrue b ↔ Meets r area) → (IsTrue b ↔ EntersFrom area t r)
enters_if area t r p o b is e has test =
    let P : Option Point → Type 0 = λ z. IsEntryOf area r z in
    let at : IsEntry area r p = subst P e is in (
      λ h. record { meets = test.0 h; entry = p; is_entry = at; has_entry = has },
      λ f. test.1 f.meets,
    )

pub enters_elsewhere : (area t r : Rect) (p : Point) (o : Option Point) → IsEntryOf area r o → o ≡ Some p → (HasPoint t p → ⊥) → EntersFrom area t r → ⊥
enters_elsewhere area t r p o is e none f =
    let P : Option Point → Type 0 = λ z. IsEntryOf area r z in
    let at : IsEntry area r p = subst P e is in
    let Q : Point → Type 0 = λ z. HasPoint t z in
    none (subst Q (entry_one area r f.entry p f.is_entry at) f.has_entry)

pub enters_not : (area t r : Rect) (o : Option Point) → IsEntryOf area r o → o ≡ None → EntersFrom area t r → ⊥
enters_not area t r o is e f =
    let P : Option Point → Type 0 = λ z. IsEntryOf area r z in
    let at : (r.x0 ≤ℤ area.x0) × (r.y0 ≤ℤ area.y0) = subst P e is in
    no_entry area r f.entry at.0 at.1 f.is_entry

module _ (s : Store) (domain : Rect) (is : IsLinked s domain) (area : Rect) where
  -- the row of a left entry is one of the rows of the rectangle
  entry_row : (r : Rect) (p : Point) → Meets r area → IsLeftEntry area r p → HasNumber (rows r) p.y
  entry_row r p m e =
      let a = m.in_first.up.to in
      let b = m.in_second.up.from in
      let o = r.y_ordered in
      let row = e.row in
      record { from = omega (arith, ints, clamps); to = omega (arith, ints, clamps) }

  -- the first column of the area is one of the columns of the rectangle
  entry_column : (r : Rect) (p : Point) → Meets r area → IsLowerEntry area r p → HasNumber (columns r) p.x
  entry_column r p m e =
      let a = m.in_first.across.to in
      let b = m.in_second.across.from in
      let c = e.begins_first in
      let column = e.column in
      record { from = omega (arith, ints); to = omega (arith, ints) }

  module _ (i j : TileId) (t u : Tile) (there : tile_at s i ≡ Some t) (next : tile_at s j ≡ Some u) (m : Meets u.area area) (p : Point) (has : HasPoint t.area p) where
    ends_at_left : IsLeftEntry area u.area p → t.area.x1 ≡ u.area.x0 -ℤ pos 1
    ends_at_left e =
        let P : Point → Type 0 = λ z. HasPoint t.area z in
        let at : p ≡ record { x = u.area.x0 -ℤ pos 1; y = p.y } = same_point p (record { x = u.area.x0 -ℤ pos 1; y = p.y }) e.column refl in
        ends_left s domain is Left j i u t p.y next there (entry_row u.area p m e) (subst P at has)

    ends_below : IsLowerEntry area u.area p → t.area.y1 ≡ u.area.y0 -ℤ pos 1
    ends_below e =
        let P : Point → Type 0 = λ z. HasPoint t.area z in
        let at : p ≡ record { x = p.x; y = u.area.y0 -ℤ pos 1 } = same_point p (record { x = p.x; y = u.area.y0 -ℤ pos 1 }) refl e.row in
        let turned_at = subst P at has in
        ends_left s domain is Below j i u t p.x next there (entry_column u.area p m e) (record { across = turned_at.up; up = turned_at.across })

    -- a tile entered from the left is a neighbour on the right side
    right_of : IsLeftEntry area u.area p → IsNeighbour s Right i j
    right_of e =
        let row = entry_row u.area p m e in
        let q : Point = record { x = u.area.x0; y = p.y } in
        let edge = ends_at_left e in
        record {
          tile = t;
          is_there = there;
          neighbour = u;
          neighbour_is_there = next;
          beside = record {
            at = turned_point Right q;
            past_edge = omega (arith, ints);
            in_row = mirrored_has (rows t.area) p.y has.up;
            in_first = (points_turn Right u.area q).0 (record { across = low_in (columns u.area); up = row });
          };
        }

    -- a tile entered from below is a neighbour on the upper side
    above_of : IsLowerEntry area u.area p → IsNeighbour s Above i j
    above_of e =
        let column = entry_column u.area p m e in
        let q : Point = record { x = p.x; y = u.area.y0 } in
        let edge = ends_below e in
        record {
          tile = t;
          is_there = there;
          neighbour = u;
          neighbour_is_there = next;
          beside = record {
            at = turned_point Above q;
            past_edge = omega (arith, ints);
            in_row = mirrored_has (columns t.area) p.x has.across;
            in_first = (points_turn Above u.area q).0 (record { across = column; up = low_in (rows u.area) });
          };
        }

  -- a tile that a sweep enters is a neighbour on the right or on the upper side
  pub next_is_near : (i j : TileId) → IsNext s area i j → IsNeighbour s Right i j ⊎ IsNeighbour s Above i j
  next_is_near i j n = by_entry n.enters.is_entry
    where
      by_entry : IsEntry area n.next.area n.enters.entry → IsNeighbour s Right i j ⊎ IsNeighbour s Above i j
      by_entry (inl e) = inl (right_of i j n.tile n.next n.is_there n.next_is_there n.enters.meets n.enters.entry n.enters.has_entry e)
      by_entry (inr e) = inr (above_of i j n.tile n.next n.is_there n.next_is_there n.enters.meets n.enters.entry n.enters.has_entry e)

-- a tile next to another is not on two sides of it
not_right_and_above : (s : Store) (domain : Rect) (is : IsLinked s domain) (i j : TileId) → IsNeighbour s Right i j → IsNeighbour s Above i j → ⊥
not_right_and_above s domain is i j a b =
    let same_t : b.tile ≡ a.tile = one_tile s i b.tile a.tile b.is_there a.is_there in
    let same_u : b.neighbour ≡ a.neighbour = one_tile s j b.neighbour a.neighbour b.neighbour_is_there a.neighbour_is_there in
    let P : Tile → Type 0 = λ t. IsBeside Above t.area b.neighbour.area in
    let Q : Tile → Type 0 = λ u. IsBeside Above a.tile.area u.area in
    let above : IsBeside Above a.tile.area a.neighbour.area = subst Q same_u (subst P same_t b.beside) in
    let right : IsBeside Right a.tile.area a.neighbour.area = a.beside in
    let q : Point = record { x = pos 0 -ℤ above.at.y; y = pos 0 -ℤ right.at.y } in
    let ra = right.in_first.across in
    let ru = right.in_first.up in
    let rr = right.in_row in
    let re = right.past_edge in
    let aa = above.in_first.across in
    let au = above.in_first.up in
    let ar = above.in_row in
    let ae = above.past_edge in
    let in_t : HasPoint a.tile.area q = record { across = across_t a.tile.area above.at.y ar; up = across_up a.tile.area right.at.y rr } in
    let in_u : HasPoint a.neighbour.area q = record { across = between_columns a.tile.area a.neighbour.area above.at.y right.at.x ar au ra re; up = between_rows a.tile.area a.neighbour.area right.at.y above.at.x rr ru aa ae } in
    let same : i ≡ j = is.apart i j q (record { tile = a.tile; is_there = a.is_there; has_point = in_t }) (record { tile = a.neighbour; is_there = a.neighbour_is_there; has_point = in_u }) in
    let T : TileId → Type 0 = λ k. tile_at s k ≡ Some a.neighbour in
    let one : a.neighbour ≡ a.tile = one_tile s i a.neighbour a.tile (subst T (sym same) a.neighbour_is_there) a.is_there in
    let U : Tile → Type 0 = λ t. HasNumber (columns (turned Right t.area)) right.at.x in
    let out = (subst U one ra).from in
    omega (arith, ints)
  where
    across_t : (t : Rect) (y : ℤ) → HasNumber (rows (turned Above t)) y → HasNumber (columns t) (pos 0 -ℤ y)
    across_t t y h = let a = h.from in let b = h.to in record { from = omega (arith, ints); to = omega (arith, ints) }

    across_up : (t : Rect) (y : ℤ) → HasNumber (rows (turned Right t)) y → HasNumber (rows t) (pos 0 -ℤ y)
    across_up t y h = let a = h.from in let b = h.to in record { from = omega (arith, ints); to = omega (arith, ints) }

    between_columns : (t u : Rect) (y x : ℤ) → HasNumber (rows (turned Above t)) y → HasNumber (rows (turned Above u)) y → HasNumber (columns (turned Right u)) x → x ≡ (turned Right t).x0 -ℤ pos 1 → HasNumber (columns u) (pos 0 -ℤ y)
    between_columns t u y x ht hu hx e = let a = hu.from in let b = hu.to in record { from = omega (arith, ints); to = omega (arith, ints) }

    between_rows : (t u : Rect) (y x : ℤ) → HasNumber (rows (turned Right t)) y → HasNumber (rows (turned Right u)) y → HasNumber (columns (turned Above u)) x → x ≡ (turned Above t).x0 -ℤ pos 1 → HasNumber (rows u) (pos 0 -ℤ y)
    between_rows t u y x ht hu hx e = let a = hu.from in let b = hu.to in record { from = omega (arith, ints); to = omega (arith, ints) }

-- those of the near tiles that a sweep enters: none at the start, and one near tile more
module _ (s : Store) (area : Rect) (id : TileId) (near : List TileId) where
  pub entered_none : (found : List TileId) → found ≡ [] → AreEntered s area id (take 0 near) found
  entered_none found e =
      let P : List TileId → Type 0 = λ l. AreEntered s area id (take 0 near) l in
      subst P (sym e) (record {
        near_by = λ j h. absurd (has_none j h);
        entered = λ j h. absurd (has_none j h);
        complete = λ j h n. absurd (has_none j (none_in near j h));
        once = pairs_none (λ i j. i ≢ j);
      })
    where
      none_in : (xs : List TileId) (j : TileId) → Contains (take 0 xs) j → Contains [] j
      none_in [] j h = h
      none_in (x ∷ xs) j h = h

  module _ (k : ℕ) (x : TileId) (d : TileId) (within : k < length near) (at : get_or near k d ≡ x) (found : List TileId) (so_far : AreEntered s area id (take k near) found) where
    one_more : take (k + 1) near ≡ take k near ++ x ∷ []
    one_more = let P : TileId → Type 0 = λ y. take (k + 1) near ≡ take k near ++ y ∷ [] in subst P at (take_more near k d within)

    pub entered_more : IsDistinct near → IsNext s area id x → (found' : List TileId) → found' ≡ found ++ x ∷ [] → AreEntered s area id (take (k + 1) near) found'
    entered_more once n found' e =
        let P : List TileId → Type 0 = λ l. AreEntered s area id l found' in
        let Q : List TileId → Type 0 = λ l. AreEntered s area id (take k near ++ x ∷ []) l in
        let R : List TileId → Type 0 = λ l. IsDistinct l in
        let prefix : IsDistinct (take k near ++ x ∷ []) = subst R one_more (pairs_take (λ i j. i ≢ j) near (k + 1) once) in
        subst P (sym one_more) (subst Q (sym e) (record {
          near_by = λ j h. elim (last_cases found x j h) [
            | inl before ↦ Contains-append_left (take k near) (x ∷ []) j (so_far.near_by j before)
            | inr same ↦ Contains-append_right (take k near) (x ∷ []) j (let S : TileId → Type 0 = λ y. Contains (x ∷ []) y in subst S same (has_head x []))
          ];
          entered = λ j h. elim (last_cases found x j h) [
            | inl before ↦ so_far.entered j before
            | inr same ↦ (let S : TileId → Type 0 = λ y. IsNext s area id y in subst S same n)
          ];
          complete = λ j h m. elim (last_cases (take k near) x j h) [
            | inl before ↦ Contains-append_left found (x ∷ []) j (so_far.complete j before m)
            | inr same ↦ Contains-append_right found (x ∷ []) j (let S : TileId → Type 0 = λ y. Contains (x ∷ []) y in subst S same (has_head x []))
          ];
          once = pairs_added (λ i j. i ≢ j) found x so_far.once (λ y h. pairs_before (λ i j. i ≢ j) (take k near) (x ∷ []) y x prefix (so_far.near_by y h) (has_head x []));
        }))

    pub entered_same : (IsNext s area id x → ⊥) → (found' : List TileId) → found' ≡ found → AreEntered s area id (take (k + 1) near) found'
    entered_same n found' e =
        let P : List TileId → Type 0 = λ l. AreEntered s area id l found' in
        let Q : List TileId → Type 0 = λ l. AreEntered s area id (take k near ++ x ∷ []) l in
        subst P (sym one_more) (subst Q (sym e) (record {
          near_by = λ j h. Contains-append_left (take k near) (x ∷ []) j (so_far.near_by j h);
          entered = so_far.entered;
          complete = λ j h m. elim (last_cases (take k near) x j h) [
            | inl before ↦ so_far.complete j before m
            | inr same ↦ absurd (n (let S : TileId → Type 0 = λ y. IsNext s area id y in subst S (sym same) m))
          ];
          once = so_far.once;
        }))

  pub entered_all : (n : ℕ) (found : List TileId) → length near ≤ n → AreEntered s area id (take n near) found → AreEntered s area id near found
  entered_all n found past h = let P : List TileId → Type 0 = λ l. AreEntered s area id l found in subst P (take_all n near past) h

-- what a sweep enters on the right and on the upper side is all that it enters
pub entered_on_both : (s : Store) (domain area : Rect) (is : IsLinked s domain) (id : TileId) (right upper found more all : List TileId) → AreNeighbours s Right id right → AreNeighbours s Above id upper → AreEntered s area id right found → AreEntered s area id upper more → all ≡ found ++ more → AreAllEntered s area id all
entered_on_both s domain area is id right upper found more all r u f m e =
    let P : List TileId → Type 0 = λ l. AreAllEntered s area id l in
    subst P (sym e) (record {
      entered = λ j h. elim (Contains-append_cases found more j h) [ inl a ↦ f.entered j a | inr b ↦ m.entered j b ];
      complete = λ j n. elim (next_is_near s domain is area id j n) [
        | inl a ↦ Contains-append_left found more j (f.complete j (r.complete j a) n)
        | inr b ↦ Contains-append_right found more j (m.complete j (u.complete j b) n)
      ];
      once = pairs_joined (λ i j. i ≢ j) found more f.once m.once (λ x y h k same.
          let Q : TileId → Type 0 = λ z. Contains found z in
          let there = subst Q same h in
          not_right_and_above s domain is id y (r.listed y (f.near_by y there)) (u.listed y (m.near_by y k)));
    })

-- a tile that has no entry of another is not the one from which a sweep enters it
pub not_next : (s : Store) (area : Rect) (i j : TileId) (t u : Tile) → tile_at s i ≡ Some t → tile_at s j ≡ Some u → (EntersFrom area t.area u.area → ⊥) → IsNext s area i j → ⊥
not_next s area i j t u there next none n =
    let P : Tile → Type 0 = λ v. EntersFrom area v.area n.next.area in
    let Q : Tile → Type 0 = λ v. EntersFrom area t.area v.area in
    none (subst Q (one_tile s j n.next u n.next_is_there next) (subst P (one_tile s i n.tile t n.is_there there) n.enters))

-- neighbours are tiles, each once, in a list that is equal to theirs too
pub near_present : (s : Store) (side : Side) (id : TileId) (near list : List TileId) → near ≡ list → AreNeighbours s side id list → (j : TileId) → Contains near j → IsPresent s j
near_present s side id near list e a j h =
    let P : List TileId → Type 0 = λ l. Contains l j in
    let n = a.listed j (subst P e h) in
    let Q : Option Tile → Type 0 = λ o. IsSome o in
    subst Q (sym n.neighbour_is_there) refl

pub near_once : (s : Store) (side : Side) (id : TileId) (near list : List TileId) → near ≡ list → AreNeighbours s side id list → IsDistinct near
near_once s side id near list e a = let P : List TileId → Type 0 = λ l. IsDistinct l in subst P (sym e) a.once

pub entered_in : (s : Store) (area : Rect) (id : TileId) (near list found : List TileId) → near ≡ list → AreEntered s area id near found → AreEntered s area id list found
entered_in s area id near list found e a = let P : List TileId → Type 0 = λ l. AreEntered s area id l found in subst P e a

pub all_entered_in : (s : Store) (area : Rect) (id : TileId) (found list : List TileId) → list ≡ found → AreAllEntered s area id found → AreAllEntered s area id list
all_entered_in s area id found list e a = let P : List TileId → Type 0 = λ l. AreAllEntered s area id l in subst P (sym e) a
