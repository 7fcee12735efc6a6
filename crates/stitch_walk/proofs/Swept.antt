-- The run of a sweep: its start, one turn, and that at its end each tile that meets the area is found.
use Rattle.std.proofs.Common.{ℕ, zero, suc, ℤ, pos, ◌≡◌, ◌≢◌, ◌<◌, ◌≤◌, ◌+◌, inl, inr, ◌-ℤ◌, ◌≤ℤ◌, ◌<ℤ◌, Some, List, [], ◌∷◌, ◌++◌, length, slice_get, IsSome, Contains, refl, sym, subst, ap, ◌∙◌, arith}
use Rattle.std.specs.declared.option.Option.{Option}
use Rattle.std.specs.Int.{int_max}
use Rattle.std.specs.Int.RustNames.{unsigned_abs}
use Rattle.std.proofs.lemmas.Int.{ints, clamps, by_lt_z}
use Rattle.std.proofs.lemmas.List.{append_assoc, append-nil, length-append}
use Rattle.std.proofs.lemmas.List.Elements.{Contains-append_left, Contains-append_right, Contains-append_cases}
use Rattle.geo_rect.specs.declared.shapes.Interval.{Interval}
use Rattle.geo_rect.specs.declared.shapes.Point.{Point}
use Rattle.geo_rect.specs.declared.shapes.Rect.{Rect}
use Rattle.geo_rect.specs.Axis.{HasNumber}
use Rattle.geo_rect.specs.Plane.{columns, rows, HasPoint, LiesIn}
use Rattle.geo_rect.proofs.Parts.{low_in, lies_in_points}
use Rattle.plane_core.proofs.Members.{has_head, has_none}
use Rattle.tile_store.specs.declared.tiles.Tile.{Tile}
use Rattle.tile_store.specs.declared.tiles.TileId.{TileId}
use Rattle.tile_store.specs.Store.{Store, tile_at, IsPresent}
use Rattle.stitch_walk.specs.Links.{Holds, IsLinked}
use Rattle.stitch_walk.specs.Neighbours.{MeetsArea, AreMeeting}
use Rattle.stitch_walk.specs.Sweeps.{IsLeftEntry, IsLowerEntry, IsEntry, IsNext, AreAllEntered}
use Rattle.stitch_walk.proofs.Linked.{one_tile}
use Rattle.stitch_walk.proofs.Pairs.{pairs_none, pairs_added, pairs_before, pairs_joined, last_cases}
use Rattle.stitch_walk.proofs.SweepState.{IsEntered, IsSweeping, HasSwept}
use Rattle.stitch_walk.proofs.SweepState.IsEntered.{is_root, is_next}
use Rattle.stitch_walk.proofs.Sweeping.{entry_one, no_entry}

-- the item right after a part of a list begins the rest
pub rest_begins : {A : Type 0} (done rest : List A) (x : A) → slice_get (done ++ rest) (length done) ≡ Some x → (more : List A) × (rest ≡ x ∷ more)
rest_begins [] [] x e = absurd (cc)
rest_begins [] (y ∷ ys) x e = (ys, ap (λ z. z ∷ ys) (let f : y ≡ x = cc in f))
rest_begins (d ∷ ds) rest x e = rest_begins ds rest x e

-- the part of the area that lies right of and above a column and a row, as one number
depth : Rect → Rect → ℕ
depth area r = unsigned_abs (int_max (r.x0 -ℤ area.x0) (pos 0)) + unsigned_abs (int_max (r.y0 -ℤ area.y0) (pos 0))

less_left : (a x y b u v : ℤ) → a <ℤ u → x ≤ℤ (u -ℤ pos 1) → y ≤ℤ int_max v b → unsigned_abs (int_max (x -ℤ a) (pos 0)) + unsigned_abs (int_max (y -ℤ b) (pos 0)) < unsigned_abs (int_max (u -ℤ a) (pos 0)) + unsigned_abs (int_max (v -ℤ b) (pos 0))
less_left a x y b u v p q r =
    let one : unsigned_abs (int_max (x -ℤ a) (pos 0)) < unsigned_abs (int_max (u -ℤ a) (pos 0)) = one_axis a x u p q in
    let two : unsigned_abs (int_max (y -ℤ b) (pos 0)) ≤ unsigned_abs (int_max (v -ℤ b) (pos 0)) = other_axis b y v r in
    omega arith
  where
    one_axis : (a x u : ℤ) → a <ℤ u → x ≤ℤ (u -ℤ pos 1) → unsigned_abs (int_max (x -ℤ a) (pos 0)) < unsigned_abs (int_max (u -ℤ a) (pos 0))
    one_axis a x u p q = omega (arith, ints, clamps)

    other_axis : (b y v : ℤ) → y ≤ℤ int_max v b → unsigned_abs (int_max (y -ℤ b) (pos 0)) ≤ unsigned_abs (int_max (v -ℤ b) (pos 0))
    other_axis b y v r = omega (arith, ints, clamps)

less_below : (a x y b u v : ℤ) → u ≤ℤ a → x ≤ℤ a → b <ℤ v → y ≤ℤ (v -ℤ pos 1) → unsigned_abs (int_max (x -ℤ a) (pos 0)) + unsigned_abs (int_max (y -ℤ b) (pos 0)) < unsigned_abs (int_max (u -ℤ a) (pos 0)) + unsigned_abs (int_max (v -ℤ b) (pos 0))
less_below a x y b u v p q r t =
    let one : unsigned_abs (int_max (x -ℤ a) (pos 0)) ≡ 0 = none a x q in
    let two : unsigned_abs (int_max (y -ℤ b) (pos 0)) < unsigned_abs (int_max (v -ℤ b) (pos 0)) = one_axis b y v r t in
    omega arith
  where
    none : (a x : ℤ) → x ≤ℤ a → unsigned_abs (int_max (x -ℤ a) (pos 0)) ≡ 0
    none a x q = omega (arith, ints, clamps)

    one_axis : (a x u : ℤ) → a <ℤ u → x ≤ℤ (u -ℤ pos 1) → unsigned_abs (int_max (x -ℤ a) (pos 0)) < unsigned_abs (int_max (u -ℤ a) (pos 0))
    one_axis a x u p q = omega (arith, ints, clamps)

module _ (s : Store) (domain : Rect) (is : IsLinked s domain) (area : Rect) where
  pub sweep_begins : (root : TileId) (found : List TileId) (place : ℕ) → Holds s root (record { x = area.x0; y = area.y0 }) → found ≡ root ∷ [] → place ≡ 0 → HasSwept s area found place
  sweep_begins root found place h e f =
      let P : List TileId → Type 0 = λ l. IsSweeping s area root [] l in
      record {
        root = root;
        done = [];
        rest = found;
        found_is = refl;
        place_is = f;
        sweeping = subst P (sym e) (record {
          root_holds = h;
          root_found = has_head root [];
          meets = λ j k. elim (last_cases [] root j k) [
            | inl none ↦ absurd (has_none j none)
            | inr same ↦
                let Q : TileId → Type 0 = λ i. MeetsArea s area i in
                subst Q same (record {
                  tile = h.tile;
                  is_there = h.is_there;
                  meets = record { at = record { x = area.x0; y = area.y0 }; in_first = h.has_point; in_second = record { across = low_in (columns area); up = low_in (rows area) } };
                })
          ];
          closed = λ i j k. absurd (has_none i k);
          entered = λ j k. elim (last_cases [] root j k) [
            | inl none ↦ absurd (has_none j none)
            | inr same ↦ is_root same
          ];
          once = pairs_added (λ i j. i ≢ j) [] root (pairs_none (λ i j. i ≢ j)) (λ y k. absurd (has_none y k));
        });
      }

  -- what a sweep enters from a tile that is not done is not found yet
  not_found : (root : TileId) (done more : List TileId) (id j : TileId) → IsSweeping s area root done (done ++ id ∷ more) → IsNext s area id j → IsEntered s area root done j → ⊥
  not_found root done more id j w n (is_root e) =
      let P : TileId → Type 0 = λ k. tile_at s k ≡ Some n.next in
      let h = w.root_holds in
      let one : n.next ≡ h.tile = one_tile s root n.next h.tile (subst P (sym e) n.next_is_there) h.is_there in
      let Q : Tile → Type 0 = λ t. IsEntry area t.area n.enters.entry in
      no_entry area h.tile.area n.enters.entry h.has_point.across.from h.has_point.up.from (subst Q one n.enters.is_entry)
  not_found root done more id j w n (is_next i k m) =
      let one : m.next ≡ n.next = one_tile s j m.next n.next m.next_is_there n.next_is_there in
      let Q : Tile → Type 0 = λ t. IsEntry area t.area m.enters.entry in
      let same_entry : m.enters.entry ≡ n.enters.entry = entry_one area n.next.area m.enters.entry n.enters.entry (subst Q one m.enters.is_entry) n.enters.is_entry in
      let R : Point → Type 0 = λ z. HasPoint m.tile.area z in
      let same : i ≡ id = is.apart i id n.enters.entry
      (record { tile = m.tile; is_there = m.is_there; has_point = subst R same_entry m.enters.has_entry })
      (record { tile = n.tile; is_there = n.is_there; has_point = n.enters.has_entry }) in
      pairs_before (λ a b. a ≢ b) done (id ∷ more) i id w.once k (has_head id more) same

  entered_still : (root : TileId) (done : List TileId) (id j : TileId) → IsEntered s area root done j → IsEntered s area root (done ++ id ∷ []) j
  entered_still root done id j (is_root e) = is_root e
  entered_still root done id j (is_next i k m) = is_next i (Contains-append_left done (id ∷ []) i k) m

  turn : (root : TileId) (done more : List TileId) (id : TileId) (new : List TileId) → IsSweeping s area root done (done ++ id ∷ more) → AreAllEntered s area id new → IsSweeping s area root (done ++ id ∷ []) ((done ++ id ∷ more) ++ new)
  turn root done more id new w a =
      let found : List TileId = done ++ id ∷ more in
      record {
        root_holds = w.root_holds;
        root_found = Contains-append_left found new root w.root_found;
        meets = λ j h. elim (Contains-append_cases found new j h) [
          | inl old ↦ w.meets j old
          | inr late ↦ let n = a.entered j late in record { tile = n.next; is_there = n.next_is_there; meets = n.enters.meets }
        ];
        closed = λ i j h n. elim (last_cases done id i h) [
          | inl old ↦ Contains-append_left found new j (w.closed i j old n)
          | inr same ↦
              let P : TileId → Type 0 = λ k. IsNext s area k j in
              Contains-append_right found new j (a.complete j (subst P (sym same) n))
        ];
        entered = λ j h. elim (Contains-append_cases found new j h) [
          | inl old ↦ entered_still root done id j (w.entered j old)
          | inr late ↦ is_next id (Contains-append_right done (id ∷ []) id (has_head id [])) (a.entered j late)
        ];
        once = pairs_joined (λ i j. i ≢ j) found new w.once a.once (λ x y h k same.
            let P : TileId → Type 0 = λ z. Contains found z in
            not_found root done more id y w (a.entered y k) (w.entered y (subst P same h)));
      }

  pub sweep_goes_on : (found : List TileId) (place : ℕ) (id : TileId) (new found' : List TileId) (place' : ℕ) → HasSwept s area found place → slice_get found place ≡ Some id → AreAllEntered s area id new → found' ≡ found ++ new → place' ≡ place + 1 → HasSwept s area found' place'
  sweep_goes_on found place id new found' place' w at a e f =
      let root = w.root in
      let P : List TileId → Type 0 = λ l. slice_get l place ≡ Some id in
      let Q : ℕ → Type 0 = λ n. slice_get (w.done ++ w.rest) n ≡ Some id in
      let begins = rest_begins w.done w.rest id (subst Q w.place_is (subst P w.found_is at)) in
      let split : found ≡ w.done ++ id ∷ begins.0 = w.found_is ∙ ap (λ (l : List TileId). w.done ++ l) begins.1 in
      let R : List TileId → Type 0 = λ l. IsSweeping s area root w.done l in
      let next : IsSweeping s area root (w.done ++ id ∷ []) ((w.done ++ id ∷ begins.0) ++ new) = turn root w.done begins.0 id new (subst R split w.sweeping) a in
      let S : List TileId → Type 0 = λ l. IsSweeping s area root (w.done ++ id ∷ []) l in
      let all : found' ≡ (w.done ++ id ∷ begins.0) ++ new = e ∙ ap (λ (l : List TileId). l ++ new) split in
      record {
        root = root;
        done = w.done ++ id ∷ [];
        rest = begins.0 ++ new;
        found_is = all ∙ regroup w.done begins.0 new id;
        place_is = let n = w.place_is in let m : length (w.done ++ id ∷ []) ≡ length w.done + 1 = simp length-append in omega arith;
        sweeping = subst S (sym all) next;
      }
    where
      regroup : (xs ys zs : List TileId) (x : TileId) → (xs ++ x ∷ ys) ++ zs ≡ (xs ++ x ∷ []) ++ (ys ++ zs)
      regroup xs ys zs x = simp append_assoc

  module _ (inside : LiesIn area domain) (root : TileId) (found : List TileId) (w : IsSweeping s area root found found) where
    in_domain : (p : Point) → HasPoint area p → HasPoint domain p
    in_domain = (lies_in_points area domain).0 inside

    all_met : (n : ℕ) (j : TileId) → (m : MeetsArea s area j) → depth area m.tile.area < n → Contains found j
    unfolding depth
    all_met zero j m less = absurd (omega arith)
    all_met (suc n) j m less =
        let u : Rect = m.tile.area in
        let fx = m.meets.in_first.across in
        let fy = m.meets.in_first.up in
        let ax = m.meets.in_second.across in
        let ay = m.meets.in_second.up in
        by_lt_z area.x0 u.x0
        (λ (right : area.x0 <ℤ u.x0).
        let p : Point = record { x = u.x0 -ℤ pos 1; y = int_max u.y0 area.y0 } in
        let e : IsLeftEntry area u p = record { begins_later = right; column = refl; row = refl } in
        let in_area : HasPoint area p = record { across = left_columns area u m.meets.at right fx ax; up = left_rows area u m.meets.at fy ay } in
        let held = is.covered p (in_domain p in_area) in
        let t = held.holds in
        let q = t.has_point in
        let lower : depth area t.tile.area < n = let l = less_left area.x0 t.tile.area.x0 t.tile.area.y0 area.y0 u.x0 u.y0 right q.across.from q.up.from in omega arith in
        let parent = all_met n held.by (record { tile = t.tile; is_there = t.is_there; meets = record { at = p; in_first = q; in_second = in_area } }) lower in
        w.closed held.by j parent (record { tile = t.tile; is_there = t.is_there; next = m.tile; next_is_there = m.is_there; enters = record { meets = m.meets; entry = p; is_entry = inl e; has_entry = q } }))
        (λ (not_right : u.x0 ≤ℤ area.x0). by_lt_z area.y0 u.y0
        (λ (over : area.y0 <ℤ u.y0).
        let p : Point = record { x = area.x0; y = u.y0 -ℤ pos 1 } in
        let e : IsLowerEntry area u p = record { begins_first = not_right; begins_higher = over; column = refl; row = refl } in
        let in_area : HasPoint area p = record { across = low_in (columns area); up = below_rows area u m.meets.at over fy ay } in
        let held = is.covered p (in_domain p in_area) in
        let t = held.holds in
        let q = t.has_point in
        let lower : depth area t.tile.area < n = let l = less_below area.x0 t.tile.area.x0 t.tile.area.y0 area.y0 u.x0 u.y0 not_right q.across.from over q.up.from in omega arith in
        let parent = all_met n held.by (record { tile = t.tile; is_there = t.is_there; meets = record { at = p; in_first = q; in_second = in_area } }) lower in
        w.closed held.by j parent (record { tile = t.tile; is_there = t.is_there; next = m.tile; next_is_there = m.is_there; enters = record { meets = m.meets; entry = p; is_entry = inr e; has_entry = q } }))
        (λ (not_over : u.y0 ≤ℤ area.y0).
        let same : root ≡ j = is.apart root j (record { x = area.x0; y = area.y0 }) w.root_holds (record { tile = m.tile; is_there = m.is_there; has_point = record { across = first_of (columns area) (columns u) m.meets.at.x not_right fx ax; up = first_of (rows area) (rows u) m.meets.at.y not_over fy ay } }) in
        let P : TileId → Type 0 = λ k. Contains found k in
        subst P same w.root_found))
      where
        left_columns : (a u : Rect) (at : Point) → a.x0 <ℤ u.x0 → HasNumber (columns u) at.x → HasNumber (columns a) at.x → HasNumber (columns a) (u.x0 -ℤ pos 1)
        left_columns a u at less f g = let x = f.from in let y = g.to in record { from = omega (arith, ints); to = omega (arith, ints) }

        left_rows : (a u : Rect) (at : Point) → HasNumber (rows u) at.y → HasNumber (rows a) at.y → HasNumber (rows a) (int_max u.y0 a.y0)
        left_rows a u at f g = let x = f.from in let y = g.to in let o = a.y_ordered in record { from = omega (arith, ints, clamps); to = omega (arith, ints, clamps) }

        below_rows : (a u : Rect) (at : Point) → a.y0 <ℤ u.y0 → HasNumber (rows u) at.y → HasNumber (rows a) at.y → HasNumber (rows a) (u.y0 -ℤ pos 1)
        below_rows a u at less f g = let x = f.from in let y = g.to in record { from = omega (arith, ints); to = omega (arith, ints) }

        first_of : (a u : Interval) (v : ℤ) → u.low ≤ℤ a.low → HasNumber u v → HasNumber a v → HasNumber u a.low
        first_of a u v low f g = let x = f.to in let y = g.from in record { from = omega (arith, ints); to = omega (arith, ints) }

    pub swept_all : AreMeeting s area found
    swept_all = record {
      listed = w.meets;
      complete = λ j m. all_met (depth area m.tile.area + 1) j m (omega arith);
      once = w.once;
    }

  -- a sweep that has done all that it found has found all
  pub sweep_ends : LiesIn area domain → (found : List TileId) (place : ℕ) → HasSwept s area found place → length found ≤ place → AreMeeting s area found
  sweep_ends inside found place w past =
      let P : List TileId → Type 0 = λ l. IsSweeping s area w.root l found in
      swept_all inside w.root found (subst P (whole w.done w.rest found w.found_is (let n = w.place_is in omega arith)) w.sweeping)
    where
      whole : (done rest all : List TileId) → all ≡ done ++ rest → length all ≤ length done → done ≡ all
      whole done [] all e h = sym (append-nil done) ∙ sym e
      whole done (x ∷ xs) all e h =
          let n : length all ≡ length (done ++ x ∷ xs) = ap (λ (l : List TileId). length l) e in
          let m : length (done ++ x ∷ xs) ≡ length done + length (x ∷ xs) = length-append done (x ∷ xs) in
          absurd (omega arith)

-- the corner of a part of the domain is one of its points
pub corner_within : (area domain : Rect) (q : Point) → LiesIn area domain → q ≡ record { x = area.x0; y = area.y0 } → HasPoint domain q
corner_within area domain q inside e =
    let P : Point → Type 0 = λ z. HasPoint domain z in
    subst P (sym e) ((lies_in_points area domain).0 inside (record { x = area.x0; y = area.y0 }) (record { across = low_in (columns area); up = low_in (rows area) }))

-- the tile at the place that a sweep has come to is there
pub swept_present : (s : Store) (area : Rect) (found : List TileId) (place : ℕ) (id : TileId) → HasSwept s area found place → slice_get found place ≡ Some id → IsPresent s id
swept_present s area found place id w at =
    let P : List TileId → Type 0 = λ l. slice_get l place ≡ Some id in
    let Q : ℕ → Type 0 = λ n. slice_get (w.done ++ w.rest) n ≡ Some id in
    let begins = rest_begins w.done w.rest id (subst Q w.place_is (subst P w.found_is at)) in
    let split : found ≡ w.done ++ id ∷ begins.0 = w.found_is ∙ ap (λ (l : List TileId). w.done ++ l) begins.1 in
    let R : List TileId → Type 0 = λ l. Contains l id in
    let m = w.sweeping.meets id (subst R (sym split) (Contains-append_right w.done (id ∷ begins.0) id (has_head id begins.0))) in
    let S : Option Tile → Type 0 = λ o. IsSome o in
    subst S (sym m.is_there) refl
