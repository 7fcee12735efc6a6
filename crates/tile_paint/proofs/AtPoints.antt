-- When there is no ledge at a point, and when the pieces on its two sides can be joined.
use Rattle.std.proofs.Common.{ℤ, pos, ◌≡◌, ◌⊎◌, inl, inr, ◌+ℤ◌, ◌-ℤ◌, ◌≤ℤ◌, refl, sym, subst, ap, ◌∙◌, arith}
use Rattle.std.proofs.lemmas.Int.{ints, by_lt_z}
use Rattle.geo_rect.specs.declared.ids.Label.{Label}
use Rattle.geo_rect.specs.declared.shapes.Interval.{Interval}
use Rattle.geo_rect.specs.declared.shapes.Point.{Point}
use Rattle.geo_rect.specs.declared.shapes.Rect.{Rect}
use Rattle.geo_rect.specs.Plane.{columns, rect_of, HasPoint}
use Rattle.plane_core.specs.declared.strips.Strip.{Strip}
use Rattle.tile_store.specs.declared.tiles.TileId.{TileId}
use Rattle.tile_store.specs.Store.{Store}
use Rattle.stitch_walk.specs.Pieces.{IsPiece, AreStacked, CanJoin, FillDomain, HasLabel, IsJoined}
use Rattle.tile_paint.specs.declared.spots.Found.{Found}
use Rattle.tile_paint.specs.Changes.{AreAlike, IsGrownDown, AreJoinedAt, HasNoLedgeAt, IsFreeOfLedges}
use Rattle.tile_paint.specs.Edges.{EndsUnder, IsLedge}
use Rattle.tile_paint.proofs.Axes.{has_point_in}
use Rattle.tile_paint.proofs.Cutting.{one_piece}
use Rattle.tile_paint.proofs.JoinsUp.{has_upper, join_up_changes, join_up_gone}
use Rattle.tile_paint.proofs.Narrowing.{same_labels, labels_twice}

-- the piece that ends below a row and has the column has the point under it
pub has_lower : (s : Store) (from to y x : ℤ) (label : Label) (b : EndsUnder s from to y label) → from ≤ℤ x → x ≤ℤ to → HasPoint b.piece.area (record { x = x; y = y -ℤ pos 1 })
has_lower s from to y x label b f t =
    let o = b.piece.area.y_ordered in
    let l = b.left in let r = b.right in let k = b.ends in
    record { across = record { from = omega (arith, ints); to = omega (arith, ints) }; up = record { from = omega (arith, ints); to = omega (arith, ints) } }

-- one point has one piece
pub one_at : (s : Store) (domain : Rect) → FillDomain s domain → (i j : TileId) (p q : Strip) (at : Point) → IsPiece s i p → IsPiece s j q → HasPoint p.area at → HasPoint q.area at → p ≡ q
one_at s domain fill i j p q at e f h k =
    let Q : TileId → Type 0 = λ n. IsPiece s n p in
    one_piece s j p q (subst Q (fill.apart i j p q at e f h k) e) f

-- a point with a label is in the domain
pub labelled_inside : (s : Store) (domain : Rect) → FillDomain s domain → (p : Point) (label : Label) → HasLabel s p label → HasPoint domain p
labelled_inside s domain fill p label h = has_point_in h.piece.area domain p (fill.inside h.by h.piece h.is_piece) h.has_point

-- the label of a point is that of a piece that has it
pub label_of_piece : (s : Store) (domain : Rect) → FillDomain s domain → (n : TileId) (q : Strip) (p : Point) (label : Label) → IsPiece s n q → HasPoint q.area p → HasLabel s p label → q.label ≡ label
label_of_piece s domain fill n q p label e h k = ap (λ (z : Strip). z.label) (one_at s domain fill n k.by q k.piece p e k.is_piece h k.has_point) ∙ k.has_label

module _ (s : Store) (domain : Rect) (fill : FillDomain s domain) (p : Point) where
  -- a point outside of the domain has no ledge
  pub none_outside : ¬ HasPoint domain p → HasNoLedgeAt s p.x p.y
  none_outside out from to l f t =
      let u = l.upper in
      out (has_point_in u.piece.area domain p (fill.inside u.by u.piece u.is_piece) (has_upper s from to p.y p.x l.label u f t))

  module _ (upper : Found) (is_upper : IsPiece s upper.id upper.piece) (has : HasPoint upper.piece.area p) where
    upper_is : (from to : ℤ) (l : IsLedge s from to p.y) → from ≤ℤ p.x → p.x ≤ℤ to → l.upper.piece ≡ upper.piece
    upper_is from to l f t = one_at s domain fill l.upper.by upper.id l.upper.piece upper.piece p l.upper.is_piece is_upper (has_upper s from to p.y p.x l.label l.upper f t) has

    -- where a piece goes through, there is no ledge
    pub none_through : (upper.piece.area.y0 ≡ p.y → ⊥) → HasNoLedgeAt s p.x p.y
    none_through not_here from to l f t = not_here (sym (ap (λ (z : Strip). z.area.y0) (upper_is from to l f t)) ∙ sym l.upper.begins)

    module _ (under : Point) (same_column : under.x ≡ p.x) (one_below : under.y ≡ p.y -ℤ pos 1) where
      has_under : (from to : ℤ) (l : IsLedge s from to p.y) → from ≤ℤ p.x → p.x ≤ℤ to → HasPoint l.lower.piece.area under
      has_under from to l f t =
          let h = has_lower s from to p.y p.x l.label l.lower f t in
          let a = h.across.from in let b = h.across.to in let d = h.up.from in let e = h.up.to in
          record { across = record { from = omega (arith, ints); to = omega (arith, ints) }; up = record { from = omega (arith, ints); to = omega (arith, ints) } }

      -- at the lower edge of the domain there is no ledge
      pub none_at_bottom : ¬ HasPoint domain under → HasNoLedgeAt s p.x p.y
      none_at_bottom out from to l f t =
          out (has_point_in l.lower.piece.area domain under (fill.inside l.lower.by l.lower.piece l.lower.is_piece) (has_under from to l f t))

      module _ (lower : Found) (is_lower : IsPiece s lower.id lower.piece) (has_lower_point : HasPoint lower.piece.area under) where
        lower_is : (from to : ℤ) (l : IsLedge s from to p.y) → from ≤ℤ p.x → p.x ≤ℤ to → l.lower.piece ≡ lower.piece
        lower_is from to l f t = one_at s domain fill l.lower.by lower.id l.lower.piece lower.piece under l.lower.is_piece is_lower (has_under from to l f t) has_lower_point

        -- between pieces that are not alike there is no ledge
        pub none_unlike : (AreAlike lower.piece upper.piece → ⊥) → HasNoLedgeAt s p.x p.y
        none_unlike unlike from to l f t =
            let u = upper_is from to l f t in
            let d = lower_is from to l f t in
            unlike (record {
              same_label = sym (ap (λ (z : Strip). z.label) d) ∙ l.lower.has_label ∙ sym l.upper.has_label ∙ ap (λ (z : Strip). z.label) u;
              same_columns = record {
                left = sym (ap (λ (z : Strip). z.area.x0) d) ∙ sym l.lower.left ∙ l.upper.left ∙ ap (λ (z : Strip). z.area.x0) u;
                right = sym (ap (λ (z : Strip). z.area.x1) d) ∙ sym l.lower.right ∙ l.upper.right ∙ ap (λ (z : Strip). z.area.x1) u;
              };
            })

        module _ (begins : upper.piece.area.y0 ≡ p.y) where
          not_above : p.y ≤ℤ lower.piece.area.y1 → ⊥
          not_above le =
              let a = has_lower_point.across.from in let b = has_lower_point.across.to in let d = has_lower_point.up.from in
              let h : HasPoint lower.piece.area p = record { across = record { from = omega (arith, ints); to = omega (arith, ints) }; up = record { from = omega (arith, ints); to = omega (arith, ints) } } in
              let same = ap (λ (z : Strip). z.area.y0) (one_at s domain fill lower.id upper.id lower.piece upper.piece p is_lower is_upper h has) in
              omega (arith, ints)

          pub next_row : upper.piece.area.y0 ≡ lower.piece.area.y1 +ℤ pos 1
          next_row =
              let e = has_lower_point.up.to in
              by_lt_z lower.piece.area.y1 p.y (λ less. let r : upper.piece.area.y0 ≡ lower.piece.area.y1 +ℤ pos 1 = omega (arith, ints) in r) (λ more. absurd (not_above more))

          both_ordered : lower.piece.area.y0 ≤ℤ upper.piece.area.y1
          both_ordered =
              let a = lower.piece.area.y_ordered in let b = upper.piece.area.y_ordered in let n = next_row in
              omega (arith, ints)

          -- pieces that are alike can be joined
          pub can_join_up : AreAlike lower.piece upper.piece → CanJoin AreStacked s lower.id
          can_join_up alike =
              let r : Interval = record { low = lower.piece.area.y0; high = upper.piece.area.y1; ordered = both_ordered } in
              record {
                other = upper.id;
                first = lower.piece;
                second = upper.piece;
                whole = rect_of (columns lower.piece.area) r;
                first_is = is_lower;
                second_is = is_upper;
                parts = record {
                  lower_columns = record { left = refl; right = refl };
                  upper_columns = record { left = sym alike.same_columns.left; right = sym alike.same_columns.right };
                  in_rows = record { from = refl; next = next_row; to = refl };
                };
                same_label = alike.same_label;
              }

          module _ (new : Store) (j : IsJoined AreStacked s new lower.id) where
            first_is_lower : j.as_cut.first ≡ lower.piece
            first_is_lower = one_piece s lower.id j.as_cut.first lower.piece j.as_cut.first_is is_lower

            second_begins : j.as_cut.second.area.y0 ≡ p.y
            second_begins =
                let n = next_row in
                let k = j.as_cut.parts.in_rows.next in
                let e = ap (λ (z : Strip). z.area.y1) first_is_lower in
                omega (arith, ints)

            second_has : HasPoint j.as_cut.second.area p
            second_has =
                let o = j.as_cut.second.area.y_ordered in
                let k = second_begins in
                let l = j.as_cut.parts.lower_columns.left in let r = j.as_cut.parts.lower_columns.right in
                let u = j.as_cut.parts.upper_columns.left in let v = j.as_cut.parts.upper_columns.right in
                let e = ap (λ (z : Strip). z.area.x0) first_is_lower in
                let f = ap (λ (z : Strip). z.area.x1) first_is_lower in
                let a = has_lower_point.across.from in let b = has_lower_point.across.to in
                record { across = record { from = omega (arith, ints); to = omega (arith, ints) }; up = record { from = omega (arith, ints); to = omega (arith, ints) } }

            pub joined_at : AreJoinedAt s new p.y
            joined_at = join_up_changes s new lower.id j.other j.as_cut p.y second_begins

            pub gone_at : HasNoLedgeAt new p.x p.y
            gone_at = join_up_gone s new lower.id j.other j.as_cut domain fill p second_has second_begins

-- nothing was joined
pub joined_not : (s : Store) (y : ℤ) → AreJoinedAt s s y
joined_not s y = record {
  labels = same_labels s;
  seams = λ x z k. k;
  ledges = λ from to z k. k;
  pieces = λ n q k. record { by = n; was = q; is_piece = k; columns = record { left = refl; right = refl }; high = refl; low = inl refl };
}

grown_twice : (r s : Store) (y : ℤ) (q : Strip) (a : IsGrownDown s y q) (b : IsGrownDown r y a.was) → (q.area.y0 ≡ a.was.area.y0) ⊎ (a.was.area.y0 ≡ y) → (a.was.area.y0 ≡ b.was.area.y0) ⊎ (b.was.area.y0 ≡ y) → (q.area.y0 ≡ b.was.area.y0) ⊎ (b.was.area.y0 ≡ y)
grown_twice r s y q a b (inl e) (inl f) = inl (e ∙ f)
grown_twice r s y q a b (inr e) (inl f) = inr (sym f ∙ e)
grown_twice r s y q a b (inl e) (inr f) = inr f
grown_twice r s y q a b (inr e) (inr f) = inr f

pub joined_twice : (r s t : Store) (y : ℤ) → AreJoinedAt r s y → AreJoinedAt s t y → AreJoinedAt r t y
joined_twice r s t y a b = record {
  labels = labels_twice r s t a.labels b.labels;
  seams = λ x z k. a.seams x z (b.seams x z k);
  ledges = λ from to z k. a.ledges from to z (b.ledges from to z k);
  pieces = λ n q k.
      let g = b.pieces n q k in
      let h = a.pieces g.by g.was g.is_piece in
      record { by = h.by; was = h.was; is_piece = h.is_piece; columns = record { left = g.columns.left ∙ h.columns.left; right = g.columns.right ∙ h.columns.right }; high = g.high ∙ h.high; low = grown_twice r s y q g h g.low h.low };
}

-- where there was no ledge there is none
pub still_gone : (s t : Store) (x y : ℤ) → AreJoinedAt s t y → HasNoLedgeAt s x y → HasNoLedgeAt t x y
still_gone s t x y j gone from to l f g = gone from to (j.ledges from to y l) f g

-- the tiles of a row were joined at three points
module _ (r s t u : Store) (row : Rect) (p q v : Point) (p_y : p.y ≡ row.y0) (q_y : q.y ≡ row.y0) (v_y : v.y ≡ row.y0) (a : AreJoinedAt r s p.y) (b : AreJoinedAt s t q.y) (d : AreJoinedAt t u v.y) where
  third : AreJoinedAt t u row.y0
  third = let Q : ℤ → Type 0 = λ z. AreJoinedAt t u z in subst Q v_y d

  second : AreJoinedAt s t row.y0
  second = let Q : ℤ → Type 0 = λ z. AreJoinedAt s t z in subst Q q_y b

  pub row_joined : AreJoinedAt r u row.y0
  row_joined =
      let Q : ℤ → Type 0 = λ z. AreJoinedAt r s z in
      joined_twice r t u row.y0 (joined_twice r s t row.y0 (subst Q p_y a) second) third

  at_row : (w : Store) (k : Point) (x y : ℤ) → k.x ≡ x → k.y ≡ y → HasNoLedgeAt w k.x k.y → HasNoLedgeAt w x y
  at_row w k x y e f h =
      let Q : ℤ → Type 0 = λ z. HasNoLedgeAt w z k.y in
      let R : ℤ → Type 0 = λ z. HasNoLedgeAt w x z in
      subst R f (subst Q e h)

  pub row_free : p.x ≡ row.x0 -ℤ pos 1 → q.x ≡ row.x0 → v.x ≡ row.x1 +ℤ pos 1 → HasNoLedgeAt s p.x p.y → HasNoLedgeAt t q.x q.y → HasNoLedgeAt u v.x v.y → IsFreeOfLedges u row
  row_free e f g h k l = record {
    before = still_gone t u (row.x0 -ℤ pos 1) row.y0 third (still_gone s t (row.x0 -ℤ pos 1) row.y0 second (at_row s p (row.x0 -ℤ pos 1) row.y0 e p_y h));
    at_first = still_gone t u row.x0 row.y0 third (at_row t q row.x0 row.y0 f q_y k);
    after = at_row u v (row.x1 +ℤ pos 1) row.y0 g v_y l;
  }
