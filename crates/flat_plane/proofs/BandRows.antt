-- With the pieces of a band all points of its rows are held.
use Rattle.std.proofs.Common.{ℤ, pos, ◌-ℤ◌, ◌+ℤ◌, ◌≤ℤ◌, ◌<ℤ◌, ◌≡◌, subst, inl, inr, List, Contains, Option, Some, None, arith}
use Rattle.std.proofs.lemmas.Int.{ints, by_lt_z}
use Rattle.geo_rect.specs.declared.shapes.Interval.{Interval}
use Rattle.geo_rect.specs.declared.shapes.Point.{Point}
use Rattle.geo_rect.specs.Axis.{HasNumber, LiesWithin}
use Rattle.geo_rect.specs.Plane.{columns, rows, HasPoint}
use Rattle.plane_core.specs.declared.strips.Strip.{Strip}
use Rattle.plane_core.specs.Labels.{label_of}
use Rattle.plane_core.specs.Strips.{IsHeld}
use Rattle.plane_core.proofs.Alike.{strip_inside, strips_meet}
use Rattle.plane_core.proofs.Runs.{within_has}
use Rattle.flat_plane.specs.declared.brushes.Band.{Band}
use Rattle.flat_plane.specs.declared.brushes.Brush.{Brush}
use Rattle.flat_plane.specs.Draft.{IsAffected, KeepsPoints}
use Rattle.flat_plane.specs.Painting.{CanPaint, HoldsLeft, HoldsMiddle, HoldsRight, HoldsRows, HoldsUntouched, IsBand, IsBeyond, IsLeftEnd, IsRightEnd}
use Rattle.flat_plane.proofs.Decided.{affected_decided, label_decided}

-- all that a new draft holds once a band is added
pub record HoldsBand (strips : List Strip) (brush : Brush) (band : Band) (new : List Strip) : Type 0 where
  pub untouched : HoldsUntouched strips brush new
  pub left : HoldsLeft brush band.rows band.left new
  pub middle : HoldsMiddle band new
  pub right : HoldsRight brush band.rows band.right new

left_reach : (brush : Brush) (o : Option Strip) (low : ℤ) (strips : List Strip) (band : Interval) → IsBeyond strips brush.domain (brush.area.x0 -ℤ pos 1) band o → IsLeftEnd brush.area.x0 brush.label o low → low ≤ℤ brush.area.x0
left_reach brush None low strips band at end = omega (arith, ints)
left_reach brush (Some s) low strips band at end =
    let a = at.column.from in
    elim (label_decided s.label brush.label) [
      | inl e ↦ (let k = end.0 e in omega (arith, ints))
      | inr n ↦ (let k = end.1 n in omega (arith, ints))
    ]

right_reach : (brush : Brush) (o : Option Strip) (high : ℤ) (strips : List Strip) (band : Interval) → IsBeyond strips brush.domain (brush.area.x1 +ℤ pos 1) band o → IsRightEnd brush.area.x1 brush.label o high → brush.area.x1 ≤ℤ high
right_reach brush None high strips band at end = omega (arith, ints)
right_reach brush (Some s) high strips band at end =
    let a = at.column.to in
    elim (label_decided s.label brush.label) [
      | inl e ↦ (let k = end.0 e in omega (arith, ints))
      | inr n ↦ (let k = end.1 n in omega (arith, ints))
    ]

-- a strip with a point in the band that reaches the column beside the area is the one found there
found_left : (strips : List Strip) (brush : Brush) (band : Interval) (s t : Strip) (x y : ℤ) → CanPaint strips brush → Contains strips s → Contains strips t → HasNumber (columns t.area) x → LiesWithin band (rows t.area) → HasNumber (columns s.area) x → HasNumber (rows s.area) y → HasNumber band y → s ≡ t
found_left strips brush band s t x y can hs ht ct wt cs us hy =
    let at : Point = record { x = x; y = y } in
    strips_meet brush.domain (label_of strips) s t at (can.plane.each s hs) (can.plane.each t ht)
    (record { across = cs; up = us }) (record { across = ct; up = within_has band (rows t.area) y wt hy })

left_point : (strips : List Strip) (brush : Brush) (band : Band) (new : List Strip) (o : Option Strip) (s : Strip) (p : Point) → CanPaint strips brush → IsBeyond strips brush.domain (brush.area.x0 -ℤ pos 1) band.rows o → IsLeftEnd brush.area.x0 brush.label o band.across.low → HoldsLeft brush band.rows o new → HoldsMiddle band new → brush.area.x1 ≤ℤ band.across.high → Contains strips s → HasPoint s.area p → HasNumber (columns s.area) (brush.area.x0 -ℤ pos 1) → p.x <ℤ brush.area.x0 → HasNumber band.rows p.y → IsHeld new p
left_point strips brush band new None s p can at end hold middle reach hs hp cs less hy =
    let q : Point = record { x = brush.area.x0 -ℤ pos 1; y = p.y } in
    let inside : HasPoint brush.domain q = strip_inside brush.domain (label_of strips) s q (can.plane.each s hs) (record { across = cs; up = hp.up }) in
    absurd (at inside.across)
left_point strips brush band new (Some t) s p can at end hold middle reach hs hp cs less hy =
    let e : s ≡ t = found_left strips brush band.rows s t (brush.area.x0 -ℤ pos 1) p.y can hs at.listed at.column at.rows_within cs hp.up hy in
    let P : Strip → Type 0 = λ u. HasPoint u.area p in
    let tp : HasPoint t.area p = subst P e hp in
    elim (label_decided t.label brush.label) [
      | inl l ↦ (let k = end.0 l in let a = tp.across.from in let o = brush.area.x_ordered in
          middle p (record { from = omega (arith, ints); to = omega (arith, ints) }) hy)
      | inr n ↦ hold n p tp less hy
    ]

right_point : (strips : List Strip) (brush : Brush) (band : Band) (new : List Strip) (o : Option Strip) (s : Strip) (p : Point) → CanPaint strips brush → IsBeyond strips brush.domain (brush.area.x1 +ℤ pos 1) band.rows o → IsRightEnd brush.area.x1 brush.label o band.across.high → HoldsRight brush band.rows o new → HoldsMiddle band new → band.across.low ≤ℤ brush.area.x0 → Contains strips s → HasPoint s.area p → HasNumber (columns s.area) (brush.area.x1 +ℤ pos 1) → brush.area.x1 <ℤ p.x → HasNumber band.rows p.y → IsHeld new p
right_point strips brush band new None s p can at end hold middle reach hs hp cs more hy =
    let q : Point = record { x = brush.area.x1 +ℤ pos 1; y = p.y } in
    let inside : HasPoint brush.domain q = strip_inside brush.domain (label_of strips) s q (can.plane.each s hs) (record { across = cs; up = hp.up }) in
    absurd (at inside.across)
right_point strips brush band new (Some t) s p can at end hold middle reach hs hp cs more hy =
    let e : s ≡ t = found_left strips brush band.rows s t (brush.area.x1 +ℤ pos 1) p.y can hs at.listed at.column at.rows_within cs hp.up hy in
    let P : Strip → Type 0 = λ u. HasPoint u.area p in
    let tp : HasPoint t.area p = subst P e hp in
    elim (label_decided t.label brush.label) [
      | inl l ↦ (let k = end.0 l in let a = tp.across.to in let o = brush.area.x_ordered in
          middle p (record { from = omega (arith, ints); to = omega (arith, ints) }) hy)
      | inr n ↦ hold n p tp more hy
    ]

affected_point : (strips : List Strip) (brush : Brush) (band : Band) (new : List Strip) (s : Strip) (p : Point) → CanPaint strips brush → IsBand strips brush band → HoldsBand strips brush band new → Contains strips s → IsAffected brush.area s.area → HasPoint s.area p → HasNumber band.rows p.y → IsHeld new p
affected_point strips brush band new s p can is holds hs a hp hy =
    let t1 = a.across.first_reaches in let t2 = a.across.second_reaches in
    let p1 = hp.across.from in let p2 = hp.across.to in let o = brush.area.x_ordered in
    let low : band.across.low ≤ℤ brush.area.x0 = left_reach brush band.left band.across.low strips band.rows is.left is.left_end in
    let high : brush.area.x1 ≤ℤ band.across.high = right_reach brush band.right band.across.high strips band.rows is.right is.right_end in
    by_lt_z p.x brush.area.x0
    (λ less. left_point strips brush band new band.left s p can is.left is.left_end holds.left holds.middle high hs hp
    (record { from = omega (arith, ints); to = omega (arith, ints) }) less hy)
    (λ from. by_lt_z brush.area.x1 p.x
    (λ more. right_point strips brush band new band.right s p can is.right is.right_end holds.right holds.middle low hs hp
    (record { from = omega (arith, ints); to = omega (arith, ints) }) more hy)
    (λ to. holds.middle p (record { from = omega (arith, ints); to = omega (arith, ints) }) hy))

pub band_rows : (strips : List Strip) (brush : Brush) (band : Band) (new : List Strip) → CanPaint strips brush → IsBand strips brush band → HoldsBand strips brush band new → HoldsRows brush.domain band.rows new
band_rows strips brush band new can is holds p inside hy =
    let h : IsHeld strips p = can.plane.covered p inside in
    elim (affected_decided brush.area h.by.area) [
      | inl a ↦ affected_point strips brush band new h.by p can is holds h.is_listed a h.has_point hy
      | inr n ↦ holds.untouched h.by h.is_listed n p h.has_point
    ]

-- what is held to the left stays held
pub left_kept : (brush : Brush) (band : Interval) (old new : List Strip) (o : Option Strip) → KeepsPoints old new → HoldsLeft brush band o old → HoldsLeft brush band o new
left_kept brush band old new None keeps h = tt
left_kept brush band old new (Some s) keeps h = λ n p hp less hy. keeps p (h n p hp less hy)
