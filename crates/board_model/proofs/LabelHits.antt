-- When a shape hits a point of a wire plane or of a via plane.
use Rattle.std.proofs.Common.{◌≡◌, ℕ, ℤ, pos, Bool, true, false, not, eqb, leb, cond, Some, None, ◌↔◌, refl, ap}
use Rattle.std.specs.Prelude.{IsSomeAnd}
use Rattle.std.proofs.lemmas.Bool.{false≢true, eqb-true, eq-eqb, and_parts, and_from, leb-true, le-leb}
use Rattle.geo_rect.specs.declared.ids.ClassId.{ClassId}
use Rattle.geo_rect.specs.declared.ids.KindId.{KindId}
use Rattle.geo_rect.specs.declared.ids.LayerId.{LayerId}
use Rattle.geo_rect.specs.declared.shapes.Point.{Point}
use Rattle.geo_rect.specs.Plane.{IsTooClose, square}
use Rattle.board_parts.specs.declared.parts.BoardParts.{BoardParts}
use Rattle.board_parts.specs.declared.parts.Keepout.{Keepout}
use Rattle.board_parts.specs.declared.parts.ViaKind.{ViaKind}
use Rattle.board_model.specs.declared.shapes.Shape.{Shape}
use Rattle.board_parts.specs.Lookup.{rule_of, pad_on, kind_of}
use Rattle.board_parts.specs.Gaps.{gap_to}
use Rattle.board_model.specs.Labels.{Hits, Shuts, IsInSpan, is_in_span, wire_plane, via_plane}

counted : (t : Bool) (g : ℤ) (P : ℤ → Type 0) → IsSomeAnd (cond t (Some g) None) P → (t ≡ true) × P g
counted true g P h = (refl, h)
counted false g P h = absurd h

counts : (t : Bool) (g : ℤ) (P : ℤ → Type 0) → t ≡ true → P g → IsSomeAnd (cond t (Some g) None) P
counts true g P e h = h
counts false g P e h = absurd (false≢true e)

same_layer : (l m : LayerId) → eqb l.0 m.0 ≡ true → l ≡ m
same_layer l m e = let q : ℕ → LayerId = λ k. record { 0 = k } in ap q (eqb-true l.0 m.0 e)

in_span : (k : ViaKind) (l : LayerId) → is_in_span k l ≡ true → IsInSpan k l
in_span k l e =
    let t = and_parts (leb k.first.0 l.0) (leb l.0 k.last.0) e in
    record { from = leb-true k.first.0 l.0 t.0; to = leb-true l.0 k.last.0 t.1 }

span_test : (k : ViaKind) (l : LayerId) → IsInSpan k l → is_in_span k l ≡ true
span_test k l h = and_from (leb k.first.0 l.0) (leb l.0 k.last.0) (le-leb _ _ h.from) (le-leb _ _ h.to)

module _ (b : BoardParts) (c : ClassId) (p : Point) (s : Shape) where
  pub wire_hits : (l : LayerId) → Hits (wire_plane b l c) p s ↔ ((s.layer ≡ l) × IsTooClose (square p (rule_of b l c).half) s.area (gap_to b l c s.owner))
  wire_hits l =
      let g : ℤ = gap_to b l c s.owner in
      let P : ℤ → Type 0 = λ z. IsTooClose (square p (rule_of b l c).half) s.area z in (
        λ h. let t = counted (eqb s.layer.0 l.0) g P h in (same_layer s.layer l t.0, t.1),
        λ h. counts (eqb s.layer.0 l.0) g P (eq-eqb s.layer.0 l.0 (ap (λ (m : LayerId). m.0) h.0)) h.1,
      )

  pub via_hits : (k : KindId) → Hits (via_plane b k c) p s ↔ (IsInSpan (kind_of b k) s.layer × IsTooClose (square p (pad_on b k c s.layer)) s.area (gap_to b s.layer c s.owner))
  via_hits k =
      let g : ℤ = gap_to b s.layer c s.owner in
      let P : ℤ → Type 0 = λ z. IsTooClose (square p (pad_on b k c s.layer)) s.area z in
      let t : Bool = is_in_span (kind_of b k) s.layer in (
        λ h. let u = counted t g P h in (in_span (kind_of b k) s.layer u.0, u.1),
        λ h. counts t g P (span_test (kind_of b k) s.layer h.0) h.1,
      )

not_true : (t : Bool) → not t ≡ true → t ≡ false
not_true true e = absurd (false≢true e)
not_true false e = refl

module _ (b : BoardParts) (c : ClassId) (p : Point) (k : Keepout) where
  pub wire_shuts : (l : LayerId) → Shuts (wire_plane b l c) p k ↔ (((k.wires ≡ true) × (k.layer ≡ l)) × IsTooClose (square p (rule_of b l c).half) k.area (pos 1))
  wire_shuts l = (
    λ h. let t = and_parts k.wires (eqb k.layer.0 l.0) h.heeded in ((t.0, same_layer k.layer l t.1), h.close),
    λ h. record { heeded = and_from k.wires (eqb k.layer.0 l.0) h.0.0 (eq-eqb k.layer.0 l.0 (ap (λ (m : LayerId). m.0) h.0.1)); close = h.1 },
  )

  pub via_shuts : (kind : KindId) → Shuts (via_plane b kind c) p k ↔ (((k.wires ≡ false) × IsInSpan (kind_of b kind) k.layer) × IsTooClose (square p (pad_on b kind c k.layer)) k.area (pos 1))
  via_shuts kind = (
    λ h. let t = and_parts (not k.wires) (is_in_span (kind_of b kind) k.layer) h.heeded in ((not_true k.wires t.0, in_span (kind_of b kind) k.layer t.1), h.close),
    λ h. record { heeded = and_from (not k.wires) (is_in_span (kind_of b kind) k.layer) (ap not h.0.0) (span_test (kind_of b kind) k.layer h.0.1); close = h.1 },
  )
