-- A list of the moves of an entry: those by edges, and then those by one kind of via after the other.
use Rattle.std.proofs.Common.{ℕ, ◌≡◌, ◌+◌, ◌<◌, ◌⊎◌, inl, inr, sym, ap, subst, List, [], All, Contains, arith}
use Rattle.std.proofs.lemmas.Bool.{cases_order}
use Rattle.std.proofs.lemmas.List.Elements.{All-contains, All-weaker, All-contains_itself}
use Rattle.geo_rect.specs.declared.ids.KindId.{KindId}
use Rattle.plane_core.proofs.Members.{has_none}
use Rattle.route_law.specs.declared.certs.Entry.{Entry}
use Rattle.route_law.specs.declared.certs.Origin.TheVariants.{Step, Via}
use Rattle.route_law.specs.Ground.{Ground}
use Rattle.route_law.specs.Moves.{Arrival, IsEdgeMove, IsViaMove}
use Rattle.strip_moves.specs.Gains.{Gains}
use Rattle.strip_moves.specs.Listed.{HasArrival, IsMoveFrom}
use Rattle.strip_moves.specs.Listed.IsMoveFrom.{by_edge, by_via}
use Rattle.strip_moves.proofs.Gains.{arrival_kept}

pub last_or_before : (i k : ℕ) → i < k + 1 → (i < k) ⊎ (i ≡ k)
last_or_before i k h =
    elim (cases_order i k) [
      | inl same ↦ inr same
      | inr (inl less) ↦ inl less
      | inr (inr more) ↦ absurd (omega arith)
    ]

module _ (g : Ground) (a : Arrival) (n : ℕ) where
  pub edges_listed : (entries : List Entry) → Gains [] entries (Step n) (IsEdgeMove g a) → All (IsMoveFrom g a n) entries
  edges_listed entries h =
      All-weaker (Contains entries) (IsMoveFrom g a n)
      (λ e k. elim (h.each e k) [
        | inl none ↦ absurd (has_none e none)
        | inr w ↦ by_edge w.from w.wanted
      ])
      entries (All-contains_itself entries)

  module _ (k : KindId) (old new : List Entry) (gains : Gains old new (Via n k) (IsViaMove g k a)) where
    pub vias_listed : All (IsMoveFrom g a n) old → All (IsMoveFrom g a n) new
    vias_listed before =
        All-weaker (Contains new) (IsMoveFrom g a n)
        (λ e h. elim (gains.each e h) [
          | inl listed ↦ All-contains (IsMoveFrom g a n) old e before listed
          | inr w ↦ by_via k w.from w.wanted
        ])
        new (All-contains_itself new)

    of_last : (i : KindId) (x : Arrival) → i.0 ≡ k.0 → IsViaMove g i a x → HasArrival new (Via n i) x
    of_last i x e h =
        let same : i ≡ k = ap (λ (m : ℕ). let kind : KindId = record { 0 = m } in kind) e in
        subst (λ (j : KindId). HasArrival new (Via n j) x) (sym same) (gains.all x (subst (λ (j : KindId). IsViaMove g j a x) same h))

    pub one_kind_more : (i : KindId) (x : Arrival) → i.0 < k.0 + 1 → IsViaMove g i a x → (i.0 < k.0 → HasArrival old (Via n i) x) → HasArrival new (Via n i) x
    one_kind_more i x lt h before =
        elim (last_or_before i.0 k.0 lt) [
          | inl earlier ↦ arrival_kept old new (Via n i) x gains.kept (before earlier)
          | inr same ↦ of_last i x same h
        ]
