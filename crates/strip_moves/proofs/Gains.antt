-- How a list of entries gains arrivals: none, one, some after others, and those of strip after strip.
use Rattle.std.proofs.Common.{ℕ, ◌≡◌, ◌+◌, ◌<◌, ◌⊎◌, inl, inr, List, [], ◌∷◌, ◌++◌, length, take, get_or, sym, ◌∙◌, ap, subst}
use Rattle.std.specs.Prelude.{Contains}
use Rattle.std.proofs.lemmas.List.{take_more}
use Rattle.std.proofs.lemmas.List.Elements.{Contains-append_left, Contains-push, Contains-push_cases}
use Rattle.std.proofs.Math.Seq.{take-length}
use Rattle.plane_core.specs.declared.strips.Strip.{Strip}
use Rattle.plane_core.proofs.Members.{has_none}
use Rattle.route_law.specs.declared.certs.Entry.{Entry}
use Rattle.route_law.specs.declared.certs.Origin.{Origin}
use Rattle.route_law.specs.Moves.{Arrival, arrival_of}
use Rattle.strip_moves.specs.Gains.{Gains, IsWantedFrom, IsFromOneOf}
use Rattle.strip_moves.specs.Listed.{HasArrival}

pub arrival_kept : (old new : List Entry) (o : Origin) (a : Arrival) → ((e : Entry) → Contains old e → Contains new e) → HasArrival old o a → HasArrival new o a
arrival_kept old new o a kept h = record { entry = h.entry; listed = kept h.entry h.listed; same = h.same; from = h.from }

module _ (o : Origin) where
  pub gains_none : (es : List Entry) (W : Arrival → Type 0) → ((a : Arrival) → W a → ⊥) → Gains es es o W
  gains_none es W n = record { kept = λ e h. h; each = λ e h. inl h; all = λ a w. absurd (n a w) }

  -- the one arrival that is wanted
  pub gains_one : (old new : List Entry) (e : Entry) (W : Arrival → Type 0) → new ≡ old ++ e ∷ [] → e.origin ≡ o → W (arrival_of e) → ((a b : Arrival) → W a → W b → a ≡ b) → Gains old new o W
  gains_one old new e W is from w one =
      subst (λ (es : List Entry). Gains old es o W) (sym is)
      (
      record {
        kept = λ x h. Contains-append_left old (e ∷ []) x h;
        each = λ x h. elim (Contains-push_cases old e x h) [
          | inl k ↦ inl k
          | inr same ↦ inr (subst (λ (y : Entry). IsWantedFrom o W y) same (record { from = from; wanted = w }))
        ];
        all = λ a v. record { entry = e; listed = Contains-push old e; same = one (arrival_of e) a w v; from = from };
      }
      )

  pub gains_as : (old new : List Entry) (V W : Arrival → Type 0) → ((a : Arrival) → V a → W a) → ((a : Arrival) → W a → V a) → Gains old new o V → Gains old new o W
  gains_as old new V W f g h = record {
    kept = h.kept;
    each = λ e k. elim (h.each e k) [
      | inl l ↦ inl l
      | inr w ↦ inr (record { from = w.from; wanted = f (arrival_of e) w.wanted })
    ];
    all = λ a w. h.all a (g a w);
  }

  pub gains_both : (old mid new : List Entry) (V W : Arrival → Type 0) → Gains old mid o V → Gains mid new o W → Gains old new o (λ a. V a ⊎ W a)
  gains_both old mid new V W h k = record {
    kept = λ e l. k.kept e (h.kept e l);
    each = λ e l. elim (k.each e l) [
      | inl m ↦ elim (h.each e m) [
        | inl n ↦ inl n
        | inr w ↦ inr (record { from = w.from; wanted = inl w.wanted })
      ]
      | inr w ↦ inr (record { from = w.from; wanted = inr w.wanted })
    ];
    all = λ a u. elim u [
      | inl v ↦ arrival_kept mid new o a k.kept (h.all a v)
      | inr w ↦ k.all a w
    ];
  }

  module _ (From : Strip → Arrival → Type 0) where
    pub gains_of_none : (es : List Entry) → Gains es es o (IsFromOneOf [] From)
    gains_of_none es = gains_none es (IsFromOneOf [] From) (λ a h. has_none h.strip h.listed)

    of_either : (done : List Strip) (s : Strip) (a : Arrival) → IsFromOneOf done From a ⊎ From s a → IsFromOneOf (done ++ s ∷ []) From a
    of_either done s a (inl h) = record { strip = h.strip; listed = Contains-append_left done (s ∷ []) h.strip h.listed; from = h.from }
    of_either done s a (inr h) = record { strip = s; listed = Contains-push done s; from = h }

    either_of : (done : List Strip) (s : Strip) (a : Arrival) → IsFromOneOf (done ++ s ∷ []) From a → IsFromOneOf done From a ⊎ From s a
    either_of done s a h =
        elim (Contains-push_cases done s h.strip h.listed) [
          | inl k ↦ inl (record { strip = h.strip; listed = k; from = h.from })
          | inr same ↦ inr (subst (λ (t : Strip). From t a) (sym same) h.from)
        ]

    -- one strip more
    pub gains_more : (old mid new : List Entry) (strips : List Strip) (i : ℕ) (s : Strip) → i < length strips → s ≡ get_or strips i s → Gains old mid o (IsFromOneOf (take i strips) From) → Gains mid new o (From s) → Gains old new o (IsFromOneOf (take (i + 1) strips) From)
    gains_more old mid new strips i s lt is h k =
        let done : List Strip = take i strips in
        let more : take (i + 1) strips ≡ done ++ s ∷ [] = take_more strips i s lt ∙ ap (λ (t : Strip). done ++ t ∷ []) (sym is) in
        subst (λ (ss : List Strip). Gains old new o (IsFromOneOf ss From)) (sym more)
        (gains_as old new (λ a. IsFromOneOf done From a ⊎ From s a) (IsFromOneOf (done ++ s ∷ []) From) (of_either done s) (either_of done s)
        (gains_both old mid new (IsFromOneOf done From) (From s) h k))

    -- all strips
    pub gains_whole : (old new : List Entry) (strips : List Strip) (i : ℕ) → i ≡ length strips → Gains old new o (IsFromOneOf (take i strips) From) → Gains old new o (IsFromOneOf strips From)
    gains_whole old new strips i e h = subst (λ (ss : List Strip). Gains old new o (IsFromOneOf ss From)) (ap (λ (n : ℕ). take n strips) e ∙ take-length strips) h
