-- The seeds, part by part, and what of a part is a seed.
use Rattle.std.proofs.Common.{◌≡◌, ℕ, ◌+◌, ◌<◌, ◌≤◌, Bool, true, false, List, [], ◌∷◌, ◌++◌, All, length, take, get_or, Some, ◌↔◌, refl, sym, ap, subst, ◌∙◌, arith}
use Rattle.std.specs.Prelude.{Contains, slice_get}
use Rattle.std.proofs.lemmas.List.{length_push, take_all, take_more, get_or_append_left, get_or_push}
use Rattle.std.proofs.lemmas.List.Elements.{All-contains}
use Rattle.std.proofs.lemmas.Option.{slice_get_within, none-some}
use Rattle.geo_rect.specs.declared.ids.LayerId.{LayerId}
use Rattle.geo_rect.specs.declared.ids.NetId.{NetId}
use Rattle.geo_rect.specs.declared.shapes.Rect.{Rect}
use Rattle.board_model.specs.declared.shapes.Shape.{Shape}
use Rattle.plane_set.proofs.Places.{each_push}
use Rattle.zone_fill.specs.Flooding.{IsMarked}
use Rattle.zone_fill.specs.Seeds.{IsSeedOf, HasSeed, AreSeeds}

module _ (shapes : List Shape) (n : NetId) (l : LayerId) where
  -- a shape that is a seed of the part
  pub seed_here : (part : Rect) (s : Shape) → Contains shapes s → IsSeedOf part n l s → HasSeed shapes n l part
  seed_here part s c h = record {
    point = h.meets.at;
    in_shape = record { shape = s; listed = c; owned = h.owned; on_layer = h.on_layer; has_point = h.meets.in_first };
    in_part = h.meets.in_second;
  }

  -- the part has none where no shape is one
  pub seed_nowhere : (part : Rect) (i : ℕ) → length shapes ≤ i → All (λ (s : Shape). ¬ IsSeedOf part n l s) (take i shapes) → HasSeed shapes n l part → ⊥
  seed_nowhere part i k none h =
      let s = h.in_shape.shape in
      let all : All (λ (t : Shape). ¬ IsSeedOf part n l t) shapes = subst (All (λ (t : Shape). ¬ IsSeedOf part n l t)) (take_all i shapes k) none in
      All-contains (λ (t : Shape). ¬ IsSeedOf part n l t) shapes s all h.in_shape.listed
      (record { owned = h.in_shape.owned; on_layer = h.in_shape.on_layer; meets = record { at = h.point; in_first = h.in_shape.has_point; in_second = h.in_part } })

  pub seeds_none : AreSeeds shapes n l [] []
  seeds_none = record { each = refl; exact = λ i part e. absurd (none-some part e) }

  -- one part more
  seeds_push : (parts : List Rect) (seeds : List Bool) (part : Rect) (m : Bool) → (m ≡ true) ↔ HasSeed shapes n l part → AreSeeds shapes n l parts seeds → AreSeeds shapes n l (parts ++ part ∷ []) (seeds ++ m ∷ [])
  seeds_push parts seeds part m is h = record {
    each = length_push seeds m ∙ ap (λ k. k + 1) h.each ∙ sym (length_push parts part);
    exact = each_push (λ i x. IsMarked (seeds ++ m ∷ []) i ↔ HasSeed shapes n l x) parts part before last;
  }
    where
      before : (i : ℕ) (x : Rect) → slice_get parts i ≡ Some x → IsMarked (seeds ++ m ∷ []) i ↔ HasSeed shapes n l x
      before i x e =
          let w = slice_get_within parts i x e in
          let same : get_or (seeds ++ m ∷ []) i false ≡ get_or seeds i false = get_or_append_left seeds (m ∷ []) false i (omega (arith, w, h.each)) in
          (λ k. (h.exact i x e).0 (sym same ∙ k), λ k. same ∙ (h.exact i x e).1 k)

      last : IsMarked (seeds ++ m ∷ []) (length parts) ↔ HasSeed shapes n l part
      last =
          let same : get_or (seeds ++ m ∷ []) (length parts) false ≡ m = get_or_push seeds m false (length parts) h.each in
          (λ k. is.0 (sym same ∙ k), λ k. same ∙ is.1 k)

  pub seeds_more : (parts : List Rect) (i : ℕ) (seeds new : List Bool) (part : Rect) (m : Bool) → i < length parts → part ≡ get_or parts i part → new ≡ seeds ++ m ∷ [] → (m ≡ true) ↔ HasSeed shapes n l part → AreSeeds shapes n l (take i parts) seeds → AreSeeds shapes n l (take (i + 1) parts) new
  seeds_more parts i seeds new part m k is e exact h =
      let more : take (i + 1) parts ≡ take i parts ++ part ∷ [] = take_more parts i part k ∙ ap (λ (r : Rect). take i parts ++ r ∷ []) (sym is) in
      subst (AreSeeds shapes n l (take (i + 1) parts)) (sym e)
      (subst (λ (rs : List Rect). AreSeeds shapes n l rs (seeds ++ m ∷ [])) (sym more) (seeds_push (take i parts) seeds part m exact h))

  pub seeds_whole : (parts : List Rect) (i : ℕ) (seeds : List Bool) → length parts ≤ i → AreSeeds shapes n l (take i parts) seeds → AreSeeds shapes n l parts seeds
  seeds_whole parts i seeds k h = subst (λ (rs : List Rect). AreSeeds shapes n l rs seeds) (take_all i parts k) h
