-- What stands on the layers from one to another, a layer at a time.
use Rattle.std.proofs.Common.{◌≡◌, ℕ, ◌+◌, ◌-◌, ◌≤◌, List, [], ◌∷◌, ◌++◌, map, ap, sym, ◌∙◌, append_assoc, arith}
use Rattle.std.specs.List.{range_with_len}
use Rattle.std.proofs.lemmas.List.{map_push}
use Rattle.std.proofs.lemmas.List.FromFn.{map-range_with_len_more}
use Rattle.geo_rect.specs.declared.ids.LayerId.{LayerId}
use Rattle.board_parts.specs.Lookup.{layer_at}

layers_more : {X : Type 0} (g : LayerId → X) (a n i : ℕ) → a + n ≡ i → map g (map layer_at (range_with_len a (n + 1))) ≡ map g (map layer_at (range_with_len a n)) ++ g (layer_at i) ∷ []
layers_more g a n i e =
    ap (map g) (map-range_with_len_more layer_at a n i e) ∙ map_push g (map layer_at (range_with_len a n)) (layer_at i)

-- a list that has what stands on the layers from a to before i has, after a push, layer i too
pub added_layer : {X : Type 0} (g : LayerId → X) (xs ys zs : List X) (a i : ℕ) → a ≤ i → ys ≡ xs ++ map g (map layer_at (range_with_len a (i - a))) → zs ≡ ys ++ g (layer_at i) ∷ [] → zs ≡ xs ++ map g (map layer_at (range_with_len a (i + 1 - a)))
added_layer g xs ys zs a i h e f =
    let n : i + 1 - a ≡ (i - a) + 1 = omega arith in
    f ∙ ap (λ vs. vs ++ g (layer_at i) ∷ []) e ∙ append_assoc xs _ _ ∙ ap (λ vs. xs ++ vs) (sym (layers_more g a (i - a) i (omega arith))) ∙ ap (λ m. xs ++ map g (map layer_at (range_with_len a m))) (sym n)
