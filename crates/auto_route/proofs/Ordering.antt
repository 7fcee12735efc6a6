-- The orders of nets: each has every net of the board.
use Rattle.std.proofs.Common.{ℕ, ◌≡◌, ◌+◌, ◌<◌, List, [], ◌∷◌, ◌++◌, length, map, refl, sym, ◌∙◌, ap, subst, arith}
use Rattle.std.specs.Prelude.{Bool, true, false, cond, not}
use Rattle.std.specs.List.{range_with_len}
use Rattle.std.proofs.lemmas.List.{append-nil, length-append, length-map}
use Rattle.std.proofs.lemmas.List.Elements.{All-append, All-filter}
use Rattle.std.proofs.lemmas.List.Filters.{length-filter_both}
use Rattle.std.proofs.lemmas.List.FromFn.{filter_of_map_range_with_len_more, get_or-map-range_with_len, length-range_with_len, map-range_with_len_more}
use Rattle.geo_rect.specs.declared.ids.NetId.{NetId}
use Rattle.board_model.specs.declared.made.Conn.{Conn}
use Rattle.board_parts.specs.declared.parts.BoardParts.{BoardParts}
use Rattle.route_law.specs.Regular.{IsNetOf}
use Rattle.route_law.specs.Routing.{net_at}
use Rattle.auto_route.specs.Rounds.{complete_of, incomplete_of, is_complete, next_order, text_order}
use Rattle.auto_route.specs.Tours.{IsOrder}

-- the order of the text has every net
pub text_is_order : (b : BoardParts) → IsOrder b (text_order b)
text_is_order b =
    let numbers : List ℕ = range_with_len 0 (length b.net_names) in
    let size : length (text_order b) ≡ length b.net_names = length-map numbers net_at ∙ length-range_with_len 0 (length b.net_names) in
    record {
      known = λ i d l.
          let in_range : i < length b.net_names = omega (arith, l, size) in
          let is = get_or-map-range_with_len net_at 0 (length b.net_names) i i d in_range (omega arith) in
          subst (IsNetOf b) (sym is) in_range;
      size = size;
    }

-- so has each that follows another
pub next_is_order : (b : BoardParts) (lists : List (List Conn)) (order : List NetId) → IsOrder b order → IsOrder b (next_order b lists order)
next_is_order b lists order h =
    let first : List NetId = incomplete_of b lists order in
    let second : List NetId = complete_of b lists order in
    record {
      known = All-append (IsNetOf b) first second (All-filter _ (IsNetOf b) order h.known) (All-filter (is_complete b lists) (IsNetOf b) order h.known);
      size = omega (arith, length-append first second, length-filter_both (is_complete b lists) (λ (n : NetId). not (is_complete b lists n)) (λ n. refl) order, h.size);
    }

-- the nets before one of this number, in the order of the text
abbrev pub nets_before : ℕ → List NetId
nets_before k = map net_at (range_with_len 0 k)

-- one net more is listed
pub nets_before-more : (k : ℕ) (order new : List NetId) → order ≡ nets_before k → new ≡ order ++ net_at k ∷ [] → new ≡ nets_before (k + 1)
nets_before-more k order new h e =
    e ∙ ap (λ (ns : List NetId). ns ++ net_at k ∷ []) h ∙ sym (map-range_with_len_more net_at 0 k k (omega arith))

module _ (b : BoardParts) (lists : List (List Conn)) (k : ℕ) where
  more : (is_it : Bool) → is_complete b lists (net_at k) ≡ is_it → complete_of b lists (nets_before (k + 1)) ≡ complete_of b lists (nets_before k) ++ cond is_it (net_at k ∷ []) []
  more is_it e =
      let F : Bool → List NetId = λ x. complete_of b lists (nets_before k) ++ cond x (net_at k ∷ []) [] in
      filter_of_map_range_with_len_more (is_complete b lists) net_at 0 k k (omega arith) ∙ ap F e

  -- one net more is complete
  pub one_complete : is_complete b lists (net_at k) ≡ true → length (complete_of b lists (nets_before (k + 1))) ≡ length (complete_of b lists (nets_before k)) + 1
  one_complete e = ap (λ (ns : List NetId). length ns) (more true e) ∙ length-append (complete_of b lists (nets_before k)) (net_at k ∷ [])

  -- or is not
  pub none_complete : is_complete b lists (net_at k) ≡ false → length (complete_of b lists (nets_before (k + 1))) ≡ length (complete_of b lists (nets_before k))
  none_complete e = ap (λ (ns : List NetId). length ns) (more false e ∙ append-nil (complete_of b lists (nets_before k)))
