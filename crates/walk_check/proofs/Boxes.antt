-- Whether one of some boxes has a node, by the boxes in turn.
use Rattle.std.proofs.Common.{ℕ, suc, ◌≡◌, ◌<◌, List, [], ◌∷◌, inl, inr, Some, length, get_or, sym, ap, subst}
use Rattle.std.specs.Prelude.{slice_get, Contains}
use Rattle.std.proofs.lemmas.List.Elements.{Contains-get_or}
use Rattle.std.proofs.lemmas.Option.{slice_get_within}
use Rattle.geo_rect.specs.declared.ids.Node.{Node}
use Rattle.geo_rect.specs.declared.ids.Spot.{Spot}
use Rattle.plane_core.proofs.Members.{has_none, has_cases}
use Rattle.route_law.specs.Walks.{HasNode}
use Rattle.walk_check.specs.Clear.{IsIn}

-- a member of a list has a place in it
place_in : {X : Type 0} (xs : List X) (y : X) → Contains xs y → (m : ℕ) × (slice_get xs m ≡ Some y)
place_in [] y h = absurd (has_none y h)
place_in (x ∷ xs) y h =
    elim (has_cases x xs y h) [
      | inl e ↦ (0, ap Some e)
      | inr k ↦ (let r = place_in xs y k in (suc r.0, r.1))
    ]

pub found_node : (boxes : List Spot) (v : Node) (i : ℕ) (box : Spot) → i < length boxes → box ≡ get_or boxes i box → IsIn box v → HasNode boxes v
found_node boxes v i box l e h =
    record { box = box; listed = subst (λ (x : Spot). Contains boxes x) (sym e) (Contains-get_or boxes i box l); same_layer = h.same_layer; has_point = h.has_point }

pub no_node : (boxes : List Spot) (v : Node) → ((m : ℕ) (box : Spot) → m < length boxes → slice_get boxes m ≡ Some box → IsIn box v → ⊥) → HasNode boxes v → ⊥
no_node boxes v f h =
    let at = place_in boxes h.box h.listed in
    f at.0 h.box (slice_get_within boxes at.0 h.box at.1) at.1 (record { same_layer = h.same_layer; has_point = h.has_point })
