-- No violation of a state names a shape of a connection.
use Rattle.std.proofs.Common.{◌≡◌, ◌⊎◌, inl, inr, refl, sym, subst, List, Contains}
use Rattle.std.proofs.lemmas.List.Elements.{All-contains}
use Rattle.geo_rect.specs.declared.ids.LayerId.{LayerId}
use Rattle.board_model.specs.declared.made.Conn.{Conn}
use Rattle.board_parts.specs.declared.parts.BoardParts.{BoardParts}
use Rattle.board_model.specs.declared.shapes.Owned.{Owned}
use Rattle.board_model.specs.declared.shapes.Shape.{Shape}
use Rattle.board_model.specs.declared.shapes.Violation.{Violation}
use Rattle.board_model.specs.declared.shapes.Violation.TheVariants.{Close, Outline}
use Rattle.board_model.specs.Known.{IsKnown}
use Rattle.board_parts.specs.Rules.{IsBoard}
use Rattle.board_model.specs.Shapes.{made_shapes, state_shapes}
use Rattle.board_model.specs.Violations.{violations_of}
use Rattle.board_model.proofs.MadeShapes.{state_known}
use Rattle.route_law.specs.Kept.{IsState}
use Rattle.rule_check.specs.Meaning.{shape_on, IsClosePair, IsOutside}
use Rattle.rule_check.proofs.Exact.{close_exact, outside_exact}
use Rattle.rule_check.proofs.Members.{Contains-from_place}
use Rattle.step_laws.specs.Broken.{IsNamed}
use Rattle.step_laws.proofs.Pairs.{AreClose, close_back}

module _ (b : BoardParts) (board : IsBoard b) (lists : List (List Conn)) (state : IsState b lists) where
  known : (s : Shape) → Contains (state_shapes b lists) s → IsKnown b s
  known s m = All-contains (IsKnown b) (state_shapes b lists) s (state_known b board lists state.nets state.well_formed) m

  -- a shape of a connection is too close to no shape of the state
  not_close : (s t : Shape) → Contains (made_shapes b 0 lists) s → Contains (state_shapes b lists) t → AreClose b s t → ⊥
  not_close s t m k h = (state.kept.rules s m).gaps t k h.layer h.owner h.close

  none_of_pair : (l : LayerId) (x y : Owned) (s : Shape) → IsClosePair b (state_shapes b lists) l x y → Contains (made_shapes b 0 lists) s → (s ≡ shape_on l x) ⊎ (s ≡ shape_on l y) → ⊥
  none_of_pair l x y s pair m named = by named
    where
      first : Contains (state_shapes b lists) (shape_on l x)
      first = Contains-from_place (state_shapes b lists) pair.first (shape_on l x) pair.first_is

      second : Contains (state_shapes b lists) (shape_on l y)
      second = Contains-from_place (state_shapes b lists) pair.second (shape_on l y) pair.second_is

      close : AreClose b (shape_on l x) (shape_on l y)
      close = record { layer = refl; owner = λ e. pair.owners (sym e); close = pair.close }

      back : AreClose b (shape_on l y) (shape_on l x)
      back = close_back b board (shape_on l x) (shape_on l y) (known (shape_on l x) first) (known (shape_on l y) second) close

      by : (s ≡ shape_on l x) ⊎ (s ≡ shape_on l y) → ⊥
      by (inl e) =
          not_close (shape_on l x) (shape_on l y) (subst (λ (z : Shape). Contains (made_shapes b 0 lists) z) e m) second close
      by (inr e) =
          not_close (shape_on l y) (shape_on l x) (subst (λ (z : Shape). Contains (made_shapes b 0 lists) z) e m) first back

  none_outside : (l : LayerId) (x : Owned) (s : Shape) → IsOutside b (state_shapes b lists) l x → Contains (made_shapes b 0 lists) s → s ≡ shape_on l x → ⊥
  none_outside l x s out m e = out.outside (state.kept.rules (shape_on l x) (subst (λ (z : Shape). Contains (made_shapes b 0 lists) z) e m)).outline

pub none_routed_stands_in_violations : (b : BoardParts) (lists : List (List Conn)) (v : Violation) (s : Shape) → IsBoard b → IsState b lists → Contains (violations_of b (state_shapes b lists)) v → Contains (made_shapes b 0 lists) s → IsNamed v s → ⊥
none_routed_stands_in_violations b lists (Close l x y) s board h k m named =
    none_of_pair b board lists h l x y s ((close_exact b (state_shapes b lists) l x y).0 k) m named
none_routed_stands_in_violations b lists (Outline l x) s board h k m named =
    none_outside b board lists h l x s ((outside_exact b (state_shapes b lists) l x).0 k) m named
