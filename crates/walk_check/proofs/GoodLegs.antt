-- Good legs are a walk, and the legs of a walk are good.
use Rattle.std.proofs.Common.{ℤ, ℕ, zero, suc, ◌≡◌, List, [], ◌∷◌, Some, refl, sym, subst, arith}
use Rattle.std.specs.Prelude.{slice_get, ⊤}
use Rattle.std.proofs.lemmas.Int.{ints}
use Rattle.std.proofs.lemmas.Option.{same_Some}
use Rattle.geo_rect.specs.declared.ids.NetId.{NetId}
use Rattle.geo_rect.specs.declared.ids.Node.{Node}
use Rattle.geo_rect.specs.declared.shapes.Point.{Point}
use Rattle.geo_rect.specs.Axis.{HasNumber}
use Rattle.board_model.specs.declared.made.Leg.{Leg}
use Rattle.board_model.specs.declared.made.Leg.TheVariants.{Wire, Via}
use Rattle.board_parts.specs.declared.parts.BoardParts.{BoardParts}
use Rattle.board_parts.specs.Rules.{IsBoard, IsSide}
use Rattle.board_model.specs.Shapes.{place_of, end_of}
use Rattle.board_model.specs.WellFormed.{IsCoordinate, IsCorner, across, up, HasForm, IsStep, AreSteps}
use Rattle.plane_set.specs.Standing.{PlaneTable}
use Rattle.route_law.specs.Connections.{steps_of_leg, steps_of_legs}
use Rattle.route_law.specs.Ground.{Ground, IsPassableNode, IsPassableVia}
use Rattle.route_law.specs.Walks.{IsWalk, last_node}
use Rattle.route_law.proofs.Joining.{walk-append}
use Rattle.route_law.proofs.Legs.{straight_wire, leg_end, walk_parts}
use Rattle.strip_moves.specs.Grounds.{ground_of, upto}
use Rattle.walk_check.specs.Clear.{IsClearLeg}
use Rattle.walk_check.specs.Corners.{corner_after, IsGoodLeg}
use Rattle.walk_check.proofs.Lines.{line_last}
use Rattle.walk_check.proofs.Units.{clear_walk, walk_clear}

-- a number of a side of the board is a coordinate that a corner may have
side_place : (n v : ℤ) → IsSide n → HasNumber (upto n) v → IsCoordinate v
side_place n v side h = let f = h.from in let t = h.to in let most = side.to in record { from = omega (arith, ints); to = omega (arith, ints) }

last_passable : (g : Ground) (v : Node) (steps : List Leg) → IsWalk g v steps → IsPassableNode g (last_node v steps)
last_passable g v [] h = h
last_passable g v (step ∷ steps) h = last_passable g (end_of step) steps h.2

module _ (b : BoardParts) (set : PlaneTable) (n : NetId) where
  abbrev g : Ground
  g = ground_of b set n

  -- a node that the net may pass is a corner of the board
  pub passable_corner : IsBoard b → (v : Node) → IsPassableNode g v → IsCorner b v
  passable_corner board v h = record {
    layer = h.on_layer;
    place = record { across = side_place b.width v.x board.width h.in_region.across; up = side_place b.height v.y board.height h.in_region.up };
  }

  -- a leg that the net may pass ends in a node that it may pass
  clear_end : (v : Node) (leg : Leg) → IsClearLeg g v leg → IsPassableNode g (end_of leg)
  clear_end v (Wire w) h = h.each (place_of w) (line_last v w)
  clear_end v (Via k w) h = h.end

  -- a leg of a good form that the net may pass is good
  pub good_leg : IsBoard b → (v : Node) (leg : Leg) → HasForm b v leg → IsClearLeg g v leg → IsGoodLeg b g v leg
  good_leg board v leg form clear = record { step = record { form = form; end = passable_corner board (end_of leg) (clear_end v leg clear) }; clear = clear }

  leg_walk : (v : Node) (leg : Leg) → IsPassableNode g v → IsGoodLeg b g v leg → IsWalk g v (steps_of_leg v leg)
  leg_walk v (Wire w) p h = clear_walk g v w (straight_wire v w h.step.form) h.clear
  leg_walk v (Via k w) p h =
      let form = h.step.form in
      let P : Point → Type 0 = λ q. IsPassableVia g k q in (
        p,
        record {
          passable = subst P (sym form.place) h.clear.via;
          from_span = form.first;
          to_span = form.second;
          other_layer = λ e. form.layers (sym e);
          same_place = sym form.place;
        },
        h.clear.end,
      )

  leg_clear : (v : Node) (leg : Leg) → IsStep b v leg → IsWalk g v (steps_of_leg v leg) → IsClearLeg g v leg
  leg_clear v (Wire w) s walk = walk_clear g v w (straight_wire v w s.form) walk
  leg_clear v (Via k w) s walk = let P : Point → Type 0 = λ q. IsPassableVia g k q in record { via = subst P s.form.place walk.1.passable; end = walk.2 }

  -- each of the legs is good, the first from v
  abbrev pub AreGood : Node → List Leg → Type 0
  AreGood v [] = ⊤
  AreGood v (leg ∷ legs) = IsGoodLeg b g v leg × AreGood (end_of leg) legs

  pub good_steps : (v : Node) (legs : List Leg) → AreGood v legs → AreSteps b v legs
  good_steps v [] h = tt
  good_steps v (leg ∷ legs) h = (h.0.step, good_steps (end_of leg) legs h.1)

  pub legs_walk : (v : Node) (legs : List Leg) → IsPassableNode g v → AreGood v legs → IsWalk g v (steps_of_legs v legs)
  legs_walk v [] p h = p
  legs_walk v (leg ∷ legs) p h =
      let first : List Leg = steps_of_leg v leg in
      let second : List Leg = steps_of_legs (end_of leg) legs in
      let walk : IsWalk g v first = leg_walk v leg p h.0 in
      let ends : last_node v first ≡ end_of leg = leg_end b v leg h.0.step in
      let here : IsPassableNode g (end_of leg) = subst (λ (u : Node). IsPassableNode g u) ends (last_passable g v first walk) in
      walk-append g v first second walk (subst (λ (u : Node). IsWalk g u second) (sym ends) (legs_walk (end_of leg) legs here h.1))

  pub legs_good : (v : Node) (legs : List Leg) → AreSteps b v legs → IsWalk g v (steps_of_legs v legs) → AreGood v legs
  legs_good v [] s walk = tt
  legs_good v (leg ∷ legs) s walk =
      let first : List Leg = steps_of_leg v leg in
      let second : List Leg = steps_of_legs (end_of leg) legs in
      let parts = walk_parts g v first second walk in (
        record { step = s.0; clear = leg_clear v leg s.0 parts.0 },
        legs_good (end_of leg) legs s.1 (subst (λ (u : Node). IsWalk g u second) (leg_end b v leg s.0) parts.1),
      )

  pub good_at : (v : Node) (legs : List Leg) (m : ℕ) (leg : Leg) → AreGood v legs → slice_get legs m ≡ Some leg → IsGoodLeg b g (corner_after v legs m) leg
  good_at v [] m leg h e = cc
  good_at v (x ∷ xs) zero leg h e = subst (λ (y : Leg). IsGoodLeg b g v y) (same_Some x leg e) h.0
  good_at v (x ∷ xs) (suc m) leg h e = good_at (end_of x) xs m leg h.1 e

  pub good_from : (v : Node) (legs : List Leg) → ((m : ℕ) (leg : Leg) → slice_get legs m ≡ Some leg → IsGoodLeg b g (corner_after v legs m) leg) → AreGood v legs
  good_from v [] f = tt
  good_from v (x ∷ xs) f = (f 0 x refl, good_from (end_of x) xs (λ m leg e. f (suc m) leg e))
