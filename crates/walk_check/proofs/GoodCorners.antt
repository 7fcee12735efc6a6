-- A connection is a walk of the net exactly where each corner is good; and corners one by one.
use Rattle.std.proofs.Common.{ℕ, ◌≡◌, ◌+◌, ◌<◌, List, length, get_or, All, Some, Option, None, IfNone, ◌↔◌, refl, sym, subst, arith}
use Rattle.std.specs.Prelude.{slice_get}
use Rattle.std.proofs.lemmas.Option.{slice_get_within, slice_get-get_or}
use Rattle.geo_rect.specs.declared.ids.NetId.{NetId}
use Rattle.geo_rect.specs.declared.ids.Node.{Node}
use Rattle.geo_rect.specs.declared.ids.Spot.{Spot}
use Rattle.board_model.specs.declared.made.Conn.{Conn}
use Rattle.board_model.specs.declared.made.Leg.{Leg}
use Rattle.board_model.specs.declared.made.Leg.TheVariants.{Wire, Via}
use Rattle.board_parts.specs.declared.parts.BoardParts.{BoardParts}
use Rattle.board_parts.specs.Rules.{IsBoard}
use Rattle.plane_set.specs.Standing.{PlaneTable}
use Rattle.route_law.specs.Connections.{steps_of}
use Rattle.route_law.specs.Ground.{Ground}
use Rattle.route_law.specs.Walks.{HasNode, last_node, walk_cost}
use Rattle.route_law.proofs.Law.{first_passable}
use Rattle.route_law.proofs.Legs.{legs_end}
use Rattle.strip_moves.specs.Grounds.{ground_of}
use Rattle.walk_check.specs.Corners.{corner_after, HasPlaces, IsGoodStart, IsGoodLeg, IsGoodCorner, IsFirstBadCorner, AreGoodLegs, IsFirstBadLeg, HasKind}
use Rattle.route_law.specs.Joins.{IsConnection}
use Rattle.walk_check.proofs.GoodLegs.{passable_corner, AreGood, good_steps, legs_walk, legs_good, good_at, good_from}

-- what is said of no value holds where no value is the one
pub if_none : (o : Option ℕ) (P : Type 0) → ((k : ℕ) → o ≡ Some k → ⊥) → IfNone o P → P
if_none None P f h = h
if_none (Some k) P f h = absurd (f k refl)

module _ (b : BoardParts) (set : PlaneTable) (n : NetId) (sources targets : List Spot) (conn : Conn) where
  abbrev g : Ground
  g = ground_of b set n

  abbrev end : Node
  end = last_node conn.start conn.legs

  abbrev AreAll : Type 0
  AreAll = (m : ℕ) (leg : Leg) → slice_get conn.legs m ≡ Some leg → IsGoodLeg b g (corner_after conn.start conn.legs m) leg

  corners_good : IsConnection b g conn sources targets → (k : ℕ) → IsGoodCorner b g conn sources targets k
  corners_good h k =
      let steps = h.well_formed.steps in
      let good : AreGood b set n conn.start conn.legs = legs_good b set n conn.start conn.legs steps h.walk.walk in
      record {
        at_start = λ e. record { listed = h.walk.starts; passable = first_passable g conn.start (steps_of conn) h.walk.walk };
        of_leg = λ m leg e f. good_at b set n conn.start conn.legs m leg good f;
        at_end = λ e. subst (λ (v : Node). HasNode targets v) (legs_end b conn.start conn.legs steps) h.walk.ends;
        of_cost = λ e. h.cost;
      }

  connection_of : HasPlaces conn → IsGoodStart g sources conn.start → AreAll → HasNode targets end → walk_cost g (steps_of conn) ≡ conn.cost → IsConnection b g conn sources targets
  connection_of places start legs ends cost =
      let good : AreGood b set n conn.start conn.legs = good_from b set n conn.start conn.legs legs in
      let steps = good_steps b set n conn.start conn.legs good in
      record {
        well_formed = record { start = record { layer = start.passable.on_layer; place = places.start }; steps = steps };
        walk = record {
          starts = start.listed;
          walk = legs_walk b set n conn.start conn.legs start.passable good;
          ends = subst (λ (v : Node). HasNode targets v) (sym (legs_end b conn.start conn.legs steps)) ends;
        };
        cost = cost;
      }

  pub connection_by : HasPlaces conn → IsGoodStart g sources conn.start → AreGoodLegs b g conn.start conn.legs (length conn.legs) → HasNode targets end → walk_cost g (steps_of conn) ≡ conn.cost → IsConnection b g conn sources targets
  connection_by places start legs ends cost =
      connection_of places start (λ m leg e. legs m leg (slice_get_within conn.legs m leg e) e) ends cost

  -- the kinds of the vias of good legs are the board's
  kind_known : (v : Node) (leg : Leg) → IsGoodLeg b g v leg → HasKind b leg
  kind_known v (Wire w) h = tt
  kind_known v (Via k w) h = h.step.form.kind

  pub kinds_known : AreGoodLegs b g conn.start conn.legs (length conn.legs) → All (HasKind b) conn.legs
  kinds_known legs k d l = kind_known (corner_after conn.start conn.legs k) (get_or conn.legs k d) (legs k (get_or conn.legs k d) l (slice_get-get_or conn.legs k d l))

  -- the corners of good legs from a good start are of the board
  pub places_known : IsBoard b → IsGoodStart g sources conn.start → AreGoodLegs b g conn.start conn.legs (length conn.legs) → HasPlaces conn
  places_known board start legs = record {
    start = (passable_corner b set n board conn.start start.passable).place;
    ends = λ k d l. (legs k (get_or conn.legs k d) l (slice_get-get_or conn.legs k d l)).step.end.place;
  }

  pub good_throughout : HasPlaces conn → IsConnection b g conn sources targets ↔ ((k : ℕ) → IsGoodCorner b g conn sources targets k)
  good_throughout places = (
    corners_good,
    λ f. connection_of places ((f 0).at_start refl) (λ m leg e. (f (m + 1)).of_leg m leg refl e) ((f (length conn.legs)).at_end refl) ((f (length conn.legs + 1)).of_cost refl),
  )

  pub bad_is_none : (k : ℕ) → IsFirstBadCorner b g conn sources targets k → IsConnection b g conn sources targets → ⊥
  bad_is_none k h c = h.bad (corners_good c k)

  pub bad_start : (IsGoodStart g sources conn.start → ⊥) → IsFirstBadCorner b g conn sources targets 0
  bad_start not_so = record { before = λ j l. absurd (omega arith); bad = λ h. not_so (h.at_start refl) }

  module _ (start : IsGoodStart g sources conn.start) where
    corner_by : (j : ℕ) → ((m : ℕ) (leg : Leg) → j ≡ m + 1 → slice_get conn.legs m ≡ Some leg → IsGoodLeg b g (corner_after conn.start conn.legs m) leg) → (j ≡ length conn.legs → HasNode targets end) → j < length conn.legs + 1 → IsGoodCorner b g conn sources targets j
    corner_by j legs ends l = record { at_start = λ e. start; of_leg = legs; at_end = ends; of_cost = λ e. absurd (omega arith) }

    pub bad_leg : (k : ℕ) → IsFirstBadLeg b g conn.start conn.legs k → IsFirstBadCorner b g conn sources targets k
    bad_leg k h =
        let inside = slice_get_within conn.legs h.index h.leg h.listed in
        let number = h.numbered in
        record {
          before = λ j l. corner_by j (λ m leg e f. h.before m leg (omega arith) f) (λ e. absurd (omega arith)) (omega arith);
          bad = λ c. h.bad (c.of_leg h.index h.leg h.numbered h.listed);
        }

    module _ (legs : AreGoodLegs b g conn.start conn.legs (length conn.legs)) where
      pub bad_end : (HasNode targets end → ⊥) → IsFirstBadCorner b g conn sources targets (length conn.legs)
      bad_end not_so = record {
        before = λ j l. corner_by j (λ m leg e f. legs m leg (omega arith) f) (λ e. absurd (omega arith)) (omega arith);
        bad = λ c. not_so (c.at_end refl);
      }

      pub bad_cost : HasNode targets end → (walk_cost g (steps_of conn) ≡ conn.cost → ⊥) → IsFirstBadCorner b g conn sources targets (length conn.legs + 1)
      bad_cost ends not_so = record {
        before = λ j l. corner_by j (λ m leg e f. legs m leg (omega (arith, slice_get_within conn.legs m leg f)) f) (λ e. ends) l;
        bad = λ c. not_so (c.of_cost refl);
      }
