-- What a leg put before a path does, in each of the three ways in which it may be put there.
use Rattle.std.proofs.Common.{ℕ, ℤ, ◌≡◌, ◌++◌, ◌⊎◌, inl, inr, refl, sym, ap, subst, ◌∙◌, List, [], ◌∷◌, append_assoc, Some, None, ◌↔◌}
use Rattle.std.specs.Prelude.{slice_get}
use Rattle.std.proofs.lemmas.Option.{same_Some}
use Rattle.geo_rect.specs.declared.ids.KindId.{KindId}
use Rattle.geo_rect.specs.declared.ids.Node.{Node}
use Rattle.geo_rect.specs.declared.shapes.Point.{Point}
use Rattle.geo_rect.specs.Distance.{apart}
use Rattle.geo_rect.proofs.Nearest.{apart-self}
use Rattle.board_model.specs.declared.made.Leg.{Leg}
use Rattle.board_model.specs.declared.made.Leg.TheVariants.{Wire, Via}
use Rattle.board_model.specs.Shapes.{place_of}
use Rattle.board_model.specs.WellFormed.{IsInLine, across, up, IsWire}
use Rattle.route_law.specs.Connections.{units, steps_of_leg, steps_of_legs, IsStraight}
use Rattle.path_trace.specs.Lines.{GoesOn, GoesStraight}
use Rattle.path_trace.specs.Paths.{IsLedTo}
use Rattle.path_trace.proofs.Splits.{steps_split, goes_on_rest, flat_is}

point_is : (p q : Point) → p.x ≡ q.x → p.y ≡ q.y → p ≡ q
point_is p q e f =
    let g : ℤ → Point = λ x. record { x = x; y = p.y } in
    let h : ℤ → Point = λ y. record { x = q.x; y = y } in
    ap g e ∙ ap h f

line_by : (u v : Node) → (place_of u ≡ place_of v → ⊥) → (v.x ≡ u.x) ⊎ (v.y ≡ u.y) → IsInLine (place_of u) (place_of v)
line_by u v ne (inl e) = up (sym e) (λ f. ne (point_is (place_of u) (place_of v) (sym e) f))
line_by u v ne (inr e) = across (λ f. ne (point_is (place_of u) (place_of v) f (sym e))) (sym e)

-- a straight wire to another place has the form of a wire
wire_form : (u v : Node) → (place_of u ≡ place_of v → ⊥) → IsStraight u v → IsWire u v
wire_form u v ne s = record { layer = sym s.same_layer; line = line_by u v ne s.in_line }

long_line : (u v w : Node) → GoesOn u v w → IsInLine (place_of v) (place_of w) → IsInLine (place_of u) (place_of w)
long_line u v w (inl o) (across ne e) = across (λ f. ne (flat_is u.x v.x w.x o.passed f)) (o.first ∙ o.second)
long_line u v w (inl o) (up e ne) = absurd (ne o.second)
long_line u v w (inr o) (across ne e) = absurd (ne o.second)
long_line u v w (inr o) (up e ne) = up (o.first ∙ o.second) (λ f. ne (flat_is u.y v.y w.y o.passed f))

straight_rest : (u v w : Node) (legs : List Leg) → GoesOn u v w → GoesStraight u w legs → GoesStraight v w legs
straight_rest u v w [] o h = h
straight_rest u v w (Wire z ∷ legs) o h = goes_on_rest u v w z o h
straight_rest u v w (Via k z ∷ legs) o h = h

-- a wire in the line of the first one makes that one longer
pub led_joined : (u v : Node) (legs : List Leg) → IsStraight u v → GoesStraight u v legs → IsLedTo u (Wire v) legs legs
led_joined u v [] s h = absurd h
led_joined u v (Via k w ∷ legs) s h = absurd h
led_joined u v (Wire w ∷ legs) s h = record {
  steps =
      ap (λ (steps : List Leg). steps ++ steps_of_legs w legs) (steps_split u v w s.same_layer h)
      ∙ append_assoc (steps_of_leg u (Wire v)) (steps_of_leg v (Wire w)) (steps_of_legs w legs);
  ends = refl;
  form = λ b m corner f. (record { form = record { layer = sym s.same_layer ∙ f.0.form.layer; line = long_line u v w h f.0.form.line }; end = f.0.end }, f.1);
  turns = λ t. (λ g. t.0 (straight_rest u v w legs h g), t.1);
}

-- a wire to the place where it starts is none
pub led_still : (u v : Node) (legs : List Leg) → u ≡ v → IsLedTo u (Wire v) legs legs
led_still u v legs e =
    let P : Node → Type 0 = λ x. IsLedTo x (Wire v) legs legs in
    let none : steps_of_legs v legs ≡ units (apart (place_of v) (place_of v)) v v ++ steps_of_legs v legs = ap (λ (n : ℕ). units n v v ++ steps_of_legs v legs) (sym (apart-self (place_of v))) in
    let at : IsLedTo v (Wire v) legs legs = record { steps = none; ends = refl; form = λ b m corner f. f; turns = λ t. t } in
    subst P (sym e) at

-- any other wire is one more leg
pub led_on : (u v : Node) (legs : List Leg) → (place_of u ≡ place_of v → ⊥) → (GoesStraight u v legs → ⊥) → IsLedTo u (Wire v) legs (Wire v ∷ legs)
led_on u v legs ne turn = record {
  steps = refl;
  ends = refl;
  form = λ b m corner f. (record { form = wire_form u v ne m; end = corner }, f);
  turns = λ t. (turn, t);
}

-- and so is a via
pub led_by_via : (u v : Node) (k : KindId) (legs : List Leg) → IsLedTo u (Via k v) legs (Via k v ∷ legs)
led_by_via u v k legs = record { steps = refl; ends = refl; form = λ b m corner f. (record { form = m; end = corner }, f); turns = λ t. t }

-- whether legs go straight on is seen by the first of them
pub straight_none : (u v : Node) (legs : List Leg) → slice_get legs 0 ≡ None → GoesStraight u v legs → ⊥
straight_none u v [] e h = h
straight_none u v (leg ∷ legs) e h = cc

straight_leg : (u v : Node) (leg : Leg) (legs : List Leg) → GoesStraight u v (leg ∷ legs) ↔ GoesStraight u v (leg ∷ [])
straight_leg u v (Wire w) legs = (λ h. h, λ h. h)
straight_leg u v (Via k w) legs = (λ h. h, λ h. h)

pub straight_some : (u v : Node) (leg : Leg) (legs : List Leg) → slice_get legs 0 ≡ Some leg → GoesStraight u v legs ↔ GoesStraight u v (leg ∷ [])
straight_some u v leg [] e = let n : None ≡ Some leg = e in absurd (let m : ⊥ = cc in m)
straight_some u v leg (first ∷ legs) e =
    let P : Leg → Type 0 = λ x. GoesStraight u v (first ∷ legs) ↔ GoesStraight u v (x ∷ []) in
    subst P (same_Some first leg e) (straight_leg u v first legs)
