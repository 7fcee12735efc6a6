-- A wire that goes on in the line of another one: the units of the two are those of one wire.
use Rattle.std.proofs.Common.{ℕ, zero, suc, ℤ, pos, ◌≡◌, ◌+◌, ◌+ℤ◌, ◌-ℤ◌, ◌<ℤ◌, inl, inr, refl, sym, ap, subst, ◌∙◌, List, ◌∷◌, ◌++◌, zero-add, arith}
use Rattle.std.proofs.lemmas.Int.{ints}
use Rattle.geo_rect.specs.declared.ids.Node.{Node}
use Rattle.geo_rect.specs.Distance.{apart}
use Rattle.geo_rect.specs.Line.{between}
use Rattle.board_model.specs.declared.made.Leg.{Leg}
use Rattle.board_model.specs.declared.made.Leg.TheVariants.{Wire}
use Rattle.board_model.specs.Shapes.{place_of}
use Rattle.route_law.specs.Connections.{toward, node_toward, units, steps_of_leg, IsStraight}
use Rattle.route_law.proofs.Wires.{Toward, rises, falls, stays, toward_is, toward_stays, unit_on}
use Rattle.path_trace.specs.Lines.{IsPassed, rising, falling, GoesOn}
use Rattle.path_trace.proofs.Nodes.{node_is, none_apart}

up_one : (x z t : ℤ) → x <ℤ z → Toward x z t → t ≡ x +ℤ pos 1
up_one x z t l (rises h e) = e
up_one x z t l (falls h e) = omega (arith, ints)
up_one x z t l (stays h e) = omega (arith, ints)

down_one : (x z t : ℤ) → z <ℤ x → Toward x z t → t ≡ x -ℤ pos 1
down_one x z t l (rises h e) = omega (arith, ints)
down_one x z t l (falls h e) = e
down_one x z t l (stays h e) = omega (arith, ints)

-- on the way to z the first unit is that on the way to y
toward_same : (x y z : ℤ) → IsPassed x y z → (x ≡ y → ⊥) → toward x z ≡ toward x y
toward_same x y z (rising a b) ne =
    up_one x z (toward x z) (omega (arith, ints)) (toward_is x z) ∙ sym (up_one x y (toward x y) (omega (arith, ints)) (toward_is x y))
toward_same x y z (falling a b) ne =
    down_one x z (toward x z) (omega (arith, ints)) (toward_is x z) ∙ sym (down_one x y (toward x y) (omega (arith, ints)) (toward_is x y))

passed_next : (x y z t : ℤ) → IsPassed x y z → Toward x y t → IsPassed t y z
passed_next x y z t (rising a b) (rises h e) = rising (omega (arith, ints)) b
passed_next x y z t (rising a b) (falls h e) = rising (omega (arith, ints)) b
passed_next x y z t (rising a b) (stays h e) = rising (omega (arith, ints)) b
passed_next x y z t (falling a b) (rises h e) = falling a (omega (arith, ints))
passed_next x y z t (falling a b) (falls h e) = falling a (omega (arith, ints))
passed_next x y z t (falling a b) (stays h e) = falling a (omega (arith, ints))

passed_sum : (x y z : ℤ) → IsPassed x y z → between x z ≡ between x y + between y z
passed_sum x y z (rising a b) = omega (arith, ints)
passed_sum x y z (falling a b) = omega (arith, ints)

level_sum : (x y z : ℤ) → x ≡ y → y ≡ z → between x z ≡ between x y + between y z
level_sum x y z e f = omega (arith, ints)

-- of three nodes in a line, the way over the middle one is no longer
apart_sum : (u v w : Node) → GoesOn u v w → apart (place_of u) (place_of w) ≡ apart (place_of u) (place_of v) + apart (place_of v) (place_of w)
apart_sum u v w (inl o) = omega (arith, passed_sum u.x v.x w.x o.passed, level_sum u.y v.y w.y o.first o.second)
apart_sum u v w (inr o) = omega (arith, level_sum u.x v.x w.x o.first o.second, passed_sum u.y v.y w.y o.passed)

pub straight_by : (u v w : Node) → v.layer ≡ u.layer → GoesOn u v w → IsStraight u v
straight_by u v w l (inl o) = record { same_layer = l; in_line = inr (sym o.first) }
straight_by u v w l (inr o) = record { same_layer = l; in_line = inl (sym o.first) }

level : (x y : ℤ) → x ≡ y → between x y ≡ 0
level x y e = omega (arith, ints)

-- the first unit on the way to w is that on the way to v
unit_same : (n : ℕ) (u v w : Node) → GoesOn u v w → apart (place_of u) (place_of v) ≡ suc n → node_toward u w ≡ node_toward u v
unit_same n u v w (inl o) d =
    let far : u.x ≡ v.x → ⊥ = λ e. omega (arith, level u.x v.x e, level u.y v.y o.first) in
    let stay = toward_stays u.y v.y (toward u.y v.y) (toward_is u.y v.y) (sym o.first) in
    let still = toward_stays u.y w.y (toward u.y w.y) (toward_is u.y w.y) (sym (o.first ∙ o.second)) in
    node_is (node_toward u w) (node_toward u v) (toward_same u.x v.x w.x o.passed far) (still ∙ sym stay) refl
unit_same n u v w (inr o) d =
    let far : u.y ≡ v.y → ⊥ = λ e. omega (arith, level u.y v.y e, level u.x v.x o.first) in
    let stay = toward_stays u.x v.x (toward u.x v.x) (toward_is u.x v.x) (sym o.first) in
    let still = toward_stays u.x w.x (toward u.x w.x) (toward_is u.x w.x) (sym (o.first ∙ o.second)) in
    node_is (node_toward u w) (node_toward u v) (still ∙ sym stay) (toward_same u.y v.y w.y o.passed far) refl

-- and from there the line goes on
goes_on_next : (u v w : Node) → GoesOn u v w → GoesOn (node_toward u v) v w
goes_on_next u v w (inl o) =
    inl (record {
      first = toward_stays u.y v.y (toward u.y v.y) (toward_is u.y v.y) (sym o.first) ∙ o.first;
      second = o.second;
      passed = passed_next u.x v.x w.x (toward u.x v.x) o.passed (toward_is u.x v.x);
    })
goes_on_next u v w (inr o) =
    inr (record {
      first = toward_stays u.x v.x (toward u.x v.x) (toward_is u.x v.x) (sym o.first) ∙ o.first;
      second = o.second;
      passed = passed_next u.y v.y w.y (toward u.y v.y) o.passed (toward_is u.y v.y);
    })

units_split : (n m : ℕ) (u v w : Node) → v.layer ≡ u.layer → GoesOn u v w → apart (place_of u) (place_of v) ≡ n → units (n + m) u w ≡ units n u v ++ units m v w
units_split zero m u v w l o d = ap (λ (k : ℕ). units k u w) (zero-add m) ∙ ap (λ (x : Node). units m x w) (none_apart u v l d)
units_split (suc n) m u v w l o d =
    let t : Node = node_toward u v in
    let one = unit_on u v n (straight_by u v w l o) d in
    let more : suc n + m ≡ suc (n + m) = omega arith in
    ap (λ (k : ℕ). units k u w) more ∙ ap (λ (x : Node). Wire x ∷ units (n + m) x w) (unit_same n u v w o d)
    ∙ ap (λ (steps : List Leg). Wire t ∷ steps) (units_split n m t v w l (goes_on_next u v w o) one.rest)

-- the steps of a wire are those of its two parts
pub steps_split : (u v w : Node) → v.layer ≡ u.layer → GoesOn u v w → steps_of_leg u (Wire w) ≡ steps_of_leg u (Wire v) ++ steps_of_leg v (Wire w)
steps_split u v w l o =
    ap (λ (k : ℕ). units k u w) (apart_sum u v w o) ∙ units_split (apart (place_of u) (place_of v)) (apart (place_of v) (place_of w)) u v w l o refl

passed_rest : (x y z w : ℤ) → IsPassed x y z → IsPassed x z w → IsPassed y z w
passed_rest x y z w (rising a b) (rising c d) = rising b d
passed_rest x y z w (rising a b) (falling c d) = falling c (omega (arith, ints))
passed_rest x y z w (falling a b) (rising c d) = rising (omega (arith, ints)) d
passed_rest x y z w (falling a b) (falling c d) = falling c a

flat_rest : (x y z : ℤ) → IsPassed x y z → x ≡ z → y ≡ z
flat_rest x y z (rising a b) e = omega (arith, ints)
flat_rest x y z (falling a b) e = omega (arith, ints)

passed_from : (x y z w : ℤ) → x ≡ y → IsPassed x z w → IsPassed y z w
passed_from x y z w e p = subst (λ (t : ℤ). IsPassed t z w) e p

-- what goes on from a long wire goes on from its last part
pub goes_on_rest : (u v w z : Node) → GoesOn u v w → GoesOn u w z → GoesOn v w z
goes_on_rest u v w z (inl o) (inl k) = inl (record { first = o.second; second = k.second; passed = passed_rest u.x v.x w.x z.x o.passed k.passed })
goes_on_rest u v w z (inl o) (inr k) = inr (record { first = flat_rest u.x v.x w.x o.passed k.first; second = k.second; passed = passed_from u.y v.y w.y z.y o.first k.passed })
goes_on_rest u v w z (inr o) (inl k) = inl (record { first = flat_rest u.y v.y w.y o.passed k.first; second = k.second; passed = passed_from u.x v.x w.x z.x o.first k.passed })
goes_on_rest u v w z (inr o) (inr k) = inr (record { first = o.second; second = k.second; passed = passed_rest u.y v.y w.y z.y o.passed k.passed })

pub flat_is : (x y z : ℤ) → IsPassed x y z → x ≡ z → y ≡ z
flat_is x y z p e = flat_rest x y z p e
