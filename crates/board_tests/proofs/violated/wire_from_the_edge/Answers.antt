use Rattle.std.proofs.Common.{◌≡◌, ◌<◌, ◌⊎◌, inl, inr, List, [], ◌∷◌, ℤ, pos, length, refl, sym, subst, arith}
use Rattle.std.proofs.lemmas.Int.{ints}
use Rattle.geo_rect.specs.declared.ids.Node.{Node}
use Rattle.board_model.specs.declared.made.Conn.{Conn}
use Rattle.board_model.specs.declared.made.Leg.{Leg}
use Rattle.board_model.specs.declared.made.Leg.TheVariants.{Wire}
use Rattle.board_parts.specs.declared.parts.BoardParts.{BoardParts}
use Rattle.board_model.specs.WellFormed.{IsCorner, IsInLine, IsStep, AreSteps, IsWellFormed, AreWellFormed}
use Rattle.board_model.proofs.WellFormed.{with_conn_well_formed}
use Rattle.board_tests.proofs.violated.wire_from_the_edge.Goals as goal

abbrev on_top : ℤ → Node
on_top x = record { x = x; y = pos 5; layer = record { 0 = 0 } }

corner : (b : BoardParts) → 0 < length b.layers → (x : ℤ) → (x ≡ pos 0) ⊎ (x ≡ pos 5) → IsCorner b (on_top x)
corner b l x h = record {
  layer = l;
  place = record { across = record { from = omega (arith, ints); to = omega (arith, ints) }; up = record { from = omega (arith, ints); to = omega (arith, ints) } };
}

edge : (b : BoardParts) → 0 < length b.layers → (conn : Conn) → conn.start ≡ on_top (pos 0) → conn.legs ≡ Wire (on_top (pos 5)) ∷ [] → IsWellFormed b conn
edge b l conn s e =
    let step : IsStep b (on_top (pos 0)) (Wire (on_top (pos 5))) = record { form = record { layer = refl; line = IsInLine.across (λ d. omega (arith, ints)) refl }; end = corner b l (pos 5) (inr refl) } in record {
      start = subst (IsCorner b) (sym s) (corner b l (pos 0) (inl refl));
      steps = subst (λ v. AreSteps b v conn.legs) (sym s) (subst (AreSteps b (on_top (pos 0))) (sym e) (step, tt));
    }

pub returns-clause-well_formed : goal.returns-clause-well_formed
returns-clause-well_formed c =
    let b = c.args.board.now.parts in
    let lists = c.in_ok-made.made.lists in
    let conn : Conn = record { start = on_top (pos 0); legs = c.in_ok-legs.legs; cost = 5 } in
    let here : 0 < length lists = omega (arith, c.in_ok-made.ensures.nets, c.requires) in
    subst (AreWellFormed b) (sym c.in_ok-append.ensures.ok)
    (with_conn_well_formed b lists (record { 0 = 0 }) conn here c.in_ok-made.ensures.well_formed (edge b c.args.board.now.kept.some_layer conn refl c.in_ok-legs.ensures))
