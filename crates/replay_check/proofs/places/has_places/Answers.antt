use Rattle.std.proofs.Common.{List, All, refl, ◌∙◌, subst}
use Rattle.std.proofs.lemmas.List.{take_all}
use Rattle.geo_rect.specs.declared.ids.Node.{Node}
use Rattle.board_model.specs.declared.made.Leg.{Leg}
use Rattle.board_model.specs.Shapes.{place_of, end_of}
use Rattle.board_model.specs.WellFormed.{IsPlace}
use Rattle.replay_check.proofs.Listing.{is_so, all_after}
use Rattle.replay_check.proofs.places.has_places.Goals as goal

pub loop-leg-preserved : goal.loop-leg-preserved
loop-leg-preserved c =
    let P : Leg → Type 0 = λ leg. IsPlace (place_of (end_of leg)) in
    let Q : Node → Type 0 = λ v. IsPlace (place_of v) in
    all_after c.as_slice-leg-items.result.now c.loop-leg.leg-index c.loop-leg-test.true P c.loop-leg.invariant _ (subst Q c.end.ensures (c.if-not-has_place-2.ensures.0 refl))

pub returns : goal.returns
returns c =
    let P : Leg → Type 0 = λ leg. IsPlace (place_of (end_of leg)) in
    let same = take_all c.loop-leg.leg-index c.as_slice-leg-items.result.now c.loop-leg-test.false ∙ c.as_slice-leg-items.ensures in
    let R : List Leg → Type 0 = λ legs. All P legs in
    is_so _ (record { start = c.if-not-has_place.ensures.0 refl; ends = subst R same c.loop-leg.invariant })
