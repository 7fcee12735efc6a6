use Rattle.std.proofs.Common.{◌≡◌, sym, subst, List, ◌∷◌, [], inl, inr, take, arith}
use Rattle.std.proofs.lemmas.List.{take_all}
use Rattle.std.proofs.lemmas.List.Elements.{Contains-append_cases}
use Rattle.geo_rect.specs.Plane.{HasPoint}
use Rattle.plane_core.specs.declared.strips.Strip.{Strip}
use Rattle.plane_core.proofs.Choices.{has_one, taken_more}
use Rattle.plane_core.proofs.Members.{has_none}
use Rattle.flat_plane.specs.Draft.{IsAffected}
use Rattle.flat_plane.specs.Painting.{HoldsOutside}
use Rattle.flat_plane.proofs.StartDraft.{untouched_draft, untouched_held}
use Rattle.flat_plane.proofs.outside.outside.Goals as goal

pub loop-strip-init : goal.loop-strip-init
loop-strip-init c = record {
  draft = untouched_draft c.args.strips.now c.in_ok-draft.draft c.args.brush c.requires c.in_ok-draft.ensures;
  untouched = untouched_held c.args.strips.now c.in_ok-draft.draft c.args.brush c.in_ok-draft.ensures;
  outside = λ s h a p hp off. absurd (has_none s h);
}

pub loop-strip-preserved : goal.loop-strip-preserved
loop-strip-preserved c =
    let before : List Strip = take c.loop-strip.strip-index c.args.strips.now in
    let here : Strip = c.strip-item.result in
    let P : List Strip → Type 0 = λ l. HoldsOutside l c.args.brush c.in_ok-draft-2.draft in
    record {
      draft = c.in_ok-draft-2.ensures.draft;
      untouched = λ s h n p hp. c.in_ok-draft-2.ensures.keeps p (c.loop-strip.invariant.untouched s h n p hp);
      outside = subst P (sym (taken_more c.args.strips.now c.loop-strip.strip-index here c.loop-strip-test.true c.strip-item.is))
          (λ s h a p hp off. elim (Contains-append_cases before (here ∷ []) s h) [
            | inl k ↦ c.in_ok-draft-2.ensures.keeps p (c.loop-strip.invariant.outside s k a p hp off)
            | inr k ↦
                let e : s ≡ here = sym (has_one here s k) in
                let Q : Strip → Type 0 = λ t. HasPoint t.area p in
                let R : Strip → Type 0 = λ t. IsAffected c.args.brush.area t.area in
                c.in_ok-draft-2.ensures.adds p (subst Q e hp) (subst R e a) off
          ]);
    }

pub returns-clause-outside : goal.returns-clause-outside
returns-clause-outside c =
    let P : List Strip → Type 0 = λ l. HoldsOutside l c.args.brush c.loop-strip.draft in
    subst P (take_all c.loop-strip.strip-index c.args.strips.now (omega arith)) c.loop-strip.invariant.outside
