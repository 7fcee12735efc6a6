use Rattle.flat_plane.proofs.Finish.{all_painted}
use Rattle.flat_plane.proofs.pieces.painted_strips.Goals as goal

pub returns : goal.returns
returns c =
    all_painted c.args.strips.now c.args.brush c.in_ok-new.new c.requires c.in_ok-new.ensures.draft
    (λ s h n p hp. c.in_ok-new.ensures.keeps p (c.in_ok-draft.ensures.untouched s h n p hp))
    (λ s h a p hp n. c.in_ok-new.ensures.keeps p (c.in_ok-draft.ensures.outside s h a p hp n))
    c.in_ok-new.ensures.adds
