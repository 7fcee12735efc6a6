use Rattle.strip_moves.specs.Grounds.{ground_of}
use Rattle.cert_check.proofs.Cases.{not_true, not_both}
use Rattle.strip_moves.proofs.Bounded.{the_ground}
use Rattle.cert_check.proofs.Placing.{placed_passage, one_passage}
use Rattle.cert_check.proofs.places.is_well_placed.Goals as goal

pub returns-in_default : goal.returns-in_default
returns-in_default g c =
    let ground = ground_of c.args.board.now.parts c.args.planes.now c.args.net in
    (λ t. absurd (not_true t), λ w. absurd (c.in_default.ensures.none c.args.e.strip (placed_passage ground c.args.e c.corner.result c.corner.ensures w)))

pub returns-then-not-same_rect : goal.returns-then-not-same_rect
returns-then-not-same_rect g c =
    let b = c.args.board.now in
    let ground = ground_of b.parts c.args.planes.now c.args.net in (
      λ t. absurd (not_true t),
      λ w.
          absurd (not_both
          (c.same_rect.ensures.1
          (one_passage ground c.args.e.layer c.corner.result c.in-Some.strip c.args.e.strip
          (the_ground b.parts c.args.planes.now c.args.net b.kept c.requires.planes c.requires.net)
          c.in-Some.ensures.some (placed_passage ground c.args.e c.corner.result c.corner.ensures w)))
          c.if-not-same_rect.true),
    )
