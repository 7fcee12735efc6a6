use Rattle.board_parts.specs.Lookup.{class_of}
use Rattle.board_model.specs.Shapes.{place_of}
use Rattle.board_model.specs.Labels.{wire_plane, via_plane}
use Rattle.board_model.proofs.LabelLaws.{admits_is_left}
use Rattle.board_model.proofs.labels.passable_is_left_to_the_net.Goals as goal

pub returns-clause-wire : goal.returns-clause-wire
returns-clause-wire c =
    λ b shapes n v. admits_is_left b (wire_plane b v.layer (class_of b n)) (place_of v) shapes n

pub returns-clause-via : goal.returns-clause-via
returns-clause-via c = λ b shapes n k p. admits_is_left b (via_plane b k (class_of b n)) p shapes n
