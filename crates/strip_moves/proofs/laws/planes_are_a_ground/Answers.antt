use Rattle.strip_moves.proofs.OfShapes.{ground_of_shapes}
use Rattle.strip_moves.proofs.Grounds.{is_ground, passes_node, passes_via}
use Rattle.strip_moves.proofs.laws.planes_are_a_ground.Goals as goal

pub returns-clause-ground : goal.returns-clause-ground
returns-clause-ground c = λ b set n board known h. is_ground b board n known set h

pub returns-clause-nodes : goal.returns-clause-nodes
returns-clause-nodes c = λ b shapes set n v board known h on. passes_node b board n known shapes set v h on

pub returns-clause-vias : goal.returns-clause-vias
returns-clause-vias c = λ b shapes set n k p board known h of_kind on. passes_via b board n known shapes set k p h of_kind on

pub returns-clause-of_shapes : goal.returns-clause-of_shapes
returns-clause-of_shapes c = λ b shapes set n board known h. ground_of_shapes b board n known shapes set h
