use Rattle.step_laws.proofs.Shapes.{shapes_with_conn, shapes_without_conns}
use Rattle.step_laws.proofs.additions.connections_bring_their_shapes.Goals as goal

pub returns-clause-made : goal.returns-clause-made
returns-clause-made c = shapes_with_conn

pub returns-clause-removed : goal.returns-clause-removed
returns-clause-removed c = shapes_without_conns
