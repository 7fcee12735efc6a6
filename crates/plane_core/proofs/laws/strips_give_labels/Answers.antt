use Rattle.plane_core.proofs.Labelled.{strips_give_labels, plane_from_strips}
use Rattle.plane_core.proofs.laws.strips_give_labels.Goals as goal

pub returns-clause-labels : goal.returns-clause-labels
returns-clause-labels c = strips_give_labels

pub returns-clause-canonical : goal.returns-clause-canonical
returns-clause-canonical c = plane_from_strips
