use Rattle.call_words.proofs.faults.sequel_fault.Goals as goal

pub returns-in-Through : goal.returns-in-Through
returns-in-Through c = rw c.in-Through.is c.through_fault.ensures
