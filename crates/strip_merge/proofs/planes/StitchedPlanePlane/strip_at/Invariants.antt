use Rattle.strip_merge.proofs.planes.StitchedPlanePlane.strip_at.Given as goal

abbrev pub ghosts-strip_having : goal.ghosts-strip_having
ghosts-strip_having a = record { name = a.blank.name; parts = a.blank.parts }
