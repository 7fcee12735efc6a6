use Rattle.strip_merge.proofs.planes.StitchedPlanePlane.beside.Given as goal

abbrev pub ghosts-strips_beside : goal.ghosts-strips_beside
ghosts-strips_beside a = record { name = a.blank.name; parts = a.blank.parts }
