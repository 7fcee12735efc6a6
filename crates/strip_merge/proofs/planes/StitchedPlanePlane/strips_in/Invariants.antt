use Rattle.strip_merge.proofs.planes.StitchedPlanePlane.strips_in.Given as goal

abbrev pub ghosts-strips_meeting : goal.ghosts-strips_meeting
ghosts-strips_meeting a = record { name = a.blank.name; parts = a.blank.parts }
