use Rattle.tile_paint.proofs.spots.find.Given as goal

abbrev pub ghosts-locate_by : goal.ghosts-locate_by
ghosts-locate_by a = record { name = a.blank.name; parts = a.blank.parts }
