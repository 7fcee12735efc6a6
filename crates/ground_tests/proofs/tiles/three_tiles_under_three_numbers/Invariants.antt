use Rattle.ground_tests.proofs.tiles.three_tiles_under_three_numbers.Given as goal

abbrev pub ghosts-area_at : goal.ghosts-area_at
ghosts-area_at g a = record { name = a.blank.name; parts = a.blank.parts }
