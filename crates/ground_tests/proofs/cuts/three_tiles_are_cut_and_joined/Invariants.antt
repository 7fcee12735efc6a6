use Rattle.ground_tests.proofs.cuts.three_tiles_are_cut_and_joined.Given as goal

abbrev pub ghosts-cut_and_join : goal.ghosts-cut_and_join
ghosts-cut_and_join g a = record { name = a.blank.name; parts = a.blank.parts }
