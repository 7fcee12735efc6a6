use Rattle.tile_paint.proofs.outlines.meeting.Given as goal

abbrev pub ghosts-meeting_by : goal.ghosts-meeting_by
ghosts-meeting_by a = record { name = a.blank.name; parts = a.blank.parts }
