use Rattle.std.proofs.Common.{◌≡◌, ◌≤◌, take}
use Rattle.contour_core.specs.Sessions.{IsUnderway}
use Rattle.contour_core.proofs.answers.answer_all.Given as goal

-- the commands so far have their replies, and the session is in the state to which they led
abbrev pub invariant-loop-command : goal.invariant-loop-command
invariant-loop-command g l = record {
  underway : IsUnderway l.fn.board.parts l.quiet (take l.command-index l.commands) l.session.lists (g.K.Sink.written l.fn.out) (g.K.Sink.written l.out);
  board : l.session.parts ≡ l.fn.board.parts;
  setup : g.K.Sink.setup l.out ≡ g.K.Sink.setup l.fn.out;
  falls : g.K.Sink.faults l.fn.out ≤ g.K.Sink.faults l.out;
}
