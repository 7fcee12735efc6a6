use Rattle.std.proofs.Common.{◌≡◌, ◌++◌, take}
use Rattle.gerber_out.specs.Layers.{lines_text}
use Rattle.gerber_out.proofs.writing.push_lines.Given as goal

-- what was there, and the text of each so far
abbrev pub invariant-loop-line : goal.invariant-loop-line
invariant-loop-line l = l.text ≡ l.initial.text ++ lines_text (take l.line-index l.lines)
