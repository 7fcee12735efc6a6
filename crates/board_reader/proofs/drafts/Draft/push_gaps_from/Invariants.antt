use Rattle.std.proofs.Common.{◌≡◌, ◌-◌, ◌++◌, map}
use Rattle.std.specs.List.{range_with_len}
use Rattle.board_reader.specs.Gaps.{gap_between, gaps_from}
use Rattle.board_reader.proofs.drafts.Draft.push_gaps_from.Given as goal

abbrev pub invariant-loop-other : goal.invariant-loop-other
invariant-loop-other l =
    l.list ++ map (gap_between l.self.rules l.self.clears l.layer l.one) (range_with_len l.other (l.classes - l.other))
    ≡ l.fn.list ++ gaps_from l.self.rules l.self.clears l.classes l.layer l.one
