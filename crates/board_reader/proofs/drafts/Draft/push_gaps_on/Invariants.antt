use Rattle.std.proofs.Common.{◌≡◌, ◌-◌, ◌++◌}
use Rattle.std.specs.List.{range_with_len, flat_map}
use Rattle.board_reader.specs.Gaps.{gaps_from, gaps_on}
use Rattle.board_reader.proofs.drafts.Draft.push_gaps_on.Given as goal

abbrev pub invariant-loop-one : goal.invariant-loop-one
invariant-loop-one l =
    l.list ++ flat_map (gaps_from l.self.rules l.self.clears l.classes l.layer) (range_with_len l.one (l.classes - l.one))
    ≡ l.fn.list ++ gaps_on l.self.rules l.self.clears l.classes l.layer
