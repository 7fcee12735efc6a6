use Rattle.std.proofs.Common.{◌≡◌, ◌-◌, ◌++◌}
use Rattle.std.specs.List.{range_with_len, flat_map}
use Rattle.board_reader.specs.Gaps.{gaps_on, all_gaps}
use Rattle.board_reader.proofs.drafts.Draft.push_gaps.Given as goal

abbrev pub invariant-loop-layer : goal.invariant-loop-layer
invariant-loop-layer l =
    l.list ++ flat_map (gaps_on l.self.rules l.self.clears l.classes) (range_with_len l.layer (l.layers - l.layer))
    ≡ l.fn.list ++ all_gaps l.self.rules l.self.clears l.layers l.classes
