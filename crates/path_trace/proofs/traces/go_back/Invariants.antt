use Rattle.std.proofs.Common.{ℕ, ◌+◌, ◌<◌, List, length, IfSome, Option, Some, None}
use Rattle.geo_rect.specs.declared.ids.Node.{Node}
use Rattle.geo_rect.specs.declared.ids.Spot.{Spot}
use Rattle.board_parts.specs.declared.parts.BoardParts.{BoardParts}
use Rattle.route_law.specs.Ground.{Ground}
use Rattle.path_trace.specs.Traces.{IsSound, IsTrace, IsTracedTo}
use Rattle.path_trace.proofs.traces.go_back.Given as goal

-- the path has come to the entry of this number, or is whole
abbrev pub invariant-loop-next : goal.invariant-loop-next
invariant-loop-next l = record {
  there : IfSome l.next (λ m. m < length l.entries);
  back : (b : BoardParts) (g : Ground) (sources : List Spot) (goal : Node) (total : ℕ) → IsSound b g sources l.entries → IsTrace b g l.entries goal total l.fn.entry l.fn.path → IsTracedTo b g sources l.entries goal total l.next l.path;
}

abbrev left_by : Option ℕ → ℕ
left_by None = 0
left_by (Some n) = n + 1

abbrev pub decreases-loop-next : goal.decreases-loop-next
decreases-loop-next l = left_by l.next
