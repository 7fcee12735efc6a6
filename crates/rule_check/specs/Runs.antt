-- What is known of the runs of a list of shapes on a board.
use Rattle.std.specs.Prelude.{List}
use Rattle.board_parts.specs.declared.parts.BoardParts.{BoardParts}
use Rattle.board_model.specs.declared.shapes.Shape.{Shape}
use Rattle.rule_check.specs.Bounds.{NoGapIsGreater}
use Rattle.rule_check.specs.Hulls.{AreHulls}
use Rattle.rule_check.specs.declared.runs.Runs.{Runs}
use Rattle.rule_check.specs.declared.runs.TheConstants.{SHORT, LONG}

-- they tell of the board and the list: no gap is greater, and the runs of both lengths lie in their hulls
pub record AreRunsOf (b : BoardParts) (shapes : List Shape) (runs : Runs) : Type 0 where
  pub gaps : NoGapIsGreater b runs.most
  pub short_runs : AreHulls shapes SHORT runs.short
  pub long_runs : AreHulls shapes LONG runs.long
