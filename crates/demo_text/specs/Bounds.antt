-- What keeps the sums of a summary small.
use Rattle.std.specs.Prelude.{◌*◌, ◌^◌, ◌≤◌, List, length, All}
use Rattle.board_parts.specs.declared.commands.Command.{Command}
use Rattle.board_parts.specs.declared.limits.TheConstants.{MAX_NETS, MAX_PINS}
use Rattle.board_model.specs.declared.made.Conn.{Conn}
use Rattle.board_parts.specs.declared.parts.BoardParts.{BoardParts}
use Rattle.board_parts.specs.Rules.{IsBoard}
use Rattle.route_law.specs.declared.replies.Made1.{Made1}
use Rattle.route_law.specs.declared.replies.Reply.{Reply}
use Rattle.route_law.specs.declared.replies.Routed.{Routed}
use Rattle.route_law.specs.Steps.{IsStep}

-- the reply is what some state of a board gives to the command
pub record IsReplyTo (c : Command) (r : Reply) : Type 0 where
  pub board : BoardParts
  pub keeps_rules : IsBoard board
  pub old : List (List Conn)
  pub new : List (List Conn)
  pub step : IsStep board old c r new

-- the connection costs at most 2^26 a leg
abbrev pub HasPricedLegs : Made1 → Type 0
HasPricedLegs m = m.conn.cost ≤ 2 ^ 26 * length m.conn.legs

-- no more connections are missing than a board may have pins, and no more were made, each at most 2^26 a leg
pub record IsCounted (r : Routed) : Type 0 where
  pub missing : r.missing ≤ MAX_PINS
  pub made : length r.made ≤ MAX_PINS
  pub priced : All HasPricedLegs r.made

-- no more nets than a board may have, each with no more connections
pub record AreCounted (nets : List Routed) : Type 0 where
  pub few : length nets ≤ MAX_NETS
  pub each : All IsCounted nets
