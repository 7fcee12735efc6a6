-- The summary of a demonstration: sums over the reply to `all`, and the number of violations in the reply to `rules`.
use Rattle.std.specs.Prelude.{ℕ, ◌++◌, List, [], length, sum_by, codes, decimal}
use Rattle.board_model.specs.declared.shapes.Violation.{Violation}
use Rattle.route_law.specs.declared.replies.Made1.{Made1}
use Rattle.route_law.specs.declared.replies.Reply.{Reply}
use Rattle.route_law.specs.declared.replies.Reply.TheVariants.{All, Rules}
use Rattle.route_law.specs.declared.replies.Routed.{Routed}

-- what came of each net, as a reply to `all` tells
abbrev pub nets_of : Reply → List Routed
nets_of (All nets) = nets
nets_of r = []

-- the violations that a reply to `rules` tells
abbrev pub found_by : Reply → List Violation
found_by (Rules found) = found
found_by r = []

-- how many connections were made
abbrev pub made_in : List Routed → ℕ
made_in nets = sum_by (λ (r : Routed). length r.made) nets

-- how many connections were missing
abbrev pub missing_in : List Routed → ℕ
missing_in nets = sum_by (λ (r : Routed). r.missing) nets

-- what a connection that was made costs
abbrev pub cost_of : Made1 → ℕ
cost_of m = m.conn.cost

-- what the connections of one net that were made cost together
abbrev pub cost_of_net : Routed → ℕ
cost_of_net r = sum_by cost_of r.made

-- what the connections that were made cost together
abbrev pub cost_in : List Routed → ℕ
cost_in nets = sum_by cost_of_net nets

-- the summary of a demonstration of n nets, from the replies to `all` and to `rules`
unfoldable pub summary : ℕ → Reply → Reply → List ℕ
summary n all rules =
    codes "demo " ++ decimal n ++ codes " made " ++ decimal (made_in (nets_of all)) ++ codes " of " ++ decimal (missing_in (nets_of all)) ++ codes " cost " ++ decimal (cost_in (nets_of all)) ++ codes " close " ++ decimal (length (found_by rules)) ++ codes "\n"
