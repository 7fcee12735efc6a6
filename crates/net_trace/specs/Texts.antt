-- The text of a report: lines that end with one line feed, words with one space between them, numbers in
-- decimal, and nets by their names.
use Rattle.std.specs.Prelude.{ℕ, ◌≡◌, ◌+◌, ◌++◌, List, length, codes, decimal}
use Rattle.std.specs.List.{flat_map}
use Rattle.board_model.specs.declared.made.Conn.{Conn}
use Rattle.board_parts.specs.declared.parts.BoardParts.{BoardParts}
use Rattle.board_parts.specs.Lookup.{net_name}
use Rattle.net_trace.specs.declared.traced.Group.{Group}
use Rattle.net_trace.specs.declared.traced.OpenNet.{OpenNet}
use Rattle.net_trace.specs.declared.traced.Short.{Short}
use Rattle.net_trace.specs.declared.traced.Traced.{Traced}
use Rattle.net_trace.specs.Report.{IsReport}

-- the first line: how many pieces and how many groups there are
unfoldable pub trace_line : ℕ → ℕ → List ℕ
trace_line pieces groups = codes "trace " ++ decimal pieces ++ codes " groups " ++ decimal groups ++ codes "\n"

-- the line of a group: the number of its first piece, from 1, and how many pieces it has
unfoldable pub group_line : Group → List ℕ
group_line g = codes "group " ++ decimal (g.first + 1) ++ codes " " ++ decimal g.count ++ codes "\n"

-- the line of an open net: how many groups hold a pin of it
unfoldable pub open_line : BoardParts → OpenNet → List ℕ
open_line b o = codes "open " ++ net_name b o.net ++ codes " " ++ decimal o.groups ++ codes "\n"

-- the line of two nets that are shorted
unfoldable pub short_line : BoardParts → Short → List ℕ
short_line b s = codes "short " ++ net_name b s.a ++ codes " " ++ net_name b s.b ++ codes "\n"

-- a report: its first line, and a line for each group, each open net and each pair of shorted nets
unfoldable pub report_text : BoardParts → Traced → List ℕ
report_text b r =
    trace_line r.pieces (length r.groups) ++ flat_map group_line r.groups ++ flat_map (open_line b) r.opens ++ flat_map (short_line b) r.shorts

-- the bytes are the text of the report of the state
pub record IsTraceText (b : BoardParts) (lists : List (List Conn)) (bytes : List ℕ) : Type 0 where
  pub traced : Traced
  pub report : IsReport b lists traced
  pub text : bytes ≡ report_text b traced
