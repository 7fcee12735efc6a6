use Rattle.std.proofs.Common.{◌≡◌, ◌<◌, List, length, All, sym, subst, ◌∙◌}
use Rattle.std.proofs.lemmas.Result.{IfOk-weaker}
use Rattle.net_trace.specs.declared.copper.Piece.{Piece}
use Rattle.net_trace.specs.Listing.{IsListed}
use Rattle.net_trace.specs.Named.{NamesWhatIsThere}
use Rattle.net_trace.specs.Pieces.{pieces_of}
use Rattle.net_trace.specs.Report.{IsReport, IsReportBy}
use Rattle.net_trace.specs.Touching.{IsLeastJoined, AreGroupNumbers}
use Rattle.net_trace.proofs.KnownNets.{pieces_known, net_is_known}
use Rattle.net_trace.proofs.Naming.{names_what_is_there}
use Rattle.net_trace.proofs.Reports.{report_by_joined}
use Rattle.net_trace.proofs.traced.report.Goals as goal

pub report_of-requires-clause-within : goal.report_of-requires-clause-within
report_of-requires-clause-within c =
    let b = c.args.board.now.parts in
    let lists = c.args.made.now.lists in
    let ps = c.as_slice-2.result.now in
    let ns = c.as_slice-3.result.now in
    let all : ps ≡ pieces_of b lists = c.as_slice-2.ensures ∙ c.in_ok-pieces.ensures in
    let right : AreGroupNumbers ps ns = subst (λ (xs : List Piece). AreGroupNumbers xs ns) (c.as_slice.ensures ∙ sym c.as_slice-2.ensures) (subst (AreGroupNumbers c.as_slice.result.now) (sym c.as_slice-3.ensures) c.in_ok-numbers.ensures) in
    record {
      each = right.each;
      known_net = net_is_known b ps (subst (All (λ (p : Piece). p.net.0 < length b.net_names)) (sym all) (pieces_known b c.args.board.now.kept lists c.requires.nets));
    }

pub returns-clause-told : goal.returns-clause-told
returns-clause-told c =
    let b = c.args.board.now.parts in
    let lists = c.args.made.now.lists in
    let ps = c.as_slice-2.result.now in
    let ns = c.as_slice-3.result.now in
    let all : ps ≡ pieces_of b lists = c.as_slice-2.ensures ∙ c.in_ok-pieces.ensures in
    let right : AreGroupNumbers ps ns = subst (λ (xs : List Piece). AreGroupNumbers xs ns) (c.as_slice.ensures ∙ sym c.as_slice-2.ensures) (subst (AreGroupNumbers c.as_slice.result.now) (sym c.as_slice-3.ensures) c.in_ok-numbers.ensures) in
    IfOk-weaker c.report_of.result (IsReportBy b ps (IsListed ns)) (IsReport b lists)
    (λ r h. subst (λ (xs : List Piece). IsReportBy b xs (IsLeastJoined xs) r) all (report_by_joined b ps ns right r h)) c.report_of.ensures

pub returns-clause-named : goal.returns-clause-named
returns-clause-named c =
    let b = c.args.board.now.parts in
    let lists = c.args.made.now.lists in
    let ps = c.as_slice-2.result.now in
    let ns = c.as_slice-3.result.now in
    let all : ps ≡ pieces_of b lists = c.as_slice-2.ensures ∙ c.in_ok-pieces.ensures in
    let right : AreGroupNumbers ps ns = subst (λ (xs : List Piece). AreGroupNumbers xs ns) (c.as_slice.ensures ∙ sym c.as_slice-2.ensures) (subst (AreGroupNumbers c.as_slice.result.now) (sym c.as_slice-3.ensures) c.in_ok-numbers.ensures) in
    let known : All (λ (p : Piece). p.net.0 < length b.net_names) ps = subst (All (λ (p : Piece). p.net.0 < length b.net_names)) (sym all) (pieces_known b c.args.board.now.kept lists c.requires.nets) in
    IfOk-weaker c.report_of.result (IsReportBy b ps (IsListed ns)) (NamesWhatIsThere b)
    (λ r h. names_what_is_there b ps known r (report_by_joined b ps ns right r h)) c.report_of.ensures
