use Rattle.std.proofs.Common.{◌≡◌, sym, subst, rules, All}
use Rattle.board_model.specs.Violations.{violations_of}
use Rattle.rule_check.proofs.Naming.{violations_name_known}
use Rattle.rule_check.specs.Known.{NamesKnown}
use Rattle.rule_check.proofs.checks.violations.Goals as goal

pub returns-clause-known : goal.returns-clause-known
returns-clause-known c =
    let b = c.args.board.now.parts in
    let shapes = c.in_ok-shapes.shapes in
    let e : c.push_violations.new.found ≡ violations_of b shapes = search rules in
    subst (All (NamesKnown b)) (sym e) (violations_name_known b shapes c.in_ok-shapes.ensures.known)
