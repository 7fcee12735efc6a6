use Rattle.std.proofs.Common.{◌≡◌, sym, subst, rules, to_z, of_z, w32, SFits}
use Rattle.std.proofs.lemmas.Int.{to_z-of_z}
use Rattle.rule_check.specs.Bounds.{NoGapIsGreater}
use Rattle.rule_check.specs.Hulls.{AreHulls}
use Rattle.rule_check.specs.declared.runs.TheConstants.{SHORT, LONG}
use Rattle.rule_check.proofs.runs.Runs.far_from.Goals as goal

pub returns-then-is_far-clause-far : goal.returns-then-is_far-clause-far
returns-then-is_far-clause-far c b shapes h =
    let fits : SFits w32 c.args.self.now.most = search rules in
    let read : to_z w32 (of_z w32 c.args.self.now.most) ≡ c.args.self.now.most = to_z-of_z w32 c.args.self.now.most fits in
    c.is_far.ensures b shapes (subst (NoGapIsGreater b) (sym read) h.gaps) (subst (AreHulls shapes LONG) (sym c.as_slice.ensures) h.long_runs) c.if-is_far.true

pub returns-then-is_far-2-clause-far : goal.returns-then-is_far-2-clause-far
returns-then-is_far-2-clause-far c b shapes h =
    let fits : SFits w32 c.args.self.now.most = search rules in
    let read : to_z w32 (of_z w32 c.args.self.now.most) ≡ c.args.self.now.most = to_z-of_z w32 c.args.self.now.most fits in
    c.is_far-2.ensures b shapes (subst (NoGapIsGreater b) (sym read) h.gaps) (subst (AreHulls shapes SHORT) (sym c.as_slice-2.ensures) h.short_runs) c.if-is_far-2.true
