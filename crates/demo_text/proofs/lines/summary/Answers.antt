use Rattle.std.proofs.Common.{sym, subst}
use Rattle.demo_text.specs.Bounds.{AreCounted}
use Rattle.demo_text.proofs.Counted.{reply_counted}
use Rattle.demo_text.proofs.lines.summary.Goals as goal

pub made_in-requires : goal.made_in-requires
made_in-requires c = subst AreCounted (sym c.nets_of-nets.ensures) (reply_counted _ c.args.all.now c.requires)

pub missing_in-requires : goal.missing_in-requires
missing_in-requires c = subst AreCounted (sym c.nets_of-nets.ensures) (reply_counted _ c.args.all.now c.requires)

pub cost_in-requires : goal.cost_in-requires
cost_in-requires c = subst AreCounted (sym c.nets_of-nets.ensures) (reply_counted _ c.args.all.now c.requires)
