use Rattle.std.proofs.Common.{◌≡◌, ◌≤◌, ◌+◌, arith}
use Rattle.std.proofs.lemmas.Bool.{leb-true, le-leb}
use Rattle.wavefront.proofs.Coming.{in_time_by}
use Rattle.wavefront.proofs.tables.is_in_time.Goals as goal

pub returns : goal.returns
returns c =
    let left = c.in-Some.ensures {u = tt} in
    let way : c.from.result ≡ c.reach.result = c.from.ensures in (
      λ t. let fits : c.from.result ≤ c.in-Some.left = leb-true c.from.result c.in-Some.left t in record {
        way = c.reach.result;
        reach = c.reach.ensures.exact;
        enough = omega (arith, left.0, left.1, way, fits);
      },
      λ h. let enough : c.args.paid + c.reach.result ≤ c.args.cost = in_time_by c.args.from c.args.front c.args.paid c.args.cost c.reach.result c.reach.ensures.exact h in
          le-leb c.from.result c.in-Some.left (omega (arith, left.0, left.1, way, enough)),
    )
