use Rattle.std.proofs.Common.{◌+◌, ◌≤◌, ap, subst, ℕ}
use Rattle.geo_rect.proofs.Reaches.{reach_one}
use Rattle.board_parts.specs.Lookup.{layer_at}
use Rattle.cert_check.proofs.fronts.comes_before.Goals as goal

pub returns : goal.returns
returns c =
    let e = c.args.e in
    let a = c.args.arrival in (
      λ t. record {
        same_layer = ap layer_at c.if-e-arrival.false;
        same_strip = c.same_rect.ensures.0 c.if-not-same_rect.false;
        way = c.reach.result;
        reach = c.reach.ensures.exact;
        enough = c.is_within.ensures.0 t;
      },
      λ h.
          let P : ℕ → Type 0 = λ n. e.cost + n ≤ a.cost in
          c.is_within.ensures.1 (subst P (reach_one e.front a.front h.way c.reach.result h.reach c.reach.ensures.exact) h.enough),
    )
