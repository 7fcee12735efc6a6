use Rattle.std.proofs.Common.{◌≡◌, subst, arith}
use Rattle.std.specs.Prelude.{Some, slice_get}
use Rattle.geo_rect.specs.declared.ids.Spot.{Spot}
use Rattle.route_law.specs.Moves.{arrival_of}
use Rattle.route_law.specs.Right.{IsStart}
use Rattle.cert_check.proofs.Numbered.{one_numbered, read_numbered}
use Rattle.cert_check.proofs.origins.is_from_source.Goals as goal

pub returns : goal.returns
returns c = λ g s.
    let e = c.args.e in
    let own = c.index-sources-m in
    let n : slice_get c.args.sources.now c.args.m ≡ Some own.result = read_numbered c.args.sources.now c.args.m own.result (omega arith) own.is in (
      λ t. record { box = own.result; numbered = n; start = (c.is_start.ensures g s).0 t },
      λ f.
          let P : Spot → Type 0 = λ x. IsStart g x (arrival_of e) in
          (c.is_start.ensures g s).1 (subst P (one_numbered c.args.sources.now c.args.m f.box own.result f.numbered n) f.start),
    )
