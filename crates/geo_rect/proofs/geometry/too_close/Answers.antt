use Rattle.std.proofs.Common.{◌≡◌, rules}
use Rattle.std.proofs.lemmas.Bool.Decides.{Decides-at}
use Rattle.geo_rect.specs.Tests.{are_too_close}
use Rattle.geo_rect.proofs.Tests.{Decides-are_too_close}
use Rattle.geo_rect.proofs.geometry.too_close.Goals as goal

pub returns-clause-fact : goal.returns-clause-fact
returns-clause-fact c =
    let test : c.near-2.result ≡ are_too_close c.args.a c.args.b c.args.s = search rules in
    Decides-at c.near-2.result _ test (Decides-are_too_close c.args.a c.args.b c.args.s)
