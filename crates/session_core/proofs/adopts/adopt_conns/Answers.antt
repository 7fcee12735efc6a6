use Rattle.std.proofs.Common.{List, sym, ◌∙◌, subst}
use Rattle.board_model.specs.declared.made.Conn.{Conn}
use Rattle.session_core.specs.declared.adopts.Adopted.{Adopted}
use Rattle.session_core.specs.Adopting.{AreTaken, AreAdopted, IsFirstRefused}
use Rattle.session_core.specs.Sessions.{IsSitting}
use Rattle.session_core.proofs.Adopting.{refused_again}
use Rattle.session_core.proofs.adopts.adopt_conns.Goals as goal

pub returns-clause-adopted : goal.returns-clause-adopted
returns-clause-adopted g c =
    let b = c.args.board.now.parts in
    let n = c.args.net in
    let old = c.args.made.now.lists in
    let mid = c.take_conns.new.made.lists in
    let conns = c.args.conns.now in
    let i = c.in-Refused.conn in
    let k = c.in-Refused.corner in
    let first : IsFirstRefused b old n conns mid i k = subst (λ (done : Adopted). AreTaken b old n conns done mid) c.in-Refused.is c.in_ok-planes.ensures.taken in
    let own = c.as_slice.ensures ∙ c.in_ok-before.ensures ∙ c.conns.ensures in
    let same = c.in_ok-planes-in-Refused.ensures.lists ∙ refused_again b n old mid conns i k c.as_slice.result.now first own in
    subst (λ (done : Adopted). AreAdopted b old n conns done c.give_back.new.made.lists) (sym c.in-Refused.is) ((mid, first), same)

pub returns-clause-sitting : goal.returns-clause-sitting
returns-clause-sitting g c =
    let b = c.args.board.now.parts in
    let n = c.args.net in
    let old = c.args.made.now.lists in
    let mid = c.take_conns.new.made.lists in
    let conns = c.args.conns.now in
    let i = c.in-Refused.conn in
    let k = c.in-Refused.corner in
    let first : IsFirstRefused b old n conns mid i k = subst (λ (done : Adopted). AreTaken b old n conns done mid) c.in-Refused.is c.in_ok-planes.ensures.taken in
    let own = c.as_slice.ensures ∙ c.in_ok-before.ensures ∙ c.conns.ensures in
    let same = c.in_ok-planes-in-Refused.ensures.lists ∙ refused_again b n old mid conns i k c.as_slice.result.now first own in
    c.in_ok-planes-in-Refused.ensures.sitting c.args.planes (subst (λ (ls : List (List Conn)). IsSitting b ls c.args.planes) (sym same) c.requires.sitting)
