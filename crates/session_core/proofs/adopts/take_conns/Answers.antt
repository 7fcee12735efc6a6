use Rattle.std.proofs.Common.{ℕ, Option, Some, sym, subst, arith}
use Rattle.session_core.specs.Adopting.{IsTakenOne, IsFirstRefused}
use Rattle.session_core.proofs.Adopting.{walks_more, first_refused, taken_none}
use Rattle.session_core.proofs.adopts.take_conns.Goals as goal

pub returns-in-Some-clause-taken : goal.returns-in-Some-clause-taken
returns-in-Some-clause-taken g c =
    let b = c.args.board.now.parts in
    let n = c.args.net in
    let loop = c.loop-conn in
    let old = c.args.made.now.lists in
    let mid = loop.made.lists in
    let new = c.take_conn.new.made.lists in
    let x = c.conn-item.result in
    let conns = c.args.conns.now in
    let k = c.in-Some.corner in
    let one : IsTakenOne b mid n x (Some k) new = subst (λ (told : Option ℕ). IsTakenOne b mid n x told new) c.in-Some.is c.in_ok-after.ensures.taken in
    subst (λ (i : ℕ). IsFirstRefused b old n conns new i k) (sym loop.invariant.count)
    (first_refused b n old mid new conns loop.conn-index x (omega arith) c.conn-item.is loop.invariant.walks k one)

pub loop-conn-preserved : goal.loop-conn-preserved
loop-conn-preserved g c =
    let b = c.args.board.now.parts in
    let n = c.args.net in
    let loop = c.loop-conn in
    let old = c.args.made.now.lists in
    let mid = loop.made.lists in
    let new = c.take_conn.new.made.lists in
    let x = c.conn-item.result in
    record {
      count = omega arith;
      walks = walks_more b n old mid new c.args.conns.now loop.conn-index x (omega arith) c.conn-item.is loop.invariant.walks
          (taken_none b mid n x c.in_ok-after.field-0.bad new c.in_default.not-Some c.in_ok-after.ensures.taken);
      sitting = c.in_ok-after.ensures.sitting;
    }
