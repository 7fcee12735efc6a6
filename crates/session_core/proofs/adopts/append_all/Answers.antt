use Rattle.std.proofs.Common.{◌∙◌, ap, arith}
use Rattle.board_model.specs.declared.made.Conn.{Conn}
use Rattle.board_model.specs.Made.{with_conn}
use Rattle.session_core.proofs.Adopting.{append_more}
use Rattle.session_core.proofs.adopts.append_all.Goals as goal

pub loop-conn-preserved : goal.loop-conn-preserved
loop-conn-preserved c =
    let n = c.args.net in
    let mid = c.loop-conn.made.lists in
    append_more n c.args.made.now.lists mid c.append.new.self.lists c.args.conns.now c.loop-conn.conn-index c.conn-item.result
    c.requires.net (omega arith) c.conn-item.is c.loop-conn.invariant
    (c.in_ok-append.ensures.ok ∙ ap (λ (conn : Conn). with_conn mid n conn) c.in_ok-copy_of.ensures)
