use Rattle.std.proofs.Common.{List, length, ◌∙◌, ap, arith}
use Rattle.std.proofs.lemmas.List.{length-set}
use Rattle.board_model.specs.declared.made.Conn.{Conn}
use Rattle.board_model.specs.Made.{with_conn}
use Rattle.replay_check.proofs.Leaving.{made_one_more}
use Rattle.replay_check.proofs.after.take_made.Goals as goal

pub loop-one-preserved : goal.loop-one-preserved
loop-one-preserved c =
    let n = c.args.net in
    let mid = c.loop-one.made.lists in
    let more = c.in_ok-append.ensures.ok ∙ ap (λ (conn : Conn). with_conn mid n conn) c.in_ok-copy_conn.ensures in
    record {
      lists = made_one_more c.args.made.now.lists mid c.append.new.self.lists c.loop-one.one-index n c.args.all.now c.one-item.result (omega arith) c.one-item.is c.loop-one.invariant.lists more;
      nets = ap (λ (ls : List (List Conn)). length ls) more ∙ length-set mid n.0 _ ∙ c.loop-one.invariant.nets;
    }
