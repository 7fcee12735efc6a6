use Rattle.std.proofs.Common.{Result, Ok, Err, rules}
use Rattle.std.specs.Prelude.{OnErr, IsOk}
use Rattle.io_edge.proofs.NoFaults.{no_fault-write_all}
use Rattle.ground_tests.proofs.streams.write_plain.Goals as goal

ok_unless : {T E P Q : Type 0} (r : Result T E) → OnErr r P → OnErr r Q → (P → Q → ⊥) → IsOk r
ok_unless (Ok x) p q never = search rules
ok_unless (Err e) p q never = absurd (never p q)

pub returns : goal.returns
returns c =
    ok_unless c.write_all.result c.write_all.ensures.part c.write_all.ensures.fault
    (no_fault-write_all c.args.sink.now c.write_all.new.snk c.args.bytes.now c.write_all.ensures.setup c.requires.fails c.requires.room)
