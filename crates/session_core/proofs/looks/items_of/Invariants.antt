use Rattle.std.proofs.Common.{◌≡◌, length, take}
use Rattle.route_law.specs.Steps.{items_from}
use Rattle.session_core.proofs.looks.items_of.Given as goal

-- the connections so far are listed
abbrev pub invariant-loop-conn : goal.invariant-loop-conn
invariant-loop-conn l = record {
  count : length l.items ≡ l.conn-index;
  listed : l.items ≡ items_from 1 (take l.conn-index l.conns);
}
