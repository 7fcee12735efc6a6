use Rattle.std.proofs.Common.{arith}
use Rattle.route_law.specs.declared.certs.Origin.TheVariants.{Via}
use Rattle.route_law.specs.Ground.{Ground}
use Rattle.route_law.specs.Moves.{arrival_of}
use Rattle.strip_moves.specs.Grounds.{ground_of}
use Rattle.strip_moves.proofs.ByLayers.{no_layer_yet, one_layer_more, all_layers}
use Rattle.strip_moves.proofs.moves.push_jumps_by.Goals as goal

pub loop-layer-init : goal.loop-layer-init
loop-layer-init g c =
    no_layer_yet (ground_of c.args.board.now.parts c.args.planes.now c.args.d.net) c.args.k (arrival_of c.args.d.from) (Via c.args.number c.args.k) c.args.moves.now

pub loop-layer-preserved : goal.loop-layer-preserved
loop-layer-preserved g c =
    let ground : Ground = ground_of c.args.board.now.parts c.args.planes.now c.args.d.net in
    one_layer_more ground c.args.k (arrival_of c.args.d.from) (Via c.args.number c.args.k)
    c.args.moves.now c.loop-layer.moves c.push_jumps_to.new.moves c.loop-layer.layer c.loop-layer.invariant c.in_ok-push_jumps_to.ensures

pub returns : goal.returns
returns g c =
    let ground : Ground = ground_of c.args.board.now.parts c.args.planes.now c.args.d.net in
    all_layers ground c.args.k (arrival_of c.args.d.from) (Via c.args.number c.args.k)
    c.args.moves.now c.loop-layer.moves c.loop-layer.layer (omega arith) c.loop-layer.invariant
