use Rattle.std.proofs.Common.{◌≡◌, ◌≤◌, ◌+◌, ◌-◌, ◌++◌, ◌∷◌, [], ◌∙◌, map, ap, arith}
use Rattle.std.specs.List.{range_with_len}
use Rattle.geo_rect.specs.Plane.{square}
use Rattle.board_parts.specs.declared.parts.ViaKind.{ViaKind}
use Rattle.board_parts.specs.Lookup.{layer_at, kind_of, pad_on}
use Rattle.board_model.specs.Shapes.{place_of, net_shape, via_shape}
use Rattle.board_model.proofs.Layers.{added_layer}
use Rattle.board_parts.proofs.Tables.{read_measure}
use Rattle.board_model.proofs.conn_shapes.push_pads.Goals as goal

pub loop-layer-preserved : goal.loop-layer-preserved
loop-layer-preserved c =
    let b = c.args.board.now.parts in
    let p = place_of c.args.to in
    let l = layer_at c.loop-layer.layer in
    let first = ap (λ (v : ViaKind). v.first.0) c.kind-span.ensures.value in
    let pad = c.square.ensures ∙ ap (square p) (read_measure c.pad_on.result c.pad_on.ensures.measure ∙ c.pad_on.ensures.value ∙ ap (λ m. pad_on b c.args.kind m l) c.class_of-class.ensures.class) in
    let one = c.in_ok-push.ensures.ok ∙ ap (λ a. c.loop-layer.shapes ++ net_shape c.args.net a l ∷ []) pad in
    record { added = added_layer (via_shape b c.args.net c.args.kind p) c.args.shapes.now c.loop-layer.shapes c.push.new.self (kind_of b c.args.kind).first.0 c.loop-layer.layer (omega (arith, first)) c.loop-layer.invariant.added one }

pub returns-in_ok-push : goal.returns-in_ok-push
returns-in_ok-push c =
    let b = c.args.board.now.parts in
    let p = place_of c.args.to in
    let l = layer_at c.loop-layer.layer in
    let first = ap (λ (v : ViaKind). v.first.0) c.kind-span.ensures.value in
    let same = ap (λ (v : ViaKind). v.last.0) c.kind-span.ensures.value in
    let last : c.loop-layer.layer ≡ (kind_of b c.args.kind).last.0 = omega (arith, same) in
    let pad = c.square.ensures ∙ ap (square p) (read_measure c.pad_on.result c.pad_on.ensures.measure ∙ c.pad_on.ensures.value ∙ ap (λ m. pad_on b c.args.kind m l) c.class_of-class.ensures.class) in
    let one = c.in_ok-push.ensures.ok ∙ ap (λ a. c.loop-layer.shapes ++ net_shape c.args.net a l ∷ []) pad in
    added_layer (via_shape b c.args.net c.args.kind p) c.args.shapes.now c.loop-layer.shapes c.push.new.self (kind_of b c.args.kind).first.0 c.loop-layer.layer (omega (arith, first)) c.loop-layer.invariant.added one
    ∙ ap (λ n. c.args.shapes.now ++ map (via_shape b c.args.net c.args.kind p) (map layer_at (range_with_len (kind_of b c.args.kind).first.0 (n + 1 - (kind_of b c.args.kind).first.0)))) last
