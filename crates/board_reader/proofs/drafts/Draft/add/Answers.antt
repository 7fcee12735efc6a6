use Rattle.std.proofs.Common.{◌≡◌, OnOk, subst, arith}
use Rattle.board_reader.specs.declared.forms.Form.TheVariants as form
use Rattle.board_reader.proofs.Adding.{command-form, command-stage, board-version, board-width, board-height, layer-fresh, class-fresh, kind-fresh, net-fresh, rule-half, rule-gap, clear-gap, kind-charge, pad-half, inner-half, block-corners, keepout-corners, pin-corners, short-corners, ascii-word, as-form}
use Rattle.board_reader.proofs.Unbroken.{stands}
use Rattle.board_reader.proofs.drafts.Draft.add.Goals as goal

pub add_board-requires-clause-version : goal.add_board-requires-clause-version
add_board-requires-clause-version c =
    let d = c.args.self.now in
    let ws = c.args.words.now in
    let h = as-form d c.args.form form.Board ws c.in-Board.is c.requires.passes in
    board-version d ws h

pub add_board-requires-clause-name : goal.add_board-requires-clause-name
add_board-requires-clause-name c =
    let d = c.args.self.now in
    let ws = c.args.words.now in
    let h = as-form d c.args.form form.Board ws c.in-Board.is c.requires.passes in
    ascii-word ws c.requires.words 2

pub add_board-requires-clause-width : goal.add_board-requires-clause-width
add_board-requires-clause-width c =
    let d = c.args.self.now in
    let ws = c.args.words.now in
    let h = as-form d c.args.form form.Board ws c.in-Board.is c.requires.passes in
    board-width d ws h

pub add_board-requires-clause-height : goal.add_board-requires-clause-height
add_board-requires-clause-height c =
    let d = c.args.self.now in
    let ws = c.args.words.now in
    let h = as-form d c.args.form form.Board ws c.in-Board.is c.requires.passes in
    board-height d ws h

pub add_layer-requires-clause-fresh : goal.add_layer-requires-clause-fresh
add_layer-requires-clause-fresh c =
    let d = c.args.self.now in
    let ws = c.args.words.now in
    let h = as-form d c.args.form form.Layer ws c.in-Layer.is c.requires.passes in
    layer-fresh d ws h

pub add_class-requires-clause-fresh : goal.add_class-requires-clause-fresh
add_class-requires-clause-fresh c =
    let d = c.args.self.now in
    let ws = c.args.words.now in
    let h = as-form d c.args.form form.Class ws c.in-Class.is c.requires.passes in
    class-fresh d ws h

pub add_rule-requires-clause-half : goal.add_rule-requires-clause-half
add_rule-requires-clause-half c =
    let d = c.args.self.now in
    let ws = c.args.words.now in
    let h = as-form d c.args.form form.Rule ws c.in-Rule.is c.requires.passes in
    omega (arith, (rule-half d ws h).1)

pub add_rule-requires-clause-gap : goal.add_rule-requires-clause-gap
add_rule-requires-clause-gap c =
    let d = c.args.self.now in
    let ws = c.args.words.now in
    let h = as-form d c.args.form form.Rule ws c.in-Rule.is c.requires.passes in
    omega (arith, (rule-gap d ws h).1)

pub add_clear-requires : goal.add_clear-requires
add_clear-requires c =
    let d = c.args.self.now in
    let ws = c.args.words.now in
    let h = as-form d c.args.form form.Clear ws c.in-Clear.is c.requires.passes in
    omega (arith, (clear-gap d ws h).1)

pub add_kind-requires-clause-fresh : goal.add_kind-requires-clause-fresh
add_kind-requires-clause-fresh c =
    let d = c.args.self.now in
    let ws = c.args.words.now in
    let h = as-form d c.args.form form.ViaKind ws c.in-ViaKind.is c.requires.passes in
    kind-fresh d ws h

pub add_kind-requires-clause-charge : goal.add_kind-requires-clause-charge
add_kind-requires-clause-charge c =
    let d = c.args.self.now in
    let ws = c.args.words.now in
    let h = as-form d c.args.form form.ViaKind ws c.in-ViaKind.is c.requires.passes in
    omega (arith, (kind-charge d ws h).1)

pub add_pad-requires : goal.add_pad-requires
add_pad-requires c =
    let d = c.args.self.now in
    let ws = c.args.words.now in
    let h = as-form d c.args.form form.Pad ws c.in-Pad.is c.requires.passes in
    omega (arith, (pad-half d ws h).1)

pub add_inner-requires : goal.add_inner-requires
add_inner-requires c =
    let d = c.args.self.now in
    let ws = c.args.words.now in
    let h = as-form d c.args.form form.Inner ws c.in-Inner.is c.requires.passes in
    omega (arith, (inner-half d ws h).1)

pub add_block-requires : goal.add_block-requires
add_block-requires c =
    let d = c.args.self.now in
    let ws = c.args.words.now in
    let h = as-form d c.args.form form.Block ws c.in-Block.is c.requires.passes in
    short-corners d ws 2 c.requires.draft (stands h) (block-corners d ws h)

pub add_keepout-requires : goal.add_keepout-requires
add_keepout-requires c =
    let d = c.args.self.now in
    let ws = c.args.words.now in
    let h = as-form d c.args.form form.Keepout ws c.in-Keepout.is c.requires.passes in
    short-corners d ws 3 c.requires.draft (stands h) (keepout-corners d ws h)

pub add_net-requires-clause-fresh : goal.add_net-requires-clause-fresh
add_net-requires-clause-fresh c =
    let d = c.args.self.now in
    let ws = c.args.words.now in
    let h = as-form d c.args.form form.Net ws c.in-Net.is c.requires.passes in
    net-fresh d ws h

pub add_pin-requires : goal.add_pin-requires
add_pin-requires c =
    let d = c.args.self.now in
    let ws = c.args.words.now in
    let h = as-form d c.args.form form.Pin ws c.in-Pin.is c.requires.passes in
    short-corners d ws 2 c.requires.draft (stands h) (pin-corners d ws h)

pub returns-in-Route : goal.returns-in-Route
returns-in-Route c =
    let d = c.args.self.now in
    let after = command-stage c.args.form c.in-Route.is in
    subst (λ n. OnOk c.add_command.result (c.add_command.new.self ≡ n)) (command-form d c.args.form c.args.words.now after) c.add_command.ensures
