-- A line that breaks no rule leaves a draft that keeps all rules so far.
use Rattle.std.proofs.Common.{◌≡◌, ◌≢◌, ℕ, pos, ◌+◌, ◌<◌, ◌≤◌, min, max, false, List, [], All, length, arith}
use Rattle.std.specs.Prelude.{Option, Some, None}
use Rattle.std.proofs.lemmas.Bool.{eqb-false, ltb-false, not-false}
use Rattle.std.proofs.lemmas.Int.{ints}
use Rattle.std.proofs.lemmas.List.{length_push}
use Rattle.std.proofs.lemmas.List.Elements.{All-push}
use Rattle.board_parts.specs.Rules.{IsName, IsKind, IsOnBoard}
use Rattle.board_parts.specs.declared.commands.Command.{Command}
use Rattle.board_reader.specs.declared.drafts.Draft.{Draft}
use Rattle.board_reader.specs.declared.forms.Form.{Form}
use Rattle.board_reader.specs.declared.forms.Form.TheVariants as form
use Rattle.board_reader.specs.declared.forms.Sort.TheVariants as sort
use Rattle.board_reader.specs.declared.forms.Stage.TheVariants.{Parts}
use Rattle.board_reader.specs.declared.refusals.RefusalKind.TheVariants.{BadWord, OutOfRange, UnknownName, TooMany, BadRect, MissingRule}
use Rattle.board_reader.specs.Checks.{fails_whole, is_crossed, is_complete}
use Rattle.board_reader.specs.Drafts.{after_form, area_at, layer_of, kind_of, nth_kind, command_of, with_command}
use Rattle.board_reader.specs.Kept.{IsDraft, IsInnerOf, IsWord}
use Rattle.line_words.specs.Lines.{word}
use Rattle.line_words.specs.Numbers.{number}
use Rattle.board_reader.specs.Passing.{BreaksNone}
use Rattle.board_reader.proofs.Adding.{layer-fresh, class-fresh, kind-fresh, net-fresh, rule-half, rule-gap, clear-gap, kind-charge, pad-half, inner-half, OnBoard, block-corners, keepout-corners, pin-corners}
use Rattle.board_reader.proofs.Growing.{rules-push, clears-push, pads-push, kinds-push, kinds-grow, inners-grow, nets-push, nets-grow, blocks-push, keepouts-push, blocks-grow, blocks-none, pins-push, pins-grow, pins-none, measure-in, side-in}
use Rattle.board_reader.proofs.Naming.{names-push, number-in-range}
use Rattle.board_reader.proofs.Unbroken.{each-place, whole-line, in-range, is-known, is-short, is-short-title, stands, word-count}

-- a word in a place that the line has, of no more than 64 bytes, is a name
pub name-at : (ws : List (List ℕ)) (i n : ℕ) → All IsWord ws → length ws ≡ n → i < n → length (word ws i) ≤ 64 → IsName (word ws i)
name-at ws i n h e inside short =
    let w = h i [] (omega arith) in
    record { some = w.some; short = short; word = w.each }

-- the corners on the board that are not crossed
area-on-board : (d : Draft) (ws : List (List ℕ)) (i : ℕ) → OnBoard d ws i → is_crossed ws i ≡ false → IsOnBoard (pos d.heading.width) (pos d.heading.height) (area_at ws i)
area-on-board d ws i on e = record {
  left = omega (arith, ints);
  below = omega (arith, ints);
  right = omega (arith, ints, on.left, on.right);
  above = omega (arith, ints, on.below, on.above);
}

-- two different layers of those that there are
kind-of-two : (layers a b charge : ℕ) → a < layers → b < layers → a ≢ b → charge ≤ 65535
    → IsKind layers (record { first = record { 0 = min a b }; last = record { 0 = max a b }; charge = charge })
kind-of-two layers a b charge la lb apart c = record { order = omega (arith, apart); known = omega (arith, la, lb); charge = c }

keeps-board : (d : Draft) (ws : List (List ℕ)) → IsDraft d → All IsWord ws → BreaksNone d form.Board ws → IsDraft (after_form d form.Board ws)
unfolding after_form
keeps-board d ws k w h =
    let empty = k.empty (stands h) in
    let r = each-place d form.Board ws OutOfRange h.ranges in
    let s = each-place d form.Board ws BadWord h.spelled in
    record {
      layers = k.layers;
      classes = k.classes;
      kind_names = k.kind_names;
      net_names = k.net_names;
      tables = k.tables;
      kinds = k.kinds;
      inners = k.inners;
      nets = k.nets;
      blocks = blocks-none _ _ _ _ empty.0 empty.1.0;
      pins = pins-none _ _ _ _ empty.1.1;
      empty = λ e. absurd (cc);
      heading = λ _. record {
        name = name-at ws 2 5 w (word-count h) (omega arith) (is-short-title d (word ws 2) s.1.0);
        width = side-in (number (word ws 3)) (in-range d 1 8388608 (word ws 3) r.1.1.0);
        height = side-in (number (word ws 4)) (in-range d 1 8388608 (word ws 4) r.1.1.1.0);
      };
      complete = λ e. absurd (cc);
    }

keeps-layer : (d : Draft) (ws : List (List ℕ)) → IsDraft d → All IsWord ws → BreaksNone d form.Layer ws → IsDraft (after_form d form.Layer ws)
unfolding after_form fails_whole
keeps-layer d ws k w h =
    let stage : d.stage ≡ Parts = stands h in
    let s = each-place d form.Layer ws BadWord h.spelled in
    let room = ltb-false 8 (length d.layers + 1) (whole-line d form.Layer ws TooMany h.few) in
    let more = length_push d.layers (word ws 1) in
    record {
      layers = names-push 8 d.layers (word ws 1) k.layers (name-at ws 1 2 w (word-count h) (omega arith) (is-short d sort.Layer (word ws 1) s.0)) (layer-fresh d ws h) room;
      classes = k.classes;
      kind_names = k.kind_names;
      net_names = k.net_names;
      tables = k.tables;
      kinds = kinds-grow _ _ _ _ more k.kinds;
      inners = k.inners;
      nets = k.nets;
      blocks = blocks-grow _ _ _ _ _ more k.blocks;
      pins = pins-grow _ _ _ _ _ _ (omega (arith, more)) (omega arith) k.pins;
      empty = k.empty;
      heading = k.heading;
      complete = λ e. absurd (cc);
    }

keeps-class : (d : Draft) (ws : List (List ℕ)) → IsDraft d → All IsWord ws → BreaksNone d form.Class ws → IsDraft (after_form d form.Class ws)
unfolding after_form fails_whole
keeps-class d ws k w h =
    let stage : d.stage ≡ Parts = stands h in
    let s = each-place d form.Class ws BadWord h.spelled in
    let room = ltb-false 4 (length d.classes + 1) (whole-line d form.Class ws TooMany h.few) in
    record {
      layers = k.layers;
      classes = names-push 4 d.classes (word ws 1) k.classes (name-at ws 1 2 w (word-count h) (omega arith) (is-short d sort.Class (word ws 1) s.0)) (class-fresh d ws h) room;
      kind_names = k.kind_names;
      net_names = k.net_names;
      tables = k.tables;
      kinds = k.kinds;
      inners = k.inners;
      nets = nets-grow _ _ _ _ (length_push d.classes (word ws 1)) k.nets;
      blocks = k.blocks;
      pins = k.pins;
      empty = k.empty;
      heading = k.heading;
      complete = λ e. absurd (cc);
    }

keeps-rule : (d : Draft) (ws : List (List ℕ)) → IsDraft d → All IsWord ws → BreaksNone d form.Rule ws → IsDraft (after_form d form.Rule ws)
unfolding after_form
keeps-rule d ws k w h =
    let stage : d.stage ≡ Parts = stands h in
    record {
      layers = k.layers;
      classes = k.classes;
      kind_names = k.kind_names;
      net_names = k.net_names;
      tables = rules-push _ _ _ _ k.tables (record { half = measure-in (number (word ws 3)) (rule-half d ws h); gap = measure-in (number (word ws 4)) (rule-gap d ws h) });
      kinds = k.kinds;
      inners = k.inners;
      nets = k.nets;
      blocks = k.blocks;
      pins = k.pins;
      empty = k.empty;
      heading = k.heading;
      complete = λ e. absurd (cc);
    }

keeps-clear : (d : Draft) (ws : List (List ℕ)) → IsDraft d → All IsWord ws → BreaksNone d form.Clear ws → IsDraft (after_form d form.Clear ws)
unfolding after_form
keeps-clear d ws k w h =
    let stage : d.stage ≡ Parts = stands h in
    record {
      layers = k.layers;
      classes = k.classes;
      kind_names = k.kind_names;
      net_names = k.net_names;
      tables = clears-push _ _ _ _ k.tables (measure-in (number (word ws 4)) (clear-gap d ws h));
      kinds = k.kinds;
      inners = k.inners;
      nets = k.nets;
      blocks = k.blocks;
      pins = k.pins;
      empty = k.empty;
      heading = k.heading;
      complete = λ e. absurd (cc);
    }

keeps-kind : (d : Draft) (ws : List (List ℕ)) → IsDraft d → All IsWord ws → BreaksNone d form.ViaKind ws → IsDraft (after_form d form.ViaKind ws)
unfolding after_form fails_whole
keeps-kind d ws k w h =
    let stage : d.stage ≡ Parts = stands h in
    let s = each-place d form.ViaKind ws BadWord h.spelled in
    let u = each-place d form.ViaKind ws UnknownName h.known in
    let room = ltb-false 8 (length d.kind_names + 1) (whole-line d form.ViaKind ws TooMany h.few) in
    let apart = eqb-false (layer_of d (word ws 2)) (layer_of d (word ws 3)) (whole-line d form.ViaKind ws BadRect h.corners) in
    let one = number-in-range d.layers (word ws 2) (is-known d sort.Layer (word ws 2) u.1.0) in
    let other = number-in-range d.layers (word ws 3) (is-known d sort.Layer (word ws 3) u.1.1.0) in
    record {
      layers = k.layers;
      classes = k.classes;
      kind_names = names-push 8 d.kind_names (word ws 1) k.kind_names (name-at ws 1 5 w (word-count h) (omega arith) (is-short d sort.Kind (word ws 1) s.0)) (kind-fresh d ws h) room;
      net_names = k.net_names;
      tables = k.tables;
      kinds = kinds-push _ _ _ _ _ (length_push d.kind_names (word ws 1)) k.kinds
          (kind-of-two (length d.layers) (layer_of d (word ws 2)) (layer_of d (word ws 3)) (number (word ws 4)) one other apart (kind-charge d ws h).1);
      inners = inners-grow _ _ _ k.inners;
      nets = k.nets;
      blocks = k.blocks;
      pins = k.pins;
      empty = k.empty;
      heading = k.heading;
      complete = λ e. absurd (cc);
    }

keeps-pad : (d : Draft) (ws : List (List ℕ)) → IsDraft d → All IsWord ws → BreaksNone d form.Pad ws → IsDraft (after_form d form.Pad ws)
unfolding after_form
keeps-pad d ws k w h =
    let stage : d.stage ≡ Parts = stands h in
    record {
      layers = k.layers;
      classes = k.classes;
      kind_names = k.kind_names;
      net_names = k.net_names;
      tables = pads-push _ _ _ _ k.tables (measure-in (number (word ws 3)) (pad-half d ws h));
      kinds = k.kinds;
      inners = k.inners;
      nets = k.nets;
      blocks = k.blocks;
      pins = k.pins;
      empty = k.empty;
      heading = k.heading;
      complete = λ e. absurd (cc);
    }

keeps-inner : (d : Draft) (ws : List (List ℕ)) → IsDraft d → All IsWord ws → BreaksNone d form.Inner ws → IsDraft (after_form d form.Inner ws)
unfolding after_form fails_whole
keeps-inner d ws k w h =
    let stage : d.stage ≡ Parts = stands h in
    let u = each-place d form.Inner ws UnknownName h.known in
    let known = number-in-range d.kind_names (word ws 1) (is-known d sort.Kind (word ws 1) u.0) in
    let n = kind_of d (word ws 1) in
    let same = k.kinds.even in
    record {
      layers = k.layers;
      classes = k.classes;
      kind_names = k.kind_names;
      net_names = k.net_names;
      tables = k.tables;
      kinds = k.kinds;
      inners = All-push (IsInnerOf d.kinds) d.inners _ k.inners (record {
        known = omega (arith, known, same);
        deep = eqb-false (nth_kind d.kinds n).last.0 ((nth_kind d.kinds n).first.0 + 1) (whole-line d form.Inner ws BadRect h.corners);
        half = measure-in (number (word ws 3)) (inner-half d ws h);
      });
      nets = k.nets;
      blocks = k.blocks;
      pins = k.pins;
      empty = k.empty;
      heading = k.heading;
      complete = λ e. absurd (cc);
    }

keeps-block : (d : Draft) (ws : List (List ℕ)) → IsDraft d → All IsWord ws → BreaksNone d form.Block ws → IsDraft (after_form d form.Block ws)
unfolding after_form fails_whole
keeps-block d ws k w h =
    let stage : d.stage ≡ Parts = stands h in
    let u = each-place d form.Block ws UnknownName h.known in
    let room = ltb-false 8192 (length d.blocks + length d.keepouts + 1) (whole-line d form.Block ws TooMany h.few) in
    record {
      layers = k.layers;
      classes = k.classes;
      kind_names = k.kind_names;
      net_names = k.net_names;
      tables = k.tables;
      kinds = k.kinds;
      inners = k.inners;
      nets = k.nets;
      blocks = blocks-push _ _ _ _ _ k.blocks (record {
        layer = number-in-range d.layers (word ws 1) (is-known d sort.Layer (word ws 1) u.0);
        area = area-on-board d ws 2 (block-corners d ws h) (whole-line d form.Block ws BadRect h.corners);
      }) room;
      pins = k.pins;
      empty = λ e. absurd (cc);
      heading = k.heading;
      complete = λ e. absurd (cc);
    }

keeps-keepout : (d : Draft) (ws : List (List ℕ)) → IsDraft d → All IsWord ws → BreaksNone d form.Keepout ws → IsDraft (after_form d form.Keepout ws)
unfolding after_form fails_whole
keeps-keepout d ws k w h =
    let stage : d.stage ≡ Parts = stands h in
    let u = each-place d form.Keepout ws UnknownName h.known in
    let room = ltb-false 8192 (length d.blocks + length d.keepouts + 1) (whole-line d form.Keepout ws TooMany h.few) in
    record {
      layers = k.layers;
      classes = k.classes;
      kind_names = k.kind_names;
      net_names = k.net_names;
      tables = k.tables;
      kinds = k.kinds;
      inners = k.inners;
      nets = k.nets;
      blocks = keepouts-push _ _ _ _ _ k.blocks (record {
        layer = number-in-range d.layers (word ws 2) (is-known d sort.Layer (word ws 2) u.1.0);
        area = area-on-board d ws 3 (keepout-corners d ws h) (whole-line d form.Keepout ws BadRect h.corners);
      }) room;
      pins = k.pins;
      empty = λ e. absurd (cc);
      heading = k.heading;
      complete = λ e. absurd (cc);
    }

keeps-net : (d : Draft) (ws : List (List ℕ)) → IsDraft d → All IsWord ws → BreaksNone d form.Net ws → IsDraft (after_form d form.Net ws)
unfolding after_form fails_whole
keeps-net d ws k w h =
    let stage : d.stage ≡ Parts = stands h in
    let s = each-place d form.Net ws BadWord h.spelled in
    let u = each-place d form.Net ws UnknownName h.known in
    let room = ltb-false 16384 (length d.net_names + 1) (whole-line d form.Net ws TooMany h.few) in
    let more = length_push d.net_names (word ws 1) in
    record {
      layers = k.layers;
      classes = k.classes;
      kind_names = k.kind_names;
      net_names = names-push 16384 d.net_names (word ws 1) k.net_names (name-at ws 1 3 w (word-count h) (omega arith) (is-short d sort.Net (word ws 1) s.0)) (net-fresh d ws h) room;
      tables = k.tables;
      kinds = k.kinds;
      inners = k.inners;
      nets = nets-push _ _ _ _ _ more k.nets (number-in-range d.classes (word ws 2) (is-known d sort.Class (word ws 2) u.1.0));
      blocks = k.blocks;
      pins = pins-grow _ _ _ _ _ _ (omega arith) (omega (arith, more)) k.pins;
      empty = k.empty;
      heading = k.heading;
      complete = λ e. absurd (cc);
    }

keeps-pin : (d : Draft) (ws : List (List ℕ)) → IsDraft d → All IsWord ws → BreaksNone d form.Pin ws → IsDraft (after_form d form.Pin ws)
unfolding after_form fails_whole
keeps-pin d ws k w h =
    let stage : d.stage ≡ Parts = stands h in
    let u = each-place d form.Pin ws UnknownName h.known in
    let room = ltb-false 32768 (length d.pins + 1) (whole-line d form.Pin ws TooMany h.few) in
    let one = number-in-range d.layers (word ws 6) (is-known d sort.Layer (word ws 6) u.1.1.1.1.1.0) in
    let other = number-in-range d.layers (word ws 7) (is-known d sort.Layer (word ws 7) u.1.1.1.1.1.1.0) in
    record {
      layers = k.layers;
      classes = k.classes;
      kind_names = k.kind_names;
      net_names = k.net_names;
      tables = k.tables;
      kinds = k.kinds;
      inners = k.inners;
      nets = k.nets;
      blocks = k.blocks;
      pins = pins-push _ _ _ _ _ k.pins (record {
        net = number-in-range d.net_names (word ws 1) (is-known d sort.Net (word ws 1) u.0);
        area = area-on-board d ws 2 (pin-corners d ws h) (whole-line d form.Pin ws BadRect h.corners);
        order = omega arith;
        layer = omega (arith, one, other);
      }) room;
      empty = λ e. absurd (cc);
      heading = k.heading;
      complete = λ e. absurd (cc);
    }

-- what is complete at `end` does not depend on the part of the text, nor on commands
keeps-end : (d : Draft) (ws : List (List ℕ)) → IsDraft d → BreaksNone d form.End ws → IsDraft (after_form d form.End ws)
unfolding after_form fails_whole is_complete
keeps-end d ws k h =
    let stage : d.stage ≡ Parts = stands h in
    record {
      layers = k.layers;
      classes = k.classes;
      kind_names = k.kind_names;
      net_names = k.net_names;
      tables = k.tables;
      kinds = k.kinds;
      inners = k.inners;
      nets = k.nets;
      blocks = k.blocks;
      pins = k.pins;
      empty = λ e. absurd (cc);
      heading = λ _. k.heading (λ e. cc);
      complete = λ _. not-false (is_complete d) (whole-line d form.End ws MissingRule h.whole);
    }

-- commands are no part of the board
keeps-command : (d : Draft) (o : Option Command) → IsDraft d → IsDraft (with_command d o)
unfolding is_complete
keeps-command d None k = k
keeps-command d (Some c) k =
    record {
      layers = k.layers;
      classes = k.classes;
      kind_names = k.kind_names;
      net_names = k.net_names;
      tables = k.tables;
      kinds = k.kinds;
      inners = k.inners;
      nets = k.nets;
      blocks = k.blocks;
      pins = k.pins;
      empty = k.empty;
      heading = k.heading;
      complete = k.complete;
    }

pub keeps-form : (d : Draft) (f : Form) (ws : List (List ℕ)) → IsDraft d → All IsWord ws → BreaksNone d f ws → IsDraft (after_form d f ws)
unfolding after_form
keeps-form d form.Board ws k w h = keeps-board d ws k w h
keeps-form d form.Layer ws k w h = keeps-layer d ws k w h
keeps-form d form.Class ws k w h = keeps-class d ws k w h
keeps-form d form.Rule ws k w h = keeps-rule d ws k w h
keeps-form d form.Clear ws k w h = keeps-clear d ws k w h
keeps-form d form.ViaKind ws k w h = keeps-kind d ws k w h
keeps-form d form.Pad ws k w h = keeps-pad d ws k w h
keeps-form d form.Inner ws k w h = keeps-inner d ws k w h
keeps-form d form.Block ws k w h = keeps-block d ws k w h
keeps-form d form.Keepout ws k w h = keeps-keepout d ws k w h
keeps-form d form.Net ws k w h = keeps-net d ws k w h
keeps-form d form.Pin ws k w h = keeps-pin d ws k w h
keeps-form d form.End ws k w h = keeps-end d ws k h
keeps-form d form.Route ws k w h = keeps-command d (command_of d form.Route ws) k
keeps-form d form.All ws k w h = keeps-command d (command_of d form.All ws) k
keeps-form d form.Rip ws k w h = keeps-command d (command_of d form.Rip ws) k
keeps-form d form.Show ws k w h = keeps-command d (command_of d form.Show ws) k
keeps-form d form.Rules ws k w h = keeps-command d (command_of d form.Rules ws) k
keeps-form d form.Strips ws k w h = keeps-command d (command_of d form.Strips ws) k
