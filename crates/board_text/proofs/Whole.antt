-- The whole text of a board and of commands is read back.
use Rattle.std.proofs.Common.{◌≡◌, ℕ, pos, ◌+◌, ◌<◌, ◌≤◌, suc, true, false, List, [], ◌∷◌, ◌++◌, All, Ok, length, get_or, take, refl, sym, ap, ◌∙◌, arith, subst}
use Rattle.std.specs.Prelude.{nat_lt, not}
use Rattle.std.specs.List.{flat_map, range_with_len}
use Rattle.std.proofs.Math.Seq.{take-suc}
use Rattle.std.proofs.lemmas.Bool.{lt-ltb, and_from}
use Rattle.std.proofs.lemmas.Int.{ints}
use Rattle.std.proofs.lemmas.List.{take_all}
use Rattle.board_parts.specs.Commands.{IsCommandOf}
use Rattle.board_parts.specs.Rules.{IsBoard}
use Rattle.board_parts.specs.declared.commands.Command.{Command}
use Rattle.board_parts.specs.declared.commands.Command.TheVariants as command
use Rattle.board_parts.specs.declared.parts.BoardParts.{BoardParts}
use Rattle.board_parts.specs.declared.parts.Rule.{Rule}
use Rattle.board_reader.specs.declared.forms.Form.TheVariants as form
use Rattle.board_reader.specs.declared.tables.Entry.{Entry}
use Rattle.board_reader.specs.Checks.{is_complete}
use Rattle.board_reader.specs.Drafts.{no_draft, after_form, parts_of, layer_of, class_of}
use Rattle.board_reader.specs.Drafts as drafts
use Rattle.board_reader.specs.Forms.{spelling}
use Rattle.board_reader.specs.Gaps.{all_gaps}
use Rattle.board_reader.specs.Reading.{reading}
use Rattle.board_reader.specs.Tables.{table, is_full}
use Rattle.board_text.specs.declared.spelling.Version.{Version}
use Rattle.board_text.specs.Spelled.{line, board_line, wire_lines, clear_lines, via_lines, item_lines, command_line, spelled, told_of}
use Rattle.board_text.specs.Spelled as text
use Rattle.board_parts.specs.Lookup.{layer_at}
use Rattle.board_text.proofs.Cells.{AreGiven, given-cell}
use Rattle.board_text.proofs.ClearsRead.{given_gap, clears-given, gaps-back}
use Rattle.board_text.proofs.Drafts.{Given, with_layers, with_classes, with_rules, with_clears, with_kinds, with_pads, with_inners, with_given, with_blocks, with_keepouts, with_nets, with_pins, with_commands}
use Rattle.board_text.proofs.Fitting.{breaks-none}
use Rattle.board_text.proofs.ItemsRead.{blocks-tell, keepouts-tell, nets-tell, pins-tell}
use Rattle.board_text.proofs.Known.{number-of-name, name-known, good-of-names, room}
use Rattle.board_text.proofs.Laid.{HasEach, each-full, table-is-list}
use Rattle.board_text.proofs.Numerals.{size, size-is}
use Rattle.board_text.proofs.Pairs.{pair_at, IsPairDone}
use Rattle.board_text.proofs.Telling.{Tells, tells-more, tells-line, tells-each, tells-all}
use Rattle.board_text.proofs.Versions.{IsOfVersion}
use Rattle.board_text.proofs.ViasRead.{kinds-tell, pad_at, given_pad, pads-given, inner_at, inners-given, inners-all}
use Rattle.board_text.proofs.WiresRead.{board-tells, layers-tell, classes-tell, some_rule, rule_at, given_rule, rules-given}

-- the tables of a board, as its text gives them
record AreTables (b : BoardParts) (t : Given) : Type 0 where
  rules : HasEach t.rules (rule_at b) (length b.layers) (length b.classes)
  gaps : AreGiven pair_at (given_gap b) t.clears (IsPairDone (length b.classes) (length b.layers) 0 0)
  pads : HasEach t.pads (pad_at b) (length b.kinds) (length b.classes)
  inners : HasEach (t.inners ++ t.pads) (inner_at b) (length b.kinds) (length b.classes)

is-whole : (v : Version) (b : BoardParts) (t : Given) → IsBoard b → AreTables b t → is_complete (with_pins v b t b.pins) ≡ true
unfolding is_complete
is-whole v b t h g =
    and_from _ _ (and_from _ _ (lt-ltb 0 (length b.layers) h.some_layer) (lt-ltb 0 (length b.classes) h.some_class))
    (and_from _ _ (each-full (rule_at b) (length b.layers) (length b.classes) t.rules g.rules)
    (subst (λ n. is_full t.pads n (length b.classes) ≡ true) h.kinds (each-full (pad_at b) (length b.kinds) (length b.classes) t.pads g.pads)))

end-tells : (v : Version) (b : BoardParts) (t : Given) → IsBoard b → AreTables b t → Tells (with_pins v b t b.pins) (line form.End []) (with_commands v b t [])
unfolding after_form
end-tells v b t h g =
    let now = with_pins v b t b.pins in
    tells-line now (with_commands v b t []) form.End [] tt
    (breaks-none now form.End (spelling form.End ∷ []) tt (record {
      count = refl;
      placed = refl;
      allowed = refl;
      fresh = refl;
      small = refl;
      corners = refl;
      few = refl;
      complete = ap not (is-whole v b t h g);
    }))
    refl

-- a command that names a net
net-command : (v : Version) (b : BoardParts) (t : Given) (cs : List Command) → IsBoard b → (n : ℕ) → n < length b.net_names
    → (drafts.net_of (with_commands v b t cs) (get_or b.net_names n [])).0 ≡ n
net-command v b t cs h n inside = number-of-name 16384 b.net_names n [] h.net_names inside

command-tells : (v : Version) (b : BoardParts) (t : Given) (cs : List Command) → IsBoard b → nat_lt 65536 (length cs + 1) ≡ false
    → (x : Command) → IsCommandOf b x → Tells (with_commands v b t cs) (command_line b x) (with_commands v b t (cs ++ x ∷ []))
unfolding after_form
command-tells v b t cs h few (command.Route n) is =
    let now = with_commands v b t cs in
    let w = get_or b.net_names n.0 [] in
    let nn = net-command v b t cs h n.0 is in
    tells-line now (with_commands v b t (cs ++ command.Route n ∷ [])) form.Route (w ∷ []) (good-of-names 16384 b.net_names n.0 [] h.net_names is, tt)
    (breaks-none now form.Route (spelling form.Route ∷ w ∷ []) (name-known 16384 b.net_names n.0 [] h.net_names is, tt) (record { count = refl; placed = refl; allowed = refl; fresh = refl; small = refl; corners = refl; few = few; complete = refl }))
    (λ i. with_commands v b t (cs ++ command.Route (record { 0 = nn i }) ∷ []))
command-tells v b t cs h few command.All is =
    let now = with_commands v b t cs in
    tells-line now (with_commands v b t (cs ++ command.All ∷ [])) form.All [] tt
    (breaks-none now form.All (spelling form.All ∷ []) tt (record { count = refl; placed = refl; allowed = refl; fresh = refl; small = refl; corners = refl; few = few; complete = refl })) refl
command-tells v b t cs h few (command.Rip n) is =
    let now = with_commands v b t cs in
    let w = get_or b.net_names n.0 [] in
    let nn = net-command v b t cs h n.0 is in
    tells-line now (with_commands v b t (cs ++ command.Rip n ∷ [])) form.Rip (w ∷ []) (good-of-names 16384 b.net_names n.0 [] h.net_names is, tt)
    (breaks-none now form.Rip (spelling form.Rip ∷ w ∷ []) (name-known 16384 b.net_names n.0 [] h.net_names is, tt) (record { count = refl; placed = refl; allowed = refl; fresh = refl; small = refl; corners = refl; few = few; complete = refl }))
    (λ i. with_commands v b t (cs ++ command.Rip (record { 0 = nn i }) ∷ []))
command-tells v b t cs h few (command.Show n) is =
    let now = with_commands v b t cs in
    let w = get_or b.net_names n.0 [] in
    let nn = net-command v b t cs h n.0 is in
    tells-line now (with_commands v b t (cs ++ command.Show n ∷ [])) form.Show (w ∷ []) (good-of-names 16384 b.net_names n.0 [] h.net_names is, tt)
    (breaks-none now form.Show (spelling form.Show ∷ w ∷ []) (name-known 16384 b.net_names n.0 [] h.net_names is, tt) (record { count = refl; placed = refl; allowed = refl; fresh = refl; small = refl; corners = refl; few = few; complete = refl }))
    (λ i. with_commands v b t (cs ++ command.Show (record { 0 = nn i }) ∷ []))
command-tells v b t cs h few command.Rules is =
    let now = with_commands v b t cs in
    tells-line now (with_commands v b t (cs ++ command.Rules ∷ [])) form.Rules [] tt
    (breaks-none now form.Rules (spelling form.Rules ∷ []) tt (record { count = refl; placed = refl; allowed = refl; fresh = refl; small = refl; corners = refl; few = few; complete = refl })) refl
command-tells v b t cs h few (command.Strips l c) is =
    let now = with_commands v b t cs in
    let on = get_or b.layers l.0 [] in
    let w = get_or b.classes c.0 [] in
    let ln : layer_of now on ≡ l.0 = number-of-name 8 b.layers l.0 [] h.layers is.0 in
    let cn : class_of now w ≡ c.0 = number-of-name 4 b.classes c.0 [] h.classes is.1 in
    tells-line now (with_commands v b t (cs ++ command.Strips l c ∷ [])) form.Strips (on ∷ w ∷ []) (good-of-names 8 b.layers l.0 [] h.layers is.0, (good-of-names 4 b.classes c.0 [] h.classes is.1, tt))
    (breaks-none now form.Strips (spelling form.Strips ∷ on ∷ w ∷ []) (name-known 8 b.layers l.0 [] h.layers is.0, (name-known 4 b.classes c.0 [] h.classes is.1, tt)) (record { count = refl; placed = refl; allowed = refl; fresh = refl; small = refl; corners = refl; few = few; complete = refl }))
    (λ i. with_commands v b t (cs ++ command.Strips (record { 0 = ln i }) (record { 0 = cn i }) ∷ []))

one-command : (v : Version) (b : BoardParts) (t : Given) (cs : List Command) → IsBoard b → All (IsCommandOf b) cs → length cs ≤ 65536 → (k : ℕ) (d : Command) → k < length cs
    → Tells (with_commands v b t (take k cs)) (command_line b (get_or cs k d)) (with_commands v b t (take (suc k) cs))
one-command v b t cs h all few k d inside =
    subst (λ x. Tells (with_commands v b t (take k cs)) (command_line b (get_or cs k d)) (with_commands v b t x)) (sym (take-suc cs k d inside))
    (command-tells v b t (take k cs) h (room 65536 cs k inside few) (get_or cs k d) (all k d inside))

commands-tell : (v : Version) (b : BoardParts) (t : Given) (cs : List Command) → IsBoard b → All (IsCommandOf b) cs → length cs ≤ 65536
    → Tells (with_commands v b t []) (flat_map (command_line b) cs) (with_commands v b t cs)
commands-tell v b t cs h all few =
    subst (λ x. Tells (with_commands v b t []) (flat_map (command_line b) cs) (with_commands v b t x)) (take_all (length cs) cs (omega arith))
    (tells-each cs (command_line b) (λ k. with_commands v b t (take k cs)) (one-command v b t cs h all few))

-- what the lines before the blockages give
record HasTables (v : Version) (b : BoardParts) : Type 0 where
  given : Given
  are : AreTables b given
  tells : Tells no_draft (board_line v b ++ wire_lines b ++ clear_lines b ++ via_lines b) (with_given v b given)

names-tell : (v : Version) (b : BoardParts) → IsBoard b → Tells (with_layers v b []) (flat_map text.layer_line b.layers ++ flat_map text.class_line b.classes) (with_classes v b b.classes)
names-tell v b h = tells-more (with_layers v b []) (with_layers v b b.layers) (with_classes v b b.classes) (flat_map text.layer_line b.layers) (flat_map text.class_line b.classes) (layers-tell v b h) (classes-tell v b h)

wires-tell : (v : Version) (b : BoardParts) (rs : List (Entry Rule)) → IsBoard b → Tells (with_rules v b []) (flat_map (λ l. text.rule_lines b (layer_at l)) (range_with_len 0 (length b.layers))) (with_rules v b rs) → Tells (with_layers v b []) (wire_lines b) (with_rules v b rs)
unfolding wire_lines
wires-tell v b rs h rules =
    tells-more (with_layers v b []) (with_classes v b b.classes) (with_rules v b rs)
    (flat_map text.layer_line b.layers ++ flat_map text.class_line b.classes) (flat_map (λ l. text.rule_lines b (layer_at l)) (range_with_len 0 (length b.layers))) (names-tell v b h) rules

vias-tell : (v : Version) (b : BoardParts) (t : Given) → IsBoard b
    → Tells (with_pads v b t.rules t.clears []) (flat_map (λ k. text.pad_lines b (text.kind_at k)) (range_with_len 0 (length b.kinds))) (with_pads v b t.rules t.clears t.pads)
    → Tells (with_inners v b t.rules t.clears t.pads []) (flat_map (λ k. text.inner_lines b (text.kind_at k)) (range_with_len 0 (length b.kinds))) (with_given v b t)
    → Tells (with_clears v b t.rules t.clears) (via_lines b) (with_given v b t)
unfolding via_lines
vias-tell v b t h pads inners =
    let kinds = flat_map (λ k. text.kind_line b (text.kind_at k)) (range_with_len 0 (length b.kinds)) in
    let pad_text = flat_map (λ k. text.pad_lines b (text.kind_at k)) (range_with_len 0 (length b.kinds)) in
    let inner_text = flat_map (λ k. text.inner_lines b (text.kind_at k)) (range_with_len 0 (length b.kinds)) in
    let start = with_clears v b t.rules t.clears in
    let middle = with_pads v b t.rules t.clears t.pads in
    tells-more start middle (with_given v b t) (kinds ++ pad_text) inner_text
    (tells-more start (with_kinds v b t.rules t.clears b.kind_names b.kinds) middle kinds pad_text (kinds-tell v b t.rules t.clears h) pads) inners

has-tables : (v : Version) (b : BoardParts) → IsOfVersion v b → IsBoard b → HasTables v b
has-tables v b fits h =
    let rules = rules-given v b h in
    let rs = rules.given in
    let clears = clears-given v b rs fits h in
    let gs = clears.given in
    let pads = pads-given v b rs gs h in
    let ps = pads.given in
    let inners = inners-given v b rs gs ps h in
    let t : Given = record { rules = rs; clears = gs; pads = ps; inners = inners.given } in
    let each_pad : HasEach ps (pad_at b) (length b.kinds) (length b.classes) = given-cell (given_pad b) (length b.kinds) (length b.classes) ps pads.are in
    let wires = tells-more no_draft (with_layers v b []) (with_rules v b rs) (board_line v b) (wire_lines b) (board-tells v b fits h) (wires-tell v b rs h rules.tells) in
    let gaps = tells-more no_draft (with_rules v b rs) (with_clears v b rs gs) (board_line v b ++ wire_lines b) (clear_lines b) wires clears.tells in
    record {
      given = t;
      are = record {
        rules = given-cell (given_rule b) (length b.layers) (length b.classes) rs rules.are;
        gaps = clears.are;
        pads = each_pad;
        inners = inners-all b ps inners.given each_pad inners.are;
      };
      tells = tells-more no_draft (with_clears v b rs gs) (with_given v b t) (board_line v b ++ wire_lines b ++ clear_lines b) (via_lines b) gaps (vias-tell v b t h pads.tells inners.tells);
    }

items-tell : (v : Version) (b : BoardParts) (t : Given) → IsBoard b → Tells (with_given v b t) (item_lines b) (with_pins v b t b.pins)
unfolding item_lines
items-tell v b t h =
    let blocks = flat_map (text.block_line b) b.blocks in
    let keepouts = flat_map (text.keepout_line b) b.keepouts in
    let nets = flat_map (λ n. text.net_line b (text.net_at n)) (range_with_len 0 (length b.net_names)) in
    let start = with_given v b t in
    let kept = with_keepouts v b t b.keepouts in
    let named = with_nets v b t b.net_names b.net_classes in
    tells-more start named (with_pins v b t b.pins) (blocks ++ keepouts ++ nets) (flat_map (text.pin_line b) b.pins)
    (tells-more start kept named (blocks ++ keepouts) nets
    (tells-more start (with_blocks v b t b.blocks) kept blocks keepouts (blocks-tell v b t h) (keepouts-tell v b t h)) (nets-tell v b t h))
    (pins-tell v b t h)

-- the lists of the draft are those of the board
parts-back : (v : Version) (b : BoardParts) (t : Given) (cs : List Command) → IsBoard b → AreTables b t → parts_of (with_commands v b t cs) ≡ b
unfolding parts_of
parts-back v b t cs h g =
    let w : pos (size b.width) ≡ b.width = size-is b.width (omega (arith, ints, h.width.from)) in
    let u : pos (size b.height) ≡ b.height = size-is b.height (omega (arith, ints, h.height.from)) in
    let rules : table t.rules (length b.layers) (length b.classes) ≡ b.rules = table-is-list b.rules some_rule (length b.layers) (length b.classes) t.rules h.rules g.rules in
    let gaps : all_gaps t.rules t.clears (length b.layers) (length b.classes) ≡ b.gaps = gaps-back b t.rules t.clears h g.rules g.gaps in
    let pads : table t.pads (length b.kind_names) (length b.classes) ≡ b.pads
    = ap (λ n. table t.pads n (length b.classes)) (sym h.kinds) ∙ table-is-list b.pads (pos 1) (length b.kinds) (length b.classes) t.pads h.pads g.pads in
    let inners : table (t.inners ++ t.pads) (length b.kind_names) (length b.classes) ≡ b.inners
    = ap (λ n. table (t.inners ++ t.pads) n (length b.classes)) (sym h.kinds) ∙ table-is-list b.inners (pos 1) (length b.kinds) (length b.classes) (t.inners ++ t.pads) h.inners g.inners in
    λ i. record b { width = w i; height = u i; rules = rules i; gaps = gaps i; pads = pads i; inners = inners i }

pub spelled-is-read : (v : Version) (b : BoardParts) (cs : List Command) → IsOfVersion v b → IsBoard b → All (IsCommandOf b) cs → length cs ≤ 65536 → reading (spelled v b cs) ≡ Ok (told_of b cs)
unfolding reading spelled
spelled-is-read v b cs fits h all few =
    let tables = has-tables v b fits h in
    let t = tables.given in
    let end = with_commands v b t cs in
    let body = board_line v b ++ wire_lines b ++ clear_lines b ++ via_lines b in
    let last = flat_map (command_line b) cs in
    let c = tells-more no_draft (with_given v b t) (with_pins v b t b.pins) body (item_lines b) tables.tells (items-tell v b t h) in
    let d = tells-more no_draft (with_pins v b t b.pins) (with_commands v b t []) (body ++ item_lines b) (line form.End []) c (end-tells v b t h tables.are) in
    let e = tells-more no_draft (with_commands v b t []) end (body ++ item_lines b ++ line form.End []) last d (commands-tell v b t cs h all few) in
    tells-all no_draft end (body ++ item_lines b ++ line form.End [] ++ last) e refl ∙ ap (λ p. Ok (told_of p cs)) (parts-back v b t cs h tables.are)
