-- A draft whose text has ended is a board.
use Rattle.std.proofs.Common.{◌≡◌, ◌≢◌, ℤ, ◌*◌, ◌<◌, true, All, ◌++◌, length, sym, ap, ◌∙◌}
use Rattle.std.specs.Prelude.{◌&&◌, nat_lt}
use Rattle.std.proofs.lemmas.Bool.{and_parts, ltb-true}
use Rattle.std.proofs.lemmas.List.Elements.{All-weaker, All-append}
use Rattle.board_parts.specs.Rules.{IsBoard, IsBlock, IsKeepout, IsPin, IsRule, IsMeasure}
use Rattle.board_reader.specs.declared.drafts.Draft.{Draft}
use Rattle.board_reader.specs.declared.tables.Entry.{Entry}
use Rattle.board_reader.specs.declared.forms.Stage.TheVariants.{Start, Commands}
use Rattle.board_reader.specs.Checks.{is_complete}
use Rattle.board_reader.specs.Drafts.{parts_of}
use Rattle.board_reader.specs.Kept.{IsDraft, IsHeading, IsInnerOf, IsBlockOf, IsKeepoutOf, IsPinOf}
use Rattle.board_reader.specs.Tables.{is_full}
use Rattle.board_reader.proofs.Cells.{length-table, table-holds}
use Rattle.board_reader.proofs.Inners.{full-more, plain-without-inner}
use Rattle.board_reader.proofs.PairGaps.{length-gaps, each-gap, gaps-of-pairs}

record Complete (d : Draft) : Type 0 where
  layer : 0 < length d.layers
  class : 0 < length d.classes
  rules : is_full d.rules (length d.layers) (length d.classes) ≡ true
  pads : is_full d.pads (length d.kind_names) (length d.classes) ≡ true

complete-parts : (d : Draft) → is_complete d ≡ true → Complete d
unfolding is_complete
complete-parts d e =
    let p = and_parts (nat_lt 0 (length d.layers) && nat_lt 0 (length d.classes)) (is_full d.rules (length d.layers) (length d.classes) && is_full d.pads (length d.kind_names) (length d.classes)) e in
    let some = and_parts (nat_lt 0 (length d.layers)) (nat_lt 0 (length d.classes)) p.0 in
    let full = and_parts (is_full d.rules (length d.layers) (length d.classes)) (is_full d.pads (length d.kind_names) (length d.classes)) p.1 in
    record { layer = ltb-true 0 (length d.layers) some.0; class = ltb-true 0 (length d.classes) some.1; rules = full.0; pads = full.1 }

pub has-begun : (d : Draft) → IsDraft d → d.stage ≡ Commands → IsHeading d.heading
has-begun d k e = let begun : d.stage ≢ Start = λ f. cc in k.heading begun

-- each inner pad and each pad is a measure
each-half : (d : Draft) → IsDraft d → All (λ (e : Entry ℤ). IsMeasure e.value) (d.inners ++ d.pads)
each-half d k =
    let inners = All-weaker (IsInnerOf d.kinds) (λ (e : Entry ℤ). IsMeasure e.value) (λ e is. is.half) d.inners k.inners in
    All-append (λ (e : Entry ℤ). IsMeasure e.value) d.inners d.pads inners k.tables.pads

pub is-board : (d : Draft) → IsDraft d → d.stage ≡ Commands → IsBoard (parts_of d)
unfolding parts_of
is-board d k e =
    let h = has-begun d k e in
    let c = complete-parts d (k.complete e) in
    record {
      name = h.name;
      width = h.width;
      height = h.height;
      layers = k.layers;
      some_layer = c.layer;
      classes = k.classes;
      some_class = c.class;
      rules = length-table d.rules (length d.layers) (length d.classes) c.rules;
      each_rule = table-holds IsRule d.rules (length d.layers) (length d.classes) k.tables.rules;
      gaps = length-gaps d.rules d.clears (length d.layers) (length d.classes);
      each_gap = each-gap d.rules d.clears (length d.layers) (length d.classes) k.tables.rules k.tables.clears;
      pairs = gaps-of-pairs d;
      kind_names = k.kind_names;
      kinds = k.kinds.even;
      each_kind = k.kinds.each;
      pads = length-table d.pads (length d.kind_names) (length d.classes) c.pads ∙ ap (λ n. n * length d.classes) (sym k.kinds.even);
      each_pad = table-holds IsMeasure d.pads (length d.kind_names) (length d.classes) k.tables.pads;
      inners = length-table (d.inners ++ d.pads) (length d.kind_names) (length d.classes) (full-more d.inners d.pads (length d.kind_names) (length d.classes) c.pads) ∙ ap (λ n. n * length d.classes) (sym k.kinds.even);
      each_inner = table-holds IsMeasure (d.inners ++ d.pads) (length d.kind_names) (length d.classes) (each-half d k);
      plain = plain-without-inner d k c.pads;
      blocks = k.blocks.few;
      each_block = All-weaker (IsBlockOf (length d.layers) d.heading) (IsBlock (parts_of d)) (λ b is. record { layer = is.layer; area = is.area }) d.blocks k.blocks.each;
      each_keepout = All-weaker (IsKeepoutOf (length d.layers) d.heading) (IsKeepout (parts_of d)) (λ o is. record { layer = is.layer; area = is.area }) d.keepouts k.blocks.each_keepout;
      net_names = k.net_names;
      net_classes = k.nets.even;
      each_class = k.nets.each;
      pins = k.pins.few;
      each_pin = All-weaker (IsPinOf (length d.layers) (length d.net_names) d.heading) (IsPin (parts_of d)) (λ p is. record { net = is.net; area = is.area; order = is.order; layer = is.layer }) d.pins k.pins.each;
    }
