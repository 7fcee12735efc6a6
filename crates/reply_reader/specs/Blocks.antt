-- The parts of a text that are made of several lines.
use Rattle.std.specs.Prelude.{◌≡◌, ℕ, List, [], ◌++◌, length, Option, false}
use Rattle.std.specs.List.{flat_map}
use Rattle.board_parts.specs.declared.parts.BoardParts.{BoardParts}
use Rattle.route_law.specs.declared.certs.Cert.{Cert}
use Rattle.route_law.specs.declared.replies.Fail.{Fail}
use Rattle.route_law.specs.declared.replies.Item.{Item}
use Rattle.route_law.specs.declared.replies.Made1.{Made1}
use Rattle.route_law.specs.declared.replies.Reply.{Reply}
use Rattle.route_law.specs.declared.replies.Reply.TheVariants as reply
use Rattle.route_law.specs.declared.replies.Routed.{Routed}
use Rattle.route_law.specs.Regular.{IsRegular, IsRegularCert, IsRegularItem, IsRegularMade, IsRegularRest, IsRegularRouted}
use Rattle.reply_text.specs.Texts.{cert_text, item_text, made_text, none_line, rest_text, routed_text, violation_text, strip_text, reply_text}
use Rattle.reply_reader.specs.declared.heads.Head.{Head}
use Rattle.reply_reader.specs.declared.heads.Head.TheVariants as head
use Rattle.reply_reader.specs.declared.heads.RouteHead.{RouteHead}
use Rattle.reply_reader.specs.InRange.{IsCount, IsInRange, IsCertInRange, IsItemInRange, IsMadeInRange, IsRestInRange, IsRoutedInRange}
use Rattle.reply_reader.specs.Parts.{Part}

-- a connection with its number
abbrev pub item_block : BoardParts → Part Item
item_block b = record {
  IsGood = λ (i : Item). IsRegularItem b i × IsItemInRange i;
  text = item_text b;
}

abbrev pub cert_block : BoardParts → Part Cert
cert_block b = record {
  IsGood = λ (c : Cert). IsRegularCert b c × IsCertInRange c;
  text = cert_text b;
}

-- a connection that was made, and its certificate
abbrev pub made_block : BoardParts → Part Made1
made_block b = record {
  IsGood = λ (m : Made1). IsRegularMade b m × IsMadeInRange m;
  text = made_text b false;
}

-- the connection that cannot be made, and its certificate
abbrev pub fail_block : BoardParts → Part Fail
fail_block b = record {
  IsGood = λ (f : Fail). IsRegularCert b f.cert × IsCount f.number × IsCertInRange f.cert;
  text = λ (f : Fail). none_line f.number ++ cert_text b f.cert;
}

-- the connection that cannot be made and its certificate, where fewer were made than were missing
abbrev pub rest_block : BoardParts → ℕ → ℕ → Part (Option Fail)
rest_block b missing made = record {
  IsGood = λ (o : Option Fail). IsRegularRest b missing made o × IsRestInRange o;
  text = rest_text b false;
}

-- what came of a net
abbrev pub routed_block : BoardParts → Part Routed
routed_block b = record {
  IsGood = λ (r : Routed). IsRegularRouted b r × IsRoutedInRange r;
  text = routed_text b false;
}

-- what the first line tells of what came of a net
abbrev pub routed_head : Routed → RouteHead
routed_head r = record { net = r.net; made = length r.made; missing = r.missing }

-- what came of a net, behind this first line
abbrev pub routed_rest : BoardParts → RouteHead → Part Routed
routed_rest b h = record {
  IsGood = λ (r : Routed). (routed_block b).IsGood r × (routed_head r ≡ h);
  text = λ (r : Routed). flat_map (made_text b false) r.made ++ rest_text b false r.none;
}

abbrev pub reply_block : BoardParts → Part Reply
reply_block b = record {
  IsGood = λ (r : Reply). IsRegular b r × IsInRange r;
  text = reply_text b false;
}

-- what the first line of a reply tells
abbrev pub reply_head : Reply → Head
reply_head (reply.Route r) = head.Route (routed_head r)
reply_head (reply.All rs) = head.All (length rs)
reply_head (reply.Rip n removed) = head.Rip n removed
reply_head (reply.Show n needed items) = head.Show n needed (length items)
reply_head (reply.Rules found) = head.Rules (length found)
reply_head (reply.Strips l c strips) = head.Strips l c (length strips)

-- what stands behind the first line of a reply
abbrev pub reply_rest_text : BoardParts → Reply → List ℕ
reply_rest_text b (reply.Route r) = flat_map (made_text b false) r.made ++ rest_text b false r.none
reply_rest_text b (reply.All rs) = flat_map (routed_text b false) rs
reply_rest_text b (reply.Rip n removed) = []
reply_rest_text b (reply.Show n needed items) = flat_map (item_text b) items
reply_rest_text b (reply.Rules found) = flat_map (violation_text b) found
reply_rest_text b (reply.Strips l c strips) = flat_map (strip_text b) strips

-- a reply, behind this first line
abbrev pub reply_rest : BoardParts → Head → Part Reply
reply_rest b h = record {
  IsGood = λ (r : Reply). (reply_block b).IsGood r × (reply_head r ≡ h);
  text = reply_rest_text b;
}
