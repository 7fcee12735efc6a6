-- The parts of several lines are made of their lines.
use Rattle.std.proofs.Common.{◌≡◌, ℕ, ◌<◌, ◌≤◌, List, [], ◌∷◌, ◌++◌, length, All, Option, Some, None, false, refl, sym, ap, ◌∙◌, subst, arith, append_assoc}
use Rattle.std.specs.List.{flat_map}
use Rattle.std.proofs.lemmas.List.{append-nil}
use Rattle.std.proofs.lemmas.List.Elements.{recursion_from_All}
use Rattle.route_law.specs.declared.certs.Cert.{Cert}
use Rattle.route_law.specs.declared.replies.Fail.{Fail}
use Rattle.route_law.specs.declared.replies.Item.{Item}
use Rattle.route_law.specs.declared.replies.Made1.{Made1}
use Rattle.route_law.specs.declared.replies.Reply.{Reply}
use Rattle.route_law.specs.declared.replies.Reply.TheVariants as reply
use Rattle.route_law.specs.declared.replies.Routed.{Routed}
use Rattle.route_law.specs.Regular.{IsRegularItem, IsRegularMade, IsRegularRest, IsRegularRouted}
use Rattle.reply_text.specs.Texts.{conn_line, at_line, leg_text, conn_text, item_text, cert_line, cert_text, made_text, rest_text, route_line, routed_text, reply_text}
use Rattle.reply_reader.specs.InRange.{IsItemInRange, IsMadeInRange, IsRoutedInRange}
use Rattle.reply_reader.specs.Parts.{followed_by, counted}
use Rattle.reply_reader.specs.Blocks.{item_block, cert_block, made_block, fail_block, rest_block, routed_block, routed_head, routed_rest, reply_block, reply_head, reply_rest_text, reply_rest}
use Rattle.reply_reader.proofs.Composing.{IsMadeFrom, IsSpelledAs}
use Rattle.geo_rect.specs.declared.ids.ClassId.{ClassId}
use Rattle.geo_rect.specs.declared.ids.LayerId.{LayerId}
use Rattle.geo_rect.specs.declared.ids.NetId.{NetId}
use Rattle.geo_rect.specs.declared.ids.Node.{Node}
use Rattle.board_model.specs.declared.made.Leg.{Leg}
use Rattle.board_parts.specs.declared.parts.BoardParts.{BoardParts}
use Rattle.route_law.specs.declared.certs.Entry.{Entry}
use Rattle.route_law.specs.Regular.{IsRegularLeg, IsRegularEntry, IsRegularViolation, IsRegularStrip}
use Rattle.reply_reader.specs.declared.heads.CertHead.{CertHead}
use Rattle.reply_reader.specs.declared.heads.ConnHead.{ConnHead}
use Rattle.reply_reader.specs.declared.heads.Head.{Head}
use Rattle.reply_reader.specs.declared.heads.Head.TheVariants as head
use Rattle.reply_reader.specs.declared.heads.NoneHead.{NoneHead}
use Rattle.reply_reader.specs.declared.heads.RouteHead.{RouteHead}
use Rattle.reply_reader.specs.InRange.{IsCount, IsLegInRange, IsEntryInRange, IsViolationInRange, IsStripInRange}
use Rattle.reply_reader.specs.Parts.{Part}
use Rattle.reply_reader.specs.Said.{conn_head, start, leg_line, cert_head, entry_line, none_head, IsRouteHead, route_head, IsHead, head_text, head_line, violation_line, strip_line}

-- each of two things that hold of all
pub both_all : {X : Type 0} (P Q : X → Type 0) (xs : List X) → All P xs → All Q xs → All (λ x. P x × Q x) xs
both_all P Q xs p q k d lt = (p k d lt, q k d lt)

pub first_all : {X : Type 0} (P Q : X → Type 0) (xs : List X) → All (λ x. P x × Q x) xs → All P xs
first_all P Q xs h k d lt = (h k d lt).0

pub second_all : {X : Type 0} (P Q : X → Type 0) (xs : List X) → All (λ x. P x × Q x) xs → All Q xs
second_all P Q xs h k d lt = (h k d lt).1

-- a connection: its first line, where it starts, and its legs
abbrev pub conn_rest : BoardParts → ConnHead → Part (Node × List Leg)
conn_rest b h = followed_by (start b) (λ v. counted h.legs (leg_line b))

abbrev pub item_parts : BoardParts → Part (ConnHead × (Node × List Leg))
item_parts b = followed_by conn_head (conn_rest b)

abbrev pub item_from : ConnHead × (Node × List Leg) → Item
item_from p = record { number = p.0.number; conn = record { start = p.1.0; legs = p.1.1; cost = p.0.cost } }

pub item_spelled : (b : BoardParts) (h : ConnHead) (v : Node) (ls : List Leg) → length ls ≡ h.legs
    → item_text b (item_from (h, (v, ls))) ≡ conn_line h.number h.cost h.legs ++ (at_line b v ++ flat_map (leg_text b) ls)
unfolding conn_text
item_spelled b h v ls e =
    ap (λ (n : ℕ). conn_line h.number h.cost n ++ at_line b v ++ flat_map (leg_text b) ls) e
    ∙ append_assoc (conn_line h.number h.cost h.legs) (at_line b v) (flat_map (leg_text b) ls)

unfoldable pub item_as : (b : BoardParts) → IsSpelledAs (item_block b) (item_parts b)
item_as b = record {
  from = item_from;
  good = λ y g. (
    record { start = g.1.0.0; legs = first_all (IsRegularLeg b) IsLegInRange y.1.1 g.1.1.1 },
    record {
      number = g.0.0;
      conn = record {
        cost = g.0.1;
        start = g.1.0.1;
        number_of_legs = subst IsCount (sym g.1.1.0) g.0.2;
        legs = second_all (IsRegularLeg b) IsLegInRange y.1.1 g.1.1.1;
      };
    },
  );
  text = λ y g. item_spelled b y.0 y.1.0 y.1.1 g.1.1.0;
  back = λ x g. record {
    inner = (record { number = x.number; cost = x.conn.cost; legs = length x.conn.legs }, (x.conn.start, x.conn.legs));
    good = (
      (g.1.number, g.1.conn.cost, g.1.conn.number_of_legs),
      ((g.0.start, g.1.conn.start), (refl, both_all (IsRegularLeg b) IsLegInRange x.conn.legs g.0.legs g.1.conn.legs)),
    );
    made = refl;
  };
}

-- a certificate: its first line, and its entries
abbrev pub cert_parts : BoardParts → Part (CertHead × List Entry)
cert_parts b = followed_by cert_head (λ h. counted h.entries (entry_line b))

abbrev pub cert_from : CertHead × List Entry → Cert
cert_from p = record { bound = p.0.bound; entries = p.1 }

pub cert_made : (b : BoardParts) (h : CertHead) (es : List Entry) → length es ≡ h.entries
    → cert_text b (cert_from (h, es)) ≡ cert_line h.bound h.entries ++ flat_map (entry_line b).text es
unfolding cert_text
cert_made b h es e = ap (λ (n : ℕ). cert_line h.bound n ++ flat_map (entry_line b).text es) e

unfoldable pub cert_as : (b : BoardParts) → IsSpelledAs (cert_block b) (cert_parts b)
cert_as b = record {
  from = cert_from;
  good = λ y g. (
    first_all (IsRegularEntry b) IsEntryInRange y.1 g.1.1,
    record { bound = g.0.0; number_of_entries = subst IsCount (sym g.1.0) g.0.1; entries = second_all (IsRegularEntry b) IsEntryInRange y.1 g.1.1 },
  );
  text = λ y g. cert_made b y.0 y.1 g.1.0;
  back = λ x g. record {
    inner = (record { bound = x.bound; entries = length x.entries }, x.entries);
    good = ((g.1.bound, g.1.number_of_entries), (refl, both_all (IsRegularEntry b) IsEntryInRange x.entries g.0 g.1.entries));
    made = refl;
  };
}

-- a connection that was made: the connection, and its certificate
abbrev pub made_parts : BoardParts → Part (Item × Cert)
made_parts b = followed_by (item_block b) (λ i. cert_block b)

abbrev pub made_from : Item × Cert → Made1
made_from p = record { number = p.0.number; conn = p.0.conn; cert = p.1 }

pub made_spelled : (b : BoardParts) (m : Made1) → made_text b false m ≡ conn_text b m.number m.conn ++ cert_text b m.cert
unfolding made_text
made_spelled b m = refl

unfoldable pub made_as : (b : BoardParts) → IsSpelledAs (made_block b) (made_parts b)
made_as b = record {
  from = made_from;
  good = λ y g. (record { conn = g.0.0; cert = g.1.0 }, record { number = g.0.1.number; conn = g.0.1.conn; cert = g.1.1 });
  text = λ y g. made_spelled b (made_from y);
  back = λ x g. record {
    inner = (record { number = x.number; conn = x.conn }, x.cert);
    good = ((g.0.conn, record { number = g.1.number; conn = g.1.conn }), (g.0.cert, g.1.cert));
    made = refl;
  };
}

-- a connection that cannot be made: its line, and its certificate
abbrev pub fail_parts : BoardParts → Part (NoneHead × Cert)
fail_parts b = followed_by none_head (λ h. cert_block b)

unfoldable pub fail_as : (b : BoardParts) → IsSpelledAs (fail_block b) (fail_parts b)
fail_as b = record {
  from = λ (p : NoneHead × Cert). record { number = p.0.number; cert = p.1 };
  good = λ y g. (g.1.0, g.0, g.1.1);
  text = λ y g. refl;
  back = λ x g. record { inner = (record { number = x.number }, x.cert); good = (g.1, (g.0, g.2)); made = refl };
}

-- there is one that cannot be made exactly where fewer were made than were missing
unfoldable pub rest_as : (b : BoardParts) (missing made : ℕ) → made < missing → IsSpelledAs (rest_block b missing made) (fail_block b)
rest_as b missing made lt = record {
  from = Some;
  good = λ y g. ((lt, g.0), (g.1, g.2));
  text = λ y g. refl;
  back = back;
}
  where
    back : (o : Option Fail) → (rest_block b missing made).IsGood o → IsMadeFrom (fail_block b) Some o
    back None g = let e = g.0 in absurd (omega arith)
    back (Some f) g = record { inner = f; good = (g.0.1, g.1.0, g.1.1); made = refl }

pub rest_none : (b : BoardParts) (missing made : ℕ) → made ≡ missing → (rest_block b missing made).IsGood None
rest_none b missing made e = (e, tt)

-- what came of a net behind its first line
abbrev pub routed_parts : BoardParts → RouteHead → Part (List Made1 × Option Fail)
routed_parts b h = followed_by (counted h.made (made_block b)) (λ ms. rest_block b h.missing h.made)

abbrev pub routed_from : RouteHead → List Made1 × Option Fail → Routed
routed_from h p = record { net = h.net; missing = h.missing; made = p.0; none = p.1 }

unfoldable pub routed_rest_as : (b : BoardParts) (h : RouteHead) → IsRouteHead b h → IsSpelledAs (routed_rest b h) (routed_parts b h)
routed_rest_as b h known = record {
  from = routed_from h;
  good = λ y g.
      let few : IsCount h.made = let m = known.1 in let l = known.2 in omega arith in (
        (
          record {
            net = known.0;
            made = first_all (IsRegularMade b) IsMadeInRange y.0 g.0.1;
            rest = subst (λ (n : ℕ). IsRegularRest b h.missing n y.1) (sym g.0.0) g.1.0;
          },
          record {
            missing = known.1;
            number_of_made = subst IsCount (sym g.0.0) few;
            made = second_all (IsRegularMade b) IsMadeInRange y.0 g.0.1;
            rest = g.1.1;
          },
        ),
        ap (λ (n : ℕ). let k : RouteHead = record { net = h.net; made = n; missing = h.missing } in k) g.0.0,
      );
  text = λ y g. refl;
  back = λ x g.
      let number : length x.made ≡ h.made = ap (λ (k : RouteHead). k.made) g.1 in
      let missing : x.missing ≡ h.missing = ap (λ (k : RouteHead). k.missing) g.1 in
      let net : x.net ≡ h.net = ap (λ (k : RouteHead). k.net) g.1 in
      let f : NetId → ℕ → Routed = λ n m. record { net = n; missing = m; made = x.made; none = x.none } in
      record {
        inner = (x.made, x.none);
        good = (
          (number, both_all (IsRegularMade b) IsMadeInRange x.made g.0.0.made g.0.1.made),
          (subst (λ (n : ℕ). IsRegularRest b h.missing n x.none) number (subst (λ (m : ℕ). IsRegularRest b m (length x.made) x.none) missing g.0.0.rest), g.0.1.rest),
        );
        made = ap (λ (n : NetId). f n h.missing) (sym net) ∙ ap (f x.net) (sym missing);
      };
}

-- what came of a net: its first line, and the rest
abbrev pub routed_whole : BoardParts → Part (RouteHead × Routed)
routed_whole b = followed_by (route_head b) (routed_rest b)

pub routed_spelled : (b : BoardParts) (r : Routed) → routed_text b false r ≡ route_line b r.net (length r.made) r.missing ++ (flat_map (made_text b false) r.made ++ rest_text b false r.none)
unfolding routed_text
routed_spelled b r = append_assoc (route_line b r.net (length r.made) r.missing) (flat_map (made_text b false) r.made) (rest_text b false r.none)

pub made_few : (missing made : ℕ) (b : BoardParts) (o : Option Fail) → IsRegularRest b missing made o → made ≤ missing
made_few missing made b None e = omega arith
made_few missing made b (Some f) e = let lt = e.0 in omega arith

unfoldable pub routed_as : (b : BoardParts) → IsSpelledAs (routed_block b) (routed_whole b)
routed_as b = record {
  from = λ (p : RouteHead × Routed). p.1;
  good = λ y g. g.1.0;
  text = λ y g. routed_spelled b y.1
      ∙ ap (λ (h : RouteHead). (route_head b).text h ++ (routed_rest b y.0).text y.1) g.1.1;
  back = λ x g. record {
    inner = (routed_head x, x);
    good = ((g.0.net, g.1.missing, made_few x.missing (length x.made) b x.none g.0.rest), (g, refl));
    made = refl;
  };
}

unfoldable pub route_rest_as : (b : BoardParts) (h : RouteHead) → IsHead b (head.Route h) → IsSpelledAs (reply_rest b (head.Route h)) (routed_rest b h)
route_rest_as b h known = record { from = reply.Route; good = λ y g. (g.0, ap head.Route g.1); text = λ y g. refl; back = λ x g. back x g.0 g.1 }
  where
    back : (x : Reply) → (reply_block b).IsGood x → reply_head x ≡ (head.Route h) → IsMadeFrom (routed_rest b h) (reply.Route) x
    back (reply.Route r) g e = record { inner = r; good = (g, let f : head.Route (routed_head r) ≡ head.Route h = e in cc); made = refl }
    back (reply.All rs) g f = absurd cc
    back (reply.Rip m j) g f = absurd cc
    back (reply.Show m e is) g f = absurd cc
    back (reply.Rules vs) g f = absurd cc
    back (reply.Strips p q ss) g f = absurd cc

unfoldable pub all_rest_as : (b : BoardParts) (n : ℕ) → IsHead b (head.All n) → IsSpelledAs (reply_rest b (head.All n)) (counted n (routed_block b))
all_rest_as b n known = record { from = reply.All; good = λ y g. ((first_all (IsRegularRouted b) IsRoutedInRange y g.1, (subst IsCount (sym g.0) known.0, second_all (IsRegularRouted b) IsRoutedInRange y g.1)), ap head.All g.0); text = λ y g. refl; back = λ x g. back x g.0 g.1 }
  where
    back : (x : Reply) → (reply_block b).IsGood x → reply_head x ≡ (head.All n) → IsMadeFrom (counted n (routed_block b)) (reply.All) x
    back (reply.Route r) g f = absurd cc
    back (reply.All rs) g e = record { inner = rs; good = (let f : head.All (length rs) ≡ head.All n = e in cc, both_all (IsRegularRouted b) IsRoutedInRange rs g.0 g.1.1); made = refl }
    back (reply.Rip m j) g f = absurd cc
    back (reply.Show m e is) g f = absurd cc
    back (reply.Rules vs) g f = absurd cc
    back (reply.Strips p q ss) g f = absurd cc

unfoldable pub show_rest_as : (b : BoardParts) (n : NetId) (d k : ℕ) → IsHead b (head.Show n d k) → IsSpelledAs (reply_rest b (head.Show n d k)) (counted k (item_block b))
show_rest_as b n d k known = record { from = reply.Show n d; good = λ y g. (((known.0, known.1, first_all (IsRegularItem b) IsItemInRange y g.1), (known.2, subst IsCount (sym g.0) known.3, second_all (IsRegularItem b) IsItemInRange y g.1)), ap (head.Show n d) g.0); text = λ y g. refl; back = λ x g. back x g.0 g.1 }
  where
    back : (x : Reply) → (reply_block b).IsGood x → reply_head x ≡ (head.Show n d k) → IsMadeFrom (counted k (item_block b)) (reply.Show n d) x
    back (reply.Route r) g f = absurd cc
    back (reply.All rs) g f = absurd cc
    back (reply.Rip m j) g f = absurd cc
    back (reply.Show m e is) g f = let net : m ≡ n = cc in let needed : e ≡ d = cc in record { inner = is; good = (cc, both_all (IsRegularItem b) IsItemInRange is g.0.2 g.1.2); made = ap (λ (i : NetId). reply.Show i d is) (sym net) ∙ ap (λ (i : ℕ). reply.Show m i is) (sym needed) }
    back (reply.Rules vs) g f = absurd cc
    back (reply.Strips p q ss) g f = absurd cc

unfoldable pub rules_rest_as : (b : BoardParts) (k : ℕ) → IsHead b (head.Rules k) → IsSpelledAs (reply_rest b (head.Rules k)) (counted k (violation_line b))
rules_rest_as b k known = record { from = reply.Rules; good = λ y g. ((first_all (IsRegularViolation b) IsViolationInRange y g.1, (subst IsCount (sym g.0) known, second_all (IsRegularViolation b) IsViolationInRange y g.1)), ap head.Rules g.0); text = λ y g. refl; back = λ x g. back x g.0 g.1 }
  where
    back : (x : Reply) → (reply_block b).IsGood x → reply_head x ≡ (head.Rules k) → IsMadeFrom (counted k (violation_line b)) (reply.Rules) x
    back (reply.Route r) g f = absurd cc
    back (reply.All rs) g f = absurd cc
    back (reply.Rip m j) g f = absurd cc
    back (reply.Show m e is) g f = absurd cc
    back (reply.Rules vs) g e = record { inner = vs; good = (let f : head.Rules (length vs) ≡ head.Rules k = e in cc, both_all (IsRegularViolation b) IsViolationInRange vs g.0 g.1.1); made = refl }
    back (reply.Strips p q ss) g f = absurd cc

unfoldable pub strips_rest_as : (b : BoardParts) (l : LayerId) (c : ClassId) (k : ℕ) → IsHead b (head.Strips l c k) → IsSpelledAs (reply_rest b (head.Strips l c k)) (counted k (strip_line b))
strips_rest_as b l c k known = record { from = reply.Strips l c; good = λ y g. (((known.0, known.1, first_all (IsRegularStrip b) IsStripInRange y g.1), (subst IsCount (sym g.0) known.2, second_all (IsRegularStrip b) IsStripInRange y g.1)), ap (head.Strips l c) g.0); text = λ y g. refl; back = λ x g. back x g.0 g.1 }
  where
    back : (x : Reply) → (reply_block b).IsGood x → reply_head x ≡ (head.Strips l c k) → IsMadeFrom (counted k (strip_line b)) (reply.Strips l c) x
    back (reply.Route r) g f = absurd cc
    back (reply.All rs) g f = absurd cc
    back (reply.Rip m j) g f = absurd cc
    back (reply.Show m e is) g f = absurd cc
    back (reply.Rules vs) g f = absurd cc
    back (reply.Strips p q ss) g e = let layer : p ≡ l = cc in let class : q ≡ c = cc in record { inner = ss; good = (cc, both_all (IsRegularStrip b) IsStripInRange ss g.0.2 g.1.1); made = ap (λ (i : LayerId). reply.Strips i c ss) (sym layer) ∙ ap (λ (i : ClassId). reply.Strips p i ss) (sym class) }

-- a reply: its first line, and the rest
abbrev pub reply_whole : BoardParts → Part (Head × Reply)
reply_whole b = followed_by (head_line b) (reply_rest b)

pub reply_spelled : (b : BoardParts) (r : Reply) → reply_text b false r ≡ head_text b (reply_head r) ++ reply_rest_text b r
reply_spelled b (reply.Route r) = routed_spelled b r
reply_spelled b (reply.All rs) = refl
reply_spelled b (reply.Rip n k) = sym (append-nil (head_text b (head.Rip n k)))
reply_spelled b (reply.Show n d is) = refl
reply_spelled b (reply.Rules vs) = refl
reply_spelled b (reply.Strips l c ss) = refl

pub some_net : (b : BoardParts) (rs : List Routed) → All (IsRegularRouted b) rs → 0 < length rs → 0 < length b.net_names
some_net b [] h lt = absurd (omega arith)
some_net b (r ∷ rs) h lt = let known = (recursion_from_All (IsRegularRouted b) (r ∷ rs) h).0.net in omega arith

pub head_good : (b : BoardParts) (r : Reply) → (reply_block b).IsGood r → IsHead b (reply_head r)
head_good b (reply.Route r) g = (g.0.net, g.1.missing, made_few r.missing (length r.made) b r.none g.0.rest)
head_good b (reply.All rs) g = (g.1.0, some_net b rs g.0)
head_good b (reply.Rip n k) g = (g.0, g.1)
head_good b (reply.Show n d is) g = (g.0.0, g.0.1, g.1.0, g.1.1)
head_good b (reply.Rules vs) g = g.1.0
head_good b (reply.Strips l c ss) g = (g.0.0, g.0.1, g.1.0)

unfoldable pub reply_as : (b : BoardParts) → IsSpelledAs (reply_block b) (reply_whole b)
reply_as b = record {
  from = λ (p : Head × Reply). p.1;
  good = λ y g. g.1.0;
  text = λ y g. reply_spelled b y.1 ∙ ap (λ (h : Head). head_text b h ++ reply_rest_text b y.1) g.1.1;
  back = λ x g. record { inner = (reply_head x, x); good = (head_good b x g, (g, refl)); made = refl };
}
