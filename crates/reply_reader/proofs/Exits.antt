-- How each part of several lines is read, or fails to be.
use Rattle.std.proofs.Common.{◌≡◌, ℕ, zero, suc, replicate, drop, Err, Ok, ◌⊎◌, inl, inr, ◌+◌, ◌<◌, ◌≤◌, List, [], ◌∷◌, ◌++◌, length, Option, Some, None, refl, sym, ap, ◌∙◌, subst, arith, length-append, Result}
use Rattle.std.proofs.lemmas.List.Elements.{All-nil}
use Rattle.route_law.specs.declared.certs.Cert.{Cert}
use Rattle.route_law.specs.declared.replies.Fail.{Fail}
use Rattle.route_law.specs.declared.replies.Item.{Item}
use Rattle.route_law.specs.declared.replies.Made1.{Made1}
use Rattle.route_law.specs.declared.replies.Reply.{Reply}
use Rattle.route_law.specs.declared.replies.Reply.TheVariants as reply
use Rattle.route_law.specs.declared.replies.Routed.{Routed}
use Rattle.reply_reader.specs.declared.places.Place.{Place}
use Rattle.reply_reader.specs.declared.readings.ReadReplies.{ReadReplies}
use Rattle.reply_reader.specs.Parts.{IsOne, followed_by, counted, IsRead, Tells}
use Rattle.reply_reader.specs.Blocks.{item_block, cert_block, made_block, fail_block, rest_block, routed_block, routed_rest, reply_block, reply_head, reply_rest_text, reply_rest}
use Rattle.reply_reader.proofs.Composing.{IsSpelledAs, read_as, one_as, one_counted, one_followed, read_both, passed_none, fails_as, fails_first, fails_second}
use Rattle.reply_reader.proofs.Joining.{conn_rest, item_parts, item_as, cert_parts, cert_as, made_parts, made_as, fail_parts, fail_as, rest_as, routed_parts, routed_rest_as, routed_whole, routed_as, route_rest_as, all_rest_as, show_rest_as, rules_rest_as, strips_rest_as, reply_whole, reply_as}
use Rattle.std.proofs.lemmas.Bool.{cases_lt}
use Rattle.std.proofs.lemmas.List.{length-replicate}
use Rattle.std.proofs.lemmas.List.Elements.{All-replicate}
use Rattle.reply_reader.proofs.LineForms.{one_line, IsLineOf, line_of}
use Rattle.reply_reader.proofs.Formed.{conn_head_form, start_form, leg_form, cert_head_form, entry_form, none_head_form, route_head_form, head_form, violation_form, strip_form}
use Rattle.geo_rect.specs.declared.ids.ClassId.{ClassId}
use Rattle.geo_rect.specs.declared.ids.LayerId.{LayerId}
use Rattle.geo_rect.specs.declared.ids.NetId.{NetId}
use Rattle.geo_rect.specs.declared.ids.Node.{Node}
use Rattle.board_model.specs.declared.made.Leg.{Leg}
use Rattle.board_parts.specs.declared.parts.BoardParts.{BoardParts}
use Rattle.board_parts.specs.Rules.{IsBoard}
use Rattle.route_law.specs.declared.certs.Entry.{Entry}
use Rattle.reply_reader.specs.declared.heads.CertHead.{CertHead}
use Rattle.reply_reader.specs.declared.heads.ConnHead.{ConnHead}
use Rattle.reply_reader.specs.declared.heads.Head.{Head}
use Rattle.reply_reader.specs.declared.heads.Head.TheVariants as head
use Rattle.reply_reader.specs.declared.heads.NoneHead.{NoneHead}
use Rattle.reply_reader.specs.declared.heads.RouteHead.{RouteHead}
use Rattle.reply_reader.specs.Forms.{HasGood}
use Rattle.reply_reader.specs.Parts.{Part}
use Rattle.reply_reader.specs.Said.{conn_head, conn_head_words, start, start_words, leg_line, leg_words, cert_head, cert_head_words, entry_line, entry_words, none_head, none_head_words, IsRouteHead, route_head, route_head_words, IsHead, head_text, head_line, head_words, violation_line, violation_words, strip_line, strip_words}

has_as : {X Y : Type 0} (p : Part X) (q : Part Y) → IsSpelledAs p q → HasGood q → HasGood p
has_as p q w h = record { value = w.from h.value; good = w.good h.value h.good }

has_followed : {X Y : Type 0} (p : Part X) (q : X → Part Y) → HasGood p → ((x : X) → p.IsGood x → HasGood (q x)) → HasGood (followed_by p q)
has_followed p q h more = record { value = (h.value, (more h.value h.good).value); good = (h.good, (more h.value h.good).good) }

has_counted : {X : Type 0} (p : Part X) (n : ℕ) → HasGood p → HasGood (counted n p)
has_counted p n h = record { value = replicate n h.value; good = (length-replicate n h.value, All-replicate p.IsGood n h.value h.good) }

more_of : {X Y : Type 0} (p : Part X) (q : X → Part Y) → ((x : X) → p.IsGood x → HasGood (q x)) → (x : X) → p.IsGood x → (y : Y) × (q x).IsGood y
more_of p q h x g = ((h x g).value, (h x g).good)

module _ (b : BoardParts) (kept : IsBoard b) where
  pub leg_one : IsOne (leg_line b)
  leg_one = one_line (leg_line b) (leg_words b) (leg_form b kept)

  pub entry_one : IsOne (entry_line b)
  entry_one = one_line (entry_line b) (entry_words b) (entry_form b kept)

  pub violation_one : IsOne (violation_line b)
  violation_one = one_line (violation_line b) (violation_words b) (violation_form b kept)

  pub strip_one : IsOne (strip_line b)
  strip_one = one_line (strip_line b) (strip_words b) (strip_form b kept)

  start_one : IsOne (start b)
  start_one = one_line (start b) (start_words b) (start_form b kept)

  conn_one : IsOne conn_head
  conn_one = one_line conn_head conn_head_words conn_head_form

  cert_head_one : IsOne cert_head
  cert_head_one = one_line cert_head cert_head_words cert_head_form

  none_one : IsOne none_head
  none_one = one_line none_head none_head_words none_head_form

  head_one : IsOne (head_line b)
  head_one = one_line (head_line b) (head_words b) (head_form b kept)

  route_one : IsOne (route_head b)
  route_one = record {
    same = λ x y u v gx gy e.
        let nets : 0 < length b.net_names = let n = gx.0 in omega arith in
        (one_line (route_head b) (route_head_words b) (route_head_form b kept nets)).same x y u v gx gy e;
  }

  legs_some : (n : ℕ) → HasGood (counted n (leg_line b))
  legs_some n = has_counted (leg_line b) n (leg_form b kept).some

  conn_rest_some : (h : ConnHead) → HasGood (conn_rest b h)
  conn_rest_some h = has_followed (start b) (λ v. counted h.legs (leg_line b)) (start_form b kept).some (λ v g. legs_some h.legs)

  pub item_some : HasGood (item_block b)
  item_some = has_as (item_block b) (item_parts b) (item_as b) (has_followed conn_head (conn_rest b) conn_head_form.some (λ h g. conn_rest_some h))

  pub item_one : IsOne (item_block b)
  item_one = one_as (item_block b) (item_parts b) (item_as b)
      (one_followed conn_head (conn_rest b) conn_one (λ h g.
      one_followed (start b) (λ v. counted h.legs (leg_line b)) start_one (λ v gv. one_counted (leg_line b) leg_one h.legs)))

  entries_some : (n : ℕ) → HasGood (counted n (entry_line b))
  entries_some n = has_counted (entry_line b) n (entry_form b kept).some

  pub cert_some : HasGood (cert_block b)
  cert_some = has_as (cert_block b) (cert_parts b) (cert_as b)
      (has_followed cert_head (λ h. counted h.entries (entry_line b)) cert_head_form.some (λ h g. entries_some h.entries))

  pub cert_one : IsOne (cert_block b)
  cert_one = one_as (cert_block b) (cert_parts b) (cert_as b)
      (one_followed cert_head (λ h. counted h.entries (entry_line b)) cert_head_one (λ h g. one_counted (entry_line b) entry_one h.entries))

  pub made_some : HasGood (made_block b)
  made_some = has_as (made_block b) (made_parts b) (made_as b) (has_followed (item_block b) (λ i. cert_block b) item_some (λ i g. cert_some))

  pub made_one : IsOne (made_block b)
  made_one = one_as (made_block b) (made_parts b) (made_as b) (one_followed (item_block b) (λ i. cert_block b) item_one (λ i g. cert_one))

  fail_some : HasGood (fail_block b)
  fail_some = has_as (fail_block b) (fail_parts b) (fail_as b) (has_followed none_head (λ h. cert_block b) none_head_form.some (λ h g. cert_some))

  fail_one : IsOne (fail_block b)
  fail_one = one_as (fail_block b) (fail_parts b) (fail_as b) (one_followed none_head (λ h. cert_block b) none_one (λ h g. cert_one))

  rest_some : (missing made : ℕ) → made ≤ missing → HasGood (rest_block b missing made)
  rest_some missing made le = by (cases_lt made missing)
    where
      by : (made < missing) ⊎ (missing ≤ made) → HasGood (rest_block b missing made)
      by (inl lt) = has_as (rest_block b missing made) (fail_block b) (rest_as b missing made lt) fail_some
      by (inr ge) = let same : made ≡ missing = omega arith in record { value = None; good = (same, tt) }

  rest_one : (missing made : ℕ) → IsOne (rest_block b missing made)
  rest_one missing made = record { same = same }
    where
      same : (x y : Option Fail) (u v : List ℕ) → (rest_block b missing made).IsGood x → (rest_block b missing made).IsGood y
          → (rest_block b missing made).text x ++ u ≡ (rest_block b missing made).text y ++ v → x ≡ y
      same None None u v gx gy e = refl
      same None (Some g) u v gx gy e = let m = gx.0 in let n = gy.0.0 in absurd (omega arith)
      same (Some f) None u v gx gy e = let m = gx.0.0 in let n = gy.0 in absurd (omega arith)
      same (Some f) (Some g) u v gx gy e = ap Some (fail_one.same f g u v (gx.0.1, gx.1.0, gx.1.1) (gy.0.1, gy.1.0, gy.1.1) e)

  pub routed_rest_some : (h : RouteHead) → IsRouteHead b h → HasGood (routed_rest b h)
  routed_rest_some h known = has_as (routed_rest b h) (routed_parts b h) (routed_rest_as b h known)
      (has_followed (counted h.made (made_block b)) (λ ms. rest_block b h.missing h.made) (has_counted (made_block b) h.made made_some) (λ ms g. rest_some h.missing h.made known.2))

  pub routed_rest_one : (h : RouteHead) → IsRouteHead b h → IsOne (routed_rest b h)
  routed_rest_one h known = one_as (routed_rest b h) (routed_parts b h) (routed_rest_as b h known)
      (one_followed (counted h.made (made_block b)) (λ ms. rest_block b h.missing h.made) (one_counted (made_block b) made_one h.made) (λ ms g. rest_one h.missing h.made))

  pub routed_some : 0 < length b.net_names → HasGood (routed_block b)
  routed_some nets = has_as (routed_block b) (routed_whole b) (routed_as b)
      (has_followed (route_head b) (routed_rest b) (route_head_form b kept nets).some routed_rest_some)

  pub routed_one : IsOne (routed_block b)
  routed_one = one_as (routed_block b) (routed_whole b) (routed_as b) (one_followed (route_head b) (routed_rest b) route_one routed_rest_one)

  -- the first line of a connection, its start and its legs
  pub item_head_fails : (bytes : List ℕ) (old mid new : Place) (e : ReadReplies) → Tells conn_head bytes old mid (Err e) → Tells (item_block b) bytes old new (Err e)
  item_head_fails bytes old mid new e f = fails_as (item_block b) (item_parts b) (item_as b) bytes old new new e
      (fails_first conn_head (conn_rest b) (more_of conn_head (conn_rest b) (λ h g. conn_rest_some h)) bytes old mid new e f)

  pub item_start_fails : (bytes : List ℕ) (old mid next new : Place) (h : ConnHead) (e : ReadReplies) → IsRead conn_head bytes old mid h
      → Tells (start b) bytes mid next (Err e) → Tells (item_block b) bytes old new (Err e)
  item_start_fails bytes old mid next new h e r f = fails_as (item_block b) (item_parts b) (item_as b) bytes old new new e
      (fails_second conn_head (conn_rest b) conn_one bytes old mid next new h e r
      (fails_first (start b) (λ v. counted h.legs (leg_line b)) (more_of (start b) (λ v. counted h.legs (leg_line b)) (λ v g. legs_some h.legs)) bytes mid next next e f))

  pub item_legs_fail : (bytes : List ℕ) (old mid next last new : Place) (h : ConnHead) (v : Node) (e : ReadReplies) → IsRead conn_head bytes old mid h
      → IsRead (start b) bytes mid next v → Tells (counted h.legs (leg_line b)) bytes next last (Err e) → Tells (item_block b) bytes old new (Err e)
  item_legs_fail bytes old mid next last new h v e r s f = fails_as (item_block b) (item_parts b) (item_as b) bytes old new new e
      (fails_second conn_head (conn_rest b) conn_one bytes old mid last new h e r
      (fails_second (start b) (λ v. counted h.legs (leg_line b)) start_one bytes mid next last last v e s f))

  pub item_read : (bytes : List ℕ) (old mid next new : Place) (h : ConnHead) (v : Node) (ls : List Leg) → IsRead conn_head bytes old mid h
      → IsRead (start b) bytes mid next v → IsRead (counted h.legs (leg_line b)) bytes next new ls
      → IsRead (item_block b) bytes old new (record { number = h.number; conn = record { start = v; legs = ls; cost = h.cost } })
  unfolding item_as
  item_read bytes old mid next new h v ls r s t = read_as (item_block b) (item_parts b) (item_as b) bytes old new (h, (v, ls))
      (read_both conn_head (conn_rest b) bytes old mid new h (v, ls) r (read_both (start b) (λ v. counted h.legs (leg_line b)) bytes mid next new v ls s t))

  pub cert_head_fails : (bytes : List ℕ) (old mid new : Place) (e : ReadReplies) → Tells cert_head bytes old mid (Err e) → Tells (cert_block b) bytes old new (Err e)
  cert_head_fails bytes old mid new e f = fails_as (cert_block b) (cert_parts b) (cert_as b) bytes old new new e
      (fails_first cert_head (λ h. counted h.entries (entry_line b)) (more_of cert_head (λ h. counted h.entries (entry_line b)) (λ h g. entries_some h.entries)) bytes old mid new e f)

  pub cert_entries_fail : (bytes : List ℕ) (old mid last new : Place) (h : CertHead) (e : ReadReplies) → IsRead cert_head bytes old mid h
      → Tells (counted h.entries (entry_line b)) bytes mid last (Err e) → Tells (cert_block b) bytes old new (Err e)
  cert_entries_fail bytes old mid last new h e r f = fails_as (cert_block b) (cert_parts b) (cert_as b) bytes old new new e
      (fails_second cert_head (λ h. counted h.entries (entry_line b)) cert_head_one bytes old mid last new h e r f)

  pub cert_read : (bytes : List ℕ) (old mid new : Place) (h : CertHead) (es : List Entry) → IsRead cert_head bytes old mid h
      → IsRead (counted h.entries (entry_line b)) bytes mid new es → IsRead (cert_block b) bytes old new (record { bound = h.bound; entries = es })
  unfolding cert_as
  cert_read bytes old mid new h es r s = read_as (cert_block b) (cert_parts b) (cert_as b) bytes old new (h, es)
      (read_both cert_head (λ h. counted h.entries (entry_line b)) bytes old mid new h es r s)

  pub made_item_fails : (bytes : List ℕ) (old mid new : Place) (e : ReadReplies) → Tells (item_block b) bytes old mid (Err e) → Tells (made_block b) bytes old new (Err e)
  made_item_fails bytes old mid new e f = fails_as (made_block b) (made_parts b) (made_as b) bytes old new new e
      (fails_first (item_block b) (λ i. cert_block b) (more_of (item_block b) (λ i. cert_block b) (λ i g. cert_some)) bytes old mid new e f)

  pub made_cert_fails : (bytes : List ℕ) (old mid last new : Place) (i : Item) (e : ReadReplies) → IsRead (item_block b) bytes old mid i
      → Tells (cert_block b) bytes mid last (Err e) → Tells (made_block b) bytes old new (Err e)
  made_cert_fails bytes old mid last new i e r f = fails_as (made_block b) (made_parts b) (made_as b) bytes old new new e
      (fails_second (item_block b) (λ i. cert_block b) item_one bytes old mid last new i e r f)

  pub made_read : (bytes : List ℕ) (old mid new : Place) (i : Item) (c : Cert) → IsRead (item_block b) bytes old mid i
      → IsRead (cert_block b) bytes mid new c → IsRead (made_block b) bytes old new (record { number = i.number; conn = i.conn; cert = c })
  unfolding made_as
  made_read bytes old mid new i c r s = read_as (made_block b) (made_parts b) (made_as b) bytes old new (i, c)
      (read_both (item_block b) (λ i. cert_block b) bytes old mid new i c r s)

  pub fail_head_fails : (bytes : List ℕ) (old mid new : Place) (e : ReadReplies) → Tells none_head bytes old mid (Err e) → Tells (fail_block b) bytes old new (Err e)
  fail_head_fails bytes old mid new e f = fails_as (fail_block b) (fail_parts b) (fail_as b) bytes old new new e
      (fails_first none_head (λ h. cert_block b) (more_of none_head (λ h. cert_block b) (λ h g. cert_some)) bytes old mid new e f)

  pub fail_cert_fails : (bytes : List ℕ) (old mid last new : Place) (h : NoneHead) (e : ReadReplies) → IsRead none_head bytes old mid h
      → Tells (cert_block b) bytes mid last (Err e) → Tells (fail_block b) bytes old new (Err e)
  fail_cert_fails bytes old mid last new h e r f = fails_as (fail_block b) (fail_parts b) (fail_as b) bytes old new new e
      (fails_second none_head (λ h. cert_block b) none_one bytes old mid last new h e r f)

  pub fail_read : (bytes : List ℕ) (old mid new : Place) (h : NoneHead) (c : Cert) → IsRead none_head bytes old mid h
      → IsRead (cert_block b) bytes mid new c → IsRead (fail_block b) bytes old new (record { number = h.number; cert = c })
  unfolding fail_as
  fail_read bytes old mid new h c r s = read_as (fail_block b) (fail_parts b) (fail_as b) bytes old new (h, c)
      (read_both none_head (λ h. cert_block b) bytes old mid new h c r s)

  pub rest_fails : (missing made : ℕ) → made < missing → (bytes : List ℕ) (old mid new : Place) (e : ReadReplies)
      → Tells (fail_block b) bytes old mid (Err e) → Tells (rest_block b missing made) bytes old new (Err e)
  rest_fails missing made lt bytes old mid new e f = fails_as (rest_block b missing made) (fail_block b) (rest_as b missing made lt) bytes old mid new e f

  pub rest_read : (missing made : ℕ) → made < missing → (bytes : List ℕ) (old new : Place) (f : Fail)
      → IsRead (fail_block b) bytes old new f → IsRead (rest_block b missing made) bytes old new (Some f)
  unfolding rest_as
  rest_read missing made lt bytes old new f r = read_as (rest_block b missing made) (fail_block b) (rest_as b missing made lt) bytes old new f r

  pub rest_read_none : (missing made : ℕ) → made ≡ missing → (bytes : List ℕ) (old : Place) → IsRead (rest_block b missing made) bytes old old None
  rest_read_none missing made e bytes old = record { good = (e, tt); passed = passed_none (drop old.at bytes) old.line }

  pub routed_made_fail : (h : RouteHead) → IsRouteHead b h → (bytes : List ℕ) (old mid new : Place) (e : ReadReplies)
      → Tells (counted h.made (made_block b)) bytes old mid (Err e) → Tells (routed_rest b h) bytes old new (Err e)
  routed_made_fail h known bytes old mid new e f = fails_as (routed_rest b h) (routed_parts b h) (routed_rest_as b h known) bytes old new new e
      (fails_first (counted h.made (made_block b)) (λ ms. rest_block b h.missing h.made)
      (more_of (counted h.made (made_block b)) (λ ms. rest_block b h.missing h.made) (λ ms g. rest_some h.missing h.made known.2)) bytes old mid new e f)

  pub routed_none_fails : (h : RouteHead) → IsRouteHead b h → (bytes : List ℕ) (old mid last new : Place) (ms : List Made1) (e : ReadReplies)
      → IsRead (counted h.made (made_block b)) bytes old mid ms → Tells (rest_block b h.missing h.made) bytes mid last (Err e) → Tells (routed_rest b h) bytes old new (Err e)
  routed_none_fails h known bytes old mid last new ms e r f = fails_as (routed_rest b h) (routed_parts b h) (routed_rest_as b h known) bytes old new new e
      (fails_second (counted h.made (made_block b)) (λ ms. rest_block b h.missing h.made) (one_counted (made_block b) made_one h.made) bytes old mid last new ms e r f)

  pub routed_rest_read : (h : RouteHead) → IsRouteHead b h → (bytes : List ℕ) (old mid new : Place) (ms : List Made1) (o : Option Fail)
      → IsRead (counted h.made (made_block b)) bytes old mid ms → IsRead (rest_block b h.missing h.made) bytes mid new o
      → IsRead (routed_rest b h) bytes old new (record { net = h.net; missing = h.missing; made = ms; none = o })
  unfolding routed_rest_as
  routed_rest_read h known bytes old mid new ms o r s = read_as (routed_rest b h) (routed_parts b h) (routed_rest_as b h known) bytes old new (ms, o)
      (read_both (counted h.made (made_block b)) (λ ms. rest_block b h.missing h.made) bytes old mid new ms o r s)

  pub routed_head_fails : (bytes : List ℕ) (old mid new : Place) (e : ReadReplies) → Tells (route_head b) bytes old mid (Err e) → Tells (routed_block b) bytes old new (Err e)
  routed_head_fails bytes old mid new e f = fails_as (routed_block b) (routed_whole b) (routed_as b) bytes old new new e
      (fails_first (route_head b) (routed_rest b) (more_of (route_head b) (routed_rest b) routed_rest_some) bytes old mid new e f)

  pub routed_rest_fails : (bytes : List ℕ) (old mid last new : Place) (h : RouteHead) (e : ReadReplies) → IsRead (route_head b) bytes old mid h
      → Tells (routed_rest b h) bytes mid last (Err e) → Tells (routed_block b) bytes old new (Err e)
  routed_rest_fails bytes old mid last new h e r f = fails_as (routed_block b) (routed_whole b) (routed_as b) bytes old new new e
      (fails_second (route_head b) (routed_rest b) route_one bytes old mid last new h e r f)

  pub routed_read : (bytes : List ℕ) (old mid new : Place) (h : RouteHead) (r : Routed) → IsRead (route_head b) bytes old mid h
      → IsRead (routed_rest b h) bytes mid new r → IsRead (routed_block b) bytes old new r
  unfolding routed_as
  routed_read bytes old mid new h r s t = read_as (routed_block b) (routed_whole b) (routed_as b) bytes old new (h, r)
      (read_both (route_head b) (routed_rest b) bytes old mid new h r s t)

  -- what came of a net is read as its rest is
  pub routed_tells : (bytes : List ℕ) (old mid new : Place) (h : RouteHead) (r : Result Routed ReadReplies) → IsRead (route_head b) bytes old mid h
      → Tells (routed_rest b h) bytes mid new r → Tells (routed_block b) bytes old new r
  routed_tells bytes old mid new h (Ok r) s t = routed_read bytes old mid new h r s t
  routed_tells bytes old mid new h (Err e) s t = routed_rest_fails bytes old mid new new h e s t

  only_rip : (n : NetId) (k : ℕ) (x : Reply) → reply_head x ≡ head.Rip n k → x ≡ reply.Rip n k
  only_rip n k (reply.Route r) f = absurd cc
  only_rip n k (reply.All rs) f = absurd cc
  only_rip n k (reply.Rip m j) f = cc
  only_rip n k (reply.Show m e is) f = absurd cc
  only_rip n k (reply.Rules vs) f = absurd cc
  only_rip n k (reply.Strips p q ss) f = absurd cc

  reply_rest_one : (h : Head) → IsHead b h → IsOne (reply_rest b h)
  reply_rest_one (head.Route h) g = one_as (reply_rest b (head.Route h)) (routed_rest b h) (route_rest_as b h g) (routed_rest_one h g)
  reply_rest_one (head.All n) g = one_as (reply_rest b (head.All n)) (counted n (routed_block b)) (all_rest_as b n g) (one_counted (routed_block b) routed_one n)
  reply_rest_one (head.Rip n k) g = record { same = λ x y u v gx gy e. only_rip n k x gx.1 ∙ sym (only_rip n k y gy.1) }
  reply_rest_one (head.Show n d k) g = one_as (reply_rest b (head.Show n d k)) (counted k (item_block b)) (show_rest_as b n d k g) (one_counted (item_block b) item_one k)
  reply_rest_one (head.Rules k) g = one_as (reply_rest b (head.Rules k)) (counted k (violation_line b)) (rules_rest_as b k g) (one_counted (violation_line b) violation_one k)
  reply_rest_one (head.Strips l c k) g = one_as (reply_rest b (head.Strips l c k)) (counted k (strip_line b)) (strips_rest_as b l c k g) (one_counted (strip_line b) strip_one k)

  nets_some : (n : ℕ) → (0 < n → 0 < length b.net_names) → HasGood (counted n (routed_block b))
  nets_some zero h = record { value = []; good = (refl, All-nil (routed_block b).IsGood) }
  nets_some (suc n) h = has_counted (routed_block b) (suc n) (routed_some (h (omega arith)))

  pub rip_good : (n : NetId) (k : ℕ) → IsHead b (head.Rip n k) → (reply_rest b (head.Rip n k)).IsGood (reply.Rip n k)
  rip_good n k g = ((g.0, g.1), refl)

  reply_rest_some : (h : Head) → IsHead b h → HasGood (reply_rest b h)
  reply_rest_some (head.Route h) g = has_as (reply_rest b (head.Route h)) (routed_rest b h) (route_rest_as b h g) (routed_rest_some h g)
  reply_rest_some (head.All n) g = has_as (reply_rest b (head.All n)) (counted n (routed_block b)) (all_rest_as b n g) (nets_some n g.1)
  reply_rest_some (head.Rip n k) g = record { value = reply.Rip n k; good = rip_good n k g }
  reply_rest_some (head.Show n d k) g = has_as (reply_rest b (head.Show n d k)) (counted k (item_block b)) (show_rest_as b n d k g) (has_counted (item_block b) k item_some)
  reply_rest_some (head.Rules k) g = has_as (reply_rest b (head.Rules k)) (counted k (violation_line b)) (rules_rest_as b k g) (has_counted (violation_line b) k (violation_form b kept).some)
  reply_rest_some (head.Strips l c k) g = has_as (reply_rest b (head.Strips l c k)) (counted k (strip_line b)) (strips_rest_as b l c k g) (has_counted (strip_line b) k (strip_form b kept).some)

  pub rip_read : (n : NetId) (k : ℕ) → IsHead b (head.Rip n k) → (bytes : List ℕ) (old : Place) → IsRead (reply_rest b (head.Rip n k)) bytes old old (reply.Rip n k)
  rip_read n k g bytes old = record { good = rip_good n k g; passed = passed_none (drop old.at bytes) old.line }

  pub reply_some : HasGood (reply_block b)
  reply_some = has_as (reply_block b) (reply_whole b) (reply_as b) (has_followed (head_line b) (reply_rest b) (head_form b kept).some reply_rest_some)

  pub reply_one : IsOne (reply_block b)
  reply_one = one_as (reply_block b) (reply_whole b) (reply_as b) (one_followed (head_line b) (reply_rest b) head_one reply_rest_one)

  pub reply_head_fails : (bytes : List ℕ) (old mid new : Place) (e : ReadReplies) → Tells (head_line b) bytes old mid (Err e) → Tells (reply_block b) bytes old new (Err e)
  reply_head_fails bytes old mid new e f = fails_as (reply_block b) (reply_whole b) (reply_as b) bytes old new new e
      (fails_first (head_line b) (reply_rest b) (more_of (head_line b) (reply_rest b) reply_rest_some) bytes old mid new e f)

  reply_read : (bytes : List ℕ) (old mid new : Place) (h : Head) (r : Reply) → IsRead (head_line b) bytes old mid h
      → IsRead (reply_rest b h) bytes mid new r → IsRead (reply_block b) bytes old new r
  unfolding reply_as
  reply_read bytes old mid new h r s t = read_as (reply_block b) (reply_whole b) (reply_as b) bytes old new (h, r)
      (read_both (head_line b) (reply_rest b) bytes old mid new h r s t)

  -- a reply is read as its rest is
  pub reply_tells : (bytes : List ℕ) (old mid new : Place) (h : Head) (r : Result Reply ReadReplies) → IsRead (head_line b) bytes old mid h
      → Tells (reply_rest b h) bytes mid new r → Tells (reply_block b) bytes old new r
  reply_tells bytes old mid new h (Ok r) s t = reply_read bytes old mid new h r s t
  reply_tells bytes old mid new h (Err e) s t = fails_as (reply_block b) (reply_whole b) (reply_as b) bytes old new new e
      (fails_second (head_line b) (reply_rest b) head_one bytes old mid new new h e s t)

  -- the text of a reply has some byte
  pub reply_long : (r : Reply) → (reply_block b).IsGood r → 0 < length ((reply_block b).text r)
  unfolding reply_as
  reply_long r g =
      let w = (reply_as b).back r g in
      let l : (l : List ℕ) × IsLineOf (head_line b) (head_words b) (head_form b kept) w.inner.0 l = line_of (head_line b) (head_words b) (head_form b kept) w.inner.0 w.good.0 in
      let whole : length ((reply_block b).text r) ≡ length (head_text b w.inner.0) + length (reply_rest_text b w.inner.1) =
      ap length ((reply_as b).text w.inner w.good) ∙ length-append (head_text b w.inner.0) (reply_rest_text b w.inner.1) in
      let first : length (head_text b w.inner.0) ≡ length l.0 + 1 = ap length l.1.text ∙ length-append l.0 (10 ∷ []) in
      omega arith

  pub route_fail : (h : Head) (r : RouteHead) → h ≡ head.Route r → IsHead b h → (bytes : List ℕ) (old mid new : Place) (e : ReadReplies)
      → Tells (routed_rest b r) bytes old mid (Err e) → Tells (reply_rest b h) bytes old new (Err e)
  route_fail h r is known bytes old mid new e f =
      let P : Head → Type 0 = λ (z : Head). IsHead b z → Tells (reply_rest b z) bytes old new (Err e) in
      subst P (sym is) (λ g. fails_as (reply_rest b (head.Route r)) (routed_rest b r) (route_rest_as b r g) bytes old mid new e f) known

  pub nets_fail : (h : Head) (n : ℕ) → h ≡ head.All n → IsHead b h → (bytes : List ℕ) (old mid new : Place) (e : ReadReplies)
      → Tells (counted n (routed_block b)) bytes old mid (Err e) → Tells (reply_rest b h) bytes old new (Err e)
  nets_fail h n is known bytes old mid new e f =
      let P : Head → Type 0 = λ (z : Head). IsHead b z → Tells (reply_rest b z) bytes old new (Err e) in
      subst P (sym is) (λ g. fails_as (reply_rest b (head.All n)) (counted n (routed_block b)) (all_rest_as b n g) bytes old mid new e f) known

  pub items_fail : (h : Head) (n : NetId) (d k : ℕ) → h ≡ head.Show n d k → IsHead b h → (bytes : List ℕ) (old mid new : Place) (e : ReadReplies)
      → Tells (counted k (item_block b)) bytes old mid (Err e) → Tells (reply_rest b h) bytes old new (Err e)
  items_fail h n d k is known bytes old mid new e f =
      let P : Head → Type 0 = λ (z : Head). IsHead b z → Tells (reply_rest b z) bytes old new (Err e) in
      subst P (sym is) (λ g. fails_as (reply_rest b (head.Show n d k)) (counted k (item_block b)) (show_rest_as b n d k g) bytes old mid new e f) known

  pub found_fail : (h : Head) (k : ℕ) → h ≡ head.Rules k → IsHead b h → (bytes : List ℕ) (old mid new : Place) (e : ReadReplies)
      → Tells (counted k (violation_line b)) bytes old mid (Err e) → Tells (reply_rest b h) bytes old new (Err e)
  found_fail h k is known bytes old mid new e f =
      let P : Head → Type 0 = λ (z : Head). IsHead b z → Tells (reply_rest b z) bytes old new (Err e) in
      subst P (sym is) (λ g. fails_as (reply_rest b (head.Rules k)) (counted k (violation_line b)) (rules_rest_as b k g) bytes old mid new e f) known

  pub strips_fail : (h : Head) (l : LayerId) (c : ClassId) (k : ℕ) → h ≡ head.Strips l c k → IsHead b h → (bytes : List ℕ) (old mid new : Place) (e : ReadReplies)
      → Tells (counted k (strip_line b)) bytes old mid (Err e) → Tells (reply_rest b h) bytes old new (Err e)
  strips_fail h l c k is known bytes old mid new e f =
      let P : Head → Type 0 = λ (z : Head). IsHead b z → Tells (reply_rest b z) bytes old new (Err e) in
      subst P (sym is) (λ g. fails_as (reply_rest b (head.Strips l c k)) (counted k (strip_line b)) (strips_rest_as b l c k g) bytes old mid new e f) known

  pub nets_there : (h : Head) (n : ℕ) → h ≡ head.All n → IsHead b h → 0 < n → HasGood (routed_block b)
  nets_there h n is known more = routed_some ((subst (IsHead b) is known).1 more)
