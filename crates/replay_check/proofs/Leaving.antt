-- The replies of a run determine the state that they leave.
use Rattle.std.proofs.Common.{ℕ, ◌≡◌, ◌+◌, ◌<◌, List, [], ◌∷◌, ◌++◌, All, length, get_or, take, refl, sym, ◌∙◌, ap, subst}
use Rattle.std.proofs.lemmas.List.Elements.{All-nil, All-cons, All-head, All-tail}
use Rattle.geo_rect.specs.declared.ids.NetId.{NetId}
use Rattle.board_parts.specs.Commands.{IsCommandOf}
use Rattle.board_parts.specs.declared.commands.Command.{Command}
use Rattle.board_parts.specs.declared.parts.BoardParts.{BoardParts}
use Rattle.board_parts.specs.Rules.{IsBoard}
use Rattle.board_model.specs.declared.made.Conn.{Conn}
use Rattle.board_model.specs.Made.{with_conn}
use Rattle.route_law.specs.declared.replies.Made1.{Made1}
use Rattle.route_law.specs.declared.replies.Reply.{Reply}
use Rattle.route_law.specs.declared.replies.Reply.TheVariants as reply
use Rattle.route_law.specs.declared.replies.Routed.{Routed}
use Rattle.route_law.specs.Kept.{IsState}
use Rattle.route_law.specs.Routing.{AreMadeInTurn, AreRoutedFrom}
use Rattle.route_law.specs.Steps.{command_of, IsAnswer, IsRunFrom, nothing_made}
use Rattle.route_law.proofs.Beginning.{nothing-state}
use Rattle.step_laws.proofs.Keeping.{run_state}
use Rattle.replay_check.specs.After.{AreOfARun, IsStateAfter}
use Rattle.replay_check.specs.Leaving.{with_made, with_blocks, left_by, left_by_all, IsBlockAmong, IsReplyAmong}
use Rattle.replay_check.proofs.Listing.{one_more}

abbrev State : Type 0
State = List (List Conn)

-- what replies leave, where one item more is taken
made-snoc : (lists : State) (n : NetId) (ms : List Made1) (m : Made1) → with_made lists n (ms ++ m ∷ []) ≡ with_conn (with_made lists n ms) n m.conn
made-snoc lists n [] m = refl
made-snoc lists n (x ∷ ms) m = made-snoc (with_conn lists n x.conn) n ms m

blocks-snoc : (lists : State) (rs : List Routed) (r : Routed) → with_blocks lists (rs ++ r ∷ []) ≡ with_made (with_blocks lists rs) r.net r.made
blocks-snoc lists [] r = refl
blocks-snoc lists (x ∷ rs) r = blocks-snoc (with_made lists x.net x.made) rs r

left-snoc : (lists : State) (rs : List Reply) (r : Reply) → left_by_all lists (rs ++ r ∷ []) ≡ left_by (left_by_all lists rs) r
left-snoc lists [] r = refl
left-snoc lists (x ∷ rs) r = left-snoc (left_by lists x) rs r

module _ (old mid new : State) (i : ℕ) where
  pub made_one_more : (n : NetId) (ms : List Made1) (m : Made1) → i < length ms → m ≡ get_or ms i m → mid ≡ with_made old n (take i ms) → new ≡ with_conn mid n m.conn → new ≡ with_made old n (take (i + 1) ms)
  made_one_more n ms m l e h k =
      let F : State → State = λ s. with_conn s n m.conn in
      let G : List Made1 → State = λ xs. with_made old n xs in
      k ∙ ap F h ∙ sym (made-snoc old n (take i ms) m) ∙ sym (ap G (one_more ms i m l (sym e)))

  pub block_one_more : (rs : List Routed) (r : Routed) → i < length rs → r ≡ get_or rs i r → mid ≡ with_blocks old (take i rs) → new ≡ with_made mid r.net r.made → new ≡ with_blocks old (take (i + 1) rs)
  block_one_more rs r l e h k =
      let F : State → State = λ s. with_made s r.net r.made in
      let G : List Routed → State = λ xs. with_blocks old xs in
      k ∙ ap F h ∙ sym (blocks-snoc old (take i rs) r) ∙ sym (ap G (one_more rs i r l (sym e)))

  pub reply_one_more : (rs : List Reply) (r : Reply) → i < length rs → r ≡ get_or rs i r → mid ≡ left_by_all old (take i rs) → new ≡ left_by mid r → new ≡ left_by_all old (take (i + 1) rs)
  reply_one_more rs r l e h k =
      let F : State → State = λ s. left_by s r in
      let G : List Reply → State = λ xs. left_by_all old xs in
      k ∙ ap F h ∙ sym (left-snoc old (take i rs) r) ∙ sym (ap G (one_more rs i r l (sym e)))

module _ (b : BoardParts) where
  made_leave : (old : State) (n : NetId) (ms : List Made1) (new : State) → AreMadeInTurn b old n ms new → new ≡ with_made old n ms
  made_leave old n [] new h = h
  made_leave old n (m ∷ ms) new h = made_leave (with_conn old n m.conn) n ms new h.1

  blocks_leave : (k : ℕ) (old : State) (rs : List Routed) (new : State) → AreRoutedFrom b k old rs new → new ≡ with_blocks old rs
  blocks_leave k old [] new h = h
  blocks_leave k old (r ∷ rs) new h =
      let F : State → State = λ s. with_blocks s rs in
      blocks_leave (k + 1) h.1 rs new h.3 ∙ ap F (made_leave old r.net r.made h.1 h.2.made)

  answer_leaves : (old : State) (r : Reply) (new : State) → IsAnswer b old r new → new ≡ left_by old r
  answer_leaves old (reply.Route r) new h = made_leave old r.net r.made new h.made
  answer_leaves old (reply.All rs) new h = blocks_leave 0 old rs new h.1
  answer_leaves old (reply.Rip n k) new h = h.1
  answer_leaves old (reply.Show n m items) new h = h.2
  answer_leaves old (reply.Rules found) new h = h.1
  answer_leaves old (reply.Strips l c strips) new h = h.1

  run_leaves : (old : State) (cs : List Command) (rs : List Reply) (new : State) → IsRunFrom b old cs rs new → new ≡ left_by_all old rs
  run_leaves old [] [] new h = h
  run_leaves old [] (r ∷ rs) new h = absurd h
  run_leaves old (c ∷ cs) [] new h = absurd h
  run_leaves old (c ∷ cs) (r ∷ rs) new h =
      let F : State → State = λ s. left_by_all s rs in
      run_leaves h.0 cs rs new h.2 ∙ ap F (answer_leaves old r h.0 h.1.answer)

  -- the replies of a run change the lists of nets of the board alone
  blocks_among : (k : ℕ) (old : State) (rs : List Routed) (new : State) → AreRoutedFrom b k old rs new → All (IsBlockAmong (length b.net_names)) rs
  blocks_among k old [] new h = All-nil (IsBlockAmong (length b.net_names))
  blocks_among k old (r ∷ rs) new h = All-cons (IsBlockAmong (length b.net_names)) r rs h.2.net (blocks_among (k + 1) h.1 rs new h.3)

  answer_among : (old : State) (r : Reply) (new : State) → IsCommandOf b (command_of r) → IsAnswer b old r new → IsReplyAmong (length b.net_names) r
  answer_among old (reply.Route r) new c h = h.net
  answer_among old (reply.All rs) new c h = blocks_among 0 old rs new h.1
  answer_among old (reply.Rip n k) new c h = c
  answer_among old (reply.Show n m items) new c h = tt
  answer_among old (reply.Rules found) new c h = tt
  answer_among old (reply.Strips l c strips) new d h = tt

  run_among : (old : State) (cs : List Command) (rs : List Reply) (new : State) → All (IsCommandOf b) cs → IsRunFrom b old cs rs new → All (IsReplyAmong (length b.net_names)) rs
  run_among old [] [] new known h = All-nil (IsReplyAmong (length b.net_names))
  run_among old [] (r ∷ rs) new known h = absurd h
  run_among old (c ∷ cs) [] new known h = absurd h
  run_among old (c ∷ cs) (r ∷ rs) new known h =
      let C : Command → Type 0 = λ x. IsCommandOf b x in
      All-cons (IsReplyAmong (length b.net_names)) r rs
      (answer_among old r h.0 (subst C h.1.asked (All-head (IsCommandOf b) c cs known)) h.1.answer)
      (run_among h.0 cs rs new (All-tail (IsCommandOf b) c cs known) h.2)

  module _ (rs : List Reply) where
    pub replies_among : AreOfARun b rs → All (IsReplyAmong (length b.net_names)) rs
    replies_among h = run_among (nothing_made b) h.commands rs h.run.0 h.known h.run.1

    -- what the replies leave is the state after them
    pub left_is_after : (lists : State) → AreOfARun b rs → lists ≡ left_by_all (nothing_made b) rs → IsStateAfter b rs lists
    left_is_after lists h e =
        let P : State → Type 0 = λ s. IsRunFrom b (nothing_made b) h.commands rs s in
        record { commands = h.commands; known = h.known; run = subst P (run_leaves (nothing_made b) h.commands rs h.run.0 h.run.1 ∙ sym e) h.run.1 }

    -- and no other is
    pub after_is_left : (lists : State) → IsStateAfter b rs lists → lists ≡ left_by_all (nothing_made b) rs
    after_is_left lists h = run_leaves (nothing_made b) h.commands rs lists h.run

    pub after_is_kept : (lists : State) → IsBoard b → IsStateAfter b rs lists → IsState b lists
    after_is_kept lists board h = run_state b (nothing_made b) lists h.commands rs board (nothing-state b) h.known h.run
