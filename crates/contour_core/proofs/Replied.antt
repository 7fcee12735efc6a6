-- Replies one after another.
use Rattle.std.proofs.Common.{ℕ, suc, ◌≤◌, inl, inr, Bool, false, ◌≡◌, ◌+◌, ◌<◌, List, [], ◌∷◌, ◌++◌, length, take, get_or, All, Option, Some, None, refl, sym, ap, ◌∙◌, subst, append_assoc, append-nil, arith}
use Rattle.std.proofs.lemmas.Grind.{flat_map-append}
use Rattle.std.proofs.lemmas.List.{take_more, take_all, length-take-le}
use Rattle.std.proofs.lemmas.List.Elements.{All-nil, All-push, All-take}
use Rattle.io_edge.specs.Streams.{Appends, AppendsPart, Rose}
use Rattle.board_parts.specs.declared.commands.Command.{Command}
use Rattle.board_model.specs.declared.made.Conn.{Conn}
use Rattle.board_parts.specs.declared.parts.BoardParts.{BoardParts}
use Rattle.board_parts.specs.Commands.{IsCommandOf}
use Rattle.board_parts.specs.Rules.{IsBoard}
use Rattle.route_law.specs.declared.replies.Reply.{Reply}
use Rattle.route_law.specs.Kept.{IsKept}
use Rattle.route_law.specs.Regular.{IsRegular}
use Rattle.route_law.specs.Steps.{IsRunFrom, nothing_made}
use Rattle.route_law.proofs.Beginning.{nothing-state}
use Rattle.route_law.proofs.Running.{run-next}
use Rattle.step_laws.proofs.Keeping.{run_state}
use Rattle.reply_text.specs.Texts.{reply_text, replies_text}
use Rattle.contour_core.specs.declared.endings.Ending.{Ending}
use Rattle.contour_core.specs.declared.endings.Ending.TheVariants.{BadWords, TooLong, Refused, Wrong, ReadFault, WriteFault, NoMemory}
use Rattle.contour_core.specs.Endings.{EndsAnswer, EndsAnswers}
use Rattle.contour_core.specs.Answers.{KeepsTheRules, AreReplies, AnswersAll, AnswersFirst, IsCutShort}
use Rattle.contour_core.specs.Sessions.{IsUnderway, AnswersOne, AnswersPart}

pub Appends-nil : (held : Option (List ℕ)) → Appends held held []
Appends-nil None = tt
Appends-nil (Some bytes) = sym (append-nil bytes)

pub Appends-join : (a b c : Option (List ℕ)) (x y : List ℕ) → Appends a b x → Appends b c y → Appends a c (x ++ y)
Appends-join None None None x y p q = tt
Appends-join None None (Some c) x y p q = q
Appends-join None (Some b) c x y p q = absurd p
Appends-join (Some a) None c x y p q = absurd p
Appends-join (Some a) (Some b) None x y p q = absurd q
Appends-join (Some a) (Some b) (Some c) x y p q = q ∙ ap (λ z. z ++ y) p ∙ append_assoc a x y

-- as many replies as commands
pub run-length : (b : BoardParts) (old new : List (List Conn)) (cs : List Command) (rs : List Reply) → IsRunFrom b old cs rs new → length rs ≡ length cs
run-length b old new [] [] h = refl
run-length b old new [] (r ∷ rs) h = absurd h
run-length b old new (c ∷ cs) [] h = absurd h
run-length b old new (c ∷ cs) (r ∷ rs) h = ap (λ n. suc n) (run-length b h.0 new cs rs h.2)

replies_text-more : (b : BoardParts) (quiet : Bool) (rs : List Reply) (r : Reply) → replies_text b quiet (rs ++ r ∷ []) ≡ replies_text b quiet rs ++ reply_text b quiet r
replies_text-more b quiet rs r = flat_map-append (reply_text b quiet) rs (r ∷ []) ∙ ap (λ z. replies_text b quiet rs ++ z) (append-nil (reply_text b quiet r))

pub underway_none : (b : BoardParts) (quiet : Bool) (held : Option (List ℕ)) → IsUnderway b quiet [] (nothing_made b) held held
underway_none b quiet held = record { replies = []; run = refl; regular = All-nil (IsRegular b); written = Appends-nil held }

-- the replies to the first commands, and then to the next one
pub underway_more : (b : BoardParts) (quiet : Bool) (cs : List Command) (n : ℕ) (d : Command) (old new : List (List Conn)) (held between holds : Option (List ℕ)) → n < length cs → IsUnderway b quiet (take n cs) old held between → AnswersOne b quiet old (get_or cs n d) new between holds → IsUnderway b quiet (take (n + 1) cs) new held holds
underway_more b quiet cs n d old new held between holds lt u o =
    let P : List Command → Type 0 = λ xs. IsRunFrom b (nothing_made b) xs (u.replies ++ o.reply ∷ []) new in
    let Q : List ℕ → Type 0 = λ text. Appends held holds text in
    record {
      replies = u.replies ++ o.reply ∷ [];
      run = subst P (sym (take_more cs n d lt)) (run-next b (nothing_made b) old new (take n cs) (get_or cs n d) u.replies o.reply u.run o.answered.step);
      regular = All-push (IsRegular b) u.replies o.reply u.regular o.answered.regular;
      written = subst Q (sym (replies_text-more b quiet u.replies o.reply)) (Appends-join held between holds (replies_text b quiet u.replies) (reply_text b quiet o.reply) u.written o.answered.written);
    }

-- the same, where the session's board is this one
pub underway_next : (b b' : BoardParts) (quiet : Bool) (cs : List Command) (n : ℕ) (d : Command) (old new : List (List Conn)) (held between holds : Option (List ℕ)) → b' ≡ b → n < length cs → IsUnderway b quiet (take n cs) old held between → AnswersOne b' quiet old (get_or cs n d) new between holds → IsUnderway b quiet (take (n + 1) cs) new held holds
underway_next b b' quiet cs n d old new held between holds e lt u o =
    underway_more b quiet cs n d old new held between holds lt u (subst (λ (x : BoardParts). AnswersOne x quiet old (get_or cs n d) new between holds) e o)

pub rose-from : (a b c : ℕ) → a ≤ b → Rose b c → Rose a c
rose-from a b c l (inl h) = inl (omega (arith, l, h))
rose-from a b c l (inr h) = inr h

module _ (b : BoardParts) (board : IsBoard b) where
  pub keeps_rules : (cs : List Command) (rs : List Reply) → All (IsCommandOf b) cs → KeepsTheRules b cs rs
  keeps_rules cs rs known n lists run =
      (run_state b (nothing_made b) lists (take n cs) (take n rs) board (nothing-state b) (All-take (IsCommandOf b) n cs known) run).kept

  pub answers_all : (quiet : Bool) (cs : List Command) (lists : List (List Conn)) (held holds : Option (List ℕ)) → All (IsCommandOf b) cs → IsUnderway b quiet cs lists held holds → AnswersAll b quiet cs held holds
  answers_all quiet cs lists held holds known u = record {
    replies = u.replies;
    are_replies = record { run = (lists, u.run); rules = keeps_rules cs u.replies known; regular = u.regular };
    written = u.written;
  }

  pub answers_first : (quiet : Bool) (cs : List Command) (n : ℕ) (lists : List (List Conn)) (held holds : Option (List ℕ)) → All (IsCommandOf b) cs → IsUnderway b quiet (take n cs) lists held holds → AnswersFirst b quiet cs held holds
  answers_first quiet cs n lists held holds known u = record {
    count = n;
    answered = answers_all quiet (take n cs) lists held holds (All-take (IsCommandOf b) n cs known) u;
  }

  pub cut_short : (quiet : Bool) (cs : List Command) (n : ℕ) (d : Command) (old : List (List Conn)) (held between holds : Option (List ℕ)) → n < length cs → All (IsCommandOf b) cs → IsUnderway b quiet (take n cs) old held between → AnswersPart b quiet old (get_or cs n d) between holds → IsCutShort b quiet cs held holds
  cut_short quiet cs n d old held between holds lt known u o =
      let count : length u.replies ≡ n = run-length b (nothing_made b) old (take n cs) u.replies u.run ∙ length-take-le n cs (omega (arith, lt)) in
      let P : List Command → Type 0 = λ xs. IsRunFrom b (nothing_made b) xs (u.replies ++ o.reply ∷ []) o.new in
      let run : IsRunFrom b (nothing_made b) (take (n + 1) cs) (u.replies ++ o.reply ∷ []) o.new = subst P (sym (take_more cs n d lt)) (run-next b (nothing_made b) old o.new (take n cs) (get_or cs n d) u.replies o.reply u.run o.step) in
      let Q : ℕ → Type 0 = λ m. AreReplies b (take (m + 1) cs) (u.replies ++ o.reply ∷ []) in
      record {
        whole = u.replies;
        next = o.reply;
        are_replies = subst Q (sym count) (record {
          run = (o.new, run);
          rules = keeps_rules (take (n + 1) cs) (u.replies ++ o.reply ∷ []) (All-take (IsCommandOf b) (n + 1) cs known);
          regular = All-push (IsRegular b) u.replies o.reply u.regular o.regular;
        });
        between = between;
        written = u.written;
        part = o.written;
      }

  -- an ending of one reply, after those to the first commands, as an ending of the replies
  pub ends_all : (b' : BoardParts) (quiet : Bool) (cs : List Command) (n : ℕ) (d : Command) (old : List (List Conn)) (held between holds : Option (List ℕ)) (begun before after : ℕ) → b' ≡ b → n < length cs → All (IsCommandOf b) cs → begun ≤ before → IsUnderway b quiet (take n cs) old held between → (e : Ending) → EndsAnswer b' quiet old (get_or cs n d) between holds before after e → EndsAnswers b quiet cs held holds begun after e
  ends_all b' quiet cs n d old held between holds begun before after same lt known falls u BadWords h = h
  ends_all b' quiet cs n d old held between holds begun before after same lt known falls u TooLong h = h
  ends_all b' quiet cs n d old held between holds begun before after same lt known falls u (Refused r) h = h
  ends_all b' quiet cs n d old held between holds begun before after same lt known falls u (Wrong m) h = h
  ends_all b' quiet cs n d old held between holds begun before after same lt known falls u ReadFault h = h
  ends_all b' quiet cs n d old held between holds begun before after same lt known falls u WriteFault h =
      (rose-from begun before after falls h.0, cut_short quiet cs n d old held between holds lt known u (subst (λ (x : BoardParts). AnswersPart x quiet old (get_or cs n d) between holds) same h.1))
  ends_all b' quiet cs n d old held between holds begun before after same lt known falls u NoMemory h =
      answers_first quiet cs n old held holds known (subst (λ (x : Option (List ℕ)). IsUnderway b quiet (take n cs) old held x) (sym h) u)
