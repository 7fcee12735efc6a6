-- What a reply that was sent leaves.
use Rattle.std.proofs.Common.{◌≡◌, ℕ, Bool, true, false, List, Option, Ok, Err, Result, IsOk, OnOk, IfErr, IsErrAnd, sym, ◌∙◌, ap, subst}
use Rattle.std.proofs.lemmas.Bool.{false≢true}
use Rattle.io_edge.specs.Streams.{Appends, AppendsPart, Rose}
use Rattle.board_parts.specs.declared.commands.Command.{Command}
use Rattle.board_model.specs.declared.made.Conn.{Conn}
use Rattle.board_parts.specs.declared.parts.BoardParts.{BoardParts}
use Rattle.route_law.specs.declared.replies.Reply.{Reply}
use Rattle.route_law.specs.Regular.{IsRegular}
use Rattle.route_law.specs.Steps.{IsStep}
use Rattle.reply_text.specs.Texts.{reply_text}
use Rattle.contour_core.specs.declared.endings.Ending.{Ending}
use Rattle.contour_core.specs.declared.endings.Ending.TheVariants.{BadWords, TooLong, Refused, Wrong, ReadFault, WriteFault, NoMemory}
use Rattle.contour_core.specs.Endings.{EndsAnswer, EndsSending}
use Rattle.contour_core.specs.Sessions.{AnswersPart, AnswersWith}

pub of_ok : {E : Type 0} (P : Type 0) (r : Result (Unit {0}) E) → IsOk r → OnOk r P → P
of_ok P (Ok u) h p = p
of_ok P (Err e) h p = absurd (false≢true h)

pub of_err : {E : Type 0} (Q : E → Type 0) (r : Result (Unit {0}) E) (e : E) → r ≡ Err e → IfErr r Q → Q e
of_err Q r e same h = subst (λ x. IfErr x Q) same h

pub if_err_and : {X E : Type 0} (r : Result X E) (P Q : E → Type 0) → ((e : E) → P e → Q e) → IsErrAnd r P → IfErr r Q
if_err_and (Ok x) P Q f h = tt
if_err_and (Err e) P Q f h = f e h

module _ (b : BoardParts) (quiet : Bool) (old : List (List Conn)) (c : Command) (reply : Reply) (new : List (List Conn)) (held holds : Option (List ℕ)) where
  pub answers_with : IsStep b old c reply new → IsRegular b reply → Appends held holds (reply_text b quiet reply) → AnswersWith b quiet old c reply new held holds
  answers_with step regular written = record { step = step; regular = regular; written = written }

  pub ends_answer : (before after : ℕ) → IsStep b old c reply new → IsRegular b reply → (e : Ending) → EndsSending (reply_text b quiet reply) held holds before after e → EndsAnswer b quiet old c held holds before after e
  ends_answer before after step regular BadWords h = h
  ends_answer before after step regular TooLong h = h
  ends_answer before after step regular (Refused r) h = h
  ends_answer before after step regular (Wrong n) h = h
  ends_answer before after step regular ReadFault h = h
  ends_answer before after step regular WriteFault h =
      (h.0, record { reply = reply; new = new; step = step; regular = regular; written = h.1 })
  ends_answer before after step regular NoMemory h = h
