-- No input is both accepted and refused.
use Rattle.std.proofs.Common.{◌≡◌, ◌∙◌, ◌⊎◌, ℕ, Bool, List, Option, Some, None, Ok, Err, refl, inl, inr, sym, subst, take, drop, arith}
use Rattle.io_edge.specs.Streams.{Rose}
use Rattle.board_parts.specs.declared.parts.BoardParts.{BoardParts}
use Rattle.board_reader.specs.Reading.{reading, Told}
use Rattle.board_reader.specs.Splits.{split_of}
use Rattle.board_reader.specs.declared.refusals.Refusal.{Refusal}
use Rattle.board_reader.specs.declared.refusals.RefusalKind.{RefusalKind}
use Rattle.board_reader.specs.declared.refusals.RefusalKind.TheVariants.{NotAscii, BadWord, BadNumber, OutOfRange, UnknownName, TwiceNamed, WrongPlace, MissingRule, NoEnd, TooMany, BadRect, BadReply}
use Rattle.board_reader.specs.declared.splits.Split.{Split}
use Rattle.call_words.proofs.Wording.{one_request}
use Rattle.call_words.specs.Asked.{Asked, Run, Check, Upgrade, Gen, Demo, Reporting, Following, ReportAsked, SequelAsked}
use Rattle.call_words.specs.Trials.{IsReportFault, IsSequelFault, IsSoundReport, IsSoundSequel}
use Rattle.reply_reader.specs.Readings.{IsReadingOf}
use Rattle.route_law.specs.declared.replies.Reply.{Reply}
use Rattle.contour_core.specs.declared.endings.Ending.{Ending}
use Rattle.contour_core.specs.declared.endings.Ending.TheVariants.{BadWords, TooLong, Refused, Wrong, ReadFault, WriteFault, NoMemory}
use Rattle.contour_core.specs.declared.endings.Status.TheVariants as status
use Rattle.contour_core.specs.Causes.{EndsAttempt, HasBeenCut, HasDone, IsOfInput, MustAccept, MustRefuse}
use Rattle.contour_core.specs.Checked.{IsCheckedAs, IsRefusedPart, IsUnchecked, IsUncheckedAs}
use Rattle.contour_core.specs.Endings.{status_of}
use Rattle.contour_core.specs.Inputs.{IsAcceptedAs, IsRefused, IsRefusedAs}
use Rattle.contour_core.specs.Reports.{IsReportable, IsUnreported, IsUnsoundAs}
use Rattle.contour_core.specs.Requests.{IsRequestThat}
use Rattle.contour_core.specs.Sequels.{IsFollowable, IsUnfollowed, IsUnsoundAfter}

-- of one text there is one reading
one-told : (text : List ℕ) (told other : Told) → reading text ≡ Ok told → reading text ≡ Ok other → told ≡ other
one-told text told other a b =
    let both : Ok told ≡ Ok other = sym a ∙ b in cc

read-or-refused : (text : List ℕ) (told : Told) (r : Refusal) → reading text ≡ Ok told → reading text ≡ Err r → ⊥
read-or-refused text told r a b =
    let both : Ok told ≡ Err r = sym a ∙ b in cc

accepted-or-refused : (told : Told) (bytes : List ℕ) → IsAcceptedAs told bytes → IsRefused bytes → ⊥
accepted-or-refused told bytes a (inl long) = absurd (omega (arith, a.short, long))
accepted-or-refused told bytes a (inr r) = read-or-refused bytes told r.0 a.read r.1.read

module _ (told : Told) (replies : List Reply) (bytes : List ℕ) (c : IsCheckedAs told replies bytes) where
  refused-part : (r : Refusal) → IsRefusedPart bytes r (Some c.split) → ⊥
  refused-part r (inl h) = read-or-refused (take c.split.text_end bytes) told r c.board h.read
  refused-part r (inr h) =
      let same = one-told (take c.split.text_end bytes) told h.told c.board h.read in
      h.refused.none (record { replies = replies; reading = subst (λ (t : Told). IsReadingOf t.parts (drop c.split.replies_start bytes) replies) same c.read })

  checked-or-refused : (r : Refusal) → IsUncheckedAs r bytes → ⊥
  checked-or-refused r h = refused-part r (subst (IsRefusedPart bytes r) c.is_split h.part)

  checked-or-not : IsUnchecked bytes → ⊥
  checked-or-not (inl long) = absurd (omega (arith, c.short, long))
  checked-or-not (inr r) = checked-or-refused r.0 r.1

-- of one input there is one board with its commands
one-checked : (told other : Told) (replies others : List Reply) (bytes : List ℕ) → IsCheckedAs told replies bytes → IsCheckedAs other others bytes → told ≡ other
one-checked told other replies others bytes c d =
    let splits : Some c.split ≡ Some d.split = sym c.is_split ∙ d.is_split in
    let split : c.split ≡ d.split = cc in
    let P : Split → Type 0 = λ s. reading (take s.text_end bytes) ≡ Ok told in
    one-told (take d.split.text_end bytes) told other (subst P split c.board) d.board

sound-or-fault : (b : BoardParts) (asked : ReportAsked) (kind : RefusalKind) → IsSoundReport b asked → IsReportFault b asked kind → ⊥
sound-or-fault b asked UnknownName s h = h s.names
sound-or-fault b asked OutOfRange s h = h.1 s.corners
sound-or-fault b asked BadRect s h = h.2 s.order
sound-or-fault b asked NotAscii s h = h
sound-or-fault b asked BadWord s h = h
sound-or-fault b asked BadNumber s h = h
sound-or-fault b asked TwiceNamed s h = h
sound-or-fault b asked WrongPlace s h = h
sound-or-fault b asked MissingRule s h = h
sound-or-fault b asked NoEnd s h = h
sound-or-fault b asked TooMany s h = h
sound-or-fault b asked BadReply s h = h

followed-or-fault : (b : BoardParts) (asked : SequelAsked) (kind : RefusalKind) → IsSoundSequel b asked → IsSequelFault b asked kind → ⊥
followed-or-fault b asked UnknownName s h = h s.nets
followed-or-fault b asked TwiceNamed s h = h.1 s.once
followed-or-fault b asked NotAscii s h = h
followed-or-fault b asked BadWord s h = h
followed-or-fault b asked BadNumber s h = h
followed-or-fault b asked OutOfRange s h = h
followed-or-fault b asked WrongPlace s h = h
followed-or-fault b asked MissingRule s h = h
followed-or-fault b asked NoEnd s h = h
followed-or-fault b asked TooMany s h = h
followed-or-fault b asked BadRect s h = h
followed-or-fault b asked BadReply s h = h

unsound-or-sound : (asked : ReportAsked) (r : Refusal) (bytes : List ℕ) → IsReportable asked bytes → IsUncheckedAs r bytes ⊎ IsUnsoundAs asked r bytes → ⊥
unsound-or-sound asked r bytes a (inl h) = checked-or-refused a.told a.replies bytes a.checked r h
unsound-or-sound asked r bytes a (inr h) =
    let same = one-checked a.told h.told a.replies h.replies bytes a.checked h.checked in
    let P : Told → Type 0 = λ t. IsSoundReport t.parts asked in
    sound-or-fault h.told.parts asked r.kind (subst P same a.sound) h.refused.fault

reported-or-not : (asked : ReportAsked) (bytes : List ℕ) → IsReportable asked bytes → IsUnreported asked bytes → ⊥
reported-or-not asked bytes a (inl long) = checked-or-not a.told a.replies bytes a.checked (inl long)
reported-or-not asked bytes a (inr r) = unsound-or-sound asked r.0 bytes a r.1

unfollowed-or-sound : (asked : SequelAsked) (r : Refusal) (bytes : List ℕ) → IsFollowable asked bytes → IsRefusedAs r bytes ⊎ IsUnsoundAfter asked r bytes → ⊥
unfollowed-or-sound asked r bytes a (inl h) = read-or-refused bytes a.told r a.accepted.read h.read
unfollowed-or-sound asked r bytes a (inr h) =
    let same = one-told bytes a.told h.told a.accepted.read h.accepted.read in
    let P : Told → Type 0 = λ t. IsSoundSequel t.parts asked in
    followed-or-fault h.told.parts asked r.kind (subst P same a.sound) h.refused.fault

followed-or-not : (asked : SequelAsked) (bytes : List ℕ) → IsFollowable asked bytes → IsUnfollowed asked bytes → ⊥
followed-or-not asked bytes a (inl long) = accepted-or-refused a.told bytes a.accepted (inl long)
followed-or-not asked bytes a (inr r) = unfollowed-or-sound asked r.0 bytes a r.1

-- no input is both accepted and refused
accepted-or-not : (bytes : List ℕ) (asked : Asked) → MustAccept (Some bytes) asked → MustRefuse (Some bytes) asked → ⊥
accepted-or-not bytes (Run quiet) a r = accepted-or-refused a.0 bytes a.1 r
accepted-or-not bytes Check a r = checked-or-not a.0 a.1 bytes a.2 r
accepted-or-not bytes Upgrade a r = accepted-or-refused a.0 bytes a.1 r
accepted-or-not bytes (Gen n) a r = r
accepted-or-not bytes (Demo n) a r = r
accepted-or-not bytes (Reporting asked) a r = reported-or-not asked bytes a r
accepted-or-not bytes (Following asked) a r = followed-or-not asked bytes a r

-- what was done with an input that is told was done with one that is accepted
done-accepted : (bytes : List ℕ) (held holds : Option (List ℕ)) (asked : Asked) → HasDone (Some bytes) held holds asked → MustRefuse (Some bytes) asked → ⊥
done-accepted bytes held holds (Run quiet) h r = accepted-or-refused h.told bytes h.accepted r
done-accepted bytes held holds Check h r = checked-or-not h.right.told h.replies bytes h.right.checked r
done-accepted bytes held holds Upgrade h r = accepted-or-refused h.told bytes h.accepted r
done-accepted bytes held holds (Gen n) h r = r
done-accepted bytes held holds (Demo n) h r = r
done-accepted bytes held holds (Reporting asked) h r =
    reported-or-not asked bytes (record { told = h.told; replies = h.replies; checked = h.checked; sound = h.reported.report.sound }) r
done-accepted bytes held holds (Following asked) h r =
    followed-or-not asked bytes (record { told = h.told; accepted = h.accepted; sound = h.followed.sound }) r

cut-accepted : (bytes : List ℕ) (held holds : Option (List ℕ)) (asked : Asked) → HasBeenCut (Some bytes) held holds asked → MustRefuse (Some bytes) asked → ⊥
cut-accepted bytes held holds (Run quiet) h r = accepted-or-refused h.told bytes h.accepted r
cut-accepted bytes held holds Check h r = checked-or-not h.right.told h.replies bytes h.right.checked r
cut-accepted bytes held holds Upgrade h r = accepted-or-refused h.told bytes h.accepted r
cut-accepted bytes held holds (Gen n) h r = r
cut-accepted bytes held holds (Demo n) h r = r
cut-accepted bytes held holds (Reporting asked) h r =
    reported-or-not asked bytes (record { told = h.told; replies = h.replies; checked = h.checked; sound = h.reported.report.sound }) r
cut-accepted bytes held holds (Following asked) h r =
    followed-or-not asked bytes (record { told = h.told; accepted = h.accepted; sound = h.followed.sound }) r

wrong-accepted : (bytes : List ℕ) (n : ℕ) (asked : Asked) → IsOfInput (Some bytes) (Wrong n) asked → MustRefuse (Some bytes) asked → ⊥
wrong-accepted bytes n (Run quiet) h r = h
wrong-accepted bytes n Check h r = checked-or-not h.told h.replies bytes h.checked r
wrong-accepted bytes n Upgrade h r = h
wrong-accepted bytes n (Gen k) h r = r
wrong-accepted bytes n (Demo k) h r = r
wrong-accepted bytes n (Reporting asked) h r =
    reported-or-not asked bytes (record { told = h.told; replies = h.replies; checked = h.checked; sound = h.wrong.sound }) r
wrong-accepted bytes n (Following asked) h r = h

-- an input that is refused is one that must be
refused-refused : (bytes : List ℕ) (refusal : Refusal) (asked : Asked) → IsOfInput (Some bytes) (Refused refusal) asked → MustRefuse (Some bytes) asked
refused-refused bytes refusal (Run quiet) h = inr (refusal, h)
refused-refused bytes refusal Check h = inr (refusal, h)
refused-refused bytes refusal Upgrade h = inr (refusal, h)
refused-refused bytes refusal (Gen n) h = h
refused-refused bytes refusal (Demo n) h = h
refused-refused bytes refusal (Reporting asked) h = inr (refusal, h)
refused-refused bytes refusal (Following asked) h = inr (refusal, h)

long-refused : (bytes : List ℕ) (asked : Asked) → IsOfInput (Some bytes) TooLong asked → MustRefuse (Some bytes) asked
long-refused bytes (Run quiet) h = inl h
long-refused bytes Check h = inl h
long-refused bytes Upgrade h = inl h
long-refused bytes (Gen n) h = h
long-refused bytes (Demo n) h = h
long-refused bytes (Reporting asked) h = inl h
long-refused bytes (Following asked) h = inl h

-- an input that is not told is neither accepted nor refused
untold-refused : (asked : Asked) → MustRefuse None asked → ⊥
untold-refused (Run quiet) r = r
untold-refused Check r = r
untold-refused Upgrade r = r
untold-refused (Gen n) r = r
untold-refused (Demo n) r = r
untold-refused (Reporting asked) r = r
untold-refused (Following asked) r = r

untold-refusal : (refusal : Refusal) (asked : Asked) → MustAccept None asked → IsOfInput None (Refused refusal) asked → ⊥
untold-refusal refusal (Run quiet) a h = a
untold-refusal refusal Check a h = a
untold-refusal refusal Upgrade a h = a
untold-refusal refusal (Gen n) a h = h
untold-refusal refusal (Demo n) a h = h
untold-refusal refusal (Reporting asked) a h = a
untold-refusal refusal (Following asked) a h = a

untold-long : (asked : Asked) → MustAccept None asked → IsOfInput None TooLong asked → ⊥
untold-long (Run quiet) a h = a
untold-long Check a h = a
untold-long Upgrade a h = a
untold-long (Gen n) a h = h
untold-long (Demo n) a h = h
untold-long (Reporting asked) a h = a
untold-long (Following asked) a h = a

-- words ask for one thing, of which both hold
both : (words : List (List ℕ)) (P Q : Asked → Type 0) → ((a : Asked) → P a → Q a → ⊥) → IsRequestThat words P → IsRequestThat words Q → ⊥
both words P Q f p q = f q.asked (subst P (one_request words p.asked q.asked p.is q.is) p.holds) q.holds

module _ (words : List (List ℕ)) where
  pub done-refused : (left held holds : Option (List ℕ)) → IsRequestThat words (HasDone left held holds) → IsRequestThat words (MustRefuse left) → ⊥
  done-refused None held holds d r = untold-refused r.asked r.holds
  done-refused (Some bytes) held holds d r = both words (HasDone (Some bytes) held holds) (MustRefuse (Some bytes)) (done-accepted bytes held holds) d r

  pub cut-refused : (left held holds : Option (List ℕ)) → IsRequestThat words (HasBeenCut left held holds) → IsRequestThat words (MustRefuse left) → ⊥
  cut-refused None held holds d r = untold-refused r.asked r.holds
  cut-refused (Some bytes) held holds d r = both words (HasBeenCut (Some bytes) held holds) (MustRefuse (Some bytes)) (cut-accepted bytes held holds) d r

  pub wrong-refused : (left : Option (List ℕ)) (n : ℕ) → IsRequestThat words (IsOfInput left (Wrong n)) → IsRequestThat words (MustRefuse left) → ⊥
  wrong-refused None n d r = untold-refused r.asked r.holds
  wrong-refused (Some bytes) n d r = both words (IsOfInput (Some bytes) (Wrong n)) (MustRefuse (Some bytes)) (wrong-accepted bytes n) d r

  pub accepted-refused : (left : Option (List ℕ)) (refusal : Refusal) → IsRequestThat words (MustAccept left) → IsRequestThat words (IsOfInput left (Refused refusal)) → ⊥
  accepted-refused None refusal a h = both words (MustAccept None) (IsOfInput None (Refused refusal)) (untold-refusal refusal) a h
  accepted-refused (Some bytes) refusal a h = both words (MustAccept (Some bytes)) (IsOfInput (Some bytes) (Refused refusal)) (λ asked x y. accepted-or-not bytes asked x (refused-refused bytes refusal asked y)) a h

  pub accepted-long : (left : Option (List ℕ)) → IsRequestThat words (MustAccept left) → IsRequestThat words (IsOfInput left TooLong) → ⊥
  accepted-long None a h = both words (MustAccept None) (IsOfInput None TooLong) untold-long a h
  accepted-long (Some bytes) a h = both words (MustAccept (Some bytes)) (IsOfInput (Some bytes) TooLong) (λ asked x y. accepted-or-not bytes asked x (long-refused bytes asked y)) a h

module _ (words : List (List ℕ)) (left : Option (List ℕ)) (reads reads' : ℕ) (held holds : Option (List ℕ)) (writes writes' : ℕ) where
  -- how a call ends where the input is refused, and where it is accepted
  pub refused-by : (e : Ending) → EndsAttempt words left reads reads' held holds writes writes' e → IsRequestThat words (MustRefuse left) → (Rose reads reads' → ⊥) → (status_of e ≡ status.BadInput) ⊎ (status_of e ≡ status.NoMemory)
  refused-by BadWords h r f = absurd (h r.asked r.is)
  refused-by TooLong h r f = inl refl
  refused-by (Refused x) h r f = inl refl
  refused-by (Wrong n) h r f = absurd (wrong-refused words left n h r)
  refused-by ReadFault h r f = absurd (f h.holds.1)
  refused-by WriteFault h r f = absurd (cut-refused words left held holds (record { asked = h.asked; is = h.is; holds = h.holds.1 }) r)
  refused-by NoMemory h r f = inr refl

  pub completed-by : (e : Ending) → EndsAttempt words left reads reads' held holds writes writes' e → IsRequestThat words (MustAccept left) → (Rose reads reads' → ⊥) → (Rose writes writes' → ⊥) → (status_of e ≡ status.Done) ⊎ ((status_of e ≡ status.Wrong) ⊎ (status_of e ≡ status.NoMemory))
  completed-by BadWords h a f g = absurd (h a.asked a.is)
  completed-by TooLong h a f g = absurd (accepted-long words left a h)
  completed-by (Refused x) h a f g = absurd (accepted-refused words left x a h)
  completed-by (Wrong n) h a f g = inr (inl refl)
  completed-by ReadFault h a f g = absurd (f h.holds.1)
  completed-by WriteFault h a f g = absurd (g h.holds.0)
  completed-by NoMemory h a f g = inr (inr refl)
