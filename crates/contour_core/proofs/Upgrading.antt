-- Endings of the reading of a board text and of the writing of its upgraded text as endings of the call.
use Rattle.std.proofs.Common.{◌≡◌, ℕ, List, Option}
use Rattle.io_edge.specs.Streams.{Appends}
use Rattle.board_reader.specs.Reading.{Told}
use Rattle.call_words.specs.Asked.{Upgrade}
use Rattle.text_upgrade.specs.Upgraded.{upgraded}
use Rattle.contour_core.specs.declared.endings.Ending.{Ending}
use Rattle.contour_core.specs.declared.endings.Ending.TheVariants.{BadWords, TooLong, Refused, Wrong, ReadFault, WriteFault, NoMemory}
use Rattle.contour_core.specs.Causes.{EndsCall, IsBeforeReplies}
use Rattle.contour_core.specs.Endings.{EndsSending}
use Rattle.contour_core.specs.Inputs.{IfTold, IsAcceptedAs}
use Rattle.contour_core.specs.Upgrades.{UpgradesInput, UpgradesInputInPart}
use Rattle.contour_core.proofs.Ended.{if_told-weaker}

pub upgrades_input : (left held holds : Option (List ℕ)) (told : Told) → IfTold left (IsAcceptedAs told) → Appends held holds (upgraded told) → IfTold left (UpgradesInput held holds)
upgrades_input left held holds told ok written =
    if_told-weaker left (IsAcceptedAs told) (UpgradesInput held holds) (λ bytes accepted. record { told = told; accepted = accepted; written = written }) ok

module _ (left : Option (List ℕ)) (reads reads' : ℕ) where
  pub ends_upgrading : (held holds : Option (List ℕ)) (writes writes' : ℕ) (told : Told) → IfTold left (IsAcceptedAs told) → (e : Ending) → EndsSending (upgraded told) held holds writes writes' e → EndsCall Upgrade left reads reads' held holds writes writes' e
  ends_upgrading held holds writes writes' told ok BadWords h = h
  ends_upgrading held holds writes writes' told ok TooLong h = absurd h
  ends_upgrading held holds writes writes' told ok (Refused r) h = absurd h
  ends_upgrading held holds writes writes' told ok (Wrong n) h = absurd h
  ends_upgrading held holds writes writes' told ok ReadFault h = absurd h
  ends_upgrading held holds writes writes' told ok WriteFault h =
      (h.0, if_told-weaker left (IsAcceptedAs told) (UpgradesInputInPart held holds) (λ bytes accepted. record { told = told; accepted = accepted; written = h.1 }) ok)
  ends_upgrading held holds writes writes' told ok NoMemory h = h

-- what ends the writing of a text came after it was begun
pub writing_begun : (text : List ℕ) (held holds : Option (List ℕ)) (writes writes' : ℕ) (e : Ending) → EndsSending text held holds writes writes' e → IsBeforeReplies e → ⊥
writing_begun text held holds writes writes' BadWords h before = h
writing_begun text held holds writes writes' TooLong h before = h
writing_begun text held holds writes writes' (Refused r) h before = h
writing_begun text held holds writes writes' (Wrong n) h before = h
writing_begun text held holds writes writes' ReadFault h before = h
writing_begun text held holds writes writes' WriteFault h before = before
writing_begun text held holds writes writes' NoMemory h before = before
