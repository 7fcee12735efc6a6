-- The replies that a text spells, and the line that is refused where it spells none.
use Rattle.std.specs.Prelude.{◌≡◌, ℕ, List, All, false}
use Rattle.board_parts.specs.declared.parts.BoardParts.{BoardParts}
use Rattle.route_law.specs.declared.replies.Reply.{Reply}
use Rattle.route_law.specs.Regular.{IsRegular}
use Rattle.reply_text.specs.Texts.{replies_text}
use Rattle.reply_reader.specs.declared.readings.ReadReplies.{ReadReplies}
use Rattle.reply_reader.specs.declared.readings.ReadReplies.TheVariants.{Refused, NoMemory}
use Rattle.reply_reader.specs.InRange.{IsInRange}
use Rattle.reply_reader.specs.Places.{StopsAt}

-- the replies are regular, their numbers are within their ranges, and the bytes are their text
pub record IsReadingOf (b : BoardParts) (bytes : List ℕ) (rs : List Reply) : Type 0 where
  pub regular : All (IsRegular b) rs
  pub in_range : All IsInRange rs
  pub text : replies_text b false rs ≡ bytes

-- the bytes are the text of some replies
pub record IsRepliesText (b : BoardParts) (bytes : List ℕ) : Type 0 where
  pub replies : List Reply
  pub reading : IsReadingOf b bytes replies

-- the bytes are the text of no replies, and line n is the first that cannot stand in such a text
pub record IsRefusedLine (b : BoardParts) (bytes : List ℕ) (n : ℕ) : Type 0 where
  pub none : IsRepliesText b bytes → ⊥
  pub place : StopsAt (IsRepliesText b) bytes n

abbrev pub TellsRefusal : BoardParts → List ℕ → ReadReplies → Type 0
TellsRefusal b bytes (Refused n) = IsRefusedLine b bytes n
TellsRefusal b bytes NoMemory = Unit {0}
