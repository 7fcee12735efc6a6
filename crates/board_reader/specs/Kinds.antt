-- The kinds of refusals: their numbers, and the order in which they are told.
use Rattle.std.specs.Prelude.{ℕ}
use Rattle.board_reader.specs.declared.refusals.RefusalKind.{RefusalKind}
use Rattle.board_reader.specs.declared.refusals.RefusalKind.TheVariants.{NotAscii, BadWord, BadNumber, OutOfRange, UnknownName, TwiceNamed, WrongPlace, MissingRule, NoEnd, TooMany, BadRect, BadReply}

-- the number under which the program tells a kind
abbrev pub number_of_kind : RefusalKind → ℕ
number_of_kind NotAscii = 1
number_of_kind BadWord = 2
number_of_kind BadNumber = 3
number_of_kind OutOfRange = 4
number_of_kind UnknownName = 5
number_of_kind TwiceNamed = 6
number_of_kind WrongPlace = 7
number_of_kind MissingRule = 8
number_of_kind NoEnd = 9
number_of_kind TooMany = 10
number_of_kind BadRect = 11
number_of_kind BadReply = 13
