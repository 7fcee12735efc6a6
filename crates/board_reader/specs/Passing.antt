-- A line that breaks no rule.
use Rattle.std.specs.Prelude.{◌≡◌, ℕ, false, List}
use Rattle.board_reader.specs.declared.drafts.Draft.{Draft}
use Rattle.board_reader.specs.declared.forms.Form.{Form}
use Rattle.board_reader.specs.declared.refusals.RefusalKind.TheVariants.{BadWord, BadNumber, OutOfRange, UnknownName, TwiceNamed, WrongPlace, MissingRule, TooMany, BadRect}
use Rattle.board_reader.specs.Checks.{breaks}

-- a line of this form and these words breaks no rule
pub record BreaksNone (d : Draft) (f : Form) (ws : List (List ℕ)) : Type 0 where
  pub spelled : breaks d f ws BadWord ≡ false
  pub placed : breaks d f ws WrongPlace ≡ false
  pub numbers : breaks d f ws BadNumber ≡ false
  pub known : breaks d f ws UnknownName ≡ false
  pub fresh : breaks d f ws TwiceNamed ≡ false
  pub ranges : breaks d f ws OutOfRange ≡ false
  pub corners : breaks d f ws BadRect ≡ false
  pub few : breaks d f ws TooMany ≡ false
  pub whole : breaks d f ws MissingRule ≡ false
