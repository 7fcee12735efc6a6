-- What the words of a call ask for.
use Rattle.std.specs.Prelude.{◌≡◌, ℕ, List, map, string_bytes}
use Rattle.call_words.specs.declared.requests.Report.{Report}
use Rattle.call_words.specs.declared.requests.Report.TheVariants as report
use Rattle.call_words.specs.declared.requests.Request.{Request}
use Rattle.call_words.specs.declared.requests.Request.TheVariants as request
use Rattle.call_words.specs.declared.requests.Sequel.{Sequel}
use Rattle.call_words.specs.declared.requests.Sequel.TheVariants as sequel
use Rattle.call_words.specs.Asked.{Asked, Run, Check, Upgrade, Gen, Demo, Reporting, Following, ReportAsked, Fill, Gerber, Trace, SequelAsked, Through, Auto, words_of, IsGood}

-- these words ask for it
pub record IsRequestOf (words : List (List ℕ)) (asked : Asked) : Type 0 where
  pub good : IsGood asked
  pub spelled : words_of asked ≡ words

-- these words ask for nothing
abbrev pub IsNoRequest : List (List ℕ) → Type 0
IsNoRequest words = (asked : Asked) → IsRequestOf words asked → ⊥

-- what a report, a sequel and a request of the program ask for, with the bytes of their names
abbrev pub report_by : Report → ReportAsked
report_by (report.Fill net layer corners) = Fill net.now layer.now corners
report_by (report.Gerber layer) = Gerber layer.now
report_by report.Trace = Trace

abbrev pub sequel_by : Sequel → SequelAsked
sequel_by (sequel.Through net others) = Through net.now (map string_bytes others.now)
sequel_by (sequel.Auto rounds) = Auto rounds

abbrev pub asked_by : Request → Asked
asked_by (request.Run quiet) = Run quiet
asked_by request.Check = Check
asked_by request.Upgrade = Upgrade
asked_by (request.Gen n) = Gen n
asked_by (request.Demo n) = Demo n
asked_by (request.Reporting r) = Reporting (report_by r)
asked_by (request.Following s) = Following (sequel_by s)
