-- What a call may ask for, and how each is spelled.
use Rattle.std.specs.Prelude.{ℕ, Bool, true, false, List, [], ◌∷◌, codes, decimal, ⊤}
use Rattle.call_words.specs.declared.requests.Corners.{Corners}
use Rattle.call_words.specs.Names.{IsCallName, AreOthers}
use Rattle.call_words.specs.Numbers.{IsSize, IsRounds, AreNumbers}

-- a report: where a pour of a net may flow on a layer within corners, a layer as a Gerber text, what is joined
pub data ReportAsked : Type 0 where
  Fill : List ℕ → List ℕ → Corners → ReportAsked
  Gerber : List ℕ → ReportAsked
  Trace : ReportAsked

-- what is done after the commands: a net is routed through others, or there are so many rounds of routing
pub data SequelAsked : Type 0 where
  Through : List ℕ → List (List ℕ) → SequelAsked
  Auto : ℕ → SequelAsked

-- what is asked for; `run` may be quiet, `gen` and `demo` have a number of nets
pub data Asked : Type 0 where
  Run : Bool → Asked
  Check : Asked
  Upgrade : Asked
  Gen : ℕ → Asked
  Demo : ℕ → Asked
  Reporting : ReportAsked → Asked
  Following : SequelAsked → Asked

-- the words behind `run`
abbrev pub flags_of : Bool → List (List ℕ)
flags_of true = codes "--quiet" ∷ []
flags_of false = []

-- the words of two corners
abbrev pub words_of_corners : Corners → List (List ℕ)
words_of_corners c = decimal c.x0 ∷ decimal c.y0 ∷ decimal c.x1 ∷ decimal c.y1 ∷ []

abbrev pub words_of_report : ReportAsked → List (List ℕ)
words_of_report (Fill net layer c) = codes "fill" ∷ net ∷ layer ∷ words_of_corners c
words_of_report (Gerber layer) = codes "gerber" ∷ layer ∷ []
words_of_report Trace = codes "trace" ∷ []

abbrev pub words_of_sequel : SequelAsked → List (List ℕ)
words_of_sequel (Through net others) = codes "through" ∷ net ∷ others
words_of_sequel (Auto rounds) = codes "auto" ∷ decimal rounds ∷ []

-- the words that ask for it, each as its bytes
abbrev pub words_of : Asked → List (List ℕ)
words_of (Run quiet) = codes "run" ∷ flags_of quiet
words_of Check = codes "check" ∷ []
words_of Upgrade = codes "upgrade" ∷ []
words_of (Gen n) = codes "gen" ∷ decimal n ∷ []
words_of (Demo n) = codes "demo" ∷ decimal n ∷ []
words_of (Reporting r) = words_of_report r
words_of (Following s) = words_of_sequel s

abbrev pub IsGoodReport : ReportAsked → Type 0
IsGoodReport (Fill net layer c) = IsCallName net × IsCallName layer × AreNumbers c
IsGoodReport (Gerber layer) = IsCallName layer
IsGoodReport Trace = ⊤

abbrev pub IsGoodSequel : SequelAsked → Type 0
IsGoodSequel (Through net others) = IsCallName net × AreOthers others
IsGoodSequel (Auto rounds) = IsRounds rounds

-- its names are names, and its numbers are in their ranges
abbrev pub IsGood : Asked → Type 0
IsGood (Run quiet) = ⊤
IsGood Check = ⊤
IsGood Upgrade = ⊤
IsGood (Gen n) = IsSize n
IsGood (Demo n) = IsSize n
IsGood (Reporting r) = IsGoodReport r
IsGood (Following s) = IsGoodSequel s
