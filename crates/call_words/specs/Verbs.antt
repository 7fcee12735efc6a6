-- The first words of calls, and what may stand behind each.
use Rattle.std.specs.Prelude.{◌≡◌, ℕ, Bool, List, [], ◌∷◌, codes, decimal}
use Rattle.call_words.specs.declared.requests.Corners.{Corners}
use Rattle.call_words.specs.declared.verbs.Verb.{Verb}
use Rattle.call_words.specs.declared.verbs.Verb.TheVariants.{Run, Check, Upgrade, Gen, Demo, Fill, Gerber, Trace, Through, Auto}
use Rattle.call_words.specs.Asked.{flags_of, words_of_corners}
use Rattle.call_words.specs.Names.{IsCallName, AreOthers}
use Rattle.call_words.specs.Numbers.{IsFromOne, AreNumbers}

abbrev pub word_of : Verb → List ℕ
word_of Run = codes "run"
word_of Check = codes "check"
word_of Upgrade = codes "upgrade"
word_of Gen = codes "gen"
word_of Demo = codes "demo"
word_of Fill = codes "fill"
word_of Gerber = codes "gerber"
word_of Trace = codes "trace"
word_of Through = codes "through"
word_of Auto = codes "auto"

-- the words are one alone, and it spells this number from 1 to the most
pub record IsCount (most : ℕ) (words : List (List ℕ)) (n : ℕ) : Type 0 where
  pub range : IsFromOne most n
  pub spelled : decimal n ∷ [] ≡ words

-- the words spell no such number
abbrev pub IsNoCount : ℕ → List (List ℕ) → Type 0
IsNoCount most words = (n : ℕ) → IsCount most words n → ⊥

-- the words are those of two corners, and spell numbers
pub record AreCorners (words : List (List ℕ)) (c : Corners) : Type 0 where
  pub numbers : AreNumbers c
  pub spelled : words_of_corners c ≡ words

-- the words are a net, a layer and two corners
pub record AreFilling (words : List (List ℕ)) (net layer : List ℕ) (c : Corners) : Type 0 where
  pub of_net : IsCallName net
  pub of_layer : IsCallName layer
  pub numbers : AreNumbers c
  pub spelled : net ∷ layer ∷ words_of_corners c ≡ words

-- the words are a name alone
pub record IsNameAlone (words : List (List ℕ)) (name : List ℕ) : Type 0 where
  pub good : IsCallName name
  pub spelled : name ∷ [] ≡ words

-- the words are a net and others
pub record AreNetAndOthers (words : List (List ℕ)) (net : List ℕ) (others : List (List ℕ)) : Type 0 where
  pub of_net : IsCallName net
  pub of_others : AreOthers others
  pub spelled : net ∷ others ≡ words

-- what is asked for with this first word never has these words behind it
abbrev pub NoneWith : Verb → List (List ℕ) → Type 0
NoneWith Run words = (quiet : Bool) → flags_of quiet ≡ words → ⊥
NoneWith Check words = [] ≡ words → ⊥
NoneWith Upgrade words = [] ≡ words → ⊥
NoneWith Gen words = IsNoCount 2000 words
NoneWith Demo words = IsNoCount 2000 words
NoneWith Fill words = (net layer : List ℕ) (c : Corners) → AreFilling words net layer c → ⊥
NoneWith Gerber words = (layer : List ℕ) → IsNameAlone words layer → ⊥
NoneWith Trace words = [] ≡ words → ⊥
NoneWith Through words = (net : List ℕ) (others : List (List ℕ)) → AreNetAndOthers words net others → ⊥
NoneWith Auto words = IsNoCount 100 words
