-- What is asked for is known by its first word and the words behind it.
use Rattle.std.proofs.Common.{◌≡◌, ℕ, ◌<◌, ◌^◌, true, false, List, [], ◌∷◌, length, get_or, drop, decimal, refl, sym, ap, ◌∙◌, subst, arith}
use Rattle.std.specs.Prelude.{sum, nat_lt, ◌==◌, if◌then◌else◌}
use Rattle.std.specs.Str.Parse.{digits_value}
use Rattle.std.proofs.lemmas.Fmt.{decimal_is_IsNumeral_wide}
use Rattle.call_words.specs.declared.requests.Corners.{Corners}
use Rattle.call_words.specs.declared.verbs.Verb.{Verb}
use Rattle.call_words.specs.declared.verbs.Verb.TheVariants as verb
use Rattle.call_words.specs.Asked.{Asked, Run, Check, Upgrade, Gen, Demo, Reporting, Following, Fill, Gerber, Trace, Through, Auto, flags_of, words_of, words_of_corners, IsGood}
use Rattle.call_words.specs.Numbers.{AreNumbers}
use Rattle.call_words.specs.Requests.{IsRequestOf, IsNoRequest}
use Rattle.call_words.specs.Verbs.{word_of, NoneWith}

-- the first word of what is asked for
abbrev verb_asked : Asked → Verb
verb_asked (Run quiet) = verb.Run
verb_asked Check = verb.Check
verb_asked Upgrade = verb.Upgrade
verb_asked (Gen n) = verb.Gen
verb_asked (Demo n) = verb.Demo
verb_asked (Reporting (Fill net layer c)) = verb.Fill
verb_asked (Reporting (Gerber layer)) = verb.Gerber
verb_asked (Reporting Trace) = verb.Trace
verb_asked (Following (Through net others)) = verb.Through
verb_asked (Following (Auto rounds)) = verb.Auto

-- the words behind the first
abbrev rest_of : Asked → List (List ℕ)
rest_of (Run quiet) = flags_of quiet
rest_of Check = []
rest_of Upgrade = []
rest_of (Gen n) = decimal n ∷ []
rest_of (Demo n) = decimal n ∷ []
rest_of (Reporting (Fill net layer c)) = net ∷ layer ∷ words_of_corners c
rest_of (Reporting (Gerber layer)) = layer ∷ []
rest_of (Reporting Trace) = []
rest_of (Following (Through net others)) = net ∷ others
rest_of (Following (Auto rounds)) = decimal rounds ∷ []

words_of-split : (a : Asked) → words_of a ≡ word_of (verb_asked a) ∷ rest_of a
words_of-split (Run quiet) = refl
words_of-split Check = refl
words_of-split Upgrade = refl
words_of-split (Gen n) = refl
words_of-split (Demo n) = refl
words_of-split (Reporting (Fill net layer c)) = refl
words_of-split (Reporting (Gerber layer)) = refl
words_of-split (Reporting Trace) = refl
words_of-split (Following (Through net others)) = refl
words_of-split (Following (Auto rounds)) = refl

-- the first words are told apart by the sums of their bytes
abbrev verb_by : ℕ → Verb
verb_by n =
    if n == 341 then verb.Run else
    (if n == 510 then verb.Check else
    (if n == 744 then verb.Upgrade else
    (if n == 314 then verb.Gen else
    (if n == 421 then verb.Demo else
    (if n == 423 then verb.Fill else
    (if n == 631 then verb.Gerber else
    (if n == 527 then verb.Trace else
    (if n == 769 then verb.Through else verb.Auto))))))))

verb_by-word_of : (v : Verb) → verb_by (sum (word_of v)) ≡ v
verb_by-word_of verb.Run = refl
verb_by-word_of verb.Check = refl
verb_by-word_of verb.Upgrade = refl
verb_by-word_of verb.Gen = refl
verb_by-word_of verb.Demo = refl
verb_by-word_of verb.Fill = refl
verb_by-word_of verb.Gerber = refl
verb_by-word_of verb.Trace = refl
verb_by-word_of verb.Through = refl
verb_by-word_of verb.Auto = refl

word_of-injective : (v w : Verb) → word_of v ≡ word_of w → v ≡ w
word_of-injective v w e = sym (verb_by-word_of v) ∙ ap (λ (word : List ℕ). verb_by (sum word)) e ∙ verb_by-word_of w

same_head : {X : Type 0} (x y : X) (xs ys : List X) → x ∷ xs ≡ y ∷ ys → x ≡ y
same_head x y xs ys e = cc

same_tail : {X : Type 0} (x y : X) (xs ys : List X) → x ∷ xs ≡ y ∷ ys → xs ≡ ys
same_tail x y xs ys e = cc

same_verb : (a : Asked) (v : Verb) (rest : List (List ℕ)) → words_of a ≡ word_of v ∷ rest → verb_asked a ≡ v
same_verb a v rest e = word_of-injective (verb_asked a) v (same_head _ _ (rest_of a) rest (sym (words_of-split a) ∙ e))

same_rest : (a : Asked) (v : Verb) (rest : List (List ℕ)) → words_of a ≡ word_of v ∷ rest → rest_of a ≡ rest
same_rest a v rest e = same_tail (word_of (verb_asked a)) (word_of v) _ _ (sym (words_of-split a) ∙ e)

-- what is asked for is not asked for by words that ask for nothing with its first word
asked-not : (a : Asked) (rest : List (List ℕ)) → IsGood a → rest_of a ≡ rest → NoneWith (verb_asked a) rest → ⊥
asked-not (Run quiet) rest good e none = none quiet e
asked-not Check rest good e none = none e
asked-not Upgrade rest good e none = none e
asked-not (Gen n) rest good e none = none n (record { range = good; spelled = e })
asked-not (Demo n) rest good e none = none n (record { range = good; spelled = e })
asked-not (Reporting (Fill net layer c)) rest good e none =
    none net layer c (record { of_net = good.0; of_layer = good.1; numbers = good.2; spelled = e })
asked-not (Reporting (Gerber layer)) rest good e none = none layer (record { good = good; spelled = e })
asked-not (Reporting Trace) rest good e none = none e
asked-not (Following (Through net others)) rest good e none =
    none net others (record { of_net = good.0; of_others = good.1; spelled = e })
asked-not (Following (Auto rounds)) rest good e none = none rounds (record { range = good; spelled = e })

pub asks_nothing : (v : Verb) (rest : List (List ℕ)) → NoneWith v rest → IsNoRequest (word_of v ∷ rest)
asks_nothing v rest none = λ a asked.
    let P : Verb → Type 0 = λ w. NoneWith w rest in
    asked-not a rest asked.good (same_rest a v rest asked.spelled) (subst P (sym (same_verb a v rest asked.spelled)) none)

-- a first word that is none makes no request
pub asks_nothing_first : (word : List ℕ) (rest : List (List ℕ)) → ((v : Verb) → word_of v ≡ word → ⊥) → IsNoRequest (word ∷ rest)
asks_nothing_first word rest none = λ a asked.
    none (verb_asked a) (same_head _ _ (rest_of a) rest (sym (words_of-split a) ∙ asked.spelled))

pub asks_nothing_empty : IsNoRequest []
asks_nothing_empty = λ a asked.
    let e : word_of (verb_asked a) ∷ rest_of a ≡ [] = sym (words_of-split a) ∙ asked.spelled in
    absurd cc

-- a word as a number, and what is asked for, found again
abbrev word_at : List (List ℕ) → ℕ → List ℕ
word_at words i = get_or words i []

abbrev number_at : List (List ℕ) → ℕ → ℕ
number_at words i = digits_value 10 (word_at words i)

abbrev asked_from : Verb → List (List ℕ) → Asked
asked_from verb.Run rest = Run (nat_lt 0 (length rest))
asked_from verb.Check rest = Check
asked_from verb.Upgrade rest = Upgrade
asked_from verb.Gen rest = Gen (number_at rest 0)
asked_from verb.Demo rest = Demo (number_at rest 0)
asked_from verb.Fill rest =
    Reporting (Fill (word_at rest 0) (word_at rest 1) (record { x0 = number_at rest 2; y0 = number_at rest 3; x1 = number_at rest 4; y1 = number_at rest 5 }))
asked_from verb.Gerber rest = Reporting (Gerber (word_at rest 0))
asked_from verb.Trace rest = Reporting Trace
asked_from verb.Through rest = Following (Through (word_at rest 0) (drop 1 rest))
asked_from verb.Auto rest = Following (Auto (number_at rest 0))

value_of : (n : ℕ) → n < 10 ^ 20 → n ≡ digits_value 10 (decimal n)
value_of n lt = sym (decimal_is_IsNumeral_wide n (omega arith)).1

-- one spelling is that of one number
pub decimal_is_one : (m n : ℕ) → m < 10 ^ 64 → n < 10 ^ 64 → decimal m ≡ decimal n → m ≡ n
decimal_is_one m n hm hn e = sym (decimal_is_IsNumeral_wide m hm).1 ∙ ap (digits_value 10) e ∙ (decimal_is_IsNumeral_wide n hn).1

corners_again : (c : Corners) → AreNumbers c → c ≡ record { x0 = digits_value 10 (decimal c.x0); y0 = digits_value 10 (decimal c.y0); x1 = digits_value 10 (decimal c.x1); y1 = digits_value 10 (decimal c.y1) }
corners_again c h =
    let a = value_of c.x0 h.x0 in
    let b = value_of c.y0 h.y0 in
    let d = value_of c.x1 h.x1 in
    let e = value_of c.y1 h.y1 in
    rw (← a, ← b, ← d, ← e) refl

found_again : (a : Asked) → IsGood a → a ≡ asked_from (verb_asked a) (rest_of a)
found_again (Run true) good = refl
found_again (Run false) good = refl
found_again Check good = refl
found_again Upgrade good = refl
found_again (Gen n) good = ap Gen (value_of n (omega (arith, good.to)))
found_again (Demo n) good = ap Demo (value_of n (omega (arith, good.to)))
found_again (Reporting (Fill net layer c)) good = ap (λ (k : Corners). Reporting (Fill net layer k)) (corners_again c good.2)
found_again (Reporting (Gerber layer)) good = refl
found_again (Reporting Trace) good = refl
found_again (Following (Through net others)) good = refl
found_again (Following (Auto rounds)) good = ap (λ (n : ℕ). Following (Auto n)) (value_of rounds (omega (arith, good.to)))

pub one_request : (words : List (List ℕ)) (a b : Asked) → IsRequestOf words a → IsRequestOf words b → a ≡ b
one_request words a b ha hb =
    let e : words_of a ≡ word_of (verb_asked b) ∷ rest_of b = ha.spelled ∙ sym hb.spelled ∙ words_of-split b in
    let front : verb_asked a ≡ verb_asked b = same_verb a (verb_asked b) (rest_of b) e in
    let back : rest_of a ≡ rest_of b = same_rest a (verb_asked b) (rest_of b) e in
    found_again a ha.good ∙ ap (λ (v : Verb). asked_from v (rest_of a)) front ∙ ap (asked_from (verb_asked b)) back ∙ sym (found_again b hb.good)
