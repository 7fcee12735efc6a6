-- What a line must keep so that it breaks no rule, place by place.
use Rattle.std.proofs.Common.{◌≡◌, ℕ, ◌+◌, ◌≤◌, Bool, true, false, List, [], ◌∷◌, length, refl, ap, ◌∙◌}
use Rattle.std.specs.Prelude.{not, nat_lt, ◌||◌, ◌==◌}
use Rattle.std.proofs.lemmas.Bool.{le-ltb, eq-eqb, or_from}
use Rattle.board_reader.specs.declared.drafts.Draft.{Draft}
use Rattle.board_reader.specs.declared.forms.Form.{Form}
use Rattle.board_reader.specs.declared.forms.Place.{Place}
use Rattle.board_reader.specs.declared.forms.Place.TheVariants.{Title, NewName, KnownName, Number, Across, Up, KeptOut}
use Rattle.board_reader.specs.declared.forms.Stage.{Stage}
use Rattle.board_reader.specs.declared.forms.Stage.TheVariants.{Start, Parts, Commands}
use Rattle.board_reader.specs.declared.refusals.RefusalKind.{RefusalKind}
use Rattle.board_reader.specs.declared.refusals.RefusalKind.TheVariants.{BadWord, BadNumber, OutOfRange, UnknownName, TwiceNamed, WrongPlace, MissingRule, TooMany, BadRect}
use Rattle.board_reader.specs.Checks.{fails, some_fails, fails_whole, breaks, names_of, is_bad_word, is_no_number, is_unknown, is_taken, is_outside, is_given, is_bad_rect, is_one_too_many, is_missing, is_too_new, is_too_great}
use Rattle.board_reader.specs.Drafts.{says_wires, says_vias}
use Rattle.board_reader.specs.Forms.{places, stage_of, is_stage}
use Rattle.line_words.specs.Lines.{word}
use Rattle.board_reader.specs.Names.{is_in}
use Rattle.line_words.specs.Numbers.{number, is_number}
use Rattle.board_reader.specs.Passing.{BreaksNone}

-- the word is a number from the first to the second
pub record HasNumber (w : List ℕ) (from to : ℕ) : Type 0 where
  pub digits : is_number w ≡ true
  pub least : from ≤ number w
  pub most : number w ≤ to

-- a name of a sort that was given, or was not
pub record IsNamed (names : List (List ℕ)) (w : List ℕ) (given : Bool) : Type 0 where
  pub short : length w ≤ 64
  pub known : is_in names w ≡ given

-- the word keeps the rules of its place
abbrev pub Fits : Draft → Place → List ℕ → Type 0
Fits d Title w = length w ≤ 64
Fits d (NewName s) w = IsNamed (names_of d s) w false
Fits d (KnownName s) w = IsNamed (names_of d s) w true
Fits d (Number a b) w = HasNumber w a b
Fits d Across w = HasNumber w 0 d.heading.width
Fits d Up w = HasNumber w 0 d.heading.height
Fits d KeptOut w = (says_wires w || says_vias w) ≡ true

fits-word : (d : Draft) (p : Place) (w : List ℕ) → Fits d p w → is_bad_word p w ≡ false
fits-word d Title w h = le-ltb 64 (length w) h
fits-word d (NewName s) w h = le-ltb 64 (length w) h.short
fits-word d (KnownName s) w h = le-ltb 64 (length w) h.short
fits-word d (Number a b) w h = refl
fits-word d Across w h = refl
fits-word d Up w h = refl
fits-word d KeptOut w h = ap not h

fits-number : (d : Draft) (p : Place) (w : List ℕ) → Fits d p w → is_no_number p w ≡ false
fits-number d Title w h = refl
fits-number d (NewName s) w h = refl
fits-number d (KnownName s) w h = refl
fits-number d (Number a b) w h = ap not h.digits
fits-number d Across w h = ap not h.digits
fits-number d Up w h = ap not h.digits
fits-number d KeptOut w h = refl

fits-known : (d : Draft) (p : Place) (w : List ℕ) → Fits d p w → is_unknown d p w ≡ false
fits-known d Title w h = refl
fits-known d (NewName s) w h = refl
fits-known d (KnownName s) w h = ap not h.known
fits-known d (Number a b) w h = refl
fits-known d Across w h = refl
fits-known d Up w h = refl
fits-known d KeptOut w h = refl

fits-fresh : (d : Draft) (p : Place) (w : List ℕ) → Fits d p w → is_taken d p w ≡ false
fits-fresh d Title w h = refl
fits-fresh d (NewName s) w h = h.known
fits-fresh d (KnownName s) w h = refl
fits-fresh d (Number a b) w h = refl
fits-fresh d Across w h = refl
fits-fresh d Up w h = refl
fits-fresh d KeptOut w h = refl

fits-range : (d : Draft) (p : Place) (w : List ℕ) → Fits d p w → is_outside d p w ≡ false
fits-range d Title w h = refl
fits-range d (NewName s) w h = refl
fits-range d (KnownName s) w h = refl
fits-range d (Number a b) w h = or_from (nat_lt (number w) a) (nat_lt b (number w)) (le-ltb (number w) a h.least) (le-ltb b (number w) h.most)
fits-range d Across w h = le-ltb d.heading.width (number w) h.most
fits-range d Up w h = le-ltb d.heading.height (number w) h.most
fits-range d KeptOut w h = refl

fits-kind : (d : Draft) (kind : RefusalKind) (p : Place) (w : List ℕ) → Fits d p w → fails d kind p w ≡ false
unfolding fails
fits-kind d BadWord p w h = fits-word d p w h
fits-kind d BadNumber p w h = fits-number d p w h
fits-kind d UnknownName p w h = fits-known d p w h
fits-kind d TwiceNamed p w h = fits-fresh d p w h
fits-kind d OutOfRange p w h = fits-range d p w h
fits-kind d kind p w h = refl

-- each word from a place on keeps the rules of its place
abbrev pub AreFit : Draft → List (List ℕ) → ℕ → List Place → Type 0
AreFit d ws i [] = Unit {0}
AreFit d ws i (p ∷ ps) = Fits d p (word ws i) × AreFit d ws (i + 1) ps

none-fails : (d : Draft) (kind : RefusalKind) (ws : List (List ℕ)) (i : ℕ) (ps : List Place) → AreFit d ws i ps → some_fails d kind ws i ps ≡ false
none-fails d kind ws i [] h = refl
none-fails d kind ws i (p ∷ ps) h = or_from (fails d kind p (word ws i)) (some_fails d kind ws (i + 1) ps) (fits-kind d kind p (word ws i) h.0) (none-fails d kind ws (i + 1) ps h.1)

-- the line as a whole keeps its rules
pub record IsWhole (d : Draft) (f : Form) (ws : List (List ℕ)) : Type 0 where
  pub count : length ws ≡ length (places f) + 1
  pub allowed : is_too_new d f ≡ false
  pub placed : d.stage ≡ stage_of f
  pub fresh : is_given d f ws ≡ false
  pub small : is_too_great f ws ≡ false
  pub corners : is_bad_rect d f ws ≡ false
  pub few : is_one_too_many d f ≡ false
  pub complete : is_missing d f ≡ false

one-stage : (s : Stage) → is_stage s s ≡ true
one-stage Start = refl
one-stage Parts = refl
one-stage Commands = refl

whole-kind : (d : Draft) (kind : RefusalKind) (f : Form) (ws : List (List ℕ)) → IsWhole d f ws → fails_whole d kind f ws ≡ false
unfolding fails_whole
whole-kind d BadWord f ws h = or_from (not (length ws == length (places f) + 1)) (is_too_new d f) (ap not (eq-eqb (length ws) (length (places f) + 1) h.count)) h.allowed
whole-kind d WrongPlace f ws h = ap not (ap (is_stage (stage_of f)) h.placed ∙ one-stage (stage_of f))
whole-kind d TwiceNamed f ws h = h.fresh
whole-kind d OutOfRange f ws h = h.small
whole-kind d BadRect f ws h = h.corners
whole-kind d TooMany f ws h = h.few
whole-kind d MissingRule f ws h = h.complete
whole-kind d kind f ws h = refl

no-kind : (d : Draft) (kind : RefusalKind) (f : Form) (ws : List (List ℕ)) → AreFit d ws 1 (places f) → IsWhole d f ws → breaks d f ws kind ≡ false
unfolding breaks
no-kind d kind f ws fit whole = or_from (some_fails d kind ws 1 (places f)) (fails_whole d kind f ws) (none-fails d kind ws 1 (places f) fit) (whole-kind d kind f ws whole)

pub breaks-none : (d : Draft) (f : Form) (ws : List (List ℕ)) → AreFit d ws 1 (places f) → IsWhole d f ws → BreaksNone d f ws
breaks-none d f ws fit whole = record {
  spelled = no-kind d BadWord f ws fit whole;
  placed = no-kind d WrongPlace f ws fit whole;
  numbers = no-kind d BadNumber f ws fit whole;
  known = no-kind d UnknownName f ws fit whole;
  fresh = no-kind d TwiceNamed f ws fit whole;
  ranges = no-kind d OutOfRange f ws fit whole;
  corners = no-kind d BadRect f ws fit whole;
  few = no-kind d TooMany f ws fit whole;
  whole = no-kind d MissingRule f ws fit whole;
}
