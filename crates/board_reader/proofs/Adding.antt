-- What the functions that add a line need of a line that breaks no rule.
use Rattle.std.proofs.Common.{◌≡◌, ◌≢◌, ◌⊎◌, ℕ, ◌+◌, ◌≤◌, false, List, All, length, refl, sym, ap, arith, [], inl, inr, subst}
use Rattle.std.proofs.lemmas.Bool.{cases_lt}
use Rattle.std.proofs.lemmas.List.{get_or_past}
use Rattle.board_reader.specs.declared.forms.Form.{Form}
use Rattle.std.specs.Str.{IsAscii}
use Rattle.std.proofs.lemmas.Int.{ints}
use Rattle.board_reader.specs.declared.drafts.Draft.{Draft}
use Rattle.board_reader.specs.declared.forms.Form.TheVariants as form
use Rattle.board_reader.specs.declared.forms.Sort.TheVariants as sort
use Rattle.board_reader.specs.declared.forms.Stage.TheVariants.{Start, Parts, Commands}
use Rattle.board_reader.specs.declared.refusals.RefusalKind.TheVariants.{OutOfRange, TwiceNamed}
use Rattle.board_reader.specs.Drafts.{after_form, command_of, with_command}
use Rattle.board_reader.specs.Forms.{stage_of}
use Rattle.board_reader.specs.Kept.{IsDraft, IsWord}
use Rattle.line_words.specs.Lines.{word}
use Rattle.board_reader.specs.Names.{is_in}
use Rattle.line_words.specs.Numbers.{number}
use Rattle.board_reader.specs.Lengths.{IsShort, HaveShortCorners}
use Rattle.board_reader.specs.Passing.{BreaksNone}
use Rattle.board_reader.proofs.Ascii.{ascii-bytes}
use Rattle.board_reader.proofs.Unbroken.{each-place, in-range, in-width, in-height, is-fresh}

short-number : (d : Draft) (a b : ℕ) (w : List ℕ) → b ≤ 8388608 → (a ≤ number w) × (number w ≤ b) → IsShort w
short-number d a b w h r = omega (arith, r.1)

pub board-version : (d : Draft) (ws : List (List ℕ)) → BreaksNone d form.Board ws → IsShort (word ws 1)
board-version d ws h = let r = each-place d form.Board ws OutOfRange h.ranges in short-number d 1 2 (word ws 1) (omega arith) (in-range d 1 2 (word ws 1) r.0)

pub board-width : (d : Draft) (ws : List (List ℕ)) → BreaksNone d form.Board ws → IsShort (word ws 3)
board-width d ws h = let r = each-place d form.Board ws OutOfRange h.ranges in short-number d 1 8388608 (word ws 3) (omega arith) (in-range d 1 8388608 (word ws 3) r.1.1.0)

pub board-height : (d : Draft) (ws : List (List ℕ)) → BreaksNone d form.Board ws → IsShort (word ws 4)
board-height d ws h = let r = each-place d form.Board ws OutOfRange h.ranges in short-number d 1 8388608 (word ws 4) (omega arith) (in-range d 1 8388608 (word ws 4) r.1.1.1.0)

pub layer-fresh : (d : Draft) (ws : List (List ℕ)) → BreaksNone d form.Layer ws → is_in d.layers (word ws 1) ≡ false
layer-fresh d ws h = is-fresh d sort.Layer (word ws 1) (each-place d form.Layer ws TwiceNamed h.fresh).0

pub class-fresh : (d : Draft) (ws : List (List ℕ)) → BreaksNone d form.Class ws → is_in d.classes (word ws 1) ≡ false
class-fresh d ws h = is-fresh d sort.Class (word ws 1) (each-place d form.Class ws TwiceNamed h.fresh).0

pub kind-fresh : (d : Draft) (ws : List (List ℕ)) → BreaksNone d form.ViaKind ws → is_in d.kind_names (word ws 1) ≡ false
kind-fresh d ws h = is-fresh d sort.Kind (word ws 1) (each-place d form.ViaKind ws TwiceNamed h.fresh).0

pub net-fresh : (d : Draft) (ws : List (List ℕ)) → BreaksNone d form.Net ws → is_in d.net_names (word ws 1) ≡ false
net-fresh d ws h = is-fresh d sort.Net (word ws 1) (each-place d form.Net ws TwiceNamed h.fresh).0

pub rule-half : (d : Draft) (ws : List (List ℕ)) → BreaksNone d form.Rule ws → (1 ≤ number (word ws 3)) × (number (word ws 3) ≤ 65535)
rule-half d ws h = in-range d 1 65535 (word ws 3) (each-place d form.Rule ws OutOfRange h.ranges).1.1.0

pub rule-gap : (d : Draft) (ws : List (List ℕ)) → BreaksNone d form.Rule ws → (1 ≤ number (word ws 4)) × (number (word ws 4) ≤ 65535)
rule-gap d ws h = in-range d 1 65535 (word ws 4) (each-place d form.Rule ws OutOfRange h.ranges).1.1.1.0

pub clear-gap : (d : Draft) (ws : List (List ℕ)) → BreaksNone d form.Clear ws → (1 ≤ number (word ws 4)) × (number (word ws 4) ≤ 65535)
clear-gap d ws h = in-range d 1 65535 (word ws 4) (each-place d form.Clear ws OutOfRange h.ranges).1.1.1.0

pub kind-charge : (d : Draft) (ws : List (List ℕ)) → BreaksNone d form.ViaKind ws → (0 ≤ number (word ws 4)) × (number (word ws 4) ≤ 65535)
kind-charge d ws h = in-range d 0 65535 (word ws 4) (each-place d form.ViaKind ws OutOfRange h.ranges).1.1.1.0

pub pad-half : (d : Draft) (ws : List (List ℕ)) → BreaksNone d form.Pad ws → (1 ≤ number (word ws 3)) × (number (word ws 3) ≤ 65535)
pad-half d ws h = in-range d 1 65535 (word ws 3) (each-place d form.Pad ws OutOfRange h.ranges).1.1.0

pub inner-half : (d : Draft) (ws : List (List ℕ)) → BreaksNone d form.Inner ws → (1 ≤ number (word ws 3)) × (number (word ws 3) ≤ 65535)
inner-half d ws h = in-range d 1 65535 (word ws 3) (each-place d form.Inner ws OutOfRange h.ranges).1.1.0

-- the corners in the four places from this one on lie on the board
pub record OnBoard (d : Draft) (ws : List (List ℕ)) (i : ℕ) : Type 0 where
  pub left : number (word ws i) ≤ d.heading.width
  pub below : number (word ws (i + 1)) ≤ d.heading.height
  pub right : number (word ws (i + 2)) ≤ d.heading.width
  pub above : number (word ws (i + 3)) ≤ d.heading.height

pub block-corners : (d : Draft) (ws : List (List ℕ)) → BreaksNone d form.Block ws → OnBoard d ws 2
block-corners d ws h =
    let r = each-place d form.Block ws OutOfRange h.ranges in
    record { left = in-width d (word ws 2) r.1.0; below = in-height d (word ws 3) r.1.1.0; right = in-width d (word ws 4) r.1.1.1.0; above = in-height d (word ws 5) r.1.1.1.1.0 }

pub keepout-corners : (d : Draft) (ws : List (List ℕ)) → BreaksNone d form.Keepout ws → OnBoard d ws 3
keepout-corners d ws h =
    let r = each-place d form.Keepout ws OutOfRange h.ranges in
    record {
      left = in-width d (word ws 3) r.1.1.0;
      below = in-height d (word ws 4) r.1.1.1.0;
      right = in-width d (word ws 5) r.1.1.1.1.0;
      above = in-height d (word ws 6) r.1.1.1.1.1.0;
    }

pub pin-corners : (d : Draft) (ws : List (List ℕ)) → BreaksNone d form.Pin ws → OnBoard d ws 2
pin-corners d ws h =
    let r = each-place d form.Pin ws OutOfRange h.ranges in
    record { left = in-width d (word ws 2) r.1.0; below = in-height d (word ws 3) r.1.1.0; right = in-width d (word ws 4) r.1.1.1.0; above = in-height d (word ws 5) r.1.1.1.1.0 }

-- a draft has its heading from the line of the board on
pub has-heading : (d : Draft) → IsDraft d → d.stage ≡ Parts → (d.heading.width ≤ 8388608) × (d.heading.height ≤ 8388608)
has-heading d k e =
    let begun : d.stage ≢ Start = λ f. cc in
    let h = k.heading begun in
    (omega (arith, ints, h.width.to), omega (arith, ints, h.height.to))

pub short-corners : (d : Draft) (ws : List (List ℕ)) (i : ℕ) → IsDraft d → d.stage ≡ Parts → OnBoard d ws i → HaveShortCorners ws i
short-corners d ws i k e on =
    let sides = has-heading d k e in
    record { left = omega (arith, on.left, sides.0); below = omega (arith, on.below, sides.1); right = omega (arith, on.right, sides.0); above = omega (arith, on.above, sides.1) }

ascii-none : IsAscii []
ascii-none j = omega arith

-- a word holds ASCII alone
pub ascii-word : (ws : List (List ℕ)) → All IsWord ws → (i : ℕ) → IsAscii (word ws i)
ascii-word ws h i =
    elim (cases_lt i (length ws)) [
      | inl inside ↦ ascii-bytes (word ws i) (h i [] inside).each
      | inr past ↦ subst (λ w. IsAscii w) (sym (get_or_past ws i [] past)) ascii-none
    ]

-- what is known of the form is known of the one that it is
pub as-form : (d : Draft) (f g : Form) (ws : List (List ℕ)) → f ≡ g → BreaksNone d f ws → BreaksNone d g ws
as-form d f g ws e h = subst (λ x. BreaksNone d x ws) e h

-- the form of a command stands after `end`
pub command-stage : (f : Form) → (f ≡ form.Route) ⊎ ((f ≡ form.All) ⊎ ((f ≡ form.Rip) ⊎ ((f ≡ form.Show) ⊎ ((f ≡ form.Rules) ⊎ (f ≡ form.Strips))))) → stage_of f ≡ Commands
command-stage f (inl e) = ap stage_of e
command-stage f (inr (inl e)) = ap stage_of e
command-stage f (inr (inr (inl e))) = ap stage_of e
command-stage f (inr (inr (inr (inl e)))) = ap stage_of e
command-stage f (inr (inr (inr (inr (inl e))))) = ap stage_of e
command-stage f (inr (inr (inr (inr (inr e))))) = ap stage_of e

-- what a line after `end` says is its command
pub command-form : (d : Draft) (f : Form) (ws : List (List ℕ)) → stage_of f ≡ Commands → with_command d (command_of d f ws) ≡ after_form d f ws
unfolding after_form
command-form d form.Board ws e = absurd (cc)
command-form d form.Layer ws e = absurd (cc)
command-form d form.Class ws e = absurd (cc)
command-form d form.Rule ws e = absurd (cc)
command-form d form.Clear ws e = absurd (cc)
command-form d form.ViaKind ws e = absurd (cc)
command-form d form.Pad ws e = absurd (cc)
command-form d form.Inner ws e = absurd (cc)
command-form d form.Block ws e = absurd (cc)
command-form d form.Keepout ws e = absurd (cc)
command-form d form.Net ws e = absurd (cc)
command-form d form.Pin ws e = absurd (cc)
command-form d form.End ws e = absurd (cc)
command-form d form.Route ws e = refl
command-form d form.All ws e = refl
command-form d form.Rip ws e = refl
command-form d form.Show ws e = refl
command-form d form.Rules ws e = refl
command-form d form.Strips ws e = refl
