-- The commands of a reading name what is in its board.
use Rattle.std.proofs.Common.{◌≡◌, ℕ, ◌+◌, ◌<◌, ◌≤◌, Bool, true, false, cond, List, [], ◌∷◌, ◌++◌, length, Option, Some, None, Result, Ok, Err, IfOk, refl, subst, arith}
use Rattle.std.specs.List.{All, AllByRecursion}
use Rattle.std.proofs.lemmas.List.{length_push}
use Rattle.std.proofs.lemmas.List.Elements.{All-from_recursion}
use Rattle.board_parts.specs.declared.commands.Command.{Command}
use Rattle.board_parts.specs.declared.commands.Command.TheVariants.{Route, Rip, Show, Rules, Strips}
use Rattle.board_parts.specs.declared.commands.Command.TheVariants as command
use Rattle.board_parts.specs.Commands.{IsCommandAmong, IsCommandOf}
use Rattle.board_reader.specs.declared.drafts.Draft.{Draft}
use Rattle.board_reader.specs.declared.forms.Form.{Form}
use Rattle.board_reader.specs.declared.forms.Form.TheVariants as form
use Rattle.board_reader.specs.declared.forms.Place.TheVariants.{KnownName}
use Rattle.board_reader.specs.declared.forms.Sort.TheVariants as sort
use Rattle.board_reader.specs.declared.forms.Stage.TheVariants.{Commands}
use Rattle.board_reader.specs.declared.inputs.Input.{Input}
use Rattle.board_reader.specs.declared.refusals.ReadInput.{ReadInput}
use Rattle.board_reader.specs.declared.refusals.ReadInput.TheVariants.{Refused, NoMemory}
use Rattle.board_reader.specs.declared.refusals.Refusal.{Refusal}
use Rattle.board_reader.specs.declared.refusals.RefusalKind.{RefusalKind}
use Rattle.board_reader.specs.declared.refusals.RefusalKind.TheVariants.{NoEnd, UnknownName}
use Rattle.board_reader.specs.Checks.{fails, kind_of_line, kind_with}
use Rattle.board_reader.specs.Contract.{told_by, TellsReading}
use Rattle.board_reader.specs.Drafts.{no_draft, net_of, after_form, with_command, parts_of}
use Rattle.board_reader.specs.Forms.{form_of, is_stage}
use Rattle.line_words.specs.Lines.{lines, counts, words, word}
use Rattle.board_reader.specs.Passing.{BreaksNone}
use Rattle.board_reader.specs.Reading.{Told, after_words, after_line, unless, step, goes_on, told, reading_from, reading}
use Rattle.board_reader.proofs.Naming.{number-in-range}
use Rattle.board_reader.proofs.Stepping.{passes}
use Rattle.board_reader.proofs.Unbroken.{each-place, is-known}

-- each command so far names what the lines so far gave
abbrev AreKnown : Draft → Type 0
AreKnown d = AllByRecursion (IsCommandAmong (length d.layers) (length d.classes) (length d.net_names)) d.commands

one_more : (layers classes nets : ℕ) (cs : List Command) (c : Command) → AllByRecursion (IsCommandAmong layers classes nets) cs → IsCommandAmong layers classes nets c
    → AllByRecursion (IsCommandAmong layers classes nets) (cs ++ c ∷ [])
one_more layers classes nets [] c all one = (one, tt)
one_more layers classes nets (x ∷ xs) c all one = (all.0, one_more layers classes nets xs c all.1 one)

-- there are at least as many layers, classes and nets
record NoFewer (layers classes nets layers' classes' nets' : ℕ) : Type 0 where
  of_layers : layers ≤ layers'
  of_classes : classes ≤ classes'
  of_nets : nets ≤ nets'

among_more : (layers classes nets layers' classes' nets' : ℕ) → NoFewer layers classes nets layers' classes' nets' → (c : Command)
    → IsCommandAmong layers classes nets c → IsCommandAmong layers' classes' nets' c
among_more layers classes nets layers' classes' nets' p (Route n) h = omega (arith, h, p.of_nets)
among_more layers classes nets layers' classes' nets' p command.All h = h
among_more layers classes nets layers' classes' nets' p (Rip n) h = omega (arith, h, p.of_nets)
among_more layers classes nets layers' classes' nets' p (Show n) h = omega (arith, h, p.of_nets)
among_more layers classes nets layers' classes' nets' p Rules h = h
among_more layers classes nets layers' classes' nets' p (Strips l c) h = (omega (arith, h.0, p.of_layers), omega (arith, h.1, p.of_classes))

all_among_more : (layers classes nets layers' classes' nets' : ℕ) → NoFewer layers classes nets layers' classes' nets' → (cs : List Command)
    → AllByRecursion (IsCommandAmong layers classes nets) cs → AllByRecursion (IsCommandAmong layers' classes' nets') cs
all_among_more layers classes nets layers' classes' nets' p [] all = tt
all_among_more layers classes nets layers' classes' nets' p (c ∷ cs) all =
    (among_more layers classes nets layers' classes' nets' p c all.0, all_among_more layers classes nets layers' classes' nets' p cs all.1)

with_layer : (d : Draft) (w : List ℕ) → AreKnown d → AllByRecursion (IsCommandAmong (length (d.layers ++ w ∷ [])) (length d.classes) (length d.net_names)) d.commands
with_layer d w all =
    let e = length_push d.layers w in
    all_among_more _ _ _ _ _ _ (record { of_layers = omega (arith, e); of_classes = omega arith; of_nets = omega arith }) d.commands all

with_class : (d : Draft) (w : List ℕ) → AreKnown d → AllByRecursion (IsCommandAmong (length d.layers) (length (d.classes ++ w ∷ [])) (length d.net_names)) d.commands
with_class d w all =
    let e = length_push d.classes w in
    all_among_more _ _ _ _ _ _ (record { of_layers = omega arith; of_classes = omega (arith, e); of_nets = omega arith }) d.commands all

with_net : (d : Draft) (w : List ℕ) → AreKnown d → AllByRecursion (IsCommandAmong (length d.layers) (length d.classes) (length (d.net_names ++ w ∷ []))) d.commands
with_net d w all =
    let e = length_push d.net_names w in
    all_among_more _ _ _ _ _ _ (record { of_layers = omega arith; of_classes = omega arith; of_nets = omega (arith, e) }) d.commands all

-- one more command that names what the lines so far gave
with_one : (d : Draft) (c : Command) → AreKnown d → IsCommandAmong (length d.layers) (length d.classes) (length d.net_names) c → AreKnown (with_command d (Some c))
with_one d c all one = one_more (length d.layers) (length d.classes) (length d.net_names) d.commands c all one

-- a known word names a net that a line gave
known_net : (d : Draft) (w : List ℕ) → fails d UnknownName (KnownName sort.Net) w ≡ false → (net_of d w).0 < length d.net_names
known_net d w e = number-in-range d.net_names w (is-known d sort.Net w e)

with_form : (d : Draft) (f : Form) (ws : List (List ℕ)) → BreaksNone d f ws → AreKnown d → AreKnown (after_form d f ws)
unfolding after_form
with_form d form.Board ws h all = all
with_form d form.Layer ws h all = with_layer d (word ws 1) all
with_form d form.Class ws h all = with_class d (word ws 1) all
with_form d form.Rule ws h all = all
with_form d form.Clear ws h all = all
with_form d form.ViaKind ws h all = all
with_form d form.Pad ws h all = all
with_form d form.Inner ws h all = all
with_form d form.Block ws h all = all
with_form d form.Keepout ws h all = all
with_form d form.Net ws h all = with_net d (word ws 1) all
with_form d form.Pin ws h all = all
with_form d form.End ws h all = all
with_form d form.Route ws h all = with_one d (Route (net_of d (word ws 1))) all (known_net d (word ws 1) (each-place d form.Route ws UnknownName h.known).0)
with_form d form.All ws h all = with_one d command.All all tt
with_form d form.Rip ws h all = with_one d (Rip (net_of d (word ws 1))) all (known_net d (word ws 1) (each-place d form.Rip ws UnknownName h.known).0)
with_form d form.Show ws h all = with_one d (Show (net_of d (word ws 1))) all (known_net d (word ws 1) (each-place d form.Show ws UnknownName h.known).0)
with_form d form.Rules ws h all = with_one d Rules all tt
with_form d form.Strips ws h all =
    let u = each-place d form.Strips ws UnknownName h.known in
    with_one d _ all (number-in-range d.layers (word ws 1) (is-known d sort.Layer (word ws 1) u.0), number-in-range d.classes (word ws 2) (is-known d sort.Class (word ws 2) u.1.0))

with_words : (d : Draft) (line : List ℕ) (ws : List (List ℕ)) (o : Option Form) → kind_with d line ws ≡ None → form_of (word ws 0) ≡ o → AreKnown d → AreKnown (after_words d o ws)
with_words d line ws None kind is all = all
with_words d line ws (Some f) kind is all = with_form d f ws (passes d line ws f kind is).1 all

unless-ok : (o : Option RefusalKind) (d e : Draft) → unless o d ≡ Ok e → (o ≡ None) × (d ≡ e)
unless-ok None d e same = (refl, cc)
unless-ok (Some kind) d e same = absurd cc

of_step : (d e : Draft) (line : List ℕ) → step d line ≡ Ok e → AreKnown d → AreKnown e
unfolding step kind_of_line
of_step d e line same all = chosen (counts line) same
  where
    chosen : (b : Bool) → cond b (unless (kind_of_line d line) (after_line d line)) (Ok d) ≡ Ok e → AreKnown e
    chosen true s =
        let ok = unless-ok (kind_of_line d line) (after_line d line) e s in
        subst AreKnown ok.1 (with_words d line (words line) (form_of (word (words line) 0)) ok.0 refl all)
    chosen false s = let eq : d ≡ e = cc in subst AreKnown eq all

goes_on-ok : (r : Result Draft RefusalKind) (n : ℕ) (rest : Draft → Result Told Refusal) (t : Told) → goes_on r n rest ≡ Ok t → (e : Draft) × (r ≡ Ok e) × (rest e ≡ Ok t)
goes_on-ok (Ok d) n rest t same = (d, refl, same)
goes_on-ok (Err kind) n rest t same = absurd cc

of_end : (d : Draft) (refusal : Refusal) (t : Told) (b : Bool) → cond b (Ok (told d)) (Err refusal) ≡ Ok t → AreKnown d → AllByRecursion (IsCommandOf t.parts) t.commands
unfolding parts_of
of_end d refusal t true same all =
    let eq : told d ≡ t = cc in
    let P : Told → Type 0 = λ x. AllByRecursion (IsCommandOf x.parts) x.commands in
    subst P eq all
of_end d refusal t false same all = absurd cc

of_lines : (d : Draft) (n : ℕ) (ls : List (List ℕ)) (t : Told) → reading_from d n ls ≡ Ok t → AreKnown d → AllByRecursion (IsCommandOf t.parts) t.commands
unfolding reading_from
of_lines d n [] t same all = of_end d (record { line = n; kind = NoEnd }) t (is_stage d.stage Commands) same all
of_lines d n (line ∷ rest) t same all =
    let went = goes_on-ok (step d line) n (λ e. reading_from e (n + 1) rest) t same in
    of_lines went.0 (n + 1) rest t went.2 (of_step d went.0 line went.1 all)

-- each command of a reading names what is in its board
commands_are_known : (text : List ℕ) (t : Told) → reading text ≡ Ok t → All (IsCommandOf t.parts) t.commands
unfolding reading
commands_are_known text t same = All-from_recursion (IsCommandOf t.parts) t.commands (of_lines no_draft 1 (lines text) t same tt)

-- so do those of an answer that is the reading
pub commands_of_reading : (text : List ℕ) (r : Result Input ReadInput) → TellsReading r (reading text) → IfOk r (λ i. All (IsCommandOf i.board.parts) i.commands)
commands_of_reading text (Ok i) same = commands_are_known text (told_by i) same
commands_of_reading text (Err (Refused refusal)) same = tt
commands_of_reading text (Err NoMemory) same = tt
