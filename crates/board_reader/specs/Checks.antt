-- Which rules a line breaks, given what the lines before it say.
use Rattle.std.specs.Prelude.{ℕ, ◌+◌, ◌==◌, nat_lt, Bool, true, false, not, ◌&&◌, ◌||◌, List, [], ◌∷◌, length, Option, Some, None, is_some, find}
use Rattle.std.specs.List.{list_any}
use Rattle.board_parts.specs.declared.parts.ViaKind.{ViaKind}
use Rattle.board_parts.specs.declared.limits.TheConstants.{MAX_NAME, MAX_LAYERS, MAX_CLASSES, MAX_KINDS, MAX_NETS, MAX_PINS, MAX_BLOCKS, MAX_COMMANDS}
use Rattle.board_reader.specs.declared.drafts.Draft.{Draft}
use Rattle.board_reader.specs.declared.forms.Form.{Form}
use Rattle.board_reader.specs.declared.forms.Form.TheVariants as form
use Rattle.board_reader.specs.declared.forms.Place.{Place}
use Rattle.board_reader.specs.declared.forms.Place.TheVariants.{Title, NewName, KnownName, Number, Across, Up, KeptOut}
use Rattle.board_reader.specs.declared.forms.Sort.{Sort}
use Rattle.board_reader.specs.declared.forms.Sort.TheVariants as sort
use Rattle.board_reader.specs.declared.refusals.RefusalKind.{RefusalKind}
use Rattle.board_reader.specs.declared.refusals.RefusalKind.TheVariants.{NotAscii, BadWord, BadNumber, OutOfRange, UnknownName, TwiceNamed, WrongPlace, MissingRule, TooMany, BadRect}
use Rattle.board_reader.specs.Drafts.{layer_of, class_of, kind_of, nth_kind, says_wires, says_vias}
use Rattle.board_reader.specs.Forms.{places, stage_of, is_stage, form_of}
use Rattle.board_reader.specs.Gaps.{clear_at}
use Rattle.line_words.specs.Lines.{word, words, is_other_byte}
use Rattle.board_reader.specs.Names.{is_in}
use Rattle.line_words.specs.Numbers.{number, is_number}
use Rattle.board_reader.specs.Tables.{value_at, is_full}

-- the names of a sort that the lines before gave
abbrev pub names_of : Draft → Sort → List (List ℕ)
names_of d sort.Layer = d.layers
names_of d sort.Class = d.classes
names_of d sort.Kind = d.kind_names
names_of d sort.Net = d.net_names

-- a name has too many bytes, or what is kept out is neither wires nor vias
abbrev pub is_bad_word : Place → List ℕ → Bool
is_bad_word Title w = nat_lt MAX_NAME (length w)
is_bad_word (NewName s) w = nat_lt MAX_NAME (length w)
is_bad_word (KnownName s) w = nat_lt MAX_NAME (length w)
is_bad_word (Number from to) w = false
is_bad_word Across w = false
is_bad_word Up w = false
is_bad_word KeptOut w = not (says_wires w || says_vias w)

-- what must be a number is none
abbrev pub is_no_number : Place → List ℕ → Bool
is_no_number Title w = false
is_no_number (NewName s) w = false
is_no_number (KnownName s) w = false
is_no_number (Number from to) w = not (is_number w)
is_no_number Across w = not (is_number w)
is_no_number Up w = not (is_number w)
is_no_number KeptOut w = false

-- a name that must be known is not
abbrev pub is_unknown : Draft → Place → List ℕ → Bool
is_unknown d Title w = false
is_unknown d (NewName s) w = false
is_unknown d (KnownName s) w = not (is_in (names_of d s) w)
is_unknown d (Number from to) w = false
is_unknown d Across w = false
is_unknown d Up w = false
is_unknown d KeptOut w = false

-- a name that must be new is not
abbrev pub is_taken : Draft → Place → List ℕ → Bool
is_taken d Title w = false
is_taken d (NewName s) w = is_in (names_of d s) w
is_taken d (KnownName s) w = false
is_taken d (Number from to) w = false
is_taken d Across w = false
is_taken d Up w = false
is_taken d KeptOut w = false

-- a number is outside its range
abbrev pub is_outside : Draft → Place → List ℕ → Bool
is_outside d Title w = false
is_outside d (NewName s) w = false
is_outside d (KnownName s) w = false
is_outside d (Number from to) w = nat_lt (number w) from || nat_lt to (number w)
is_outside d Across w = nat_lt d.heading.width (number w)
is_outside d Up w = nat_lt d.heading.height (number w)
is_outside d KeptOut w = false

-- a word breaks a rule of its place, by the kind of the rule
unfoldable pub fails : Draft → RefusalKind → Place → List ℕ → Bool
fails d BadWord p w = is_bad_word p w
fails d BadNumber p w = is_no_number p w
fails d UnknownName p w = is_unknown d p w
fails d TwiceNamed p w = is_taken d p w
fails d OutOfRange p w = is_outside d p w
fails d kind p w = false

-- a word breaks a rule of its place, from a place on
abbrev pub some_fails : Draft → RefusalKind → List (List ℕ) → ℕ → List Place → Bool
some_fails d kind ws i [] = false
some_fails d kind ws i (p ∷ ps) = fails d kind p (word ws i) || some_fails d kind ws (i + 1) ps

-- the rule of the layer and class, the gap of the layer and two classes, or the pad or the inner pad of the kind and class was given
abbrev pub is_given : Draft → Form → List (List ℕ) → Bool
is_given d form.Rule ws = is_some (value_at d.rules (layer_of d (word ws 1)) (class_of d (word ws 2)))
is_given d form.Clear ws = is_some (clear_at d.clears (layer_of d (word ws 1)) (class_of d (word ws 2)) (class_of d (word ws 3)))
is_given d form.Pad ws = is_some (value_at d.pads (kind_of d (word ws 1)) (class_of d (word ws 2)))
is_given d form.Inner ws = is_some (value_at d.inners (kind_of d (word ws 1)) (class_of d (word ws 2)))
is_given d f ws = false

-- the kind joins two layers and none between them
abbrev pub has_two_layers : ViaKind → Bool
has_two_layers k = k.last.0 == k.first.0 + 1

-- the corners in this place and the three after it are not in order
abbrev pub is_crossed : List (List ℕ) → ℕ → Bool
is_crossed ws i = nat_lt (number (word ws (i + 2))) (number (word ws i)) || nat_lt (number (word ws (i + 3))) (number (word ws (i + 1)))

-- the corners are not in order, the two layers of a kind are one, or an inner pad is of a kind of two layers
abbrev pub is_bad_rect : Draft → Form → List (List ℕ) → Bool
is_bad_rect d form.Block ws = is_crossed ws 2
is_bad_rect d form.Keepout ws = is_crossed ws 3
is_bad_rect d form.Pin ws = is_crossed ws 2
is_bad_rect d form.ViaKind ws = layer_of d (word ws 2) == layer_of d (word ws 3)
is_bad_rect d form.Inner ws = has_two_layers (nth_kind d.kinds (kind_of d (word ws 1)))
is_bad_rect d f ws = false

-- with this line there are more than the limit
abbrev pub is_one_too_many : Draft → Form → Bool
is_one_too_many d form.Layer = nat_lt MAX_LAYERS (length d.layers + 1)
is_one_too_many d form.Class = nat_lt MAX_CLASSES (length d.classes + 1)
is_one_too_many d form.ViaKind = nat_lt MAX_KINDS (length d.kind_names + 1)
is_one_too_many d form.Net = nat_lt MAX_NETS (length d.net_names + 1)
is_one_too_many d form.Pin = nat_lt MAX_PINS (length d.pins + 1)
is_one_too_many d form.Block = nat_lt MAX_BLOCKS (length d.blocks + length d.keepouts + 1)
is_one_too_many d form.Keepout = nat_lt MAX_BLOCKS (length d.blocks + length d.keepouts + 1)
is_one_too_many d form.Route = nat_lt MAX_COMMANDS (length d.commands + 1)
is_one_too_many d form.All = nat_lt MAX_COMMANDS (length d.commands + 1)
is_one_too_many d form.Rip = nat_lt MAX_COMMANDS (length d.commands + 1)
is_one_too_many d form.Show = nat_lt MAX_COMMANDS (length d.commands + 1)
is_one_too_many d form.Rules = nat_lt MAX_COMMANDS (length d.commands + 1)
is_one_too_many d form.Strips = nat_lt MAX_COMMANDS (length d.commands + 1)
is_one_too_many d f = false

-- there is a layer and a class, each layer and class has a rule, and each kind and class a pad
unfoldable pub is_complete : Draft → Bool
is_complete d =
    (nat_lt 0 (length d.layers) && nat_lt 0 (length d.classes))
    && (is_full d.rules (length d.layers) (length d.classes) && is_full d.pads (length d.kind_names) (length d.classes))

-- the line is `end`, and something that a board has is missing
abbrev pub is_missing : Draft → Form → Bool
is_missing d form.End = not (is_complete d)
is_missing d f = false

-- the form is none of the text's version
abbrev pub is_too_new : Draft → Form → Bool
is_too_new d form.Clear = not (d.heading.version == 2)
is_too_new d f = false

-- a board of version 1 is greater than that version lets it be
abbrev pub is_too_great : Form → List (List ℕ) → Bool
is_too_great form.Board ws = number (word ws 1) == 1 && (nat_lt 1048576 (number (word ws 3)) || nat_lt 1048576 (number (word ws 4)))
is_too_great f ws = false

-- the line as a whole breaks a rule, by the kind of the rule
unfoldable pub fails_whole : Draft → RefusalKind → Form → List (List ℕ) → Bool
fails_whole d BadWord f ws = not (length ws == length (places f) + 1) || is_too_new d f
fails_whole d WrongPlace f ws = not (is_stage (stage_of f) d.stage)
fails_whole d TwiceNamed f ws = is_given d f ws
fails_whole d OutOfRange f ws = is_too_great f ws
fails_whole d BadRect f ws = is_bad_rect d f ws
fails_whole d TooMany f ws = is_one_too_many d f
fails_whole d MissingRule f ws = is_missing d f
fails_whole d kind f ws = false

-- a line of this form and these words breaks a rule of the kind
unfoldable pub breaks : Draft → Form → List (List ℕ) → RefusalKind → Bool
breaks d f ws kind = some_fails d kind ws 1 (places f) || fails_whole d kind f ws

-- a line that counts breaks a rule of the kind, where its words have a form or none
unfoldable pub applies : Draft → List ℕ → Option Form → List (List ℕ) → RefusalKind → Bool
applies d line o ws NotAscii = list_any is_other_byte line
applies d line (Some f) ws kind = breaks d f ws kind
applies d line None ws BadWord = true
applies d line None ws kind = false

-- the kinds that a line of a form may have, and which is told where several apply
abbrev pub form_order : List RefusalKind
form_order = BadWord ∷ WrongPlace ∷ BadNumber ∷ UnknownName ∷ TwiceNamed ∷ OutOfRange ∷ BadRect ∷ TooMany ∷ MissingRule ∷ []

-- the kinds that any line may have, in the order in which they are told
abbrev pub order : List RefusalKind
order = NotAscii ∷ form_order

-- the first kind in order of a rule that a line of these words breaks
unfoldable pub kind_with : Draft → List ℕ → List (List ℕ) → Option RefusalKind
kind_with d line ws = find (applies d line (form_of (word ws 0)) ws) order

-- the kind with which a line that counts is refused, if it is
unfoldable pub kind_of_line : Draft → List ℕ → Option RefusalKind
kind_of_line d line = kind_with d line (words line)
