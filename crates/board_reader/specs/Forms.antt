-- The forms of lines: what their first word is, what stands in the places of the others, and where they stand.
use Rattle.std.specs.Prelude.{ℕ, Bool, true, false, List, [], ◌∷◌, Option, codes, find}
use Rattle.std.specs.Str.{bytes_eq}
use Rattle.board_reader.specs.declared.forms.Form.{Form}
use Rattle.board_reader.specs.declared.forms.Form.TheVariants as form
use Rattle.board_reader.specs.declared.forms.Place.{Place}
use Rattle.board_reader.specs.declared.forms.Place.TheVariants.{Title, NewName, KnownName, Number, Across, Up, KeptOut}
use Rattle.board_reader.specs.declared.forms.Sort.TheVariants as sort
use Rattle.board_reader.specs.declared.forms.Stage.{Stage}
use Rattle.board_reader.specs.declared.forms.Stage.TheVariants.{Start, Parts, Commands}

-- the first word of a form
abbrev pub spelling : Form → List ℕ
spelling form.Board = codes "board"
spelling form.Layer = codes "layer"
spelling form.Class = codes "class"
spelling form.Rule = codes "rule"
spelling form.Clear = codes "clear"
spelling form.ViaKind = codes "viakind"
spelling form.Pad = codes "pad"
spelling form.Inner = codes "inner"
spelling form.Block = codes "block"
spelling form.Keepout = codes "keepout"
spelling form.Net = codes "net"
spelling form.Pin = codes "pin"
spelling form.End = codes "end"
spelling form.Route = codes "route"
spelling form.All = codes "all"
spelling form.Rip = codes "rip"
spelling form.Show = codes "show"
spelling form.Rules = codes "rules"
spelling form.Strips = codes "strips"

abbrev pub all_forms : List Form
all_forms = form.Board ∷ form.Layer ∷ form.Class ∷ form.Rule ∷ form.Clear ∷ form.ViaKind ∷ form.Pad ∷ form.Inner ∷ form.Block ∷ form.Keepout ∷ form.Net ∷ form.Pin ∷ form.End ∷ form.Route ∷ form.All ∷ form.Rip ∷ form.Show ∷ form.Rules ∷ form.Strips ∷ []

-- the form that a first word names
unfoldable pub form_of : List ℕ → Option Form
form_of w = find (λ f. bytes_eq (spelling f) w) all_forms

-- a half width or a gap
abbrev pub measure : Place
measure = Number 1 65535

-- what stands in the places of the words after the first
abbrev pub places : Form → List Place
places form.Board = Number 1 2 ∷ Title ∷ Number 1 8388608 ∷ Number 1 8388608 ∷ []
places form.Layer = NewName sort.Layer ∷ []
places form.Class = NewName sort.Class ∷ []
places form.Rule = KnownName sort.Layer ∷ KnownName sort.Class ∷ measure ∷ measure ∷ []
places form.Clear = KnownName sort.Layer ∷ KnownName sort.Class ∷ KnownName sort.Class ∷ measure ∷ []
places form.ViaKind = NewName sort.Kind ∷ KnownName sort.Layer ∷ KnownName sort.Layer ∷ Number 0 65535 ∷ []
places form.Pad = KnownName sort.Kind ∷ KnownName sort.Class ∷ measure ∷ []
places form.Inner = KnownName sort.Kind ∷ KnownName sort.Class ∷ measure ∷ []
places form.Block = KnownName sort.Layer ∷ Across ∷ Up ∷ Across ∷ Up ∷ []
places form.Keepout = KeptOut ∷ KnownName sort.Layer ∷ Across ∷ Up ∷ Across ∷ Up ∷ []
places form.Net = NewName sort.Net ∷ KnownName sort.Class ∷ []
places form.Pin = KnownName sort.Net ∷ Across ∷ Up ∷ Across ∷ Up ∷ KnownName sort.Layer ∷ KnownName sort.Layer ∷ []
places form.End = []
places form.Route = KnownName sort.Net ∷ []
places form.All = []
places form.Rip = KnownName sort.Net ∷ []
places form.Show = KnownName sort.Net ∷ []
places form.Rules = []
places form.Strips = KnownName sort.Layer ∷ KnownName sort.Class ∷ []

-- the part of the text in which a form stands
abbrev pub stage_of : Form → Stage
stage_of form.Board = Start
stage_of form.Layer = Parts
stage_of form.Class = Parts
stage_of form.Rule = Parts
stage_of form.Clear = Parts
stage_of form.ViaKind = Parts
stage_of form.Pad = Parts
stage_of form.Inner = Parts
stage_of form.Block = Parts
stage_of form.Keepout = Parts
stage_of form.Net = Parts
stage_of form.Pin = Parts
stage_of form.End = Parts
stage_of form.Route = Commands
stage_of form.All = Commands
stage_of form.Rip = Commands
stage_of form.Show = Commands
stage_of form.Rules = Commands
stage_of form.Strips = Commands

-- whether the two are one part of the text
abbrev pub is_stage : Stage → Stage → Bool
is_stage Start Start = true
is_stage Start Parts = false
is_stage Start Commands = false
is_stage Parts Start = false
is_stage Parts Parts = true
is_stage Parts Commands = false
is_stage Commands Start = false
is_stage Commands Parts = false
is_stage Commands Commands = true
