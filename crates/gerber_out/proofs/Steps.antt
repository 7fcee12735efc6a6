-- The lines so far, as far as each may stand, and one more.
use Rattle.std.proofs.Common.{◌≡◌, ℕ, ◌+◌, Bool, true, false, List, [], ◌∷◌, ◌++◌, Result, Ok, Err, refl, sym, ap, ◌∙◌, subst, arith, append_assoc, length-append}
use Rattle.std.proofs.lemmas.Bool.{false≢true}
use Rattle.geo_rect.specs.declared.memory.NoMemory.{NoMemory}
use Rattle.gerber_out.specs.Lines.{lines}
use Rattle.gerber_out.specs.Machine.{no_lines, Leads}
use Rattle.gerber_out.specs.Reading.{IsNext, Reads, IsPassed, TellsLine, TellsStep}
use Rattle.gerber_out.specs.Spelling.{IsSpelled}
use Rattle.gerber_out.specs.declared.machine.Machine.{Machine}
use Rattle.gerber_out.specs.declared.spelling.Line.{Line}
use Rattle.gerber_out.proofs.Draws.{same_line}

-- what is said of a line holds of its bytes
pub line_told : (line : Line) (bytes : List ℕ) (old new : Machine) (r : Result Bool NoMemory) → IsSpelled line bytes → TellsStep line old new r → TellsLine bytes old new r
line_told line bytes old new (Ok true) s h = record { line = line; spelled = s; leads = h }
line_told line bytes old new (Ok false) s h = λ other n. h other (subst (λ (l : Line). Leads l old other) (same_line n.line line bytes n.spelled s) n.leads)
line_told line bytes old new (Err e) s h = tt

pub line_stands : (bytes : List ℕ) (old new : Machine) (b : Bool) → b ≡ true → TellsLine bytes old new (Ok b) → IsNext bytes old new
line_stands bytes old new true e h = h
line_stands bytes old new false e h = absurd (false≢true e)

-- the lines so far, and one more
reads_more : (ls : List (List ℕ)) (l : List ℕ) (old mid new : Machine) → Reads ls old mid → IsNext l mid new → Reads (ls ++ l ∷ []) old new
reads_more [] l old mid new r n = (new, subst (λ (m : Machine). IsNext l m new) (sym r) n, refl)
reads_more (k ∷ ls) l old mid new r n = (r.0, r.1, reads_more ls l r.0 mid new r.2 n)

pub passed_more : (bytes rest line after : List ℕ) (n : ℕ) (here new : Machine) → IsPassed bytes rest n here → lines rest ≡ line ∷ lines after
    → IsNext line here new → IsPassed bytes after (n + 1) new
passed_more bytes rest line after n here new h cut next = record {
  before = h.before ++ line ∷ [];
  cut = h.cut ∙ ap (λ (ls : List (List ℕ)). h.before ++ ls) cut ∙ sym (append_assoc h.before (line ∷ []) (lines after));
  number = omega (arith, h.number, length-append h.before (line ∷ []));
  reads = reads_more h.before line no_lines here new h.reads next;
}
