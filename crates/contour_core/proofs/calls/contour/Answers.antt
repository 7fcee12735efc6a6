use Rattle.std.proofs.Common.{◌≡◌, ◌⊎◌, map, string_bytes, subst, sym}
use Rattle.contour_core.specs.declared.endings.Status.{Status}
use Rattle.contour_core.specs.declared.endings.Status.TheVariants.{BadInput, Done, NoMemory, Wrong}
use Rattle.contour_core.proofs.Deciding.{completed-by, done-refused, refused-by}
use Rattle.contour_core.proofs.calls.contour.Goals as goal

pub returns-in-Ok-clause-refuses : goal.returns-in-Ok-clause-refuses
returns-in-Ok-clause-refuses g c = λ refused sound.
    let source = g.S.Source in
    let sink = g.K.Sink in
    absurd (done-refused (map string_bytes c.args.words.now) (source.left c.args.source.now) (sink.written c.args.out.now) (sink.written c.attempt.new.out) c.in-Ok.ensures.done refused)

pub returns-in-Err-clause-refuses : goal.returns-in-Err-clause-refuses
returns-in-Err-clause-refuses g c = λ refused sound.
    let source = g.S.Source in
    let sink = g.K.Sink in
    let P : Status → Type 0 = λ s. (s ≡ BadInput) ⊎ (s ≡ NoMemory) in
    subst P (sym c.status.ensures) (refused-by (map string_bytes c.args.words.now) (source.left c.args.source.now) (source.faults c.args.source.now) (source.faults c.attempt.new.source)
    (sink.written c.args.out.now) (sink.written c.attempt.new.out) (sink.faults c.args.out.now) (sink.faults c.attempt.new.out) c.in-Err.ending c.in-Err.ensures.err refused sound)

pub returns-in-Err-clause-complete : goal.returns-in-Err-clause-complete
returns-in-Err-clause-complete g c = λ accepted sound whole.
    let source = g.S.Source in
    let sink = g.K.Sink in
    let P : Status → Type 0 = λ s. (s ≡ Done) ⊎ ((s ≡ Wrong) ⊎ (s ≡ NoMemory)) in
    subst P (sym c.status.ensures) (completed-by (map string_bytes c.args.words.now) (source.left c.args.source.now) (source.faults c.args.source.now) (source.faults c.attempt.new.source)
    (sink.written c.args.out.now) (sink.written c.attempt.new.out) (sink.faults c.args.out.now) (sink.faults c.attempt.new.out) c.in-Err.ending c.in-Err.ensures.err accepted sound whole)
