use Rattle.std.proofs.Common.{◌≡◌, ◌+◌, ◌∙◌, ap}
use Rattle.geo_rect.specs.Plane.{rect_of}
use Rattle.board_reader.specs.Corners.{span}
use Rattle.line_words.specs.Lines.{word}
use Rattle.line_words.specs.Numbers.{number}
use Rattle.board_reader.proofs.additions.area_at.Goals as goal

pub returns : goal.returns
returns c =
    let ws = c.args.words.now in
    let i = c.args.first in
    let columns : c.span.result ≡ span (number (word ws i)) (number (word ws (i + 2))) =
    c.span.ensures ∙ (ap (λ w. span (number w) (number c.get-2.result.now)) c.get.ensures ∙ ap (λ w. span (number (word ws i)) (number w)) c.get-2.ensures) in
    let rows : c.span-2.result ≡ span (number (word ws (i + 1))) (number (word ws (i + 3))) =
    c.span-2.ensures ∙ (ap (λ w. span (number w) (number c.get-4.result.now)) c.get-3.ensures ∙ ap (λ w. span (number (word ws (i + 1))) (number w)) c.get-4.ensures) in
    c.of.ensures ∙ (ap (λ r. rect_of r c.span-2.result) columns ∙ ap (rect_of (span (number (word ws i)) (number (word ws (i + 2))))) rows)
