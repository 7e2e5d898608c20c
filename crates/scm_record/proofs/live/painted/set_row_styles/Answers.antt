use Rattle.std.proofs.Common.{◌≡◌, ℕ, ◌+◌, Option, Some, ◌∙◌, ap, sym, arith}
use Rattle.std.proofs.lemmas.List.FromFn.{fill_by_all}
use Rattle.scm_terminal.specs.Style.{plain_style}
use Rattle.scm_types.specs.declared.keys.LineKey.{LineKey}
use Rattle.scm_widgets.specs.declared.ids.ComponentId.{ComponentId}
use Rattle.scm_document.specs.PieceOwners.{line_owner}
use Rattle.scm_view_state.specs.Styles.{style_of}
use Rattle.scm_record.specs.FrameQueries.{hit}
use Rattle.scm_record.specs.Painted.{style_in}
use Rattle.scm_record.proofs.FrameLemmas.{first-below}
use Rattle.scm_record.proofs.live.painted.set_row_styles.Goals as goal

pub returns-in-Some : goal.returns-in-Some
returns-in-Some c = λ scene shown.
    let filled = c.set_line_styles.ensures in
    let lines = c.in-Some.lines in
    let row : c.args.row + 0 ≡ c.args.row = omega arith in
    let some = rw c.in-Some.is at c.lines_among.ensures.some in
    fill_by_all (style_in scene c.args.view_state.now c.args.scroll c.args.row) c.set_line_styles.new.styles _ plain_style filled.length
    (λ k h.
    let first : hit scene c.args.scroll (c.args.row + 0) k ≡ Some (line_owner lines.first k) =
    c.lines_among.ensures.hits scene shown lines c.in-Some.is 0 (omega arith) k h ∙ ap (λ (l : LineKey). Some (line_owner l k)) (first-below lines.first) in
    let here : hit scene c.args.scroll c.args.row k ≡ Some (line_owner lines.first k) = sym (ap (λ (n : ℕ). hit scene c.args.scroll n k) row) ∙ first in
    filled.styles k h
    ∙ ap (λ (o : Option ComponentId). style_of c.args.view_state.now c.args.row o) (sym here))
