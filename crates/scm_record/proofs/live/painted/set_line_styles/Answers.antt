use Rattle.std.proofs.Common.{Option, ◌∙◌, ap, sym, arith}
use Rattle.scm_terminal.proofs.ShowingLemmas.{by-place}
use Rattle.scm_widgets.specs.declared.ids.ComponentId.{ComponentId}
use Rattle.scm_view_state.specs.Styles.{style_of}
use Rattle.scm_record.proofs.PaintedLemmas.{before-box, in-box, behind-box}
use Rattle.scm_record.proofs.live.painted.set_line_styles.Goals as goal

pub returns-clause-styles : goal.returns-clause-styles
returns-clause-styles c = λ k h.
    let first = c.min-first.result in
    let after = c.min-after.result in
    let few = c.min-first.ensures in
    let more = c.min-after.ensures in
    let style = λ (o : Option ComponentId). style_of c.args.view_state.now c.args.row o in
    let line = c.new-line.ensures ∙ c.style.ensures in
    let checkbox = c.new-checkbox.ensures ∙ c.style-2.ensures in
    by-place k first
    (λ low. c.fill_run-3.ensures.before k (omega arith) ∙ c.fill_run-2.ensures.before k low ∙ c.fill_run.ensures.within k (omega arith) low
    ∙ line ∙ ap style (sym (before-box c.args.key k (omega arith))))
    (λ high. by-place k after
    (λ low. c.fill_run-3.ensures.before k low ∙ c.fill_run-2.ensures.within k high low
    ∙ checkbox ∙ ap style (sym (in-box c.args.key k (omega arith) (omega arith))))
    (λ high'. c.fill_run-3.ensures.within k high' h
    ∙ line ∙ ap style (sym (behind-box c.args.key k (omega arith)))))
