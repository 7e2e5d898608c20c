use Rattle.std.proofs.Common.{◌∙◌, Option, ap, arith}
use Rattle.std.proofs.lemmas.List.FromFn.{fill_by_all}
use Rattle.scm_terminal.specs.Style.{plain_style}
use Rattle.scm_terminal.proofs.ShowingLemmas.{by-place}
use Rattle.scm_widgets.specs.declared.ids.ComponentId.{ComponentId}
use Rattle.scm_view_state.specs.Styles.{style_of}
use Rattle.scm_record.specs.Painted.{style_in}
use Rattle.scm_record.proofs.live.painted.set_run_styles.Goals as goal

pub runs-preserved : goal.runs-preserved
runs-preserved c =
    let held = c.runs.invariant in
    let filled = c.fill_run.ensures in
    let own_long = filled.length in
    let long = held.long in
    let start = held.within in
    let past = c.run_among-run.ensures.past in
    record {
      within = omega arith;
      long = omega arith;
      shown = λ scene shown k h.
          by-place k c.runs.column
          (λ low. filled.before k low ∙ held.shown scene shown k low)
          (λ high. filled.within k high h
          ∙ c.new-style.ensures ∙ c.style.ensures
          ∙ ap (λ (o : Option ComponentId). style_of c.args.view_state.now c.args.row o) (c.run_among-run.ensures.owner scene shown k high (omega arith)));
    }

pub returns : goal.returns
returns c = λ scene shown.
    fill_by_all (style_in scene c.args.view_state.now c.args.scroll c.args.row) c.runs.styles _ plain_style c.runs.invariant.long
    (λ k h. let at = c.runs.invariant.within in let long = c.runs.invariant.long in c.runs.invariant.shown scene shown k (omega arith))
