use Rattle.std.proofs.Common.{◌∙◌, set, get_or, ap, arith}
use Rattle.std.proofs.lemmas.List.Edits.{fill_by_more}
use Rattle.std.proofs.lemmas.List.FromFn.{fill_by_all}
use Rattle.scm_cells.specs.declared.style.Style.{Style}
use Rattle.scm_terminal.specs.Style.{plain_style}
use Rattle.scm_terminal.proofs.style.Styles.row_styles.Goals as goal

pub loop-style-preserved : goal.loop-style-preserved
loop-style-preserved g c =
    let i = c.loop-style.style-index in
    let styles = c.loop-style.styles in
    let at = c.loop-style.invariant.column in
    let long = c.loop-style.auto.styles in
    let f = g.Self.Styles.styled c.args.self.now c.args.row in
    record {
      column = omega arith;
      shown = λ k h.
          ap (λ (x : Style). get_or (set styles i x) k plain_style) (c.new.ensures ∙ c.style.ensures ∙ ap f at)
          ∙ fill_by_more f styles i plain_style (omega arith) c.loop-style.invariant.shown k h;
    }

pub returns : goal.returns
returns g c =
    fill_by_all (g.Self.Styles.styled c.args.self.now c.args.row) c.loop-style.styles _ plain_style c.loop-style.auto.styles
    (λ k h. c.loop-style.invariant.shown k (omega arith))
