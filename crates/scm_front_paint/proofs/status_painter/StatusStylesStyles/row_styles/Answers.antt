use Rattle.std.proofs.Common.{◌∙◌, ap, sym, length, replicate}
use Rattle.scm_cells.specs.declared.style.Style.{Style}
use Rattle.scm_front_paint.proofs.BlankLemmas.{one-style}
use Rattle.scm_front_paint.proofs.status_painter.StatusStylesStyles.row_styles.Goals as goal

pub returns : goal.returns
returns c =
    c.fill.ensures ∙ ap (λ (s : Style). replicate (length c.args.styles.now) s) (c.new-style.ensures ∙ c.style.ensures)
    ∙ sym (one-style (length c.args.styles.now) _)
