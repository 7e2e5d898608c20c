use Rattle.std.proofs.Common.{[], ◌∙◌, ap, get_or, length, map, arith}
use Rattle.scm_record.specs.Painted.{style_at}
use Rattle.scm_front_paint.specs.Range.{has_row, underlined_if}
use Rattle.scm_front_paint.specs.SyntaxRows.{runs_on}
use Rattle.scm_front_paint.specs.Themes.{themed}
use Rattle.scm_front_paint.specs.Words.{with_words}
use Rattle.scm_front_paint.specs.WordsView.{columns_in}
use Rattle.scm_front_paint.proofs.ShownLemmas.{restyled}
use Rattle.scm_front_paint.proofs.shown.ShownStyles.row_styles.Goals as goal

pub returns : goal.returns
returns c =
    let shown = c.args.self.now in
    let runs = c.style_runs.ensures in
    let words = c.set_off_words.ensures in
    let theme = c.put_in_theme.ensures in
    let range = c.underline_if.ensures in
    let runs_long = runs.length in
    let words_long = words.length in
    let range_long = range.length in
    let theme_long = theme.length in
    restyled shown.theme c.runs_on.result.now (runs_on shown.syntax.now shown.session.now c.args.row) c.columns_on.result.now
    (get_or (map columns_in shown.words.now) c.args.row []) c.has_row.result
    (has_row shown.session.now shown.anchor c.args.row) (style_at shown.session.now c.args.row)
    (length c.args.styles.now) c.row_styles.new.styles c.put_in_theme.new.styles c.runs_on.ensures c.columns_on.ensures c.has_row.ensures c.row_styles.ensures (omega arith)
    (λ k h.
    theme.each k (omega arith)
    ∙ ap (themed shown.theme)
    (range.each k (omega arith) ∙ ap (underlined_if c.has_row.result) (words.each k (omega arith) ∙ ap (with_words c.columns_on.result.now k) (runs.each k h))))
