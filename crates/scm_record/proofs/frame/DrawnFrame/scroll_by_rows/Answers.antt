use Rattle.std.proofs.Common.{ℕ, ◌∙◌, ap, length}
use Rattle.std.specs.Prelude.{Option, min}
use Rattle.scm_types.specs.Limits.{max_scroll}
use Rattle.scm_record.specs.FrameQueries.{free_rows_above, scroll_to_span}
use Rattle.scm_record.proofs.QuietLemmas.{plain-scroll}
use Rattle.scm_record.proofs.frame.DrawnFrame.scroll_by_rows.Goals as goal

pub returns : goal.returns
returns c = λ kind s sized plain rows.
    let drawn = c.args.self.now.grid in
    let key = c.args.key in
    c.scroll_to_span.ensures
    ∙ ap (λ (n : ℕ). min max_scroll (scroll_to_span n c.args.scroll (free_rows_above key) c.span_of_key.result)) c.height.ensures.value
    ∙ ap (λ (o : Option (ℕ × ℕ)). min max_scroll (scroll_to_span (length drawn.rows) c.args.scroll (free_rows_above key) o)) (c.span_of_key.ensures s.shown rows)
    ∙ plain-scroll kind s drawn.width (length drawn.rows) c.args.scroll key sized.width sized.height plain
