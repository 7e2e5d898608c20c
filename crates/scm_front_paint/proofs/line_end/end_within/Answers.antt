use Rattle.std.proofs.Common.{◌∙◌, inr, string_bytes, subst, ◌≤◌, ℕ, ap, arith}
use Rattle.scm_cells.specs.Clusters.{text_width}
use Rattle.scm_front_paint.proofs.LineEndLemmas.{shown-end}
use Rattle.scm_front_paint.proofs.line_end.end_within.Goals as goal

pub returns-then-columns-text_width-clause-ok : goal.returns-then-columns-text_width-clause-ok
returns-then-columns-text_width-clause-ok c =
    let wide = subst (λ (n : ℕ). c.args.columns ≤ n) (c.text_width.ensures.value ∙ ap text_width c.as_str.ensures.value) c.if-columns-text_width.true in
    inr (shown-end c.args.columns c.in-Some.end.now c.args.line.now (string_bytes c.in_ok-shown.shown) c.utf8.line c.in-Some.ensures (omega arith) c.in_ok-shown.ensures.ok wide)
