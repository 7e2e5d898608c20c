use Rattle.std.proofs.Common.{ap, ◌∙◌}
use Rattle.std.specs.Ordering.{is_eq}
use Rattle.scm_types.specs.declared.keys.LineKey.{LineKey}
use Rattle.scm_front_paint.specs.Syntax.{Lines, is_line, line_with}
use Rattle.scm_front_paint.specs.SyntaxKeys.{line_order}
use Rattle.scm_front_paint.proofs.SyntaxKeyLemmas.{equal-keys, lookup-same}
use Rattle.scm_front_paint.proofs.syntax_lines.SyntaxLines.get.Goals as goal

pub returns : goal.returns
returns c =
    c.get.ensures.value
    ∙ lookup-same (λ (k : LineKey). is_eq (line_order c.args.key k)) (is_line c.args.key) c.self.inside.map.entries (equal-keys c.args.key)
    ∙ ap (λ (lines : Lines). line_with lines c.args.key) c.self.view_is
