use Rattle.scm_front_paint.specs.Syntax.{line_runs}
use Rattle.scm_front_paint.proofs.SyntaxKeyLemmas.{found-with}
use Rattle.scm_front_paint.proofs.syntax_lines.SyntaxLines.set.Goals as goal

pub returns-clause-ok : goal.returns-clause-ok
returns-clause-ok c = λ other.
    found-with c.args.key other c.in_ok-line.line (line_runs c.args.text.now c.args.spans.now) c.self.inside.map.entries c.args.self.now
    c.insert.new.self.entries c.in_ok-line.ensures.ok c.self.view_is (c.in_ok-insert.ensures.updates.0 other)
