use Rattle.std.proofs.Common.{Option, ap, arith}
use Rattle.scm_widgets.specs.declared.ids.ComponentId.{ComponentId}
use Rattle.scm_record.specs.ShownLines.{line_of}
use Rattle.scm_record.proofs.live.lines.lines_of_rows.Goals as goal

pub returns-in-Some-clause-lines : goal.returns-in-Some-clause-lines
returns-in-Some-clause-lines c = λ scene shown n below.
    ap (λ (o : Option ComponentId). line_of o) (c.lines_among.ensures.hits scene shown c.in-Some.lines c.in-Some.is n below 8 (omega arith))
