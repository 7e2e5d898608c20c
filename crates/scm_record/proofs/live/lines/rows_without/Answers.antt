use Rattle.std.proofs.Common.{Option, ap}
use Rattle.scm_widgets.specs.declared.ids.ComponentId.{ComponentId}
use Rattle.scm_record.specs.ShownLines.{line_of}
use Rattle.scm_record.proofs.live.lines.rows_without.Goals as goal

pub returns-then-bare-gt0-clause-lines : goal.returns-then-bare-gt0-clause-lines
returns-then-bare-gt0-clause-lines c = λ scene shown n below.
    ap (λ (o : Option ComponentId). line_of o) (c.bare_rows-bare.ensures scene shown n below 8)
