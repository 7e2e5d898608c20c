use Rattle.std.proofs.Common.{rules}
use Rattle.scm_terminal.specs.Sent.{stays_on_row}
use Rattle.scm_terminal.proofs.sent.Sent.new.Goals as goal

pub returns-in-Letter-clause-cell : goal.returns-in-Letter-clause-cell
unfolding stays_on_row
returns-in-Letter-clause-cell c = search rules

pub returns-in-Letter-clause-blank : goal.returns-in-Letter-clause-blank
unfolding stays_on_row
returns-in-Letter-clause-blank c = search rules
