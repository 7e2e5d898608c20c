use Rattle.std.proofs.Common.{◌≡◌, ◌++◌, ◌-◌, drop, length, string_bytes}
use Rattle.scm_terminal.specs.Painting.{new_pen, pass_commands}
use Rattle.scm_terminal.specs.Sent.{sent_from, sent_row}
use Rattle.scm_terminal.proofs.PushLemmas.{bytes}
use Rattle.scm_terminal.proofs.row.push_pass.Given as goal

abbrev pub invariant-places : goal.invariant-places
invariant-places l =
    string_bytes l.text ++ bytes (pass_commands l.pass l.row l.column l.pen (sent_from (length l.cells) l.column l.blank (drop l.column l.cells)))
    ≡ string_bytes l.fn.text ++ bytes (pass_commands l.pass l.row 0 new_pen (sent_row l.cells))

abbrev pub decreases-places : goal.decreases-places
decreases-places l = length l.cells - l.column
