use Rattle.std.proofs.Common.{◌≡◌, ◌++◌, drop, map, string_bytes}
use Rattle.scm_terminal.specs.Painting.{painting}
use Rattle.scm_terminal.specs.RowView.{sent_line_of}
use Rattle.scm_terminal.proofs.PushLemmas.{bytes}
use Rattle.scm_terminal.proofs.painter.push_rows.Given as goal

abbrev pub invariant-loop-index : goal.invariant-loop-index
invariant-loop-index l =
    string_bytes l.text ++ bytes (painting l.index (drop l.index (map sent_line_of l.rows))) ≡ string_bytes l.fn.text ++ bytes (painting 0 (map sent_line_of l.rows))
