use Rattle.std.proofs.Common.{◌≤◌, ◌-◌, length, string_bytes}
use Rattle.scm_terminal.specs.LetterRun.{ArePushed}
use Rattle.scm_terminal.proofs.letter_run.push_letters.Given as goal

abbrev pub invariant-letters : goal.invariant-letters
invariant-letters l = record {
  low : l.from ≤ l.end;
  high : l.end ≤ length l.cells;
  pushed : ArePushed l.pass l.pen l.cells l.from (string_bytes l.fn.text) l.end (string_bytes l.text);
}

abbrev pub decreases-letters : goal.decreases-letters
decreases-letters l = length l.cells - l.end
