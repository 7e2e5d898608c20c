use Rattle.std.proofs.Common.{◌≡◌, ◌+◌, ◌*◌, ◌≤◌, length}
use denote.Shadow.{shadow}
use denote.Text.{Utf8}
use Rattle.scm_cells.specs.Replaced.{line_pieces}
use Rattle.scm_cells.proofs.replaced.count_pieces.Given as goal

abbrev pub invariant-cuts : goal.invariant-cuts
invariant-cuts l = record {
  utf8 : shadow (Utf8 l.line);
  count : l.count + length (line_pieces l.line) ≡ length (line_pieces l.fn.line);
  room : l.count + 2 * length l.line ≤ 2 * length l.fn.line;
}

abbrev pub decreases-cuts : goal.decreases-cuts
decreases-cuts l = length l.line
