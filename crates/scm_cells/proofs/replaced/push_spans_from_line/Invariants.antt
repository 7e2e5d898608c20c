use Rattle.std.proofs.Common.{◌≡◌, ◌+◌, ◌++◌, ◌≤◌, length, vec_len, vec_capacity}
use denote.Shadow.{shadow}
use denote.Text.{Utf8}
use Rattle.scm_cells.specs.Replaced.{line_pieces}
use Rattle.scm_cells.specs.Spans.{span_texts}
use Rattle.scm_cells.proofs.replaced.push_spans_from_line.Given as goal

abbrev pub invariant-cuts : goal.invariant-cuts
invariant-cuts l = record {
  utf8 : shadow (Utf8 l.line);
  texts : span_texts l.spans.items ++ line_pieces l.line ≡ span_texts l.initial.spans.items ++ line_pieces l.fn.line;
  room : vec_len l.spans + length (line_pieces l.line) ≤ vec_capacity l.spans;
}

abbrev pub decreases-cuts : goal.decreases-cuts
decreases-cuts l = length l.line
