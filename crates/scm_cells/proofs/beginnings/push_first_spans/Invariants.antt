use Rattle.std.proofs.Common.{length}
use denote.Shadow.{shadow}
use denote.Text.{Utf8}
use Rattle.scm_cells.specs.Spans.{span_texts}
use Rattle.scm_cells.proofs.BeginningLemmas.{HasPushed}
use Rattle.scm_cells.proofs.beginnings.push_first_spans.Given as goal

abbrev pub invariant-pieces : goal.invariant-pieces
invariant-pieces l = record {
  utf8 : shadow (Utf8 l.line);
  pushed : HasPushed l.columns l.left (span_texts l.initial.spans.items) (span_texts l.spans.items) l.fn.line l.line;
}

abbrev pub decreases-pieces : goal.decreases-pieces
decreases-pieces l = length l.line
