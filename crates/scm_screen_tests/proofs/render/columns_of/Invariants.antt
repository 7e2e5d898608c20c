use Rattle.std.proofs.Common.{◌≡◌, ◌+◌, drop}
use Rattle.scm_cells.specs.Spans.{span_texts}
use Rattle.scm_render.specs.Drawing.{texts_width}
use Rattle.scm_screen_tests.proofs.render.columns_of.Given as goal

abbrev pub invariant-loop-span : goal.invariant-loop-span
invariant-loop-span g l = l.columns + texts_width (span_texts (drop l.span-index l.spans)) ≡ texts_width (span_texts l.spans)
