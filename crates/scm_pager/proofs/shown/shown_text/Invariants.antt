use Rattle.std.proofs.Common.{◌≡◌, ◌++◌, drop, string_bytes}
use Rattle.std.specs.List.{concat}
use Rattle.scm_cells.specs.Spans.{span_texts}
use Rattle.scm_pager.proofs.shown.shown_text.Given as goal

-- the spans that are left
abbrev pub invariant-loop-span : goal.invariant-loop-span
invariant-loop-span l = string_bytes l.shown ++ concat (span_texts (drop l.span-index l.span-items)) ≡ concat (span_texts l.span-items)
