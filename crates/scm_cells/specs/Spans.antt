-- Spans of text.
use Rattle.std.specs.Prelude.{ℕ, List, map}
use Rattle.scm_cells.specs.declared.text.Span.{Span}

-- the texts of spans as bytes
abbrev pub span_texts : List Span → List (List ℕ)
span_texts spans = map (λ span. span.0.now) spans
