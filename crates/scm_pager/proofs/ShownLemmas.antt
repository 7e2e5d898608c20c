-- Texts of spans.
use Rattle.std.proofs.Common.{◌≡◌, ℕ, ◌+◌, ◌<◌, List, ◌++◌, length, drop, get_or, sym, ap, ◌∙◌, append_assoc}
use Rattle.std.specs.List.{concat}
use Rattle.std.proofs.lemmas.List.{drop_more}
use Rattle.scm_cells.specs.declared.text.Span.{Span}
use Rattle.scm_cells.specs.Spans.{span_texts}

-- a span more
pub spans-next : (shown new all : List ℕ) (spans : List Span) (i : ℕ) (d : Span) → i < length spans → new ≡ shown ++ (get_or spans i d).0.now
    → shown ++ concat (span_texts (drop i spans)) ≡ all → new ++ concat (span_texts (drop (i + 1) spans)) ≡ all
spans-next shown new all spans i d h e inv =
    ap (λ (x : List ℕ). x ++ concat (span_texts (drop (i + 1) spans))) e
    ∙ append_assoc shown (get_or spans i d).0.now (concat (span_texts (drop (i + 1) spans)))
    ∙ sym (ap (λ (l : List Span). shown ++ concat (span_texts l)) (drop_more spans i d h)) ∙ inv
