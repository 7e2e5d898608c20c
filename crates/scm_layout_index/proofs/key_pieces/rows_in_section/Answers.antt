use Rattle.std.proofs.Common.{◌∙◌, ap, sym}
use Rattle.std.specs.Prelude.{option_and_then}
use Rattle.scm_document.specs.Pieces.{section_places, some_rows}
use Rattle.scm_document.proofs.IndexLemmas.{rows-found}
use Rattle.scm_layout_index.proofs.key_pieces.rows_in_section.Goals as goal

pub returns-in_err-find : goal.returns-in_err-find
returns-in_err-find c =
    rw c.in_ok-section.was
    (c.from_residual-in_err-find.ensures ∙ sym (rows-found c.args.key (section_places c.in_ok-section.field-0) ∙ ap (option_and_then some_rows) (sym c.find.ensures ∙ c.in_err-find.was)))

pub returns : goal.returns
returns c =
    rw c.in_ok-section.was
    (c.some_rows.ensures ∙ sym (rows-found c.args.key (section_places c.in_ok-section.field-0) ∙ ap (option_and_then some_rows) (sym c.find.ensures ∙ c.in_ok-find.was)))
