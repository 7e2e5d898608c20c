use Rattle.std.proofs.Common.{◌∙◌, ap}
use Rattle.scm_layout.specs.declared.file_rows.FileRows.{FileRows}
use Rattle.scm_screen.proofs.FoundLemmas.{header-shown}
use Rattle.scm_screen.proofs.document_rows.header_row.Goals as goal

pub returns : goal.returns
returns c =
    c.shown_header.ensures.view c.requires.counts (ap (λ (r : FileRows). r.folded) c.requires.rows)
    ∙ header-shown c.args.shown.now c.args.found.key c.args.found.file.now
