use Rattle.std.proofs.Common.{refl}
use Rattle.scm_document.specs.Rows.{shown_file}
use Rattle.scm_document.proofs.file_view.FileView.header.Goals as goal

pub returns-clause-heading : goal.returns-clause-heading
unfolding shown_file
returns-clause-heading c = rw (c.copied.ensures, c.copied-2.ensures) refl
