-- Who owns the columns of the rows of a document, by the boxes that are drawn: whom its layers name.
use Rattle.std.proofs.Common.{ℕ}
use Rattle.std.specs.Prelude.{pos}
use Rattle.scm_render.specs.Picture.{part}
use Rattle.scm_widgets.specs.declared.ids.ComponentId.TheVariants as ids
use Rattle.scm_document.specs.Rows.{Document}
use Rattle.scm_widgets.specs.Pictures.{IdPicture}
use Rattle.scm_document.specs.Pictures.{document_picture}
use Rattle.scm_document.proofs.WindowLemmas.{body_sight}

-- ---- the document below the menu bar, as the inline view draws it

-- the document with all its parts
abbrev pub document_part : Document → ℕ → ℕ → ℕ → IdPicture
document_part d w h s = part ids.AppFiles (document_picture d (body_sight w h s) (pos 0) (pos 1))
