-- The columns of texts that are written out. Printable ASCII has as many as bytes: `text_width-printable`, whose second argument is then `refl`.
use Rattle.std.proofs.Common.{◌≡◌, refl}
use Rattle.std.specs.Prelude.{codes}
use Rattle.unicode_segmentation.proofs.Computing.{unicode_segmentation}
use Rattle.unicode_width.proofs.Computing.{unicode_width}
use Rattle.scm_cells.specs.Clusters.{text_width, clusters, visible_clusters, with_width, visible_width, has_control}
use Rattle.scm_cells.specs.Row.{ellipsis}
use Rattle.scm_cells.proofs.PrintableLemmas.{text_width-printable}

pub width-ellipsis : text_width ellipsis ≡ 1
unfolding text_width clusters visible_clusters with_width visible_width has_control unicode_segmentation unicode_width
width-ellipsis = refl

pub width-edit_message : text_width (codes "[Edit message]") ≡ 14
width-edit_message = text_width-printable (codes "[Edit message]") refl
