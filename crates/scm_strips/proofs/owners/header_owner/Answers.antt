use Rattle.std.proofs.Common.{FitsSigned, w64}
use Rattle.std.proofs.lemmas.Int.{to_z-of_z}
use Rattle.scm_cells.specs.Clusters.{text_width}
use Rattle.scm_document.specs.Rows.{lent_text}
use Rattle.scm_document.specs.Texts.{path_text}
use Rattle.scm_strips.proofs.OwnerLemmas.{header-split}
use Rattle.scm_strips.proofs.owners.header_owner.Goals as goal

pub returns : goal.returns
returns c =
    let fits : FitsSigned w64 c.args.column = c.ranges.column in
    header-split c.args.width c.args.key c.args.boxes.0 c.args.boxes.1 (text_width (path_text (lent_text c.args.old_path) c.args.path.now)) c.args.column
    c.heading_owner-part.result c.header_id-header.result c.first_of_two.result c.is_of_header.result
    (simp to_z-of_z at c.heading_owner-part.ensures) (simp to_z-of_z at c.is_of_header.ensures) c.header_id-header.ensures c.first_of_two.ensures
