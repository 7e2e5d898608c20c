use Rattle.std.proofs.Common.{ap, max, w64, FitsSigned}
use Rattle.std.specs.Prelude.{pos}
use Rattle.std.proofs.lemmas.Int.{to_z-of_z}
use Rattle.scm_cells.specs.Clusters.{text_width}
use Rattle.scm_document.specs.Rows.{lent_text}
use Rattle.scm_document.specs.Texts.{path_text}
use Rattle.scm_strips.specs.Parts.{end_of_texts}
use Rattle.scm_strips.proofs.OwnerLemmas.{from-fits, header-end, header-has}
use Rattle.scm_strips.proofs.owners.is_of_header.Goals as goal

pub returns : goal.returns
returns c =
    let title = text_width (path_text (lent_text c.args.old_path) c.args.path.now) in
    let fits : FitsSigned w64 c.args.column = c.ranges.column in
    let from = c.header_from.ensures title in
    let near : FitsSigned w64 c.header_from.result = from-fits c.args.width title c.header_from.result c.requires from in
    let whole = max c.max.result (end_of_texts 4 title) in
    let end = c.end_of_texts-end.ensures title c.path_width.ensures in
    let has = c.is_up_to.ensures whole end in
    header-has c.args.width title c.header_from.result (pos whole) c.args.column c.is_up_to.result
    (simp to_z-of_z at has) from (ap pos (header-end c.args.width c.max.result (end_of_texts 4 title) c.max.ensures))
