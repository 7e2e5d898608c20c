use Rattle.std.proofs.Common.{ap, subst, arith}
use Rattle.scm_layout.specs.declared.state_rows.StateRows.{StateRows}
use Rattle.scm_layout_index.specs.RowPieces.{RowsFit, end_of_files}
use Rattle.scm_layout_index.proofs.OverlayLemmas.{no-owner, no-pieces}
use Rattle.scm_layout_index.proofs.layout_index.LayoutIndex.ends_above.Goals as goal

pub returns-then-end_of_files-row : goal.returns-then-end_of_files-row
returns-then-end_of_files-row c = λ is_above w h s shown is y low high x within.
    let i = c.args.self.now in
    let fit = subst (λ (rows : StateRows). RowsFit rows.files) c.layout_rows.ensures.rows c.layout_rows.ensures.fit in
    let same = ap (λ (rows : StateRows). end_of_files 0 rows.files) c.layout_rows.ensures.rows in
    let end = c.end_of_files.ensures in
    no-owner w h s shown i y x is (c.are_above.ensures is_above y low high) (no-pieces y i.selection i.pinned i.rows.files fit (omega (arith, same, end))) within
