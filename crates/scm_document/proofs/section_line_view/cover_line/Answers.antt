use Rattle.std.proofs.Common.{arith}
use Rattle.scm_widgets.proofs.CoverLemmas.{narrow, texts_cover-first}
use Rattle.scm_document.proofs.section_line_view.cover_line.Goals as goal

pub pieces_width-requires : goal.pieces_width-requires
pieces_width-requires c =
    let all = narrow _ _ _ (texts_cover-first _ _ _ _ c.requires) in
    omega (arith, all)

pub overflow_add-front : goal.overflow_add-front
overflow_add-front c =
    let all = narrow _ _ _ (texts_cover-first _ _ _ _ c.requires) in
    omega (arith, all, c.pieces_width.ensures)
