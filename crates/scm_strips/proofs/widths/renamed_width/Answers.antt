use Rattle.std.proofs.Common.{arith}
use Rattle.scm_document.proofs.WidthLemmas.{width-path}
use Rattle.scm_strips.proofs.widths.renamed_width.Goals as goal

pub returns : goal.returns
returns c =
    let whole = width-path c.args.old_path.now c.args.path.now c.utf8.old_path c.utf8.path in
    omega (arith, whole, c.text_width.ensures.value, c.text_width-2.ensures.value, c.saturating_add.ensures, c.saturating_add-2.ensures)
