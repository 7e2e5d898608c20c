use Rattle.std.proofs.Common.{arith}
use Rattle.scm_document.proofs.WidthLemmas.{width-section}
use Rattle.scm_document.proofs.widths.section_width.Goals as goal

pub returns : goal.returns
returns c =
    let whole = width-section c.args.number c.args.total in
    omega (arith, whole, c.decimal_width.ensures.value, c.decimal_width-2.ensures.value)
