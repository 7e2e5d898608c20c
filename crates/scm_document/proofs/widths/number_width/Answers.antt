use Rattle.std.proofs.Common.{arith}
use Rattle.scm_document.proofs.WidthLemmas.{width-number}
use Rattle.scm_document.proofs.widths.number_width.Goals as goal

pub returns : goal.returns
returns c =
    let whole = width-number c.args.number in
    omega (arith, whole, c.max.ensures, c.decimal_width.ensures.value)
