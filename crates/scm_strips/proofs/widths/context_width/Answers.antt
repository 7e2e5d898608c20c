use Rattle.std.proofs.Common.{arith}
use Rattle.scm_cells.specs.Replaced.{line_pieces}
use Rattle.scm_document.specs.Texts.{number_text}
use Rattle.scm_document.proofs.WidthLemmas.{width-number}
use Rattle.scm_strips.proofs.TextLemmas.{width-cons}
use Rattle.scm_strips.proofs.widths.context_width.Goals as goal

pub returns : goal.returns
returns c =
    omega (
      arith,
      c.max-front.ensures,
      c.decimal_width.ensures.value,
      c.pieces_width.ensures,
      c.saturating_add.ensures,
      width-cons (number_text c.args.number) (line_pieces c.args.line.now),
      width-number c.args.number,
    )
