use Rattle.std.proofs.Common.{arith}
use Rattle.scm_cells.specs.Replaced.{line_pieces}
use Rattle.scm_document.specs.Texts.{sign_text}
use Rattle.scm_strips.proofs.TextLemmas.{width-cons, width-sign}
use Rattle.scm_strips.proofs.widths.changed_width.Goals as goal

pub returns : goal.returns
returns c =
    omega (
      arith,
      c.pieces_width.ensures,
      c.saturating_add.ensures,
      width-cons (sign_text c.args.change_type) (line_pieces c.args.line.now),
      width-sign c.args.change_type,
    )
