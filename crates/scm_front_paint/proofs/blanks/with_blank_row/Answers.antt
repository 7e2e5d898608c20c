use Rattle.std.proofs.Common.{◌∙◌}
use Rattle.scm_front_paint.proofs.BlankLemmas.{blank-again}
use Rattle.scm_front_paint.proofs.blanks.with_blank_row.Goals as goal

pub returns : goal.returns
returns c = c.put_blank.ensures ∙ blank-again c.args.grid c.args.width c.args.row c.requires.size c.requires.blank
