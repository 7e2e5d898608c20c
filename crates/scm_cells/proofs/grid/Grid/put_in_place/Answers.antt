use Rattle.std.proofs.Common.{◌∙◌, sym}
use Rattle.scm_cells.proofs.FrameTextLemmas.{text_width-frame}
use Rattle.scm_cells.proofs.PrintableLemmas.{text_width-printable}
use Rattle.scm_cells.proofs.grid.Grid.put_in_place.Goals as goal

pub returns-then-is_printable-clause-columns : goal.returns-then-is_printable-clause-columns
returns-then-is_printable-clause-columns c = sym (text_width-printable c.args.text.now (sym c.is_printable.ensures ∙ c.if-is_printable.true))

pub returns-clause-columns : goal.returns-clause-columns
returns-clause-columns c = sym (text_width-frame c.args.text.now _ (sym c.in_ok-width.ensures))
