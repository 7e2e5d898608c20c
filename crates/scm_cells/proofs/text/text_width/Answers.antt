use Rattle.std.proofs.Common.{arith, ◌∙◌, sym}
use Rattle.scm_cells.proofs.BoundLemmas.{text_width-utf8}
use Rattle.scm_cells.proofs.FrameTextLemmas.{text_width-frame}
use Rattle.scm_cells.proofs.PrintableLemmas.{text_width-printable}
use Rattle.scm_cells.proofs.WrittenLemmas.{columns_of-pieces}
use Rattle.scm_cells.proofs.text.text_width.Goals as goal

pub columns_left-requires : goal.columns_left-requires
columns_left-requires c = omega (arith, columns_of-pieces _ _ c.graphemes.ensures.left, text_width-utf8 _ c.utf8.text)

pub returns-clause-value : goal.returns-clause-value
returns-clause-value c = c.columns_left.ensures ∙ columns_of-pieces _ _ c.graphemes.ensures.left

pub returns-clause-bound : goal.returns-clause-bound
returns-clause-bound c = omega (arith, c.columns_left.ensures, columns_of-pieces _ _ c.graphemes.ensures.left, text_width-utf8 _ c.utf8.text)

pub returns-then-is_printable-clause-value : goal.returns-then-is_printable-clause-value
returns-then-is_printable-clause-value c = sym (text_width-printable c.args.text.now (sym c.is_printable.ensures ∙ c.if-is_printable.true))

pub returns-in-Some-clause-value : goal.returns-in-Some-clause-value
returns-in-Some-clause-value c = sym (text_width-frame c.args.text.now _ (sym c.in-Some.ensures))

pub returns-in-Some-clause-bound : goal.returns-in-Some-clause-bound
returns-in-Some-clause-bound c = omega (arith, text_width-frame c.args.text.now _ (sym c.in-Some.ensures), text_width-utf8 _ c.utf8.text)
