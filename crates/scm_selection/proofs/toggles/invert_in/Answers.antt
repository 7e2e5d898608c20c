use Rattle.std.proofs.Common.{not, refl, sym}
use Rattle.scm_types.specs.Marks.{line_with_mark}
use Rattle.scm_types.proofs.EditLemmas.{slice_set-changed, modify-past}
use Rattle.scm_selection.proofs.toggles.invert_in.Goals as goal

pub returns-then-line-lines : goal.returns-then-line-lines
returns-then-line-lines c = slice_set-changed (line_with_mark not) c.args.lines.now c.args.line c.index-lines-line.result _ c.if-line-lines.true refl

pub returns-else-line-lines : goal.returns-else-line-lines
returns-else-line-lines c = sym (modify-past (line_with_mark not) c.args.lines.now c.args.line c.if-line-lines.false)
