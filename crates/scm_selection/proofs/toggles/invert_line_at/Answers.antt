use Rattle.std.proofs.Common.{sym}
use Rattle.scm_selection.specs.Toggle.{with_line_inverted}
use Rattle.scm_types.proofs.EditLemmas.{slice_set-changed, modify-past}
use Rattle.scm_selection.proofs.toggles.invert_line_at.Goals as goal

pub returns-then-section-sections : goal.returns-then-section-sections
returns-then-section-sections c =
    slice_set-changed (with_line_inverted c.args.line) c.args.sections.now c.args.section c.index-sections-section.result _ c.if-section-sections.true c.invert_line.ensures

pub returns-else-section-sections : goal.returns-else-section-sections
returns-else-section-sections c = sym (modify-past (with_line_inverted c.args.line) c.args.sections.now c.args.section c.if-section-sections.false)
