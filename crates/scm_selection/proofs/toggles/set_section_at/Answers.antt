use Rattle.std.proofs.Common.{sym}
use Rattle.scm_types.specs.Marks.{section_with_marks}
use Rattle.scm_types.proofs.EditLemmas.{slice_set-changed, modify-past}
use Rattle.scm_selection.proofs.toggles.set_section_at.Goals as goal

pub returns-then-index-sections : goal.returns-then-index-sections
returns-then-index-sections c =
    slice_set-changed (section_with_marks (λ _. c.args.checked)) c.args.sections.now c.args.index c.index-sections-index.result _ c.if-index-sections.true c.set_checked.ensures

pub returns-else-index-sections : goal.returns-else-index-sections
returns-else-index-sections c = sym (modify-past (section_with_marks (λ _. c.args.checked)) c.args.sections.now c.args.index c.if-index-sections.false)
