use Rattle.std.proofs.Common.{◌≡◌, Bool, List, get_or, subst, sym}
use Rattle.scm_types.proofs.EditLemmas.{slice_set-changed, modify-past}
use Rattle.scm_front_items.specs.Runs.{overwritten}
use Rattle.scm_front_items.proofs.runs.overwrite_section.Goals as goal

pub returns-then-run-sections : goal.returns-then-run-sections
returns-then-run-sections c =
    let run = c.args.run.now in
    let written = subst (λ (marks : List Bool). c.overwrite.new.old ≡ overwritten run.first marks (get_or c.args.sections.now run.section c.index-sections-run.result)) c.as_slice.ensures c.overwrite.ensures in
    slice_set-changed (overwritten run.first run.marks) c.args.sections.now run.section c.index-sections-run.result _ c.if-run-sections.true written

pub returns-else-run-sections : goal.returns-else-run-sections
returns-else-run-sections c =
    let run = c.args.run.now in
    sym (modify-past (overwritten run.first run.marks) c.args.sections.now run.section c.if-run-sections.false)
