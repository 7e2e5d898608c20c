use Rattle.std.proofs.Common.{Bool, List, sym}
use Rattle.scm_types.specs.Edits.{modify}
use Rattle.scm_types.proofs.EditLemmas.{slice_set-changed, modify-past}
use Rattle.scm_front_items.specs.Runs.{overwritten}
use Rattle.scm_front_items.proofs.runs.overwrite_run.Goals as goal

pub returns-then-run-files : goal.returns-then-run-files
returns-then-run-files c =
    let run = c.args.run.now in
    slice_set-changed (λ (list : List (List Bool)). modify (overwritten run.first run.marks) list run.section) c.args.files.now run.file c.index-files-run.result _ c.if-run-files.true c.overwrite_file.ensures

pub returns-else-run-files : goal.returns-else-run-files
returns-else-run-files c =
    let run = c.args.run.now in
    sym (modify-past (λ (list : List (List Bool)). modify (overwritten run.first run.marks) list run.section) c.args.files.now run.file c.if-run-files.false)
