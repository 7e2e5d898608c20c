use Rattle.std.proofs.Common.{◌≡◌, []}
use Rattle.scm_record.specs.LiveCalls.{still}
use Rattle.scm_record.specs.declared.live.Turn.TheVariants.{Editing}
use Rattle.scm_callers.proofs.PathLemmas.{path-of-answer}
use Rattle.scm_callers.proofs.live.without_editor.Goals as goal

pub returns-in-Editing : goal.returns-in-Editing
returns-in-Editing c =
    let same : c.args.turn ≡ Editing c.in-Editing.editing = cc in
    record { path = path-of-answer c.keep.result c.args.turn c.in-Editing.editing _ same c.keep.ensures.ok }

pub returns-in_default : goal.returns-in_default
returns-in_default c = record { path = ([], still) }
