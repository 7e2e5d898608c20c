use Rattle.std.proofs.Common.{List, ap, ◌∙◌, subst}
use Rattle.scm_types.specs.declared.file.File.{File}
use Rattle.scm_types.specs.declared.state.RecordState.{RecordState}
use Rattle.scm_record.specs.Live.{Live}
use Rattle.scm_front.specs.Recording.{Changes}
use Rattle.scm_front.proofs.recording.history_after.Goals as goal

pub returns-in-Waiting : goal.returns-in-Waiting
returns-in-Waiting c =
    rw c.in-Waiting.is
    (subst (λ (files : List File). Changes c.args.author c.args.history c.args.before files c.changed.result)
    (c.as_slice-files.ensures ∙ ap (λ (state : RecordState). state.files) c.state.ensures ∙ ap (λ (l : Live). l.session.shown.state.files) c.live.ensures.value)
    c.changed.ensures)
