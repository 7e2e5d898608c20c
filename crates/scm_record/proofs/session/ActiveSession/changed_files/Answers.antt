use Rattle.std.proofs.Common.{◌∙◌, ap}
use Rattle.std.specs.Prelude.{count_by}
use Rattle.scm_layout.specs.declared.state_layout.Layout.{Layout}
use Rattle.scm_selection.specs.Counts.{is_changed}
use Rattle.scm_record.specs.Session.{Session}
use Rattle.scm_record.proofs.session.ActiveSession.changed_files.Goals as goal

pub returns : goal.returns
returns c =
    ap (λ (l : Layout). l.counts.changed_files) c.self.invariant.layout
    ∙ ap (λ (s : Session). count_by is_changed s.shown.state.files) c.self.view_is
