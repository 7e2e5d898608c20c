use Rattle.scm_view_state.proofs.LineSetLemmas.{visible-with}
use Rattle.scm_record.proofs.session.ActiveSession.key_to_advance_to.Goals as goal

pub returns : goal.returns
returns c =
    let v = c.self-inside.inside.0.0 in
    rw (← c.self.view_is, ← c.self-inside.view_is, visible-with v.state.files v.expanded v.has_all_lines v.state.files, ← c.as_slice-files.ensures) c.next_of_kind.ensures
