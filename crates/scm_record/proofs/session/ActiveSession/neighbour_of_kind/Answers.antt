use Rattle.scm_view_state.proofs.LineSetLemmas.{visible-with}
use Rattle.scm_record.proofs.session.ActiveSession.neighbour_of_kind.Goals as goal

pub returns-in-Up : goal.returns-in-Up
returns-in-Up c =
    let v = c.self-inside.inside.0.0 in
    rw (c.in-Up.is, ← c.self.view_is, ← c.self-inside.view_is, visible-with v.state.files v.expanded v.has_all_lines v.state.files, ← c.as_slice-files.ensures, ← c.first_key-otherwise.ensures) c.previous_of_kind.ensures

pub returns-in-Down : goal.returns-in-Down
returns-in-Down c =
    let v = c.self-inside.inside.0.0 in
    rw (c.in-Down.is, ← c.self.view_is, ← c.self-inside.view_is, visible-with v.state.files v.expanded v.has_all_lines v.state.files, ← c.as_slice-files.ensures, ← c.first_key-otherwise.ensures) c.next_of_kind.ensures
