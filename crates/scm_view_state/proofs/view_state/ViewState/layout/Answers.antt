use Rattle.scm_view_state.proofs.LineSetLemmas.{layout-with}
use Rattle.scm_view_state.proofs.view_state.ViewState.layout.Goals as goal

pub returns : goal.returns
returns c =
    let v = c.self.inside in
    rw (← c.self.view_is, layout-with v.state.files v.expanded v.has_all_lines v.state) c.new.ensures
