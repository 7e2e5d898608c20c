use Rattle.std.proofs.Common.{◌∙◌, sym, ap}
use Rattle.scm_selection.specs.KeyLists.{all_keys}
use Rattle.scm_selection.specs.KeySet.{key_set}
use Rattle.scm_view.specs.ViewState.{ViewState}
use Rattle.scm_view_state.proofs.LineSetLemmas.{all-unfolded, layout-with}
use Rattle.scm_view_state.proofs.view_state.ViewState.refold_all.Goals as goal

pub refold_all-requires-clause-all : goal.refold_all-requires-clause-all
refold_all-requires-clause-all c =
    let v = c.self.inside in
    all-unfolded v.state.files v.expanded v.has_all_lines
    (ap (λ (s : ViewState). s.expanded) c.self.view_is ∙ c.requires.all ∙ ap (λ (s : ViewState). key_set (all_keys s.state.files)) (sym c.self.view_is))

pub returns : goal.returns
returns c =
    let v = c.self.inside in
    rw (← c.self.view_is, layout-with v.state.files v.expanded v.has_all_lines v.state) c.refold_all.ensures
