use Rattle.std.proofs.Common.{◌∙◌, Bool, ap, sym}
use Rattle.std.proofs.lemmas.Result.{IfOk-weaker}
use Rattle.scm_selection.specs.KeyLists.{all_keys}
use Rattle.scm_selection.specs.KeySet.{is_same_set, key_set}
use Rattle.scm_view.specs.ViewState.{ViewState}
use Rattle.scm_view_state.specs.LineKeys.{set_without_lines, with_lines}
use Rattle.scm_view_state.proofs.LineSetLemmas.{same-with}
use Rattle.scm_view_state.proofs.view_state.ViewState.are_all_keys_expanded.Goals as goal

pub returns-then-self-clause-ok : goal.returns-then-self-clause-ok
returns-then-self-clause-ok c =
    let v = c.self.inside in
    let fs = v.state.files in
    IfOk-weaker c.has_exactly_files.result _ _
    (λ has is.
    is
    ∙ ap (λ gs. is_same_set v.expanded (set_without_lines gs)) c.as_slice-files.ensures
    ∙ same-with fs v.expanded
    ∙ ap (λ (all : Bool). is_same_set (with_lines all fs v.expanded) (key_set (all_keys fs))) (sym c.if-self.true)
    ∙ ap (λ (s : ViewState). is_same_set s.expanded (key_set (all_keys s.state.files))) c.self.view_is)
    c.has_exactly_files.ensures.ok
