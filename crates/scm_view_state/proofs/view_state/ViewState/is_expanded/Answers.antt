use Rattle.std.proofs.Common.{◌∙◌, ◌&&◌, ◌||◌, Bool, ap, ap₂, sym}
use Rattle.scm_selection.specs.KeySet.{has_key}
use Rattle.scm_view.specs.ViewState.{ViewState}
use Rattle.scm_view_state.specs.LineKeys.{line_set}
use Rattle.scm_view_state.proofs.LineSetLemmas.{has-any}
use Rattle.scm_view_state.proofs.view_state.ViewState.is_expanded.Goals as goal

pub returns : goal.returns
returns c =
    let v = c.self.inside in
    let key = c.args.key in
    ap₂ (λ (kept line : Bool). kept || (v.has_all_lines && line)) c.contains-is_kept.ensures (c.is_line_of-is_line.ensures ∙ ap (λ fs. has_key (line_set fs) key) c.as_slice.ensures)
    ∙ sym (has-any v.state.files v.expanded v.has_all_lines key)
    ∙ ap (λ (s : ViewState). has_key s.expanded key) c.self.view_is
