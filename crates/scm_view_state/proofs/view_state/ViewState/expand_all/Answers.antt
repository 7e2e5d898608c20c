use Rattle.std.proofs.Common.{◌≡◌, ◌∙◌, ◌++◌, List, ap, sym}
use Rattle.scm_types.specs.declared.keys.SelectionKey.{SelectionKey}
use Rattle.scm_selection.specs.KeyLists.{all_keys}
use Rattle.scm_selection.specs.KeySet.{key_set}
use Rattle.scm_view.specs.ViewState.{ViewState}
use Rattle.scm_view_state.specs.LineKeys.{line_set, set_without_lines}
use Rattle.scm_view_state.proofs.LineSetLemmas.{set-behind}
use Rattle.scm_view_state.proofs.view_state.ViewState.expand_all.Goals as goal

pub returns-clause-ok : goal.returns-clause-ok
returns-clause-ok c =
    let v = c.self.inside in
    let fs = v.state.files in
    let made : List SelectionKey → ViewState =
    λ ks. record { state = v.state; selection = v.selection; expanded = ks; view_mode = v.view_mode; open_menu = v.open_menu; quit_dialog = v.quit_dialog; is_help_open = v.is_help_open } in
    let all : c.in_ok-others.others ++ line_set fs ≡ key_set (all_keys fs) =
    ap (λ (ks : List SelectionKey). ks ++ line_set fs) (c.in_ok-others.ensures.ok ∙ ap set_without_lines c.as_slice.ensures) ∙ sym (set-behind (all_keys fs)) in
    ap made all ∙ ap (λ (s : ViewState). record s { expanded = key_set (all_keys s.state.files) }) c.self.view_is
